use Rattle.std.proofs.Common.{◌≡◌, List, Ok, IsTrue, ap, sym, subst}
use Rattle.core_terms.specs.declared.documents.Arg.{Arg}
use Rattle.core_terms.specs.declared.trees.Range.{Range}
use Rattle.fair_rounds.specs.Records.{are_in_ranges}
use Rattle.fair_rounds.specs.declared.records.Record.{Record}
use Rattle.rules_table.specs.Table.{Site, instance_of}
use Rattle.rules_table.proofs.CalcSound.{instance_is, instance_sound}
use Rattle.safety_rules.specs.Answers.{site_of}
use Rattle.safety_rules.specs.Sound.{StandsAt}
use Rattle.safety_rules.proofs.InstanceLaws.{record_stands}
use Rattle.safety_rules.proofs.instancing.instance.Goals as goal

-- an instance has the parameters of the site
params_are : (site : Site) (a : Record) (args : List Arg) (r : Record) →
    instance_of site site.params a args ≡ Ok r → site.params ≡ r.params
params_are site a args r e = ap (λ (x : Record). x.params) (instance_is site site.params a args r e).1

pub returns-clause-sound : goal.returns-clause-sound
returns-clause-sound c stands =
    let site : Site = site_of c.args.pl.now in
    let a : Record = c.args.a.now in
    let args : List Arg = c.args.args.now in
    record_stands (StandsAt c.args.pl.now) c.instance_in.result (instance_of site site.params a args)
    (λ r e n inside. instance_sound site site.params a args r stands e n
    (subst (λ (rs : List Range). IsTrue (are_in_ranges rs n)) (sym (params_are site a args r e)) inside))
    c.instance_in.ensures.answer
