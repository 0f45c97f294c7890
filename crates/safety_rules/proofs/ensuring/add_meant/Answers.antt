use Rattle.std.proofs.Common.{sym, subst, ◌∙◌}
use Rattle.rules_table.specs.Table.{Site, instances_of}
use Rattle.safety_rules.specs.Answers.{site_of}
use Rattle.safety_rules.specs.Usable.{NamesExist}
use Rattle.safety_rules.proofs.NameLaws.{meant_exists}
use Rattle.safety_rules.proofs.ensuring.add_meant.Goals as goal

pub add_goal-requires-clause-names : goal.add_goal-requires-clause-names
add_goal-requires-clause-names c =
    let site : Site = site_of c.args.pl.now in
    subst (λ f. NamesExist site.slots site.params f) (sym (c.in_ok-owned_form.ensures ∙ c.in_ok-form.ensures))
    (meant_exists site.slots site.params c.args.h.now.args (instances_of site c.args.h.now)
    c.requires.helper.args.names)
