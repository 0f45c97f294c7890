use Rattle.std.proofs.Common.{nat_eq, List, sym}
use Rattle.case_tables.specs.declared.code_table.Code.{Code}
use Rattle.core_terms.specs.declared.documents.Arg.{Arg}
use Rattle.fair_rounds.specs.declared.records.Record.{Record}
use Rattle.safety_rules.specs.from_rules_table.Table.{Site, needs, instance_of}
use Rattle.safety_rules.specs.from_rules_table.Walk.{is_kind}
use Rattle.safety_rules.specs.Answers.{site_of, IsPremiseAt}
use Rattle.safety_rules.proofs.InstanceLaws.{record_stands}
use Rattle.rules_steps.proofs.GoodLaws.{premise_is}
use Rattle.rules_steps.proofs.ReferredLaws.{instance_row_is}
use Rattle.rules_steps.proofs.UsingLaws.{found_entry}
use Rattle.rules_steps.proofs.references.referred.Goals as goal

pub instance_for-requires-clause-found : goal.instance_for-requires-clause-found
instance_for-requires-clause-found c =
    (found_entry c.args.pl.now.slots.now c.args.book.now c.args.r.now.program c.args.r.now.step c.in-Some.record.now
    c.requires.book (sym c.in-Some.ensures)).parts

pub returns-in-Some-clause-premise : goal.returns-in-Some-clause-premise
returns-in-Some-clause-premise c =
    let site : Site = site_of c.args.pl.now in
    let b : Record = c.in-Some.record.now in
    let args : List Arg = c.as_slice.result.now in
    record_stands (IsPremiseAt c.args.pl.now) c.instance_for.result
    (needs (nat_eq b.program site.program.name) Code.OtherProgram
    (needs (is_kind c.args.serves b.kind) Code.WrongKind (instance_of site site.params b args)))
    (λ a e. premise_is c.args.pl.now (is_kind c.args.serves) a
    (instance_row_is site site.params (nat_eq b.program site.program.name) (is_kind c.args.serves) b a args
    (found_entry c.args.pl.now.slots.now c.args.book.now c.args.r.now.program c.args.r.now.step b
    c.requires.book (sym c.in-Some.ensures)) c.requires.place.params e)) c.instance_for.ensures
