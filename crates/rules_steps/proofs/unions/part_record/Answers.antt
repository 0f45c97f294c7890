use Rattle.std.proofs.Common.{ℕ, nat_eq, List, sym}
use Rattle.case_tables.specs.declared.code_table.Code.{Code}
use Rattle.core_terms.specs.declared.documents.Arg.{Arg}
use Rattle.fair_rounds.specs.declared.records.Record.{Record}
use Rattle.safety_rules.specs.from_rules_table.Table.{Site, needs, instance_of}
use Rattle.safety_rules.specs.Answers.{site_of, IsPremiseAt}
use Rattle.safety_rules.proofs.InstanceLaws.{record_stands}
use Rattle.rules_steps.specs.Rows.{serves_claim}
use Rattle.rules_steps.proofs.GoodLaws.{premise_is}
use Rattle.rules_steps.proofs.ReferredLaws.{instance_row_is}
use Rattle.rules_steps.proofs.UsingLaws.{found_entry}
use Rattle.rules_steps.proofs.unions.part_record.Goals as goal

pub part_instance-requires-clause-found : goal.part_instance-requires-clause-found
part_instance-requires-clause-found c =
    (found_entry c.args.pl.now.slots.now c.args.book.now c.args.r.now.program c.args.r.now.step
    c.in-Some.record.now c.requires.book (sym c.in-Some.ensures)).parts

pub returns-in-Some-part-clause-premise : goal.returns-in-Some-part-clause-premise
returns-in-Some-part-clause-premise c =
    let site : Site = site_of c.args.pl.now in
    let b : Record = c.in-Some.record.now in
    let args : List Arg = c.as_slice.result.now in
    let part : ℕ = c.in-Some-part.part in
    record_stands (IsPremiseAt c.args.pl.now) c.part_instance.result
    (needs (nat_eq b.program part) Code.OtherProgram
    (needs (serves_claim c.args.claimed c.args.first b.kind) Code.WrongKind (instance_of site site.params b args)))
    (λ a e. premise_is c.args.pl.now (serves_claim c.args.claimed c.args.first) a
    (instance_row_is site site.params (nat_eq b.program part) (serves_claim c.args.claimed c.args.first) b a args
    (found_entry c.args.pl.now.slots.now c.args.book.now c.args.r.now.program c.args.r.now.step b
    c.requires.book (sym c.in-Some.ensures)) c.requires.place.params e)) c.part_instance.ensures
