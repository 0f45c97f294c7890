use Rattle.std.proofs.Common.{◌≡◌, ℕ, List, Option, Result, Ok, Err, sym, ap, ◌∙◌, subst}
use Rattle.case_tables.specs.declared.kind_table.Kind.{Kind}
use Rattle.case_tables.specs.declared.code_table.Code.{Code}
use Rattle.core_terms.specs.declared.programs.CSlot.{CSlot}
use Rattle.core_terms.specs.declared.documents.Ref.{Ref}
use Rattle.fair_rounds.specs.declared.records.Record.{Record}
use Rattle.safety_rules.specs.from_rules_table.Conclusion.{Conclusion}
use Rattle.safety_rules.specs.from_rules_table.Table.{Site, go_on}
use Rattle.safety_rules.specs.from_rules_table.Walk.{first_part, second_part, serves_union, serves_after, part_record}
use Rattle.safety_rules.specs.from_rules_table.Walk.{united}
use Rattle.safety_rules.specs.declared.places.RuleError.{RuleError}
use Rattle.safety_rules.specs.Answers.{site_of, RuleAnswers}
use Rattle.safety_rules.specs.Instances.{AnswersRecord}
use Rattle.rules_steps.specs.Starts.{starts_in}
use Rattle.rules_steps.proofs.unions.by_union.Goals as goal

given_record : (a : Record) (row : Result Record Code) → AnswersRecord (Ok a) row → row ≡ Ok a
given_record a (Ok x) h = ap (λ (r : Record). Ok r) (sym h)
given_record a (Err code) h = absurd h

refused_record : (slots : List CSlot) (e : RuleError) (row : Result Record Code) (f : Record → Result Conclusion Code) →
    AnswersRecord (Err e) row → RuleAnswers (Err e) slots (go_on row f)
refused_record slots (RuleError.Fault code) (Ok x) f h = absurd h
refused_record slots (RuleError.Fault code) (Err first) f h = h
refused_record slots RuleError.Memory row f h = tt

pub returns-in-Ok : goal.returns-in-Ok
returns-in-Ok c =
    let slots : List CSlot = c.args.pl.now.slots.now in
    let site : Site = site_of c.args.pl.now in
    let kind : Kind = c.args.kind in
    let book : List Record = c.args.book.now in
    let s : Ref = c.args.s.now in
    let first : Record = c.in-Ok.first in
    let one : part_record site book (first_part site.program.parts) (serves_union kind) c.args.r.now ≡ Ok first =
    ap (λ (o : Option ℕ). part_record site book o (serves_union kind) c.args.r.now) (sym c.first_part-part.ensures)
    ∙ given_record first (part_record site book c.first_part-part.result (serves_union kind) c.args.r.now)
    c.in-Ok.ensures.answer in
    let two : AnswersRecord c.part_record-second.result
    (part_record site book (second_part site.program.parts) (serves_after kind first.kind) s) =
    subst (λ (o : Option ℕ). AnswersRecord c.part_record-second.result
    (part_record site book o (serves_after kind first.kind) s)) c.second_part-other.ensures
    (subst (λ (a : Record). AnswersRecord c.part_record-second.result
    (part_record site book c.second_part-other.result (serves_after kind a.kind) s)) c.get.ensures
    c.part_record-second.ensures.answer) in
    subst (λ (q : Result Record Code). RuleAnswers c.with_other.result slots
    (go_on q (λ a. go_on (part_record site book (second_part site.program.parts) (serves_after kind a.kind) s)
    (λ b. united (starts_in slots) site kind a b)))) (sym one)
    (c.with_other.ensures
    (part_record site book (second_part site.program.parts) (serves_after kind first.kind) s) two)

pub returns-in-Err : goal.returns-in-Err
returns-in-Err c =
    let slots : List CSlot = c.args.pl.now.slots.now in
    let site : Site = site_of c.args.pl.now in
    let kind : Kind = c.args.kind in
    let book : List Record = c.args.book.now in
    refused_record slots c.in-Err.error
    (part_record site book (first_part site.program.parts) (serves_union kind) c.args.r.now)
    (λ (a : Record). go_on
    (part_record site book (second_part site.program.parts) (serves_after kind a.kind) c.args.s.now)
    (λ b. united (starts_in slots) site kind a b))
    (subst (λ (o : Option ℕ). AnswersRecord (Err c.in-Err.error)
    (part_record site book o (serves_union kind) c.args.r.now)) c.first_part-part.ensures c.in-Err.ensures.answer)
