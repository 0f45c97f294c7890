use Rattle.std.proofs.Common.{List, Option, Ok, subst, sym}
use Rattle.fair_rounds.specs.declared.records.Record.{Record}
use Rattle.safety_rules.specs.from_rules_table.Walk.{walk_of}
use Rattle.rules_steps.specs.Starts.{document_seen, starts_in}
use Rattle.rules_steps.specs.Using.{BookFits}
use Rattle.step_plans.specs.declared.planning.PlannedStep.{PlannedStep}
use Rattle.step_plans.specs.Books.{Books}
use Rattle.step_plans.specs.Planning.{PlansNext, left_by, records_of}
use Rattle.step_plans.proofs.BookLaws.{reached-first, reached-last, reached-more, reached-stop}
use Rattle.step_plans.proofs.StepLaws.{next-is-fewer}
use Rattle.step_plans.proofs.books.book_of.Goals as goal

pub steps-init : goal.steps-init
steps-init c = record {
  book = subst (BookFits c.args.doc.now.slots) (sym c.new-planner.ensures.records) tt;
  reached = reached-first c.args.doc.now c.new-planner.result (c.new-planner.ensures.left c.args.doc.now)
      c.new-planner.ensures.records;
}

pub returns-in-Ok-None : goal.returns-in-Ok-None
returns-in-Ok-None c =
    let d = c.args.doc.now in
    let p = c.steps.planner in
    let q = c.next.new.self in
    let e = subst (λ (o : Option PlannedStep). PlansNext d p q (Ok o)) c.in-Ok-None.field-0-is
    c.in-Ok-None.ensures.planned in
    subst (λ (rs : List Record). Books (Ok rs) (walk_of d (starts_in d.slots))) (sym c.into_records.ensures)
    (reached-last d p c.steps.invariant.reached q e.0 e.2)

pub returns-in-Err : goal.returns-in-Err
returns-in-Err c =
    reached-stop c.args.doc.now c.steps.planner c.steps.invariant.reached c.next.new.self c.in-Err.error
    c.in-Err.ensures.planned

pub steps-smaller-in-Ok-Some : goal.steps-smaller-in-Ok-Some
steps-smaller-in-Ok-Some c =
    let d = c.args.doc.now in
    let p = c.steps.planner in
    let e = subst (λ (o : Option PlannedStep). PlansNext d p c.next.new.self (Ok o)) c.in-Ok-Some.field-0-is
    c.in-Ok-Some.ensures.planned in
    next-is-fewer (document_seen d) (left_by d p) (records_of p) _ e.next_is

pub steps-preserved-in-Ok-Some : goal.steps-preserved-in-Ok-Some
steps-preserved-in-Ok-Some c =
    let d = c.args.doc.now in
    let p = c.steps.planner in
    let q = c.next.new.self in
    let e = subst (λ (o : Option PlannedStep). PlansNext d p q (Ok o)) c.in-Ok-Some.field-0-is
    c.in-Ok-Some.ensures.planned in record {
      book = c.in-Ok-Some.ensures.book;
      reached = reached-more d p c.steps.invariant.reached q _ e;
    }
