use Rattle.rules_steps.specs.Using.{BookFits}
use Rattle.step_plans.specs.Planning.{left_by, records_of}
use Rattle.step_plans.specs.Stepping.{steps_in}
use Rattle.step_plans.proofs.BookLaws.{Reached}
use Rattle.step_plans.proofs.books.book_of.Given as goal

abbrev pub invariant-steps : goal.invariant-steps
invariant-steps l = record {
  book : BookFits l.doc.slots (records_of l.planner);
  reached : Reached l.doc l.planner;
}

abbrev pub decreases-steps : goal.decreases-steps
decreases-steps l = steps_in (left_by l.doc l.planner)
