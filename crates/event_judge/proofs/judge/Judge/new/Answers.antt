use Rattle.std.proofs.Common.{refl}
use Rattle.event_judge.specs.Told.{nothing_told}
use Rattle.event_judge.proofs.PlanLaws.{begins}
use Rattle.event_judge.proofs.judge.Judge.new.Goals as goal

pub plan_on-requires : goal.plan_on-requires
plan_on-requires c = record {
  core = c.requires.document;
  told = nothing_told;
  rests = begins c.args.doc.now _ refl refl c.new-2.ensures (c.new.ensures.left c.args.doc.now) c.new.ensures.records
      c.most_levels.ensures refl;
}

pub returns-clause-stands : goal.returns-clause-stands
returns-clause-stands c =
    c.in_ok-plan_on.ensures.stands nothing_told
    (begins c.args.doc.now _ refl refl c.new-2.ensures (c.new.ensures.left c.args.doc.now) c.new.ensures.records
    c.most_levels.ensures refl)
