use Rattle.std.proofs.Common.{List, subst, sym}
use Rattle.std.specs.Prelude.{All}
use Rattle.trace_watch.specs.declared.step.Step.{Step}
use Rattle.trace_watch.specs.Stepping.{StepFits}
use Rattle.trace_watch.proofs.LookLaws.{pushed_all}
use Rattle.trace_watch.proofs.making.add_step.Goals as goal

pub returns-clause-fits : goal.returns-clause-fits
returns-clause-fits c = λ all.
    subst (λ (ss : List Step). All (StepFits c.args.slots.now) ss) (sym c.in_ok-push.ensures.items)
    (pushed_all (StepFits c.args.slots.now) c.args.steps.now.items c.in_ok-step.step all c.in_ok-step.ensures.fits)
