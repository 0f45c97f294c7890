use Rattle.std.proofs.Common.{drop}
use Rattle.expand_steps.specs.Steps.{outer_scope}
use Rattle.expand_steps.proofs.StepLaws.{StepsAhead}
use Rattle.expand_steps.proofs.steps.add_steps.Given as goal

abbrev pub invariant-loop-s : goal.invariant-loop-s
invariant-loop-s l = StepsAhead l.words l.owner.text (outer_scope l.known) l.steps (drop l.s-index l.list)
    l.initial.steps l.list
