use Rattle.std.proofs.Common.{List, ap, ◌∙◌}
use Rattle.obligations.specs.declared.branches.Variable.{Variable}
use Rattle.obligations.specs.Scopes.{scope}
use Rattle.obligations.proofs.NumberLaws.{obligation-load}
use Rattle.event_checker.proofs.CheckerLaws.{new-stands}
use Rattle.event_checker.proofs.ends.open_reading.Goals as goal

pub open_branch-requires-clause-load : goal.open_branch-requires-clause-load
open_branch-requires-clause-load c = obligation-load c.args.o.now c.requires.obligation

pub returns-clause-stands : goal.returns-clause-stands
returns-clause-stands c =
    new-stands c.args.levels c.args.o.now c.in_ok-branch.branch c.in_ok-variables.variables c.in_ok-frames.frames
    c.in_ok-sum.sum c.requires.obligation c.requires.levels c.in_ok-branch.ensures.branch
    c.in_ok-branch.ensures.added
    (c.in_ok-variables.ensures.scope ∙ ap (λ (vs : List Variable). scope vs 0) c.as_slice.ensures)
    c.in_ok-frames.ensures
