use Rattle.std.proofs.Common.{◌≡◌, ◌++◌, drop}
use Rattle.obligations.specs.LinearForms.{sparse}
use Rattle.obligations.proofs.linear.sparse_factors.Given as goal

abbrev pub invariant-loop-place : goal.invariant-loop-place
invariant-loop-place l = l.factors ++ sparse l.place (drop l.place l.zs) ≡ sparse 0 l.zs
