use Rattle.std.proofs.Common.{◌≡◌, ℕ, None, length, take}
use Rattle.linear_prover.specs.Tables.{bound_in, AreBounds}
use Rattle.linear_prover.proofs.bounds.bounds_from.Given as goal

abbrev pub invariant-variables : goal.invariant-variables
invariant-variables l = record { long : length l.table ≡ l.counter; none : (v : ℕ) → bound_in l.table v ≡ None }

abbrev pub invariant-loop-place : goal.invariant-loop-place
invariant-loop-place l = AreBounds l.count l.side (take l.place l.facts) l.table
