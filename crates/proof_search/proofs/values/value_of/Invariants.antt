use Rattle.std.proofs.Common.{◌≡◌, ◌+◌, drop}
use Rattle.obligations.specs.LinearForms.{place_of}
use Rattle.proof_search.proofs.values.value_of.Given as goal

abbrev pub invariant-loop-place : goal.invariant-loop-place
invariant-loop-place l =
    place_of l.vs l.param l.number ≡ l.place + place_of (drop l.place l.vs) l.param l.number
