use Rattle.std.proofs.Common.{◌≡◌, ◌++◌, take, filter, not}
use Rattle.core_terms.specs.Unions.{gives}
use Rattle.core_terms.proofs.merging.joined_start.Given as goal

abbrev pub invariant-loop-entry : goal.invariant-loop-entry
invariant-loop-entry l = l.start ≡ take l.entry-index l.first

abbrev pub invariant-more : goal.invariant-more
invariant-more l = l.start ≡ l.first ++ filter (λ e. not (gives l.first e.0)) (take l.entry-index l.second)
