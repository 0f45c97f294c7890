use Rattle.std.proofs.Common.{◌≡◌, ◌+◌, ◌-◌, ◌≤◌, ◌+ℤ◌, pos, max}
use Rattle.std.specs.Int.RustNames.{unsigned_abs}
use Rattle.core_terms.specs.Folding.{number_of}
use Rattle.core_terms.specs.Weights.{plain_weights}
use Rattle.expand_rules.specs.Forming.{chain}
use Rattle.expand_expressions.proofs.arrays.chain.Given as goal

abbrev pub invariant-loop-k : goal.invariant-loop-k
invariant-loop-k l =
    (l.term ≡ chain l.index.term (l.ends.lo +ℤ pos (l.count - l.k)) (l.first + (l.count - l.k)) l.k)
    × (l.number ≡ number_of l.term)
    × ((plain_weights l.term).own ≤ 1)
    × ((plain_weights l.term).most ≤ max (l.index.measure.own + max (unsigned_abs l.ends.lo) (unsigned_abs l.ends.hi))
    (max l.index.measure.most 1))
