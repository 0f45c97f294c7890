use Rattle.std.proofs.Common.{◌≡◌, drop, Ok}
use Rattle.certificate_rules.specs.Sums.{sum_pairs}
use Rattle.certificate_rules.proofs.sums.add_pairs.Given as goal

abbrev pub invariant-loop-pair : goal.invariant-loop-pair
invariant-loop-pair l =
    sum_pairs l.facts (Ok l.sum) (drop l.pair-index l.pairs) ≡ sum_pairs l.facts (Ok l.fn.sum) l.pairs
