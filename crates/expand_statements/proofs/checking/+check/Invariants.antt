use Rattle.std.proofs.Common.{◌≡◌, [], drop, map}
use Rattle.expand_rules.specs.Lists.{first_fault, item_fault}
use Rattle.expand_statements.specs.Standing.{standing_in}
use Rattle.expand_statements.specs.Visiting.{scope_among}
use Rattle.expand_statements.proofs.checking.+check.Given as goal

abbrev pub invariant-check_further-loop-item : goal.invariant-check_further-loop-item
invariant-check_further-loop-item l = (l.chain ≡ l.fn.chain)
    × (first_fault (map (λ i. item_fault (scope_among l.known []) i (standing_in l.fn.chain))
    (drop l.item-index l.item-items)) ≡
    first_fault (map (λ i. item_fault (scope_among l.known []) i (standing_in l.fn.chain)) l.item-items))
