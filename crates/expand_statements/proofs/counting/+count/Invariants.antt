use Rattle.std.proofs.Common.{◌≡◌, ◌+◌, map, drop}
use Rattle.expand_rules.specs.Lists.{item_count, total}
use Rattle.expand_statements.specs.Standing.{standing_in}
use Rattle.expand_statements.proofs.counting.+count.Given as goal

abbrev pub invariant-room_after_further-loop-item : goal.invariant-room_after_further-loop-item
invariant-room_after_further-loop-item l = (l.chain ≡ l.fn.chain)
    × (l.fn.room + total (map (λ i. item_count i (standing_in l.fn.chain)) (drop l.item-index l.item-items)) ≡
    l.left + total (map (λ i. item_count i (standing_in l.fn.chain)) l.item-items))
