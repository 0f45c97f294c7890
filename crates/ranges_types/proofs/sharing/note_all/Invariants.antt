use Rattle.std.proofs.Common.{◌≡◌, ℕ, nat_eq, take}
use Rattle.std.specs.List.{list_any}
use Rattle.ranges_types.proofs.sharing.note_all.Given as goal

abbrev pub invariant-loop-item : goal.invariant-loop-item
invariant-loop-item l = (q : ℕ) →
    list_any (nat_eq q) l.items.keys ≡ list_any (nat_eq q) (take l.item-index l.list)
