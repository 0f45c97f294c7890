use Rattle.std.proofs.Common.{◌≡◌, ◌∷◌, ◌++◌, ◌-◌, ◌+ℤ◌, pos, drop, map}
use Rattle.std.specs.List.{flat_map}
use Rattle.meaning_executions.specs.Counting.{count_up}
use Rattle.expand_statements.specs.Building.{fit_item, fit_items, made_at, site_numbers}
use Rattle.expand_statements.proofs.building.+build.Given as goal

abbrev pub invariant-push_numbers-loop-i : goal.invariant-push_numbers-loop-i
invariant-push_numbers-loop-i l =
    l.list ++ map (made_at l.site)
    (flat_map (λ z. fit_items l.of ((l.name.text, z) ∷ site_numbers l.site))
    (count_up (l.taken.first +ℤ pos l.i) (l.taken.count - l.i))) ≡
    l.fn.list ++ map (made_at l.site)
    (flat_map (λ z. fit_items l.of ((l.name.text, z) ∷ site_numbers l.site))
    (count_up l.taken.first l.taken.count))

abbrev pub invariant-push_further-loop-item : goal.invariant-push_further-loop-item
invariant-push_further-loop-item l =
    l.list ++ map (made_at l.site)
    (flat_map (λ i. fit_item i (site_numbers l.site)) (drop l.item-index l.item-items)) ≡
    l.fn.list ++ map (made_at l.site)
    (flat_map (λ i. fit_item i (site_numbers l.site)) l.item-items)
