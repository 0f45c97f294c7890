-- Where a place is among terms whose places rise.
use Rattle.std.specs.Prelude.{◌≡◌, ℕ, ◌<◌, ℤ, true, Some, List, length, take, slice_get}
use Rattle.std.specs.List.{list_all}
use Rattle.certificate_machine.specs.declared.few.Spot.{Spot}
use Rattle.certificate_machine.specs.Terms.{lies_below}

abbrev pub IsSpot : List (ℕ × ℤ) → ℕ → Spot → Type 0
IsSpot ts p (Spot.There at number) =
    (list_all (lies_below p) (take at ts) ≡ true) × (slice_get ts at ≡ Some (p, number))
IsSpot ts p (Spot.Before at) =
    (list_all (lies_below p) (take at ts) ≡ true) × (at < length ts)
    × ((t : ℕ × ℤ) → slice_get ts at ≡ Some t → p < t.0)
IsSpot ts p Spot.Last = list_all (lies_below p) ts ≡ true
