-- Lists that share items with a third.
use Rattle.std.proofs.Common.{◌≡◌, ℕ, nat_eq, List, [], ◌∷◌, refl}
use Rattle.std.specs.List.{list_any}
use Rattle.names_rules.specs.WellNamed.{share}

-- two lists with the same items share an item with the same lists
pub share_same : (xs more : List ℕ) → ((q : ℕ) → list_any (nat_eq q) xs ≡ list_any (nat_eq q) more) →
    (ys : List ℕ) → share xs ys ≡ share more ys
share_same xs more same [] = refl
share_same xs more same (y ∷ ys) = rw (same y, share_same xs more same ys) refl
