-- The rest of a list, from one item to the next.
use Rattle.std.proofs.Common.{◌≡◌, ℕ, zero, suc, ◌+◌, ◌<◌, ◌≤◌, List, [], ◌∷◌, length, drop, refl, sym, ap, ◌∙◌}
use Rattle.std.proofs.Common.{slice_index_or, arith}
use Rattle.std.proofs.Math.Seq.{drop-cons}
use Rattle.safety_rules.proofs.lemmas_from_rules_table.EachLaws.{Each}

pub drop_at : {X : Type 0} (xs : List X) (i : ℕ) (x : X) → i < length xs → x ≡ slice_index_or xs i x →
    drop i xs ≡ x ∷ drop (i + 1) xs
drop_at xs i x h e =
    let next : suc i ≡ i + 1 = omega arith in
    drop-cons xs i x h ∙ ap (λ z. z ∷ drop (suc i) xs) (sym e) ∙ ap (λ k. x ∷ drop k xs) next

pub drop_end : {X : Type 0} (xs : List X) (i : ℕ) → length xs ≤ i → drop i xs ≡ []
drop_end [] zero h = refl
drop_end [] (suc i) h = refl
drop_end (y ∷ xs) zero h = absurd (omega arith)
drop_end (y ∷ xs) (suc i) h = drop_end xs i (omega (arith, h))

-- what holds of each item
pub to_all : {X : Type 0} (P : X → Type 0) (xs : List X) → Each P xs → (k : ℕ) (d : X) → k < length xs →
    P (slice_index_or xs k d)
to_all P [] each k d less = absurd (omega arith)
to_all P (x ∷ xs) each zero d less = each.0
to_all P (x ∷ xs) each (suc k) d less = to_all P xs each.1 k d (omega (arith, less))
