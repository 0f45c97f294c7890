-- The halves of a variable's range.
use Rattle.std.proofs.Common.{◌≡◌, ℕ, zero, suc, ℤ, pos, ◌+ℤ◌, Some, None, List, [], ◌∷◌, slice_set, slice_get}
use Rattle.std.proofs.Common.{refl, sym, ap, ◌∙◌}
use Rattle.core_terms.specs.declared.trees.Range.{Range}
use Rattle.obligations.specs.Plain.{with_high, with_low}
use Rattle.search_tree.specs.declared.halves.Half.{Half}
use Rattle.search_tree.specs.declared.halves.Halves.{Halves}
use Rattle.search_tree.specs.Halves.{half_range, half_ranges}

set-high : (rs : List Range) (n : ℕ) (r : Range) (k : ℤ) → slice_get rs n ≡ Some r → slice_set rs n
    (record { lo = r.lo; hi = k }) ≡ with_high rs n k
set-high [] n r k e = cc
set-high (x ∷ rs) zero r k e = let s : x ≡ r = cc in ap (λ (z : Range). record { lo = z.lo; hi = k } ∷ rs) (sym s)
set-high (x ∷ rs) (suc n) r k e = ap (λ z. x ∷ z) (set-high rs n r k e)

set-low : (rs : List Range) (n : ℕ) (r : Range) (k : ℤ) → slice_get rs n ≡ Some r → slice_set rs n
    (record { lo = k; hi = r.hi }) ≡ with_low rs n k
set-low [] n r k e = cc
set-low (x ∷ rs) zero r k e = let s : x ≡ r = cc in ap (λ (z : Range). record { lo = k; hi = z.hi } ∷ rs) (sym s)
set-low (x ∷ rs) (suc n) r k e = ap (λ z. x ∷ z) (set-low rs n r k e)

past-high : (rs : List Range) (n : ℕ) (k : ℤ) → slice_get rs n ≡ None → rs ≡ with_high rs n k
past-high [] n k e = refl
past-high (x ∷ rs) zero k e = cc
past-high (x ∷ rs) (suc n) k e = ap (λ z. x ∷ z) (past-high rs n k e)

past-low : (rs : List Range) (n : ℕ) (k : ℤ) → slice_get rs n ≡ None → rs ≡ with_low rs n k
past-low [] n k e = refl
past-low (x ∷ rs) zero k e = cc
past-low (x ∷ rs) (suc n) k e = ap (λ z. x ∷ z) (past-low rs n k e)

set-half : (half : Half) (h : Halves) (rs : List Range) (r : Range) → slice_get rs h.place ≡ Some r →
    slice_set rs h.place (half_range half h r) ≡ half_ranges half h rs
set-half Half.Low h rs r e = set-high rs h.place r h.at e
set-half Half.High h rs r e = set-low rs h.place r (h.at +ℤ pos 1) e

-- as the code meets it
pub half-is : (half : Half) (h : Halves) (rs copy new : List Range) (r item : Range) →
    new ≡ slice_set copy h.place item → copy ≡ rs → slice_get rs h.place ≡ Some r → item ≡ half_range half h r →
    new ≡ half_ranges half h rs
half-is half h rs copy new r item p q e i =
    p ∙ ap (λ z. slice_set z h.place item) q ∙ ap (slice_set rs h.place) i ∙ set-half half h rs r e

pub past-half : (half : Half) (h : Halves) (rs : List Range) → slice_get rs h.place ≡ None →
    rs ≡ half_ranges half h rs
past-half Half.Low h rs e = past-high rs h.place h.at e
past-half Half.High h rs e = past-low rs h.place (h.at +ℤ pos 1) e

pub ruleset half_laws = past-half
