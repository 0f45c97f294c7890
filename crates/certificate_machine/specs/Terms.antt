-- Sums as terms: places of variables, each with a number.
use Rattle.std.specs.Prelude.{ℕ, nat_eq, nat_lt, ℤ, pos, neg_ℤ, ◌+ℤ◌, Bool, true, cond, ◌&&◌, List, [], ◌∷◌}
use Rattle.std.specs.List.{list_all}
use Rattle.meaning_states.specs.State.{int_eq}
use Rattle.obligations.specs.LinearForms.{add_at}

abbrev pub lies_below : ℕ → ℕ × ℤ → Bool
lies_below p t = nat_lt t.0 p

abbrev pub is_above : ℕ → ℕ × ℤ → Bool
is_above p t = nat_lt p t.0

-- the places rise
abbrev pub rises : List (ℕ × ℤ) → Bool
rises [] = true
rises (t ∷ ts) = list_all (is_above t.0) ts && rises ts

-- each place is one of so many
abbrev pub lie_within : ℕ → List (ℕ × ℤ) → Bool
lie_within n ts = list_all (lies_below n) ts

-- the terms added to a list of numbers
abbrev pub add_terms : List (ℕ × ℤ) → List ℤ → List ℤ
add_terms [] zs = zs
add_terms (t ∷ ts) zs = add_terms ts (add_at zs t.0 t.1)

-- the number at a place, and 0 where it has none
abbrev pub number_in : List (ℕ × ℤ) → ℕ → ℤ
number_in [] p = pos 0
number_in (t ∷ ts) p = cond (nat_eq t.0 p) t.1 (number_in ts p)

-- a number added at a place, which gets a term where it has none
abbrev pub with_term : List (ℕ × ℤ) → ℕ → ℤ → List (ℕ × ℤ)
with_term [] p d = (p, d) ∷ []
with_term (t ∷ ts) p d =
    cond (nat_lt t.0 p) (t ∷ with_term ts p d) (cond (nat_eq t.0 p) ((p, t.1 +ℤ d) ∷ ts) ((p, d) ∷ t ∷ ts))

-- what is made of the numbers, where it is not 0
abbrev pub made_terms : (ℤ → ℤ) → List (ℕ × ℤ) → List (ℕ × ℤ)
made_terms g [] = []
made_terms g (t ∷ ts) = cond (int_eq (g t.1) (pos 0)) (made_terms g ts) ((t.0, g t.1) ∷ made_terms g ts)

-- a number, or with its sign turned
abbrev pub sign : Bool → ℤ → ℤ
sign turned z = cond turned (neg_ℤ z) z
