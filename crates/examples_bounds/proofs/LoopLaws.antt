-- What the loops over the choices keep.
use Rattle.std.proofs.Common.{◌≡◌, ℕ, ◌+◌, ◌<◌, Bool, true, false, IsTrue, refl}
use Rattle.std.proofs.Common.{sym, subst, arith}
use Rattle.std.proofs.Common.{inl, inr}
use Rattle.std.specs.Prelude.{◌↔◌}
use Rattle.std.proofs.lemmas.Bool.Decides.{eqb_tells}

-- of the numbers below n and n itself
pub below_more : (P : ℕ → Type 0) (n : ℕ) → ((c : ℕ) → c < n → P c) → P n → (c : ℕ) → c < n + 1 → P c
below_more P n below here c h = elim (eqb_tells c n) [
  | inl w ↦ subst P (sym w.1) here
  | inr w ↦ let other : c ≡ n → ⊥ = w.1 in below c (omega arith)
]

-- what is false is equivalent to what cannot be
pub never : (P : Type 0) → (P → ⊥) → IsTrue false ↔ P
never P none = (λ h. absurd (not_true h), λ p. absurd (none p))
  where
    not_true : IsTrue false → ⊥
    not_true h = cc

pub always : (P : Type 0) → P → IsTrue true ↔ P
always P p = (λ h. p, λ h. refl)

pub refuted : (P : Type 0) → (IsTrue false ↔ P) → P → ⊥
refuted P same p = go (same.1 p)
  where
    go : IsTrue false → ⊥
    go h = cc

-- nothing is claimed where the premise is false
pub vacuous : (b : Bool) (P : Type 0) → b ≡ false → IsTrue b → P
vacuous false P e h = absurd (no h)
  where
    no : IsTrue false → ⊥
    no h = cc
vacuous true P e h = cc
