-- A tree weighs at most so many times as much where slots and parameters weigh at most so many times as much.
use Rattle.std.proofs.Common.{ℕ, ◌+◌, ◌*◌, ◌≤◌, max, arith}
use Rattle.std.proofs.Math.Nat.{mul-le-mul_left, mul-le-mul_right}
use Rattle.std.specs.Int.RustNames.{unsigned_abs}
use Rattle.meaning_states.specs.Division.{divisor}
use Rattle.core_terms.specs.declared.trees.CTerm.{CTerm}
use Rattle.core_terms.specs.declared.trees.CForm.{CForm}
use Rattle.core_terms.specs.declared.trees.CForm.TheOpen.{CTerm-F, CForm-F}
use Rattle.core_terms.specs.Weights.{Weights, weigh_term, weigh_form, term_weights, form_weight}
use Rattle.core_terms.proofs.TreeFolds.{Steps, FormsKeep, TermsKeep, forms_related, terms_related}

-- the steps of the weights
abbrev pub weight_steps : (ℕ → ℕ) → (ℕ → ℕ) → Steps ℕ Weights
weight_steps slots params = record { form = weigh_form; term = weigh_term slots params }

-- at most so many times as much, itself and with its parts
abbrev pub Scaled : ℕ → Weights → Weights → Type 0
Scaled k v w = (v.own ≤ k * w.own) × (v.most ≤ k * w.most)

sum_scaled : (k a b c d : ℕ) → a ≤ k * c → b ≤ k * d → a + b ≤ k * (c + d)
sum_scaled k a b c d h j = omega (arith, h, j)

max_scaled : (k a b c d : ℕ) → a ≤ k * c → b ≤ k * d → max a b ≤ k * max c d
max_scaled k a b c d h j =
    let left : k * c ≤ k * max c d = mul-le-mul_left k (omega arith) in
    let right : k * d ≤ k * max c d = mul-le-mul_left k (omega arith) in
    omega (arith, h, j, left, right)

multiple_scaled : (k m a b : ℕ) → a ≤ k * b → m * a ≤ k * (m * b)
multiple_scaled k m a b h = let more : m * a ≤ m * (k * b) = mul-le-mul_left m h in omega (arith, more)

-- what weighs the same on both sides
same_scaled : (k a : ℕ) → 1 ≤ k → a ≤ k * a
same_scaled k a one = let more : 1 * a ≤ k * a = mul-le-mul_right a one in omega (arith, more)

module _ (k : ℕ) (slots params less fewer : ℕ → ℕ) (one : 1 ≤ k) (slot_is : (n : ℕ) → slots n ≤ k * less n)
    (param_is : (n : ℕ) → params n ≤ k * fewer n) where
  -- a term of this weight over parts of at most such a weight
  whole : (a b v w : ℕ) → a ≤ k * v → b ≤ k * w → (a ≤ k * v) × (max a b ≤ k * max v w)
  whole a b v w h j = (h, max_scaled k a b v w h j)

  leaf : (a v : ℕ) → a ≤ k * v → (a ≤ k * v) × (max a 0 ≤ k * max v 0)
  leaf a v h = whole a 0 v 0 h (omega arith)

  abbrev Within : ℕ → ℕ → Type 0
  Within a b = a ≤ k * b

  form_keeps : FormsKeep (weight_steps slots params) (weight_steps less fewer) Within (Scaled k)
  form_keeps CForm-F.Top = omega arith
  form_keeps CForm-F.Bottom = omega arith
  form_keeps (CForm-F.AtLeast t) = t.1.1
  form_keeps (CForm-F.Zero t) = t.1.1
  form_keeps (CForm-F.Not f) = f.1
  form_keeps (CForm-F.And f g) = max_scaled k _ _ _ _ f.1 g.1
  form_keeps (CForm-F.Or f g) = max_scaled k _ _ _ _ f.1 g.1

  term_keeps : TermsKeep (weight_steps slots params) (weight_steps less fewer) Within (Scaled k)
  term_keeps (CTerm-F.Const c) = leaf _ _ (same_scaled k (unsigned_abs c) one)
  term_keeps (CTerm-F.Slot n) = leaf _ _ (slot_is n)
  term_keeps (CTerm-F.Param n) = leaf _ _ (param_is n)
  term_keeps (CTerm-F.Add a b) =
      whole _ _ _ _ (sum_scaled k _ _ _ _ a.1.0 b.1.0) (max_scaled k _ _ _ _ a.1.1 b.1.1)
  term_keeps (CTerm-F.Sub a b) =
      whole _ _ _ _ (sum_scaled k _ _ _ _ a.1.0 b.1.0) (max_scaled k _ _ _ _ a.1.1 b.1.1)
  term_keeps (CTerm-F.Scale m a) = whole _ _ _ _ (multiple_scaled k (unsigned_abs m) _ _ a.1.0) a.1.1
  term_keeps (CTerm-F.Div a m) =
      whole _ _ _ _ (max_scaled k _ _ _ _ (same_scaled k 1 one) a.1.0)
      (max_scaled k _ _ _ _ (same_scaled k (unsigned_abs (divisor m)) one) a.1.1)
  term_keeps (CTerm-F.Mod a m) =
      let part = same_scaled k (unsigned_abs (divisor m)) one in
      whole _ _ _ _ (sum_scaled k _ _ _ _ (multiple_scaled k 2 _ _ a.1.0) part) (max_scaled k _ _ _ _ part a.1.1)
  term_keeps (CTerm-F.Ite c a b) =
      whole _ _ _ _ (max_scaled k _ _ _ _ a.1.0 b.1.0) (max_scaled k _ _ _ _ c.1 (max_scaled k _ _ _ _ a.1.1 b.1.1))

  pub form_scaled : (f : CForm) → form_weight slots params f ≤ k * form_weight less fewer f
  form_scaled f =
      forms_related (weight_steps slots params) (weight_steps less fewer) Within (Scaled k) form_keeps term_keeps f

  pub term_scaled : (t : CTerm) → Scaled k (term_weights slots params t) (term_weights less fewer t)
  term_scaled t =
      terms_related (weight_steps slots params) (weight_steps less fewer) Within (Scaled k) form_keeps term_keeps t
