-- The arguments that put a number for one name.
use Rattle.std.proofs.Common.{◌≡◌, ℕ, zero, suc, ◌+◌, ◌<◌, ◌≤◌, ◌^◌, nat_eq, ℤ, pos, true, false, cond, List, []}
use Rattle.std.proofs.Common.{◌∷◌, ◌++◌, length, take, Option, Some, None, slice_get, refl, sym, ap, ◌∙◌, arith}
use Rattle.std.specs.Prelude.{All}
use Rattle.std.specs.Int.RustNames.{unsigned_abs}
use Rattle.std.proofs.lemmas.List.Elements.{All-nil, All-cons}
use Rattle.core_terms.specs.declared.documents.Arg.{Arg}
use Rattle.core_terms.specs.declared.trees.CForm.{CForm}
use Rattle.core_terms.specs.declared.trees.CForm.TheOpen.{CTerm-F}
use Rattle.core_terms.specs.declared.trees.CTerm.{fold-roll-CTerm}
use Rattle.core_terms.specs.declared.trees.CTerm.TheVariants.{Slot, Param, rolls-Slot, rolls-Param}
use Rattle.core_terms.specs.declared.trees.Range.{Range}
use Rattle.core_terms.specs.Replacing.{arg_term, arg_at, IsSmallArg, arg_weight}
use Rattle.core_terms.specs.Weights.{Weights, weigh_term, weigh_form, one_weight, plain_weights, plain_weight}
use Rattle.core_terms.proofs.LighterLaws.{form_lighter}
use Rattle.core_terms.proofs.ReplacingLaws.{form_scaled}
use Rattle.core_terms.proofs.WeightLaws.{weights-Const}
use Rattle.rules_table.specs.Numbers.{args_from, form_for}

-- the argument at a place
abbrev pub argument_at : ℕ → ℤ → ℕ → Arg
argument_at m z k = cond (nat_eq k m) (Arg.Number z) (Arg.Param k (pos 0))

-- with one range more, one argument more
more_from : (m : ℕ) (z : ℤ) (rs : List Range) (i j k : ℕ) → k ≡ i + j → j < length rs →
    args_from i m z (take (suc j) rs) ≡ args_from i m z (take j rs) ++ argument_at m z k ∷ []
more_from m z [] i j k same less = absurd (omega (arith, less))
more_from m z (r ∷ rs) i zero k same less =
    let is : i ≡ k = omega (arith, same) in ap (λ n. argument_at m z n ∷ []) is
more_from m z (r ∷ rs) i (suc j) k same less =
    let next : k ≡ suc i + j = omega (arith, same) in
    let fewer : j < length rs = omega (arith, less) in
    ap (λ xs. argument_at m z i ∷ xs) (more_from m z rs (suc i) j k next fewer)

pub one_more : (m : ℕ) (z : ℤ) (rs : List Range) (k n : ℕ) → n ≡ suc k → k < length rs →
    args_from 0 m z (take n rs) ≡ args_from 0 m z (take k rs) ++ argument_at m z k ∷ []
one_more m z rs k n e less =
    ap (λ n. args_from 0 m z (take n rs)) e ∙ more_from m z rs 0 k k (omega arith) less

-- what is so of the number and of each other name's argument is so of all
module _ (P : Arg → Type 0) (m : ℕ) (z : ℤ) (number : P (Arg.Number z)) where
  one_argument : (k : ℕ) → P (Arg.Param k (pos 0)) → P (argument_at m z k)
  one_argument k other = elim (nat_eq k m) as (λ b. P (cond b (Arg.Number z) (Arg.Param k (pos 0)))) [
    | true ↦ number
    | false ↦ other
  ]

  pub all_arguments : (rs : List Range) (i : ℕ) → ((k : ℕ) → P (Arg.Param k (pos 0))) → All P (args_from i m z rs)
  all_arguments [] i others = All-nil P
  all_arguments (r ∷ rs) i others =
      All-cons P (argument_at m z i) (args_from (suc i) m z rs) (one_argument i (others i))
      (all_arguments rs (suc i) others)

module _ (P : Option Arg → Type 0) (m : ℕ) (z : ℤ) (none : P None) (number : P (Some (Arg.Number z))) where
  each_from : (rs : List Range) (i n limit : ℕ) → i + length rs ≤ limit →
      ((k : ℕ) → k < limit → P (Some (Arg.Param k (pos 0)))) → P (slice_get (args_from i m z rs) n)
  each_from [] i n limit h others = none
  each_from (r ∷ rs) i zero limit h others =
      one_argument (λ a. P (Some a)) m z number i (others i (omega (arith, h)))
  each_from (r ∷ rs) i (suc n) limit h others =
      let rest : suc i + length rs ≤ limit = omega (arith, h) in each_from rs (suc i) n limit rest others

  pub each_argument : (rs : List Range) (n : ℕ) → ((k : ℕ) → k < length rs → P (Some (Arg.Param k (pos 0)))) →
      P (slice_get (args_from 0 m z rs) n)
  each_argument rs n others = each_from rs 0 n (length rs) (omega arith) others

-- the number stands in the name's place
put_from : (y : ℤ) (rs : List Range) (i j m : ℕ) → m ≡ i + j → j < length rs →
    slice_get (args_from i m y rs) j ≡ Some (Arg.Number y)
put_from y [] i j m same less = absurd (omega (arith, less))
put_from y (r ∷ rs) i zero m same less =
    let is : m ≡ i = omega (arith, same) in
    ap (λ n. Some (cond (nat_eq i n) (Arg.Number y) (Arg.Param i (pos 0)))) is ∙ itself i
  where
    itself : (i : ℕ) → Some (cond (nat_eq i i) (Arg.Number y) (Arg.Param i (pos 0))) ≡ Some (Arg.Number y)
    itself zero = refl
    itself (suc i) = grind arith
put_from y (r ∷ rs) i (suc j) m same less =
    let next : m ≡ suc i + j = omega (arith, same) in
    let fewer : j < length rs = omega (arith, less) in
    put_from y rs (suc i) j m next fewer

pub number_put : (m : ℕ) (y : ℤ) (rs : List Range) → m < length rs →
    slice_get (args_from 0 m y rs) m ≡ Some (Arg.Number y)
number_put m y rs less = put_from y rs 0 m m (omega arith) less

-- a small number makes small arguments
pub small_arguments : (m : ℕ) (z : ℤ) (rs : List Range) → unsigned_abs z ≤ 2 ^ 62 →
    All IsSmallArg (args_from 0 m z rs)
small_arguments m z rs small = all_arguments IsSmallArg m z small rs 0 (λ k. omega arith)

weights-Slot : (n : ℕ) → plain_weights (Slot n) ≡ weigh_term one_weight one_weight (CTerm-F.Slot n)
weights-Slot n = ap plain_weights (sym (rolls-Slot n)) ∙ fold-roll-CTerm ℕ Weights weigh_form
    (weigh_term one_weight one_weight) (CTerm-F.Slot n)

weights-Param : (n : ℕ) → plain_weights (Param n) ≡ weigh_term one_weight one_weight (CTerm-F.Param n)
weights-Param n = ap plain_weights (sym (rolls-Param n)) ∙ fold-roll-CTerm ℕ Weights weigh_form
    (weigh_term one_weight one_weight) (CTerm-F.Param n)

-- and light instances
pub instance_light : (m : ℕ) (z : ℤ) (rs : List Range) (f : CForm) → unsigned_abs z ≤ 2 ^ 62 →
    plain_weight f ≤ 2 ^ 62 → plain_weight (form_for rs m z f) ≤ 2 ^ 126
instance_light m z rs f small light =
    let less = form_lighter one_weight one_weight one_weight arg_weight (λ n. Slot n) (arg_at (args_from 0 m z rs))
    (λ n. let is = ap (λ (w : Weights). w.most) (weights-Slot n) in omega (arith, is))
    (λ n. each_argument (λ o. (plain_weights (arg_term o)).most ≤ 2 ^ 63) m z
    (let is = ap (λ (w : Weights). w.most) (weights-Const one_weight one_weight (pos 0)) in omega (arith, is))
    (let is = ap (λ (w : Weights). w.most) (weights-Const one_weight one_weight z) in omega (arith, is, small))
    rs n (λ k h. let is = ap (λ (w : Weights). w.most) (weights-Param k) in omega (arith, is))) f in
    omega (arith, less, form_scaled f, light)

-- there is an argument for each name
pub count_arguments : (m : ℕ) (z : ℤ) (rs : List Range) (i : ℕ) → length (args_from i m z rs) ≡ length rs
count_arguments m z [] i = refl
count_arguments m z (r ∷ rs) i = ap (λ n. suc n) (count_arguments m z rs (suc i))
