-- What cores weigh, held against what is counted before folding.
use Rattle.std.proofs.Common.{◌≡◌, ℕ, zero, suc, ◌+◌, ◌*◌, ◌<◌, ◌≤◌, max, ℤ, pos, negsuc, ◌+ℤ◌, ◌-ℤ◌, ◌<ℤ◌, List, []}
use Rattle.std.proofs.Common.{◌∷◌, map, Bool, true, false, cond, Option, Some, None, option_map, refl, sym, ap, ◌∙◌}
use Rattle.std.proofs.Common.{subst, arith}
use Rattle.std.proofs.lemmas.Int.{ints}
use Rattle.std.proofs.Math.Nat.{mul-le-mul_left}
use Rattle.std.specs.Prelude.{fold}
use Rattle.std.specs.Map.{lookup}
use Rattle.std.specs.Option.{option_or}
use Rattle.std.specs.Str.{bytes_eq}
use Rattle.std.specs.Int.RustNames.{unsigned_abs}
use Rattle.case_tables.specs.declared.symbol_table.Symbol.{Symbol}
use Rattle.case_tables.specs.declared.word_table.Word.{Word}
use Rattle.unity_syntax.specs.declared.expression.Expr.{Expr}
use Rattle.unity_syntax.specs.declared.expression.Expr.TheOpen.{Expr-F}
use Rattle.unity_syntax.specs.declared.expression.Operator.{Operator}
use Rattle.unity_syntax.specs.TwoFolds.{Related, ExpressionLayers}
use Rattle.unity_syntax.proofs.ExpressionFolds.{two_expressions}
use Rattle.unity_syntax.specs.declared.name.Range.{Range}
use Rattle.meaning_documents.specs.Names.{Variable, slot_at}
use Rattle.meaning_executions.specs.Counting.{natural}
use Rattle.meaning_executions.specs.Counting.{range_size}
use Rattle.meaning_documents.specs.Names.{variable_named}
use Rattle.meaning_states.specs.Division.{divisor}
use Rattle.core_terms.specs.declared.trees.CTerm.{CTerm, fold-roll-CTerm}
use Rattle.core_terms.specs.declared.trees.CTerm.TheVariants.{Const, Slot, Param, Add, Sub, Scale, Div, Mod, Ite}
use Rattle.core_terms.specs.declared.trees.CTerm.TheVariants.{rolls-Slot, rolls-Param, rolls-Add, rolls-Sub}
use Rattle.core_terms.specs.declared.trees.CTerm.TheVariants.{rolls-Scale, rolls-Div, rolls-Mod, rolls-Ite}
use Rattle.core_terms.specs.declared.trees.CForm.{CForm, fold-roll-CForm}
use Rattle.core_terms.specs.declared.trees.CForm.TheVariants.{Top, Bottom, AtLeast, Zero, Not, And, Or, rolls-AtLeast}
use Rattle.core_terms.specs.declared.trees.CForm.TheVariants.{rolls-Zero, rolls-Not, rolls-And, rolls-Or}
use Rattle.core_terms.specs.declared.trees.CForm.TheOpen.{CTerm-F, CForm-F}
use Rattle.core_terms.specs.Weights.{Weights, weighing, sum_weights, multiple_weights, quotient_weights}
use Rattle.core_terms.specs.Weights.{remainder_weights, choice_weights, weigh_term, weigh_form, term_weights}
use Rattle.core_terms.specs.Weights.{form_weight}
use Rattle.core_terms.specs.Folding.{truth_of, branch_or, folded_term, folded_form, sum_term, difference_term}
use Rattle.core_terms.specs.Folding.{scaled_term, quotient_term, remainder_term}
use Rattle.core_terms.specs.Folding.{choice_term, at_least_form, zero_form, not_form, and_form, or_form}
use Rattle.core_terms.proofs.WeightLaws.{own_within, weights-Const, weight-Top, weight-Bottom, folded_lighter}
use Rattle.core_terms.proofs.WeightLaws.{folded_form_lighter}
use Rattle.expand_rules.specs.declared.cores.Core.{Core}
use Rattle.expand_rules.specs.declared.cores.Bound.{Bound}
use Rattle.expand_rules.specs.declared.cores.Measure.{Measure}
use Rattle.expand_rules.specs.declared.cores.Formed.{Formed}
use Rattle.expand_rules.specs.Measures.{ends_weight}
use Rattle.expand_rules.specs.Forming.{Scope, with_number, term_of, form_of, factor_of, number_measure}
use Rattle.expand_rules.specs.Forming.{truth_measure, as_number, as_truth, sum, difference, negation, multiple}
use Rattle.expand_rules.specs.Forming.{product, divisor_of, quotient, remainder, factored, at_least_zero, is_zero}
use Rattle.expand_rules.specs.Forming.{denial, conjunction, disjunction}
use Rattle.expand_rules.specs.Forming.{implication, equation_by, equation, excess, comparison, signed, plus}
use Rattle.expand_rules.specs.Forming.{bound_formed, typed, variable_formed, formed_or_zero, word_formed, chain}
use Rattle.expand_rules.specs.Forming.{no_element, array_formed, element_by, element_of, number_constant}
use Rattle.expand_rules.specs.Forming.{truth_constant, varying, gathered_by, gathered, numbers, fit_values}
use Rattle.expand_rules.specs.Forming.{quantified, Forming, factor_at, form_layer, formed}
use Rattle.expand_rules.proofs.Differences.{divisor_of_steady}
use Rattle.expand_correct.specs.Values.WeightLaws.{TermWithin, CoreWithin, SlotsWithin, ScopeWithin, ExpressionsWithin}

module _ (slots params : ℕ → ℕ) where
  abbrev W : CTerm → Weights
  W t = term_weights slots params t

  abbrev F : CForm → ℕ
  F f = form_weight slots params f

  weights-Slot : (n : ℕ) → W (Slot n) ≡ weighing (slots n) 0
  weights-Slot n = ap W (sym (rolls-Slot n)) ∙ fold-roll-CTerm ℕ Weights weigh_form (weigh_term slots params)
      (CTerm-F.Slot n)

  weights-Param : (n : ℕ) → W (Param n) ≡ weighing (params n) 0
  weights-Param n = ap W (sym (rolls-Param n)) ∙ fold-roll-CTerm ℕ Weights weigh_form (weigh_term slots params)
      (CTerm-F.Param n)

  weights-Add : (a b : CTerm) → W (Add a b) ≡ sum_weights (W a) (W b)
  weights-Add a b = ap W (sym (rolls-Add a b)) ∙ fold-roll-CTerm ℕ Weights weigh_form (weigh_term slots params)
      (CTerm-F.Add a b)

  weights-Sub : (a b : CTerm) → W (Sub a b) ≡ sum_weights (W a) (W b)
  weights-Sub a b = ap W (sym (rolls-Sub a b)) ∙ fold-roll-CTerm ℕ Weights weigh_form (weigh_term slots params)
      (CTerm-F.Sub a b)

  weights-Scale : (k : ℤ) (a : CTerm) → W (Scale k a) ≡ multiple_weights k (W a)
  weights-Scale k a = ap W (sym (rolls-Scale k a)) ∙ fold-roll-CTerm ℕ Weights weigh_form (weigh_term slots params)
      (CTerm-F.Scale k a)

  weights-Div : (k : ℤ) (a : CTerm) → W (Div a k) ≡ quotient_weights k (W a)
  weights-Div k a = ap W (sym (rolls-Div a k)) ∙ fold-roll-CTerm ℕ Weights weigh_form (weigh_term slots params)
      (CTerm-F.Div a k)

  weights-Mod : (k : ℤ) (a : CTerm) → W (Mod a k) ≡ remainder_weights k (W a)
  weights-Mod k a = ap W (sym (rolls-Mod a k)) ∙ fold-roll-CTerm ℕ Weights weigh_form (weigh_term slots params)
      (CTerm-F.Mod a k)

  weights-Ite : (c : CForm) (a b : CTerm) → W (Ite c a b) ≡ choice_weights (F c) (W a) (W b)
  weights-Ite c a b = ap W (sym (rolls-Ite c a b)) ∙ fold-roll-CTerm ℕ Weights weigh_form (weigh_term slots params)
      (CTerm-F.Ite c a b)

  weight-AtLeast : (t : CTerm) → F (AtLeast t) ≡ (W t).most
  weight-AtLeast t = ap F (sym (rolls-AtLeast t)) ∙ fold-roll-CForm ℕ Weights weigh_form (weigh_term slots params)
      (CForm-F.AtLeast t)

  weight-Zero : (t : CTerm) → F (Zero t) ≡ (W t).most
  weight-Zero t = ap F (sym (rolls-Zero t)) ∙ fold-roll-CForm ℕ Weights weigh_form (weigh_term slots params)
      (CForm-F.Zero t)

  weight-Not : (f : CForm) → F (Not f) ≡ F f
  weight-Not f = ap F (sym (rolls-Not f)) ∙ fold-roll-CForm ℕ Weights weigh_form (weigh_term slots params)
      (CForm-F.Not f)

  weight-And : (f g : CForm) → F (And f g) ≡ max (F f) (F g)
  weight-And f g = ap F (sym (rolls-And f g)) ∙ fold-roll-CForm ℕ Weights weigh_form (weigh_term slots params)
      (CForm-F.And f g)

  weight-Or : (f g : CForm) → F (Or f g) ≡ max (F f) (F g)
  weight-Or f g = ap F (sym (rolls-Or f g)) ∙ fold-roll-CForm ℕ Weights weigh_form (weigh_term slots params)
      (CForm-F.Or f g)

  -- a folded term, whose whole weighs this
  term_folded : (t : CTerm) (w : Weights) → W t ≡ w → ((W (folded_term t)).own ≤ w.own)
      × ((W (folded_term t)).most ≤ w.most)
  term_folded t w e = subst (λ v. ((W (folded_term t)).own ≤ v.own) × ((W (folded_term t)).most ≤ v.most)) e
      (folded_lighter slots params t)

  pub sum_light : (a b : CTerm) → ((W (sum_term a b)).own ≤ (W a).own + (W b).own)
      × ((W (sum_term a b)).most ≤ max ((W a).own + (W b).own) (max (W a).most (W b).most))
  sum_light a b = term_folded (Add a b) _ (weights-Add a b)

  pub difference_light : (a b : CTerm) → ((W (difference_term a b)).own ≤ (W a).own + (W b).own)
      × ((W (difference_term a b)).most ≤ max ((W a).own + (W b).own) (max (W a).most (W b).most))
  difference_light a b = term_folded (Sub a b) _ (weights-Sub a b)

  scaled_light : (k : ℤ) (a : CTerm) → ((W (scaled_term k a)).own ≤ unsigned_abs k * (W a).own)
      × ((W (scaled_term k a)).most ≤ max (unsigned_abs k * (W a).own) (W a).most)
  scaled_light k a = term_folded (Scale k a) _ (weights-Scale k a)

  quotient_light : (k : ℤ) (a : CTerm) → ((W (quotient_term k a)).own ≤ max 1 (W a).own)
      × ((W (quotient_term k a)).most ≤ max (max 1 (W a).own) (max (unsigned_abs (divisor k)) (W a).most))
  quotient_light k a = term_folded (Div a k) _ (weights-Div k a)

  remainder_light : (k : ℤ) (a : CTerm) →
      ((W (remainder_term k a)).own ≤ 2 * (W a).own + unsigned_abs (divisor k))
      × ((W (remainder_term k a)).most ≤
      max (2 * (W a).own + unsigned_abs (divisor k)) (max (unsigned_abs (divisor k)) (W a).most))
  remainder_light k a = term_folded (Mod a k) _ (weights-Mod k a)

  branch_light : (m : Option Bool) (c : CForm) (a b : CTerm) →
      ((W (branch_or m a b (Ite c a b))).own ≤ max (W a).own (W b).own) ×
      ((W (branch_or m a b (Ite c a b))).most ≤ max
      (max (W a).own (W b).own) (max (F c) (max (W a).most (W b).most)))
  branch_light None c a b = let e = weights-Ite c a b in (
    let o = ap (λ w. w.own) e in
        omega (arith, o),
    let o = ap (λ w. w.most) e in omega (arith, o),
  )
  branch_light (Some true) c a b = (omega arith, omega arith)
  branch_light (Some false) c a b = (omega arith, omega arith)

  pub choice_light : (c : CForm) (a b : CTerm) →
      ((W (choice_term c a b)).own ≤ max (W a).own (W b).own) × ((W (choice_term c a b)).most ≤ max (max (W a).own
      (W b).own) (max (F c) (max (W a).most (W b).most)))
  choice_light c a b = branch_light (truth_of c) c a b

  form_folded : (f : CForm) (n : ℕ) → F f ≡ n → F (folded_form f) ≤ n
  form_folded f n e = subst (λ v. F (folded_form f) ≤ v) e (folded_form_lighter slots params f)

  pub at_least_light : (t : CTerm) → F (at_least_form t) ≤ (W t).most
  at_least_light t = form_folded (AtLeast t) _ (weight-AtLeast t)

  pub zero_light : (t : CTerm) → F (zero_form t) ≤ (W t).most
  zero_light t = form_folded (Zero t) _ (weight-Zero t)

  pub not_light : (f : CForm) → F (not_form f) ≤ F f
  not_light f = form_folded (Not f) _ (weight-Not f)

  pub and_light : (f g : CForm) → F (and_form f g) ≤ max (F f) (F g)
  and_light f g = form_folded (And f g) _ (weight-And f g)

  pub or_light : (f g : CForm) → F (or_form f g) ≤ max (F f) (F g)
  or_light f g = form_folded (Or f g) _ (weight-Or f g)

  pub const_light : (z : ℤ) → ((W (Const z)).own ≤ unsigned_abs z) × ((W (Const z)).most ≤ unsigned_abs z)
  const_light z = let e = weights-Const slots params z in (
    let o = ap (λ w. w.own) e in
        omega (arith, o),
    let o = ap (λ w. w.most) e in omega (arith, o),
  )

  -- cores

  abbrev pub Fits : Formed → Type 0
  Fits a = CoreWithin slots params a.core a.measure

  abbrev IsTerm : CTerm → Measure → Type 0
  IsTerm t m = TermWithin slots params t m

  pub as_term : (c : Core) (m : Measure) → CoreWithin slots params c m → IsTerm (term_of c) (number_measure c m)
  as_term (Core.Number t known) m h = h
  as_term (Core.Truth f known) m h =
      let l = choice_light f (Const (pos 1)) (Const (pos 0)) in let one = const_light (pos 1) in
      let zero = const_light (pos 0) in
      (omega (arith, l.0, one.0, zero.0), omega (arith, l.1, one.0, one.1, zero.0, zero.1, h))

  pub as_form : (c : Core) (m : Measure) → CoreWithin slots params c m → F (form_of c) ≤ (truth_measure c m).most
  as_form (Core.Truth f known) m h = h
  as_form (Core.Number t known) m h =
      let a = at_least_light (difference_term t (Const (pos 1))) in let d = difference_light t (Const (pos 1)) in
      let one = const_light (pos 1) in
      omega (arith, a, d.1, one.0, one.1, h.0, h.1)

  pub fits_number : (a : Formed) → Fits a → Fits (as_number a)
  fits_number a h = as_term a.core a.measure h

  pub fits_truth : (a : Formed) → Fits a → Fits (as_truth a)
  fits_truth a h = as_form a.core a.measure h

  fits_sum : (a b : Formed) → Fits a → Fits b → Fits (sum a b)
  fits_sum a b h i =
      let x = as_term a.core a.measure h in let y = as_term b.core b.measure i in let l = sum_light (term_of a.core)
      (term_of b.core) in
      (omega (arith, l.0, x.0, y.0), omega (arith, l.1, x.0, y.0, x.1, y.1))

  fits_difference : (a b : Formed) → Fits a → Fits b → Fits (difference a b)
  fits_difference a b h i =
      let x = as_term a.core a.measure h in let y = as_term b.core b.measure i in
      let l = difference_light (term_of a.core) (term_of b.core) in
      (omega (arith, l.0, x.0, y.0), omega (arith, l.1, x.0, y.0, x.1, y.1))

  fits_negation : (a : Formed) → Fits a → Fits (negation a)
  fits_negation a h =
      let x = as_term a.core a.measure h in let l = scaled_light (negsuc 0) (term_of a.core) in
      let o = own_within slots params (term_of a.core) in
      (omega (arith, l.0, x.0), omega (arith, l.1, x.1, o))

  fits_multiple : (k a : Formed) → Fits a → Fits (multiple k a)
  fits_multiple k a i =
      let y = as_term a.core a.measure i in let l = scaled_light (factor_of k.core) (term_of a.core) in
      let m : unsigned_abs (factor_of k.core) * (W (term_of a.core)).own ≤ unsigned_abs (factor_of k.core) *
      (number_measure a.core a.measure).own =
      mul-le-mul_left (unsigned_abs (factor_of k.core)) y.0 in
      (omega (arith, l.0, m), omega (arith, l.1, m, y.1))

  product_by : (c : Bool) (a b : Formed) → Fits a → Fits b → Fits (cond c (multiple a b) (multiple b a))
  product_by true a b h i = fits_multiple a b i
  product_by false a b h i = fits_multiple b a h

  refit : (a b : Formed) → a.core ≡ b.core → a.measure ≡ b.measure → Fits a → Fits b
  refit a b c m h = subst (λ x. CoreWithin slots params x b.measure) c
      (subst (λ y. CoreWithin slots params a.core y) m
      h)

  fits_product : (a b : Formed) → Fits a → Fits b → Fits (product a b)
  fits_product a b h i = product_by a.constant a b h i

  fits_quotient : (at : ℕ) (a b : Formed) → Fits a → Fits (quotient at a b)
  fits_quotient at a b h =
      let x = as_term a.core a.measure h in
      let l = quotient_light (divisor_of (as_number b)) (term_of a.core) in
      let d = ap (λ k. unsigned_abs k) (divisor_of_steady (as_number b)) in
      (omega (arith, l.0, x.0), omega (arith, l.1, x.0, x.1, d))

  fits_remainder : (at : ℕ) (a b : Formed) → Fits a → Fits (remainder at a b)
  fits_remainder at a b h =
      let x = as_term a.core a.measure h in
      let l = remainder_light (divisor_of (as_number b)) (term_of a.core) in
      let d = ap (λ k. unsigned_abs k) (divisor_of_steady (as_number b)) in
      (omega (arith, l.0, x.0, d), omega (arith, l.1, x.0, x.1, d))

  fits_factored : (a : Formed) (o : Operator) (at : ℕ) (b : Formed) → Fits a → Fits b →
      Fits (factored a ((o, at), b))
  fits_factored a Operator.Times at b h i = fits_product a b h i
  fits_factored a Operator.Div at b h i = fits_quotient at a b h
  fits_factored a Operator.Mod at b h i = fits_remainder at a b h

  fits_at_least : (a : Formed) → Fits a → Fits (at_least_zero a)
  fits_at_least a h = let x = as_term a.core a.measure h in let l = at_least_light (term_of a.core) in
      omega (arith, l, x.1)

  fits_zero : (a : Formed) → Fits a → Fits (is_zero a)
  fits_zero a h = let x = as_term a.core a.measure h in let l = zero_light (term_of a.core) in omega (arith, l, x.1)

  fits_denial : (a : Formed) → Fits a → Fits (denial a)
  fits_denial a h = let x = as_form a.core a.measure h in let l = not_light (form_of a.core) in omega (arith, l, x)

  fits_conjunction : (a b : Formed) → Fits a → Fits b → Fits (conjunction a b)
  fits_conjunction a b h i =
      let x = as_form a.core a.measure h in let y = as_form b.core b.measure i in let l = and_light (form_of a.core)
      (form_of b.core) in omega (arith, l, x, y)

  fits_disjunction : (a b : Formed) → Fits a → Fits b → Fits (disjunction a b)
  fits_disjunction a b h i =
      let x = as_form a.core a.measure h in let y = as_form b.core b.measure i in let l = or_light (form_of a.core)
      (form_of b.core) in omega (arith, l, x, y)

  fits_implication : (a b : Formed) → Fits a → Fits b → Fits (implication a b)
  fits_implication a b h i = fits_disjunction (denial a) b (fits_denial a h) i

  pub fits_constant : (z : ℤ) → Fits (number_constant z)
  fits_constant z = const_light z

  fits_top : Fits (truth_constant Top)
  fits_top = let e = weight-Top slots params in omega (arith, e)

  fits_bottom : Fits (truth_constant Bottom)
  fits_bottom = let e = weight-Bottom slots params in omega (arith, e)

  equation_fits : (c d : Core) (a b : Formed) → Fits a → Fits b → Fits (equation_by c d a b)
  equation_fits (Core.Truth f k) (Core.Truth g l) a b h i =
      fits_conjunction (implication a b) (implication b a) (fits_implication a b h i) (fits_implication b a i h)
  equation_fits (Core.Truth f k) (Core.Number t l) a b h i = fits_zero (difference a b) (fits_difference a b h i)
  equation_fits (Core.Number t k) (Core.Truth g l) a b h i = fits_zero (difference a b) (fits_difference a b h i)
  equation_fits (Core.Number t k) (Core.Number u l) a b h i = fits_zero (difference a b) (fits_difference a b h i)

  fits_least : (a b : Formed) → Fits a → Fits b → Fits (at_least_zero (difference a b))
  fits_least a b h i = fits_at_least (difference a b) (fits_difference a b h i)

  fits_excess : (a b : Formed) → Fits a → Fits b → Fits (excess a b)
  fits_excess a b h i = fits_at_least (difference (difference a b) (number_constant (pos 1)))
      (fits_difference (difference a b) (number_constant (pos 1)) (fits_difference a b h i) (fits_constant (pos 1)))

  fits_comparison : (r : Symbol) (a b : Formed) → Fits a → Fits b → Fits (comparison r a b)
  fits_comparison Symbol.Equal a b h i = equation_fits a.core b.core a b h i
  fits_comparison Symbol.NotEqual a b h i = fits_denial (equation a b) (equation_fits a.core b.core a b h i)
  fits_comparison Symbol.Below a b h i = fits_excess b a i h
  fits_comparison Symbol.AtMost a b h i = fits_least b a i h
  fits_comparison Symbol.Above a b h i = fits_excess a b h i
  fits_comparison Symbol.AtLeast a b h i = fits_least a b h i
  fits_comparison _ a b h i = let e = weight-Bottom slots params in omega (arith, e)

  fits_signed : (minus : Bool) (a : Formed) → Fits a → Fits (signed minus a)
  fits_signed true a h = fits_negation a h
  fits_signed false a h = fits_number a h

  fits_plus : (a : Formed) (o : Symbol) (b : Formed) → Fits a → Fits b → Fits (plus a (o, b))
  fits_plus a Symbol.Minus b h i = fits_difference a b h i
  fits_plus a _ b h i = fits_sum a b h i

  -- words

  typed_by : (b : Bool) (a : Formed) → Fits a → Fits (cond b (as_truth a) a)
  typed_by true a h = fits_truth a h
  typed_by false a h = h

  slot_fits : (n weight : ℕ) → slots n ≤ weight → Fits (varying (Slot n) weight)
  slot_fits n weight h = let e = weights-Slot n in
      (let o = ap (λ w. w.own) e in omega (arith, o, h), let o = ap (λ w. w.most) e in omega (arith, o, h))

  bound_fits : (b : Bound) → ((n weight : ℕ) → b ≡ Bound.Param n weight → params n ≤ max 1 weight) →
      Fits (bound_formed b)
  bound_fits (Bound.Number z) h = fits_constant z
  bound_fits (Bound.Param n weight) h = let e = weights-Param n in let k = h n weight refl in
      (let o = ap (λ w. w.own) e in omega (arith, o, k), let o = ap (λ w. w.most) e in omega (arith, o, k))

  abbrev FitsOr : Option Formed → Type 0
  FitsOr None = Unit {0}
  FitsOr (Some a) = Fits a

  or_fits : (a b : Option Formed) → FitsOr a → FitsOr b → FitsOr (option_or a b)
  or_fits None b h i = i
  or_fits (Some a) b h i = h

  zero_fits : (a : Option Formed) → FitsOr a → Fits (formed_or_zero a)
  zero_fits None h = fits_constant (pos 0)
  zero_fits (Some a) h = h

  plain_by : (v : Variable) (m : Option (ℤ × ℤ)) → SlotsWithin slots v m →
      FitsOr (option_map (λ slot. typed v (varying (Slot slot) (ends_weight v.range))) (slot_at v.first m None))
  plain_by v None h = typed_by v.is_truth (varying (Slot v.first) (ends_weight v.range)) (slot_fits v.first
      (ends_weight v.range) h)
  plain_by v (Some r) h = tt

  variable_fits : (m : Option Variable) → ((v : Variable) → m ≡ Some v → SlotsWithin slots v v.indices) →
      FitsOr (variable_formed m)
  variable_fits None h = tt
  variable_fits (Some v) h = plain_by v v.indices (h v refl)

  value_fits : (m : Option ℤ) → FitsOr (option_map number_constant m)
  value_fits None = tt
  value_fits (Some z) = fits_constant z

  named_fits : (m : Option Bound) → ((n weight : ℕ) → m ≡ Some (Bound.Param n weight) → params n ≤ max 1 weight) →
      FitsOr (option_map bound_formed m)
  named_fits None h = tt
  named_fits (Some b) h = bound_fits b (λ n weight e. h n weight (ap (λ x. Some x) e))

  always_fits : (m : Option Formed) → ((a : Formed) → m ≡ Some a → Fits a) → FitsOr m
  always_fits None h = tt
  always_fits (Some a) h = h a refl

  word_fits : (s : Scope) → ScopeWithin slots params s → (name : List ℕ) → Fits (word_formed s name)
  word_fits s g name = zero_fits _ (or_fits _ _ (named_fits (lookup (bytes_eq name) s.bound) (λ n weight e. g.bound
      name n weight e))
      (or_fits _ _ (always_fits (lookup (bytes_eq name) s.always) (λ a e. g.always name a e))
      (or_fits _ _ (variable_fits (variable_named name s.variables) (λ v e. g.variables name v e))
      (value_fits (lookup (bytes_eq name) s.words)))))

  -- arrays

  pub abs_next : (low : ℤ) (n most : ℕ) → ((k : ℕ) → k < suc n → unsigned_abs (low +ℤ pos k) ≤ most) → (k : ℕ) →
      k < n → unsigned_abs ((low +ℤ pos 1) +ℤ pos k) ≤ most
  abs_next low n most h k l = let e : (low +ℤ pos 1) +ℤ pos k ≡ low +ℤ pos (suc k) = omega (arith, ints) in
      subst (λ z. unsigned_abs z ≤ most) (sym e) (h (suc k) (omega (arith, l)))

  chain_light : (e : CTerm) (m : Measure) → IsTerm e m → (weight far : ℕ) (low : ℤ) (first n : ℕ) →
      ((k : ℕ) → k < n → slots (first + k) ≤ weight) → ((k : ℕ) → k < n → unsigned_abs (low +ℤ pos k) ≤ far) →
      ((W (chain e low first n)).own ≤ weight) × ((W (chain e low first n)).most ≤ max (m.own + far)
      (max m.most weight))
  chain_light e m h weight far low first zero s a = let c = const_light (pos 0) in
      (omega (arith, c.0), omega (arith, c.1))
  chain_light e m h weight far low first (suc n) s a =
      let rest = chain_light e m h weight far (low +ℤ pos 1) (suc first) n
      (λ k l. let q : suc first + k ≡ first + suc k = omega arith in subst (λ i. slots i ≤ weight) (sym q)
      (s (suc k) (omega (arith, l))))
      (abs_next low n far a) in
      let here : first + 0 ≡ first = omega arith in let at : low +ℤ pos 0 ≡ low = omega (arith, ints) in
      let slot : slots first ≤ weight = subst (λ i. slots i ≤ weight) here (s 0 (omega arith)) in
      let low_far : unsigned_abs low ≤ far = subst (λ z. unsigned_abs z ≤ far) at (a 0 (omega arith)) in
      let w = weights-Slot first in let so = ap (λ x. x.own) w in let sm = ap (λ x. x.most) w in
      let d = difference_light e (Const low) in let c = const_light low in
      let z = zero_light (difference_term e (Const low)) in
      let l = choice_light (zero_form (difference_term e (Const low))) (Slot first)
      (chain e (low +ℤ pos 1) (suc first)
      n) in (
        omega (arith, l.0, so, slot, rest.0),
        omega (
          arith,
          l.1,
          so,
          sm,
          slot,
          rest.0,
          rest.1,
          z,
          d.1,
          c.0,
          c.1,
          low_far,
          h.0,
          h.1,
        ),
      )

  below_natural : (z : ℤ) (k : ℕ) → k < natural z → pos k <ℤ z
  below_natural (pos n) k h = omega (arith, ints, h)
  below_natural (negsuc n) k h = absurd (omega (arith, h))

  pub within_ends : (r : ℤ × ℤ) (k : ℕ) → k < range_size r → unsigned_abs (r.0 +ℤ pos k) ≤ max (unsigned_abs r.0)
      (unsigned_abs r.1)
  within_ends r k h = let l = below_natural (r.1 +ℤ pos 1 -ℤ r.0) k h in omega (arith, ints, l)

  array_fits : (v : Variable) (i : Formed) (r : ℤ × ℤ) → Fits (as_number i) → SlotsWithin slots v (Some r) →
      Fits (array_formed v (as_number i) r)
  array_fits v i r h s =
      let l = chain_light (term_of i.core) (number_measure i.core i.measure) h (ends_weight v.range)
      (max (unsigned_abs r.0) (unsigned_abs r.1)) r.0 v.first (range_size r) s (within_ends r) in
      (l.0, l.1)

  no_element_fits : (i : Formed) → Fits (no_element i)
  no_element_fits i = let c = const_light (pos 0) in (omega (arith, c.0), omega (arith, c.1))

  element_by_fits : (v : Variable) (i : Formed) (m : Option (ℤ × ℤ)) → Fits (as_number i) → SlotsWithin slots v m →
      Fits (element_by v (as_number i) m)
  element_by_fits v i None h s = no_element_fits (as_number i)
  element_by_fits v i (Some r) h s = typed_by v.is_truth (array_formed v (as_number i) r) (array_fits v i r h s)

  element_fits : (m : Option Variable) (i : Formed) → Fits (as_number i) → ((v : Variable) → m ≡ Some v →
      SlotsWithin slots v v.indices) → Fits (element_of m (as_number i))
  element_fits None i h s = no_element_fits (as_number i)
  element_fits (Some v) i h s = element_by_fits v i v.indices h (s v refl)

  -- each kind of expression

  abbrev pub FitsIn : Forming → Forming → Type 0
  FitsIn f g = (s : Scope) → ScopeWithin slots params s → Fits (f.made s)

  abbrev Part : Type 0
  Part = Related FitsIn

  abbrev KeepsFit : (Formed → Formed → Formed) → Type 0
  KeepsFit op = (a b : Formed) → Fits a → Fits b → Fits (op a b)

  fold_fits : (op : Formed → Formed → Formed) → KeepsFit op → (s : Scope) → ScopeWithin slots params s → (a : Formed)
      →
      Fits a → (xs : List Part) →
      Fits (fold op a (map (λ m. m.made s) (map (λ k. k.0) xs)))
  fold_fits op k s g a h [] = h
  fold_fits op k s g a h (x ∷ xs) = fold_fits op k s g (op a (x.0.made s)) (k a (x.0.made s) h (x.2 s g)) xs

  sums_fit : (s : Scope) → ScopeWithin slots params s → (a : Formed) → Fits a → (xs : List (Symbol × Part)) →
      Fits (fold plus a (map (λ (part : Symbol × Forming). (part.0, part.1.made s)) (map (λ (k : Symbol × Part).
      (k.0, k.1.0)) xs)))
  sums_fit s g a h [] = h
  sums_fit s g a h (x ∷ xs) =
      sums_fit s g (plus a (x.0, x.1.0.made s)) (fits_plus a x.0 (x.1.0.made s) h (x.1.2 s g)) xs

  factors_fit : (s : Scope) → ScopeWithin slots params s → (a : Formed) → Fits a → (xs : List (Operator × Part)) →
      Fits (fold factored a (map (factor_at s) (map (λ (k : Operator × Part).
      (k.0, k.1.0)) xs)))
  factors_fit s g a h [] = h
  factors_fit s g a h (x ∷ xs) =
      factors_fit s g (factored a (factor_at s (x.0, x.1.0)))
      (fits_factored a x.0 x.1.0.at (x.1.0.made s) h (x.1.2 s g)) xs

  joined_fits : (op : Formed → Formed → Formed) → KeepsFit op → (f : ℤ → Formed) → ((z : ℤ) → Fits (f z)) →
      (a : Formed) → Fits a → (zs : List ℤ) →
      Fits (fold op a (map f zs))
  joined_fits op k f h a i [] = i
  joined_fits op k f h a i (z ∷ zs) = joined_fits op k f h (op a (f z)) (k a (f z) i (h z)) zs

  gathered_fits : (which : Word) (f : ℤ → Formed) → ((z : ℤ) → Fits (f z)) → (zs : List ℤ) →
      Fits (gathered which (map f zs))
  gathered_fits Word.All f h [] = fits_top
  gathered_fits Word.All f h (z ∷ zs) = joined_fits conjunction fits_conjunction f h (as_truth (f z))
      (fits_truth (f z)
      (h z)) zs
  gathered_fits Word.Any f h [] = fits_bottom
  gathered_fits Word.Any f h (z ∷ zs) = joined_fits disjunction fits_disjunction f h (as_truth (f z))
      (fits_truth (f z)
      (h z)) zs
  gathered_fits _ f h zs = sum_gathered f h zs
    where
      sum_gathered : (f : ℤ → Formed) → ((z : ℤ) → Fits (f z)) → (zs : List ℤ) →
          Fits (gathered_by (number_constant (pos 0)) as_number sum (map f zs))
      sum_gathered f h [] = fits_constant (pos 0)
      sum_gathered f h (z ∷ zs) = joined_fits sum fits_sum f h (as_number (f z)) (fits_number (f z) (h z)) zs

  pub inside_fits : (s : Scope) (name : List ℕ) (z : ℤ) → ScopeWithin slots params s → ScopeWithin slots params
      (with_number s name z)
  inside_fits s name z g = record {
    variables = g.variables;
    bound = λ word n weight.
        elim (bytes_eq word name) as (λ b. cond b (Some (Bound.Number z)) (lookup (bytes_eq word) s.bound) ≡
        Some (Bound.Param n weight) → params n ≤ max 1 weight) [
          | true ↦ λ e. cc e
          | false ↦ λ e. g.bound word n weight e
        ];
    always = g.always;
  }

  same_core : (bs : List (List ℕ × Bound)) (r : Range) (a : Formed) → Fits a → Fits (quantified bs r a)
  same_core bs r a h = go a.core h
    where
      go : (c : Core) → CoreWithin slots params c a.measure → CoreWithin slots params c (quantified bs r a).measure
      go (Core.Number t known) h = h
      go (Core.Truth f known) h = h

  layer : ExpressionLayers FitsIn form_layer form_layer
  layer (Expr-F.Implies at l r) s g = fits_implication (l.0.made s) (r.0.made s) (l.2 s g) (r.2 s g)
  layer (Expr-F.And at x xs) s g = fold_fits conjunction fits_conjunction s g (as_truth (x.0.made s))
      (fits_truth (x.0.made s) (x.2 s g)) xs
  layer (Expr-F.Or at x xs) s g = fold_fits disjunction fits_disjunction s g (as_truth (x.0.made s))
      (fits_truth (x.0.made s) (x.2 s g)) xs
  layer (Expr-F.Not at x) s g = fits_denial (x.0.made s) (x.2 s g)
  layer (Expr-F.Compare at l r x) s g = fits_comparison r (l.0.made s) (x.0.made s) (l.2 s g) (x.2 s g)
  layer (Expr-F.Sum at minus x xs) s g = sums_fit s g (signed minus (x.0.made s))
      (fits_signed minus (x.0.made s) (x.2 s g)) xs
  layer (Expr-F.Product at x xs) s g = factors_fit s g (x.0.made s) (x.2 s g) xs
  layer (Expr-F.Number at number) s g = fits_constant (pos number)
  layer (Expr-F.True at) s g = fits_top
  layer (Expr-F.False at) s g = fits_bottom
  layer (Expr-F.Word at name None) s g = word_fits s g name.text
  layer (Expr-F.Word at name (Some x)) s g =
      element_fits (variable_named name.text s.variables) (x.0.made s) (fits_number (x.0.made s) (x.2 s g))
      (λ v e. g.variables name.text v e)
  layer (Expr-F.Brackets at x) s g = x.2 s g
  layer (Expr-F.Quantified at which name range of) s g =
      same_core s.bound range (gathered which (map (λ z. of.0.made (with_number s name.text z))
      (fit_values (numbers s.bound) range)))
      (gathered_fits which (λ z. of.0.made (with_number s name.text z)) (λ z. of.2 (with_number s name.text z)
      (inside_fits s name.text z g)) (fit_values (numbers s.bound) range))

  pub fits_law : (e : Expr) (s : Scope) → ScopeWithin slots params s → Fits (formed e s)
  fits_law e = two_expressions FitsIn form_layer form_layer layer e

pub expressions_within : ExpressionsWithin
expressions_within slots params e s g = fits_law slots params e s g
