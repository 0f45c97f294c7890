-- An expression's core is worth what the expression is, where names have no fault and no range and no divisor
-- is bad.
use Rattle.std.proofs.Common.{◌≡◌, ℕ, ℤ, pos, neg_ℤ, ◌+ℤ◌, ◌-ℤ◌, ◌*ℤ◌, List, [], ◌∷◌, map, Bool, true, false, cond}
use Rattle.std.proofs.Common.{not, ◌&&◌, ◌||◌, Option, Some, None, option_map, refl, sym, ap, ◌∙◌, subst, arith}
use Rattle.std.proofs.Common.{max}
use Rattle.std.proofs.lemmas.Int.{ints}
use Rattle.std.proofs.Math.IntN.{*ℤ_comm}
use Rattle.std.specs.Prelude.{fold}
use Rattle.std.specs.Option.{is_some, option_or}
use Rattle.std.specs.List.{list_all, list_any}
use Rattle.std.specs.Map.{lookup}
use Rattle.std.specs.Str.{bytes_eq}
use Rattle.std.specs.Int.RustNames.{int_le, int_lt, unsigned_abs}
use Rattle.case_tables.specs.declared.symbol_table.Symbol.{Symbol}
use Rattle.case_tables.specs.declared.word_table.Word.{Word}
use Rattle.unity_syntax.specs.declared.name.End.{End}
use Rattle.unity_syntax.specs.declared.name.Range.{Range}
use Rattle.unity_syntax.specs.declared.expression.Expr.{Expr}
use Rattle.unity_syntax.specs.declared.expression.Expr.TheOpen.{Expr-F}
use Rattle.unity_syntax.specs.declared.expression.Operator.{Operator}
use Rattle.unity_syntax.specs.TwoFolds.{Related, ExpressionLayers}
use Rattle.unity_syntax.proofs.ExpressionFolds.{two_expressions}
use Rattle.meaning_states.specs.State.{State, int_eq}
use Rattle.meaning_documents.specs.Names.{Bindings, Variable, Sight, with_name, number_of as number_named, or_else}
use Rattle.meaning_documents.specs.Names.{or_zero, slot_at, slot_named, slot_number, word_value, element_value}
use Rattle.meaning_documents.specs.Value as source
use Rattle.meaning_documents.specs.Value.{Meaning, truth, holds, end_value, range_values, total, value_layer, value}
use Rattle.meaning_executions.specs.Counting.{range_size, count_up}
use Rattle.core_terms.specs.declared.trees.CTerm.{CTerm}
use Rattle.core_terms.specs.declared.trees.CTerm.TheVariants.{Const, Slot, Param}
use Rattle.core_terms.specs.declared.trees.CForm.{CForm}
use Rattle.core_terms.specs.declared.trees.CForm.TheVariants.{Top, Bottom}
use Rattle.meaning_states.specs.Division.{divisor, floored, rest_of}
use Rattle.core_terms.specs.Folding.{number_of, quotient_term, remainder_term}
use Rattle.core_terms.specs.Values.{number_at, term_value, form_value}
use Rattle.core_terms.proofs.FoldingLaws.{value-quotient_term, value-remainder_term}
use Rattle.core_terms.proofs.PartLaws.{value-Const, value-Slot, value-Param, value-Top, value-Bottom}
use Rattle.meaning_documents.specs.Names.{variable_named}
use Rattle.expand_rules.specs.declared.cores.Core.{Core}
use Rattle.expand_rules.specs.declared.cores.Bound.{Bound}
use Rattle.expand_rules.specs.declared.cores.Flaws.{Flaws}
use Rattle.expand_rules.specs.declared.cores.Measure.{Measure}
use Rattle.expand_rules.specs.declared.cores.Formed.{Formed}
use Rattle.expand_rules.specs.Measures.{no_flaws, both_flaws, range_flaws, divisor_flaws, ends_weight, sum_measure}
use Rattle.expand_rules.specs.Measures.{multiple_measure, negation_measure}
use Rattle.expand_rules.specs.Measures.{over_measure, pair_measure, is_fit, place_of, misfit, range_misfit}
use Rattle.expand_rules.specs.Forming.{Scope, with_number, number_core, truth_core, term_of, constantly, varying}
use Rattle.expand_rules.specs.Forming.{number_constant, truth_constant, number_measure, as_number, truth_measure}
use Rattle.expand_rules.specs.Forming.{as_truth, through, both, sum_core, difference_core, negated_core}
use Rattle.expand_rules.specs.Forming.{at_least_core, zero_core, not_core, and_core, or_core, sum, difference}
use Rattle.expand_rules.specs.Forming.{negation, factor_of, multiple, product, divided, factored, at_least_zero}
use Rattle.expand_rules.specs.Forming.{divisor_of, bad_divisor, quotient_weight, remainder_weight}
use Rattle.expand_rules.specs.Forming.{is_zero, denial}
use Rattle.expand_rules.specs.Forming.{conjunction, disjunction, implication, equation_by, equation, excess}
use Rattle.expand_rules.specs.Forming.{comparison, signed, plus, bound_formed, typed, variable_formed}
use Rattle.expand_rules.specs.Forming.{formed_or_zero, word_formed, no_element, array_formed, element_by}
use Rattle.expand_rules.specs.Forming.{element_of, gathered_by, gathered, numbers, stands_for_number, is_number_end}
use Rattle.expand_rules.specs.Forming.{is_fixed_range, fit_values, quantified, Forming, factor_at, form_layer}
use Rattle.expand_rules.specs.Forming.{forming}
use Rattle.expand_correct.specs.Values.Worth.{core_value, bound_value, values_of}
use Rattle.core_terms.proofs.IntTests.{zero_tests, least_tests}
use Rattle.expand_rules.proofs.FlawLaws.{nearer_first, nearer_second, flaws_first, flaws_second}
use Rattle.expand_rules.proofs.KnownParts.{some-quotient_term, some-remainder_term, number-Const, truth-Top}
use Rattle.expand_rules.proofs.KnownParts.{truth-Bottom}
use Rattle.expand_rules.proofs.Chains.{value-chain}
use Rattle.core_terms.proofs.BoolLaws.{and_left, and_right}
use Rattle.expand_correct.proofs.Values.Bits.{IsBit, above_tests, same_truths, slot_by, slot_of_variable}
use Rattle.expand_correct.proofs.Values.Operations.{two, is_known, KeepsKnown, KeepBothKnown, known-sum}
use Rattle.expand_correct.proofs.Values.Operations.{known-difference}
use Rattle.expand_correct.proofs.Values.Operations.{known-negation, known-multiple, known-at_least, known-zero}
use Rattle.expand_correct.proofs.Values.Operations.{known-denial}
use Rattle.expand_correct.proofs.Values.Operations.{known-conjunction, known-disjunction, known-as_number}
use Rattle.expand_correct.proofs.Values.Operations.{known-as_truth}
use Rattle.expand_correct.proofs.Values.Operations.{holds_truth, value-term_of, value-form_of, value-sum}
use Rattle.expand_correct.proofs.Values.Operations.{value-difference, factor-known, floored_steady, rest_steady}
use Rattle.expand_correct.proofs.Values.Operations.{value-negation, value-multiple, value-at_least, value-zero}
use Rattle.expand_correct.proofs.Values.Operations.{value-denial}
use Rattle.expand_correct.proofs.Values.Operations.{value-conjunction, value-disjunction}

-- what fails of a part fails of the whole
abbrev Shows : (Measure → Measure) → Type 0
Shows count = (m : Measure) → (count m).flaws ≡ no_flaws → m.flaws ≡ no_flaws

abbrev ShowsBoth : (Measure → Measure → Measure) → Type 0
ShowsBoth count = (m n : Measure) → (count m n).flaws ≡ no_flaws → (m.flaws ≡ no_flaws) × (n.flaws ≡ no_flaws)

module _ (state params : List ℤ) where
  -- what an expression becomes is what it is worth
  pub record IsFormed (a : Formed) (z : ℤ) : Type 0 where
    pub known : a.constant ≡ true → is_known a.core ≡ true
    pub value : a.exact ≡ true → a.measure.flaws ≡ no_flaws → core_value state params a.core ≡ z

  abbrev pub AllSeen : List (List ℕ × Formed) → Bindings → Type 0
  AllSeen [] [] = Unit {0}
  AllSeen [] (b ∷ bs) = ⊥
  AllSeen (a ∷ rest) [] = ⊥
  AllSeen (a ∷ rest) (b ∷ bs) = (a.0 ≡ b.0) × IsFormed a.1 b.1 × AllSeen rest bs

  -- the state gives each variable of truths 0 or 1
  abbrev pub AreBits : List Variable → Type 0
  AreBits vs = (name : List ℕ) (v : Variable) (index : Option ℤ) → variable_named name vs ≡ Some v →
      v.is_truth ≡ true → IsBit (or_zero (slot_number state (slot_at v.first v.indices index)))

  -- a scope and what is seen there
  pub record Sees (s : Scope) (t : Sight) : Type 0 where
    pub variables : t.variables ≡ s.variables
    pub words : t.words ≡ s.words
    pub there : t.state ≡ state
    pub always : AllSeen s.always t.always
    pub bound : t.bindings ≡ values_of params s.bound
    pub bits : AreBits s.variables

  abbrev pub IsWorth : Forming → Meaning → Type 0
  IsWorth f m = (s : Scope) (t : Sight) → Sees s t → IsFormed (f.made s) (m t)

  abbrev V : Core → ℤ
  V c = core_value state params c

  -- operations

  formed_both : (op : Core → Core → Core) (count : Measure → Measure → Measure) (a b : Formed) (x y z : ℤ) →
      KeepBothKnown op → ShowsBoth count → (V a.core ≡ x → V b.core ≡ y → V (op a.core b.core) ≡ z) →
      IsFormed a x → IsFormed b y → IsFormed (both op count a b) z
  formed_both op count a b x y z k c v h i = record {
    known = λ e. k a.core b.core (h.known (and_left a.constant b.constant e))
        (i.known (and_right a.constant b.constant
        e));
    value = λ e f. v (h.value (and_left a.exact b.exact e) (c a.measure b.measure f).0)
        (i.value (and_right a.exact b.exact e) (c a.measure b.measure f).1);
  }

  formed_through : (op : Core → Core) (count : Measure → Measure) (a : Formed) (x z : ℤ) → KeepsKnown op →
      Shows count →
      (V a.core ≡ x → V (op a.core) ≡ z) → IsFormed a x → IsFormed (through op count a) z
  formed_through op count a x z k c v h =
      record { known = λ e. k a.core (h.known e); value = λ e f. v (h.value e (c a.measure f)) }

  pub formed_same : (a : Formed) (x y : ℤ) → x ≡ y → IsFormed a x → IsFormed a y
  formed_same a x y e h = subst (λ z. IsFormed a z) e h

  formed_constantly : (c : Core) (weight : ℕ) (z : ℤ) → is_known c ≡ true → V c ≡ z → IsFormed (constantly c weight) z
  formed_constantly c weight z k v = record { known = λ e. k; value = λ e f. v }

  formed_varying : (t : CTerm) (weight : ℕ) (z : ℤ) → term_value state params t ≡ z → IsFormed (varying t weight) z
  formed_varying t weight z v = record { known = λ e. cc e; value = λ e f. v }

  pub formed_number : (z : ℤ) → IsFormed (number_constant z) z
  formed_number z = formed_constantly (number_core (Const z)) (unsigned_abs z) z (ap is_some (number-Const z))
      (value-Const state params z)

  pub formed_top : IsFormed (truth_constant Top) (pos 1)
  formed_top = formed_constantly (truth_core Top) 0 (pos 1) (ap is_some truth-Top) (ap truth (value-Top state params))

  formed_bottom : IsFormed (truth_constant Bottom) (pos 0)
  formed_bottom = formed_constantly (truth_core Bottom) 0 (pos 0) (ap is_some truth-Bottom)
      (ap truth (value-Bottom state params))

  number_shows : (c : Core) → Shows (number_measure c)
  number_shows (Core.Number t known) m h = h
  number_shows (Core.Truth f known) m h = h

  truth_shows : (c : Core) → Shows (truth_measure c)
  truth_shows (Core.Number t known) m h = flaws_first m.flaws no_flaws h
  truth_shows (Core.Truth f known) m h = h

  pub formed_as_number : (a : Formed) (x : ℤ) → IsFormed a x → IsFormed (as_number a) x
  formed_as_number a x h = record {
    known = λ e. known-as_number a.core (h.known e);
    value = λ e f. value-term_of state params a.core ∙ h.value e (number_shows a.core a.measure f);
  }

  pub formed_as_truth : (a : Formed) (x : ℤ) → IsFormed a x → IsFormed (as_truth a) (truth (holds x))
  formed_as_truth a x h = record {
    known = λ e. known-as_truth a.core (h.known e);
    value = λ e f. ap truth (value-form_of state params a.core
        ∙ ap holds (h.value e (truth_shows a.core a.measure f)));
  }

  sum_shows : ShowsBoth sum_measure
  sum_shows m n h = (flaws_first m.flaws n.flaws h, flaws_second m.flaws n.flaws h)

  multiple_shows : (k : ℤ) → ShowsBoth (multiple_measure k)
  multiple_shows k m n h = (flaws_first m.flaws n.flaws h, flaws_second m.flaws n.flaws h)

  pair_shows : ShowsBoth pair_measure
  pair_shows m n h = (flaws_first m.flaws n.flaws h, flaws_second m.flaws n.flaws h)

  formed_sum : (a b : Formed) (x y : ℤ) → IsFormed a x → IsFormed b y → IsFormed (sum a b) (x +ℤ y)
  formed_sum a b x y h i = formed_both sum_core sum_measure (as_number a) (as_number b) x y (x +ℤ y) known-sum
      sum_shows
      (λ e f. value-sum state params (as_number a).core (as_number b).core ∙ two (λ v w. v +ℤ w) _ _ _ _ e f)
      (formed_as_number a x h) (formed_as_number b y i)

  formed_difference : (a b : Formed) (x y : ℤ) → IsFormed a x → IsFormed b y → IsFormed (difference a b) (x -ℤ y)
  formed_difference a b x y h i = formed_both difference_core sum_measure (as_number a) (as_number b) x y (x -ℤ y)
      known-difference sum_shows
      (λ e f. value-difference state params (as_number a).core (as_number b).core ∙ two (λ v w. v -ℤ w) _ _ _ _ e f)
      (formed_as_number a x h) (formed_as_number b y i)

  formed_negation : (a : Formed) (x : ℤ) → IsFormed a x → IsFormed (negation a) (neg_ℤ x)
  formed_negation a x h = formed_through negated_core negation_measure (as_number a) x (neg_ℤ x) known-negation
      (λ m e. e)
      (λ e. value-negation state params (as_number a).core ∙ ap neg_ℤ e) (formed_as_number a x h)

  formed_at_least : (a : Formed) (x : ℤ) → IsFormed a x → IsFormed (at_least_zero a) (truth (int_le (pos 0) x))
  formed_at_least a x h = formed_through at_least_core over_measure (as_number a) x _ known-at_least (λ m e. e)
      (λ e. value-at_least state params (as_number a).core ∙ ap (λ v. truth (int_le (pos 0) v)) e)
      (formed_as_number a x h)

  formed_zero : (a : Formed) (x : ℤ) → IsFormed a x → IsFormed (is_zero a) (truth (int_eq x (pos 0)))
  formed_zero a x h = formed_through zero_core over_measure (as_number a) x _ known-zero (λ m e. e)
      (λ e. value-zero state params (as_number a).core ∙ ap (λ v. truth (int_eq v (pos 0))) e) (formed_as_number a x
      h)

  twice_holds : (x : ℤ) → holds (truth (holds x)) ≡ holds x
  twice_holds x = holds_truth (holds x)

  formed_denial : (a : Formed) (x : ℤ) → IsFormed a x → IsFormed (denial a) (truth (not (holds x)))
  formed_denial a x h = formed_through not_core over_measure (as_truth a) (truth (holds x)) _ known-denial (λ m e. e)
      (λ e. value-denial state params (as_truth a).core ∙ ap (λ v. truth (not (holds v))) e ∙ ap (λ v. truth (not v))
      (twice_holds x))
      (formed_as_truth a x h)

  formed_conjunction : (a b : Formed) (x y : ℤ) → IsFormed a x → IsFormed b y → IsFormed (conjunction a b)
      (truth (holds x && holds y))
  formed_conjunction a b x y h i = formed_both and_core pair_measure (as_truth a) (as_truth b) (truth (holds x))
      (truth (holds y)) _ known-conjunction pair_shows
      (λ e f. value-conjunction state params (as_truth a).core (as_truth b).core
      ∙ two (λ v w. truth (holds v && holds w)) _ _ _ _ e f
      ∙ two (λ v w. truth (v && w)) _ _ _ _ (twice_holds x) (twice_holds y))
      (formed_as_truth a x h) (formed_as_truth b y i)

  formed_disjunction : (a b : Formed) (x y : ℤ) → IsFormed a x → IsFormed b y → IsFormed (disjunction a b)
      (truth (holds x || holds y))
  formed_disjunction a b x y h i = formed_both or_core pair_measure (as_truth a) (as_truth b) (truth (holds x))
      (truth (holds y)) _ known-disjunction pair_shows
      (λ e f. value-disjunction state params (as_truth a).core (as_truth b).core
      ∙ two (λ v w. truth (holds v || holds w)) _ _ _ _ e f
      ∙ two (λ v w. truth (v || w)) _ _ _ _ (twice_holds x) (twice_holds y))
      (formed_as_truth a x h) (formed_as_truth b y i)

  implied : (a : Formed) (x y : ℤ) → truth (holds (truth (not (holds x))) || holds y) ≡
      truth (not (holds x) || holds y)
  implied a x y = ap (λ v. truth (v || holds y)) (holds_truth (not (holds x)))

  formed_implication : (a b : Formed) (x y : ℤ) → IsFormed a x → IsFormed b y → IsFormed (implication a b)
      (truth (not (holds x) || holds y))
  formed_implication a b x y h i = formed_same _ _ _ (implied a x y)
      (formed_disjunction (denial a) b (truth (not (holds x))) y (formed_denial a x h) i)

  -- comparisons

  truths_equal : (a b : Bool) (x y : ℤ) → truth a ≡ x → truth b ≡ y →
      truth (holds (truth (not (holds x) || holds y)) && holds (truth (not (holds y) || holds x))) ≡
      truth (int_eq x y)
  truths_equal a b x y e f =
      subst (λ v. truth (holds (truth (not (holds v) || holds y)) && holds (truth (not (holds y) || holds v))) ≡
      truth (int_eq v y)) e
      (subst (λ w. truth (holds (truth (not (holds (truth a)) || holds w)) && holds (truth (not (holds w) || holds
      (truth a)))) ≡ truth (int_eq (truth a) w)) f
      (same_truths a b))

  equal_truths : (a b : Formed) (f g : CForm) (k l : Option Bool) (x y : ℤ) → a.core ≡ Core.Truth f k → b.core ≡
      Core.Truth g l →
      IsFormed a x → IsFormed b y → IsFormed (conjunction (implication a b) (implication b a)) (truth (int_eq x y))
  equal_truths a b f g k l x y c d h i =
      let w = formed_conjunction (implication a b) (implication b a) _ _ (formed_implication a b x y h i)
      (formed_implication b a y x i h) in
      record {
        known = w.known;
        value = λ e n.
            let left = and_left (a.exact && b.exact) (b.exact && a.exact) e in
            let first = (pair_shows (as_truth (implication a b)).measure (as_truth (implication b a)).measure n).0 in
            let inner = pair_shows (as_truth (denial a)).measure (as_truth b).measure first in
            w.value e n
            ∙ truths_equal (form_value state params f) (form_value state params g) x y
            (ap V (sym c) ∙ h.value (and_left a.exact b.exact left) (truth_shows a.core a.measure inner.0))
            (ap V (sym d) ∙ i.value (and_right a.exact b.exact left) (truth_shows b.core b.measure inner.1));
      }

  equal_numbers : (a b : Formed) (x y : ℤ) → IsFormed a x → IsFormed b y → IsFormed (is_zero (difference a b))
      (truth (int_eq x y))
  equal_numbers a b x y h i = formed_same _ _ _ (ap truth (zero_tests x y)) (formed_zero (difference a b) (x -ℤ y)
      (formed_difference a b x y h i))

  equation_is : (a b : Formed) (x y : ℤ) → IsFormed a x → IsFormed b y → (c d : Core) → a.core ≡ c → b.core ≡ d →
      IsFormed (equation_by c d a b) (truth (int_eq x y))
  equation_is a b x y h i (Core.Truth f k) (Core.Truth g l) e j = equal_truths a b f g k l x y e j h i
  equation_is a b x y h i (Core.Truth f k) (Core.Number t l) e j = equal_numbers a b x y h i
  equation_is a b x y h i (Core.Number t k) (Core.Truth g l) e j = equal_numbers a b x y h i
  equation_is a b x y h i (Core.Number t k) (Core.Number u l) e j = equal_numbers a b x y h i

  formed_equation : (a b : Formed) (x y : ℤ) → IsFormed a x → IsFormed b y → IsFormed (equation a b)
      (truth (int_eq x y))
  formed_equation a b x y h i = equation_is a b x y h i a.core b.core refl refl

  formed_excess : (a b : Formed) (x y : ℤ) → IsFormed a x → IsFormed b y → IsFormed (excess a b) (truth (int_lt y x))
  formed_excess a b x y h i = formed_same _ _ _ (ap truth (above_tests x y))
      (formed_at_least (difference (difference a b) (number_constant (pos 1))) ((x -ℤ y) -ℤ pos 1)
      (formed_difference (difference a b) (number_constant (pos 1)) (x -ℤ y) (pos 1) (formed_difference a b x y h i)
      (formed_number (pos 1))))

  formed_least : (a b : Formed) (x y : ℤ) → IsFormed a x → IsFormed b y → IsFormed (at_least_zero (difference a b))
      (truth (int_le y x))
  formed_least a b x y h i = formed_same _ _ _ (ap truth (least_tests y x))
      (formed_at_least (difference a b) (x -ℤ y) (formed_difference a b x y h i))

  formed_comparison : (r : Symbol) (a b : Formed) (x y : ℤ) → IsFormed a x → IsFormed b y →
      IsFormed (comparison r a b)
      (truth (source.related r x y))
  formed_comparison Symbol.Equal a b x y h i = formed_equation a b x y h i
  formed_comparison Symbol.NotEqual a b x y h i = formed_same _ _ _ (ap (λ v. truth (not v))
      (holds_truth (int_eq x y)))
      (formed_denial (equation a b) (truth (int_eq x y)) (formed_equation a b x y h i))
  formed_comparison Symbol.Below a b x y h i = formed_excess b a y x i h
  formed_comparison Symbol.AtMost a b x y h i = formed_least b a y x i h
  formed_comparison Symbol.Above a b x y h i = formed_excess a b x y h i
  formed_comparison Symbol.AtLeast a b x y h i = formed_least a b x y h i
  formed_comparison _ a b x y h i = formed_both (λ v w. truth_core Bottom) pair_measure a b x y (pos 0)
      (λ v w e f. ap is_some truth-Bottom) pair_shows
      (λ e f. ap truth (value-Bottom state params)) h i

  -- sums and products

  formed_signed : (minus : Bool) (a : Formed) (x : ℤ) → IsFormed a x → IsFormed (signed minus a)
      (source.signed minus x)
  formed_signed true a x h = formed_negation a x h
  formed_signed false a x h = formed_as_number a x h

  formed_plus : (a : Formed) (o : Symbol) (b : Formed) (x y : ℤ) → IsFormed a x → IsFormed b y →
      IsFormed (plus a (o, b)) (source.plus x o y)
  formed_plus a Symbol.Minus b x y h i = formed_difference a b x y h i
  formed_plus a _ b x y h i = formed_sum a b x y h i

  multiple_worth : (k a : Formed) (x y : ℤ) → IsFormed k x → IsFormed a y → k.constant ≡ true → k.exact ≡ true →
      a.exact ≡ true →
      (multiple k a).measure.flaws ≡ no_flaws → V (multiple k a).core ≡ x *ℤ y
  multiple_worth k a x y h i c e f n =
      let parts = multiple_shows (factor_of k.core) (as_number k).measure (as_number a).measure n in
      value-multiple state params (as_number k).core (as_number a).core (known-as_number k.core (h.known c))
      ∙ two (λ v w. v *ℤ w) _ _ _ _ ((formed_as_number k x h).value e parts.0) ((formed_as_number a y i).value f
      parts.1)

  product_worth : (a b : Formed) (x y : ℤ) → IsFormed a x → IsFormed b y → (c : Bool) → a.constant ≡ c →
      (c || b.constant) ≡ true →
      a.exact ≡ true → b.exact ≡ true → (cond c (multiple a b) (multiple b a)).measure.flaws ≡ no_flaws →
      V (cond c (multiple a b) (multiple b a)).core ≡ x *ℤ y
  product_worth a b x y h i true c d e f n = multiple_worth a b x y h i c e f n
  product_worth a b x y h i false c d e f n = multiple_worth b a y x i h d f e n ∙ *ℤ_comm y x

  product_known : (a b : Formed) (x y : ℤ) → IsFormed a x → IsFormed b y → (c : Bool) → a.constant ≡ true →
      b.constant ≡ true →
      is_known (cond c (multiple a b) (multiple b a)).core ≡ true
  product_known a b x y h i true c d = known-multiple (as_number a).core (as_number b).core (known-as_number a.core
      (h.known c)) (known-as_number b.core (i.known d))
  product_known a b x y h i false c d = known-multiple (as_number b).core (as_number a).core (known-as_number b.core
      (i.known d)) (known-as_number a.core (h.known c))

  formed_product : (a b : Formed) (x y : ℤ) → IsFormed a x → IsFormed b y → IsFormed (product a b) (x *ℤ y)
  formed_product a b x y h i = record {
    known = λ e. product_known a b x y h i a.constant (and_left a.constant b.constant e) (and_right a.constant
        b.constant e);
    value = λ e n.
        let parts = and_right (a.constant || b.constant) (a.exact && b.exact) e in
        product_worth a b x y h i a.constant refl (and_left (a.constant || b.constant) (a.exact && b.exact) e)
        (and_left a.exact b.exact parts) (and_right a.exact b.exact parts) n;
  }

  -- a quotient and a remainder, by any way to divide that takes 1 for each divisor below it
  module _ (op : ℤ → CTerm → CTerm) (weight : ℕ → ℕ → ℕ) (by : ℤ → ℤ → ℤ)
      (known_op : (k : ℤ) (t : CTerm) → is_some (number_of (op k t)) ≡ is_some (number_of t))
      (value_op : (k : ℤ) (t : CTerm) → term_value state params (op k t) ≡ by (term_value state params t) k)
      (steady : (z k : ℤ) → by z (divisor k) ≡ by z k) (at : ℕ) where
    divided_worth : (a b : Formed) (x y : ℤ) → IsFormed a x → IsFormed b y → b.constant ≡ true →
        (number_measure b.core b.measure).flaws ≡ no_flaws → V (as_number a).core ≡ x → V (as_number b).core ≡ y →
        V (divided op weight at a b).core ≡ by x y
    divided_worth a b x y h i c n v w =
        value_op (divisor_of (as_number b)) (term_of a.core)
        ∙ two by _ _ _ _ v (ap (λ (k : Flaws). cond (is_some k.divisor) (pos 1) (divisor (factor_of b.core))) n)
        ∙ steady x (factor_of b.core) ∙ ap (by x) (factor-known state params b.core (i.known c) ∙ w)

    formed_divided : (a b : Formed) (x y : ℤ) → IsFormed a x → IsFormed b y →
        IsFormed (divided op weight at a b) (by x y)
    formed_divided a b x y h i = record {
      known = λ e. known_op (divisor_of (as_number b)) (term_of a.core)
          ∙ known-as_number a.core (h.known (and_left a.constant b.constant e));
      value = λ e n.
          let parts = and_right b.constant (a.exact && b.exact) e in
          let first = number_measure a.core a.measure in
          let second = number_measure b.core b.measure in
          let bad = divisor_flaws (bad_divisor at (as_number b)) in
          let of_second = flaws_first second.flaws bad
          (flaws_second first.flaws (both_flaws second.flaws bad) n) in
          divided_worth a b x y h i (and_left b.constant (a.exact && b.exact) e) of_second
          ((formed_as_number a x h).value (and_left a.exact b.exact parts)
          (flaws_first first.flaws (both_flaws second.flaws bad) n))
          ((formed_as_number b y i).value (and_right a.exact b.exact parts) of_second);
    }

  formed_factored : (a : Formed) (o : Operator) (at : ℕ) (b : Formed) (x y : ℤ) → IsFormed a x → IsFormed b y →
      IsFormed (factored a ((o, at), b)) (source.operated x o y)
  formed_factored a Operator.Times at b x y h i = formed_product a b x y h i
  formed_factored a Operator.Div at b x y h i = formed_divided quotient_term quotient_weight floored some-quotient_term
      (value-quotient_term state params) floored_steady at a b x y h i
  formed_factored a Operator.Mod at b x y h i = formed_divided remainder_term remainder_weight rest_of
      some-remainder_term (value-remainder_term state params) rest_steady at a b x y h i

  -- words

  abbrev Meant : Option Formed → Option ℤ → Type 0
  Meant None None = Unit {0}
  Meant None (Some z) = ⊥
  Meant (Some a) None = ⊥
  Meant (Some a) (Some z) = IsFormed a z

  meant_or : (a b : Option Formed) (x y : Option ℤ) → Meant a x → Meant b y → Meant (option_or a b) (or_else x y)
  meant_or None b None y h k = k
  meant_or None b (Some x) y h k = absurd h
  meant_or (Some a) b None y h k = absurd h
  meant_or (Some a) b (Some x) y h k = h

  meant_zero : (a : Option Formed) (x : Option ℤ) → Meant a x → IsFormed (formed_or_zero a) (or_zero x)
  meant_zero None None h = formed_number (pos 0)
  meant_zero None (Some x) h = absurd h
  meant_zero (Some a) None h = absurd h
  meant_zero (Some a) (Some x) h = h

  one_bound : (b : Bound) → IsFormed (bound_formed b) (bound_value params b)
  one_bound (Bound.Number z) = formed_number z
  one_bound (Bound.Param n weight) = formed_varying (Param n) (max 1 weight) (number_at params n)
      (value-Param state params n)

  meant_bound : (name : List ℕ) (bs : List (List ℕ × Bound)) →
      Meant (option_map bound_formed (lookup (bytes_eq name) bs)) (number_named name (values_of params bs))
  meant_bound name [] = tt
  meant_bound name (b ∷ rest) =
      elim (bytes_eq name b.0) as (λ t. Meant (option_map bound_formed (cond t (Some b.1) (lookup (bytes_eq name)
      rest)))
      (cond t (Some (bound_value params b.1)) (number_named name (values_of params rest)))) [
        | true ↦ one_bound b.1
        | false ↦ meant_bound name rest
      ]

  meant_always : (name : List ℕ) (fs : List (List ℕ × Formed)) (bs : Bindings) → AllSeen fs bs →
      Meant (lookup (bytes_eq name) fs) (number_named name bs)
  meant_always name [] [] h = tt
  meant_always name [] (b ∷ bs) h = absurd h
  meant_always name (a ∷ rest) [] h = absurd h
  meant_always name (a ∷ rest) (b ∷ bs) h =
      subst (λ n. Meant (lookup (bytes_eq name) (a ∷ rest)) (cond (bytes_eq name n) (Some b.1)
      (number_named name bs)))
      h.0
      (elim (bytes_eq name a.0) as (λ t. Meant (cond t (Some a.1) (lookup (bytes_eq name) rest)) (cond t (Some b.1)
      (number_named name bs))) [
        | true ↦ h.1
        | false ↦ meant_always name rest bs h.2
      ])

  typed_by : (b : Bool) (a : Formed) (z : ℤ) → (b ≡ true → IsBit z) → IsFormed a z → IsFormed (cond b (as_truth a) a)
      z
  typed_by true a z h i = formed_same _ _ _ (sym (h refl)) (formed_as_truth a z i)
  typed_by false a z h i = i

  plain_by : (v : Variable) (slot : Option ℕ) → (v.is_truth ≡ true → IsBit (or_zero (slot_number state slot))) →
      Meant (option_map (λ n. typed v (varying (Slot n) (ends_weight v.range))) slot) (slot_number state slot)
  plain_by v None h = tt
  plain_by v (Some n) h = typed_by v.is_truth (varying (Slot n) (ends_weight v.range)) (number_at state n) h
      (formed_varying (Slot n) (ends_weight v.range) (number_at state n) (value-Slot state params n))

  meant_variable : (m : Option Variable) →
      ((v : Variable) → m ≡ Some v → v.is_truth ≡ true →
      IsBit (or_zero (slot_number state (slot_at v.first v.indices None)))) →
      Meant (variable_formed m) (slot_number state (slot_by m None))
  meant_variable None h = tt
  meant_variable (Some v) h = plain_by v (slot_at v.first v.indices None) (h v refl)

  meant_word : (name : List ℕ) (bs : Bindings) → Meant (option_map number_constant (lookup (bytes_eq name) bs))
      (number_named name bs)
  meant_word name [] = tt
  meant_word name (b ∷ rest) =
      elim (bytes_eq name b.0) as (λ t. Meant (option_map number_constant (cond t (Some b.1) (lookup (bytes_eq name)
      rest))) (cond t (Some b.1) (number_named name rest))) [
        | true ↦ formed_number b.1
        | false ↦ meant_word name rest
      ]

  abbrev word_by : Bindings → Bindings → Option ℕ → Bindings → List ℕ → State → ℤ
  word_by bindings always slot words name there = or_zero (or_else (number_named name bindings)
      (or_else (number_named name always)
      (or_else (slot_number there slot) (number_named name words))))

  word_same : (s : Scope) (t : Sight) (name : List ℕ) → Sees s t →
      word_by (values_of params s.bound) t.always (slot_by (variable_named name s.variables) None) s.words name state
      ≡
      word_value t name
  word_same s t name h =
      sym (ap (λ b. word_by b t.always (slot_named name None t.variables) t.words name t.state) h.bound
      ∙ ap (λ u. word_by (values_of params s.bound) t.always (slot_named name None t.variables) t.words name u)
      h.there
      ∙ ap (λ u. word_by (values_of params s.bound) t.always u t.words name state) (ap (slot_named name None)
      h.variables ∙ slot_of_variable name None s.variables)
      ∙ ap (λ u. word_by (values_of params s.bound) t.always (slot_by (variable_named name s.variables) None) u name
      state) h.words)

  formed_word : (s : Scope) (t : Sight) (name : List ℕ) → Sees s t → IsFormed (word_formed s name) (word_value t name)
  formed_word s t name h = formed_same _ _ _ (word_same s t name h)
      (meant_zero _ _ (meant_or _ _ _ _ (meant_bound name s.bound) (meant_or _ _ _ _ (meant_always name s.always
      t.always h.always)
      (meant_or _ _ _ _ (meant_variable (variable_named name s.variables) (λ v e f. h.bits name v None e f))
      (meant_word name s.words)))))

  formed_no_element : (i : Formed) → IsFormed (no_element i) (pos 0)
  formed_no_element i = record { known = λ e. cc e; value = λ e f. value-Const state params (pos 0) }

  array_worth : (v : Variable) (i : Formed) (z : ℤ) (r : ℤ × ℤ) → IsFormed i z →
      IsFormed (array_formed v i r) (or_zero (slot_number state (slot_at v.first (Some r) (Some z))))
  array_worth v i z r h = record {
    known = λ e. cc e;
    value = λ e f. value-chain state params (term_of i.core) z (value-term_of state params i.core
        ∙ h.value e f) v.first r;
  }

  element_worth : (v : Variable) (i : Formed) (z : ℤ) (m : Option (ℤ × ℤ)) →
      (v.is_truth ≡ true → IsBit (or_zero (slot_number state (slot_at v.first m (Some z))))) → IsFormed i z →
      IsFormed (element_by v i m) (or_zero (slot_number state (slot_at v.first m (Some z))))
  element_worth v i z None b h = formed_no_element i
  element_worth v i z (Some r) b h = typed_by v.is_truth (array_formed v i r) _ b (array_worth v i z r h)

  element_meant : (m : Option Variable) (i : Formed) (z : ℤ) →
      ((v : Variable) → m ≡ Some v → v.is_truth ≡ true → IsBit (or_zero (slot_number state (slot_at v.first v.indices
      (Some z))))) → IsFormed i z →
      IsFormed (element_of m i) (or_zero (slot_number state (slot_by m (Some z))))
  element_meant None i z b h = formed_no_element i
  element_meant (Some v) i z b h = element_worth v i z v.indices (b v refl) h

  formed_element : (s : Scope) (t : Sight) (name : List ℕ) (i : Formed) (z : ℤ) → Sees s t → IsFormed i z →
      IsFormed (element_of (variable_named name s.variables) (as_number i)) (element_value t name z)
  formed_element s t name i z h k = formed_same _ _ _
      (sym (ap (λ u. or_zero (slot_number u (slot_named name (Some z) t.variables))) h.there
      ∙ ap (λ u. or_zero (slot_number state u)) (ap (slot_named name (Some z)) h.variables ∙ slot_of_variable name
      (Some z) s.variables)))
      (element_meant (variable_named name s.variables) (as_number i) z (λ v e f. h.bits name v (Some z) e f)
      (formed_as_number i z k))

  -- parts in a row

  abbrev AllFormed : List Formed → List ℤ → Type 0
  AllFormed [] [] = Unit {0}
  AllFormed [] (z ∷ zs) = ⊥
  AllFormed (a ∷ rest) [] = ⊥
  AllFormed (a ∷ rest) (z ∷ zs) = IsFormed a z × AllFormed rest zs

  abbrev Joins : (Formed → Formed → Formed) → (ℤ → ℤ → ℤ) → Type 0
  Joins op g = (a b : Formed) (x y : ℤ) → IsFormed a x → IsFormed b y → IsFormed (op a b) (g x y)

  formed_joined : (op : Formed → Formed → Formed) (g : ℤ → ℤ → ℤ) (a : Formed) (x : ℤ) (bs : List Formed)
      (ys : List ℤ)
      →
      Joins op g → IsFormed a x → AllFormed bs ys → IsFormed (fold op a bs) (fold g x ys)
  formed_joined op g a x [] [] o h k = h
  formed_joined op g a x [] (y ∷ ys) o h k = absurd k
  formed_joined op g a x (b ∷ bs) [] o h k = absurd k
  formed_joined op g a x (b ∷ bs) (y ∷ ys) o h k = formed_joined op g (op a b) (g x y) bs ys o (o a b x y h k.0) k.1

  -- a truth and all of those that follow
  all_follow : (b : Bool) (ys : List ℤ) → fold (λ x y. truth (holds x && holds y)) (truth b) ys ≡
      truth (b && list_all holds ys)
  all_follow true [] = refl
  all_follow false [] = refl
  all_follow true (y ∷ ys) = all_follow (holds y) ys
  all_follow false (y ∷ ys) = all_follow false ys

  any_follows : (b : Bool) (ys : List ℤ) → fold (λ x y. truth (holds x || holds y)) (truth b) ys ≡
      truth (b || list_any holds ys)
  any_follows true [] = refl
  any_follows false [] = refl
  any_follows true (y ∷ ys) = any_follows true ys
  any_follows false (y ∷ ys) = any_follows (holds y) ys

  sum_assoc : (x y z : ℤ) → (x +ℤ y) +ℤ z ≡ x +ℤ (y +ℤ z)
  sum_assoc x y z = omega (arith, ints)

  sum_follows : (x : ℤ) (ys : List ℤ) → fold (λ x y. x +ℤ y) x ys ≡ x +ℤ total ys
  sum_follows x [] = omega (arith, ints)
  sum_follows x (y ∷ ys) = sum_follows (x +ℤ y) ys ∙ sum_assoc x y (total ys)

  sum_gathered : (fs : List Formed) (zs : List ℤ) → AllFormed fs zs → IsFormed (gathered_by (number_constant (pos 0))
      as_number sum fs) (total zs)
  sum_gathered [] [] h = formed_number (pos 0)
  sum_gathered [] (z ∷ zs) h = absurd h
  sum_gathered (a ∷ rest) [] h = absurd h
  sum_gathered (a ∷ rest) (z ∷ zs) h = formed_same _ _ _ (sum_follows z zs)
      (formed_joined sum (λ x y. x +ℤ y) (as_number a) z rest zs formed_sum (formed_as_number a z h.0) h.1)

  formed_gathered : (which : Word) (fs : List Formed) (zs : List ℤ) → AllFormed fs zs → IsFormed (gathered which fs)
      (source.gathered which zs)
  formed_gathered Word.All [] [] h = formed_top
  formed_gathered Word.All [] (z ∷ zs) h = absurd h
  formed_gathered Word.All (a ∷ rest) [] h = absurd h
  formed_gathered Word.All (a ∷ rest) (z ∷ zs) h = formed_same _ _ _ (all_follow (holds z) zs)
      (formed_joined conjunction (λ x y. truth (holds x && holds y)) (as_truth a) (truth (holds z)) rest zs
      formed_conjunction (formed_as_truth a z h.0) h.1)
  formed_gathered Word.Any [] [] h = formed_bottom
  formed_gathered Word.Any [] (z ∷ zs) h = absurd h
  formed_gathered Word.Any (a ∷ rest) [] h = absurd h
  formed_gathered Word.Any (a ∷ rest) (z ∷ zs) h = formed_same _ _ _ (any_follows (holds z) zs)
      (formed_joined disjunction (λ x y. truth (holds x || holds y)) (as_truth a) (truth (holds z)) rest zs
      formed_disjunction (formed_as_truth a z h.0) h.1)
  formed_gathered _ fs zs h = sum_gathered fs zs h

  -- quantifiers

  pub sees_inside : (s : Scope) (t : Sight) (name : List ℕ) (z : ℤ) → Sees s t → Sees (with_number s name z)
      (with_name t name z)
  sees_inside s t name z h = record {
    variables = h.variables;
    words = h.words;
    there = h.there;
    always = h.always;
    bound = ap (λ b. (name, z) ∷ b) h.bound;
    bits = h.bits;
  }

  fixed_name : (name : List ℕ) (bs : List (List ℕ × Bound)) → stands_for_number (lookup (bytes_eq name) bs) ≡ true →
      number_named name (values_of params bs) ≡ number_named name (numbers bs)
  fixed_name name [] = λ h. refl
  fixed_name name ((n, Bound.Number z) ∷ rest) =
      elim (bytes_eq name n) as (λ b. stands_for_number (cond b (Some (Bound.Number z)) (lookup (bytes_eq name) rest)) ≡
      true →
      cond b (Some z) (number_named name (values_of params rest)) ≡ cond b (Some z) (number_named name
      (numbers rest))) [
        | true ↦ λ h. refl
        | false ↦ λ h. fixed_name name rest h
      ]
  fixed_name name ((n, Bound.Param k weight) ∷ rest) =
      elim (bytes_eq name n) as (λ b. stands_for_number
      (cond b (Some (Bound.Param k weight)) (lookup (bytes_eq name) rest)) ≡
      true →
      cond b (Some (number_at params k)) (number_named name (values_of params rest)) ≡ cond b (Some (pos 0))
      (number_named name (numbers rest))) [
        | true ↦ λ h. cc h
        | false ↦ λ h. fixed_name name rest h
      ]

  fixed_end : (bs : List (List ℕ × Bound)) (e : End) → is_number_end bs e ≡ true → end_value (values_of params bs) e ≡
      end_value (numbers bs) e
  fixed_end bs (End.Number at minus number) h = refl
  fixed_end bs (End.Word at name offset) h = ap (λ v. source.with_offset (or_zero v) offset) (fixed_name name.text bs
      h)

  fixed_range : (bs : List (List ℕ × Bound)) (r : Range) → is_fixed_range bs r ≡ true → range_values
      (values_of params bs) r ≡ range_values (numbers bs) r
  fixed_range bs r h =
      let l = fixed_end bs r.low (and_left (is_number_end bs r.low) (is_number_end bs r.high) h) in
      let k = fixed_end bs r.high (and_right (is_number_end bs r.low) (is_number_end bs r.high) h) in
      ap (λ a. count_up a (range_size (a, end_value (values_of params bs) r.high))) l
      ∙ ap (λ a. count_up (end_value (numbers bs) r.low) (range_size (end_value (numbers bs) r.low, a))) k

  fit_end : (b : Bindings) (e : End) → misfit b e ≡ None → is_fit (end_value b e) ≡ true
  fit_end b e = elim (is_fit (end_value b e)) as (λ v. cond v None (Some (place_of e)) ≡ None → v ≡ true) [
    | true ↦ λ h. refl
    | false ↦ λ h. cc h
  ]

  -- where no end is too large and each word stands for a number, the range has its numbers
  pub range_numbers : (bs : List (List ℕ × Bound)) (r : Range) → is_fixed_range bs r ≡ true → range_misfit
      (numbers bs)
      r ≡ None →
      fit_values (numbers bs) r ≡ range_values (values_of params bs) r
  range_numbers bs r h n =
      ap (λ v. cond v (range_values (numbers bs) r) [])
      (two (λ x y. x && y) _ true _ true (fit_end (numbers bs) r.low (nearer_first (misfit (numbers bs) r.low)
      (misfit (numbers bs) r.high) n))
      (fit_end (numbers bs) r.high (nearer_second (misfit (numbers bs) r.low) (misfit (numbers bs) r.high) n)))
      ∙ sym (fixed_range bs r h)

  abbrev Part : Type 0
  Part = Related IsWorth

  instances_formed : (s : Scope) (t : Sight) (name : List ℕ) (of : Part) (zs : List ℤ) → Sees s t →
      AllFormed (map (λ z. of.0.made (with_number s name z)) zs) (map (λ z. of.1 (with_name t name z)) zs)
  instances_formed s t name of [] h = tt
  instances_formed s t name of (z ∷ zs) h =
      (of.2 (with_number s name z) (with_name t name z) (sees_inside s t name z h), instances_formed s t name of zs h)

  formed_quantified : (bs : List (List ℕ × Bound)) (r : Range) (a : Formed) (x y : ℤ) →
      (is_fixed_range bs r ≡ true → range_misfit (numbers bs) r ≡ None → x ≡ y) → IsFormed a x →
      IsFormed (quantified bs r a) y
  formed_quantified bs r a x y f h = record {
    known = h.known;
    value = λ e n.
        let misfit = range_misfit (numbers bs) r in
        h.value (and_right (is_fixed_range bs r) a.exact e) (flaws_second (range_flaws misfit) a.measure.flaws n)
        ∙ f (and_left (is_fixed_range bs r) a.exact e) (ap (λ (k : Flaws). k.range)
        (flaws_first (range_flaws misfit) a.measure.flaws n));
  }

  -- each kind of expression

  parts_formed : (s : Scope) (t : Sight) (xs : List Part) → Sees s t →
      AllFormed (map (λ m. m.made s) (map (λ k. k.0) xs)) (map (λ m. m t) (map (λ k. k.1) xs))
  parts_formed s t [] h = tt
  parts_formed s t (x ∷ xs) h = (x.2 s t h, parts_formed s t xs h)

  formed_added : (s : Scope) (t : Sight) (a : Formed) (z : ℤ) (xs : List (Symbol × Part)) → Sees s t → IsFormed a z →
      IsFormed (fold plus a (map (λ (part : Symbol × Forming). (part.0, part.1.made s)) (map (λ (k : Symbol × Part).
      (k.0, k.1.0)) xs)))
      (source.added t z (map (λ (k : Symbol × Part). (k.0, k.1.1)) xs))
  formed_added s t a z [] h k = k
  formed_added s t a z (x ∷ xs) h k =
      formed_added s t (plus a (x.0, x.1.0.made s)) (source.plus z x.0 (x.1.1 t)) xs h
      (formed_plus a x.0 (x.1.0.made s) z (x.1.1 t) k (x.1.2 s t h))

  formed_multiplied : (s : Scope) (t : Sight) (a : Formed) (z : ℤ) (xs : List (Operator × Part)) → Sees s t →
      IsFormed a z →
      IsFormed (fold factored a (map (factor_at s) (map (λ (k : Operator × Part).
      (k.0, k.1.0)) xs)))
      (source.multiplied t z (map (λ (k : Operator × Part). (k.0, k.1.1)) xs))
  formed_multiplied s t a z [] h k = k
  formed_multiplied s t a z (x ∷ xs) h k =
      formed_multiplied s t (factored a (factor_at s (x.0, x.1.0))) (source.operated z x.0 (x.1.1 t)) xs h
      (formed_factored a x.0 x.1.0.at (x.1.0.made s) z (x.1.1 t) k (x.1.2 s t h))

  all_parts : (t : Sight) (xs : List Meaning) → list_all holds (map (λ m. m t) xs) ≡ list_all (λ m. holds (m t)) xs
  all_parts t [] = refl
  all_parts t (x ∷ xs) = ap (λ v. holds (x t) && v) (all_parts t xs)

  any_parts : (t : Sight) (xs : List Meaning) → list_any holds (map (λ m. m t) xs) ≡ list_any (λ m. holds (m t)) xs
  any_parts t [] = refl
  any_parts t (x ∷ xs) = ap (λ v. holds (x t) || v) (any_parts t xs)

  layer : ExpressionLayers IsWorth form_layer value_layer
  layer (Expr-F.Implies at l r) s t h =
      formed_implication (l.0.made s) (r.0.made s) (l.1 t) (r.1 t) (l.2 s t h) (r.2 s t h)
  layer (Expr-F.And at x xs) s t h =
      formed_same _ _ _ (all_follow (holds (x.1 t)) (map (λ m. m t) (map (λ k. k.1) xs))
      ∙ ap (λ v. truth (holds (x.1 t) && v)) (all_parts t (map (λ k. k.1) xs)))
      (formed_joined conjunction (λ x y. truth (holds x && holds y)) _ _ _ _ formed_conjunction (formed_as_truth
      (x.0.made s) (x.1 t) (x.2 s t h)) (parts_formed s t xs h))
  layer (Expr-F.Or at x xs) s t h =
      formed_same _ _ _ (any_follows (holds (x.1 t)) (map (λ m. m t) (map (λ k. k.1) xs))
      ∙ ap (λ v. truth (holds (x.1 t) || v)) (any_parts t (map (λ k. k.1) xs)))
      (formed_joined disjunction (λ x y. truth (holds x || holds y)) _ _ _ _ formed_disjunction (formed_as_truth
      (x.0.made s) (x.1 t) (x.2 s t h)) (parts_formed s t xs h))
  layer (Expr-F.Not at x) s t h = formed_denial (x.0.made s) (x.1 t) (x.2 s t h)
  layer (Expr-F.Compare at l r x) s t h =
      formed_comparison r (l.0.made s) (x.0.made s) (l.1 t) (x.1 t) (l.2 s t h) (x.2 s t h)
  layer (Expr-F.Sum at minus x xs) s t h =
      formed_added s t _ _ xs h (formed_signed minus (x.0.made s) (x.1 t) (x.2 s t h))
  layer (Expr-F.Product at x xs) s t h = formed_multiplied s t (x.0.made s) (x.1 t) xs h (x.2 s t h)
  layer (Expr-F.Number at n) s t h = formed_number (pos n)
  layer (Expr-F.True at) s t h = formed_top
  layer (Expr-F.False at) s t h = formed_bottom
  layer (Expr-F.Word at name None) s t h = formed_word s t name.text h
  layer (Expr-F.Word at name (Some x)) s t h = formed_element s t name.text (x.0.made s) (x.1 t) h (x.2 s t h)
  layer (Expr-F.Brackets at x) s t h = x.2 s t h
  layer (Expr-F.Quantified at which name range of) s t h =
      formed_quantified s.bound range _ _ _
      (λ e n. ap (λ zs. source.gathered which (map (λ z. of.1 (with_name t name.text z)) zs))
      (range_numbers s.bound range e n ∙ sym (ap (λ b. range_values b range) h.bound)))
      (formed_gathered which _ _ (instances_formed s t name.text of (fit_values (numbers s.bound) range) h))

  pub formed_law : (e : Expr) → IsWorth (forming e) (value e)
  formed_law e = two_expressions IsWorth form_layer value_layer layer e
