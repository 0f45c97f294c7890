-- What the core of an expression names, by the kinds of expressions.
use Rattle.std.proofs.Common.{◌≡◌, ℕ, zero, suc, ◌+◌, ◌<◌, ℤ, pos, negsuc, ◌+ℤ◌, List, [], ◌∷◌, map, Bool, true, false}
use Rattle.std.proofs.Common.{cond, ◌&&◌, ◌||◌, Option, Some, None, option_map, refl, sym, ap, ◌∙◌, arith}
use Rattle.std.specs.Prelude.{fold}
use Rattle.std.specs.List.{list_all}
use Rattle.std.specs.Map.{lookup}
use Rattle.std.specs.Option.{option_or}
use Rattle.std.specs.Str.{bytes_eq}
use Rattle.case_tables.specs.declared.symbol_table.Symbol.{Symbol}
use Rattle.case_tables.specs.declared.word_table.Word.{Word}
use Rattle.unity_syntax.specs.declared.expression.Expr.{Expr}
use Rattle.unity_syntax.specs.declared.expression.Expr.TheOpen.{Expr-F}
use Rattle.unity_syntax.specs.declared.expression.Operator.{Operator}
use Rattle.unity_syntax.specs.TwoFolds.{Related, ExpressionLayers}
use Rattle.unity_syntax.proofs.ExpressionFolds.{two_expressions}
use Rattle.meaning_documents.specs.Names.{Variable}
use Rattle.meaning_executions.specs.Counting.{range_size}
use Rattle.meaning_documents.specs.Names.{variable_named}
use Rattle.names_laws.proofs.AttributeTheorems.{and_both, and_first, and_second}
use Rattle.core_terms.specs.declared.trees.CTerm.{CTerm, fold-roll-CTerm}
use Rattle.core_terms.specs.declared.trees.CTerm.TheVariants.{Const, Slot, Param, Add, Sub, Scale, Div, Mod, Ite}
use Rattle.core_terms.specs.declared.trees.CTerm.TheVariants.{rolls-Const, rolls-Slot, rolls-Param, rolls-Add}
use Rattle.core_terms.specs.declared.trees.CTerm.TheVariants.{rolls-Sub, rolls-Scale, rolls-Div, rolls-Mod, rolls-Ite}
use Rattle.core_terms.specs.declared.trees.CForm.{CForm, fold-roll-CForm}
use Rattle.core_terms.specs.declared.trees.CForm.TheVariants.{Top, Bottom, AtLeast, Zero, Not, And, Or, rolls-Top}
use Rattle.core_terms.specs.declared.trees.CForm.TheVariants.{rolls-Bottom, rolls-AtLeast, rolls-Zero, rolls-Not}
use Rattle.core_terms.specs.declared.trees.CForm.TheVariants.{rolls-And, rolls-Or}
use Rattle.core_terms.specs.declared.trees.CForm.TheOpen.{CTerm-F, CForm-F}
use Rattle.core_terms.specs.Places.{only_step, all_parts, term_names_only, form_names_only}
use Rattle.core_terms.specs.Folding.{number_of, truth_of, is_small, constant_or, truth_or, branch_or, folded_term}
use Rattle.core_terms.specs.Folding.{folded_form, sum_term, difference_term, scaled_term, choice_term, at_least_form}
use Rattle.core_terms.specs.Folding.{zero_form, not_form, and_form, or_form, quotient_term, remainder_term}
use Rattle.expand_rules.specs.declared.cores.Core.{Core}
use Rattle.expand_rules.specs.declared.cores.Bound.{Bound}
use Rattle.expand_rules.specs.declared.cores.Formed.{Formed}
use Rattle.expand_rules.specs.Forming.{Scope, with_number, term_of, form_of, factor_of, as_number, as_truth, sum}
use Rattle.expand_rules.specs.Forming.{difference, negation, multiple, product, factored, at_least_zero, is_zero}
use Rattle.expand_rules.specs.Forming.{denial, divisor_of, factor_at, forming}
use Rattle.expand_rules.specs.Forming.{conjunction, disjunction, implication, equation_by, equation, excess}
use Rattle.expand_rules.specs.Forming.{comparison, signed, plus, chain, array_formed}
use Rattle.expand_rules.specs.Forming.{bound_formed, variable_formed, formed_or_zero}
use Rattle.expand_rules.specs.Forming.{element_by, element_of, number_constant, truth_constant, gathered_by, gathered}
use Rattle.expand_rules.specs.Forming.{numbers, fit_values, Forming, form_layer}
use Rattle.expand_fits_parts.specs.Forms.Naming.{WordTest, or_word, Wording, words_layer, words_pass, SlotsPass}
use Rattle.expand_fits_parts.specs.Forms.Naming.{core_names_only}
use Rattle.expand_fits_parts.specs.Forms.Naming.{SeesOnly}
use Rattle.expand_fits_parts.specs.Forms.NamingLaws.{ExpressionsName}

or_false : (b : Bool) → (b || false) ≡ true → b ≡ true
or_false true h = refl
or_false false h = h

module _ (slots params : ℕ → Bool) where
  abbrev T : CTerm → Bool
  T t = term_names_only slots params t

  abbrev F : CForm → Bool
  F f = form_names_only slots params f

  pub names-Const : (z : ℤ) → T (Const z) ≡ true
  names-Const z = ap T (sym (rolls-Const z)) ∙ fold-roll-CTerm Bool Bool all_parts (only_step slots params)
      (CTerm-F.Const z)

  pub names-Slot : (n : ℕ) → T (Slot n) ≡ slots n
  names-Slot n = ap T (sym (rolls-Slot n)) ∙ fold-roll-CTerm Bool Bool all_parts (only_step slots params)
      (CTerm-F.Slot n)

  pub names-Param : (n : ℕ) → T (Param n) ≡ params n
  names-Param n = ap T (sym (rolls-Param n)) ∙ fold-roll-CTerm Bool Bool all_parts (only_step slots params)
      (CTerm-F.Param n)

  names-Add : (a b : CTerm) → T (Add a b) ≡ (T a && T b)
  names-Add a b = ap T (sym (rolls-Add a b)) ∙ fold-roll-CTerm Bool Bool all_parts (only_step slots params)
      (CTerm-F.Add a b)

  names-Sub : (a b : CTerm) → T (Sub a b) ≡ (T a && T b)
  names-Sub a b = ap T (sym (rolls-Sub a b)) ∙ fold-roll-CTerm Bool Bool all_parts (only_step slots params)
      (CTerm-F.Sub a b)

  names-Scale : (k : ℤ) (a : CTerm) → T (Scale k a) ≡ T a
  names-Scale k a = ap T (sym (rolls-Scale k a)) ∙ fold-roll-CTerm Bool Bool all_parts (only_step slots params)
      (CTerm-F.Scale k a)

  names-Div : (k : ℤ) (a : CTerm) → T (Div a k) ≡ T a
  names-Div k a = ap T (sym (rolls-Div a k)) ∙ fold-roll-CTerm Bool Bool all_parts (only_step slots params)
      (CTerm-F.Div a k)

  names-Mod : (k : ℤ) (a : CTerm) → T (Mod a k) ≡ T a
  names-Mod k a = ap T (sym (rolls-Mod a k)) ∙ fold-roll-CTerm Bool Bool all_parts (only_step slots params)
      (CTerm-F.Mod a k)

  names-Ite : (c : CForm) (a b : CTerm) → T (Ite c a b) ≡ (F c && (T a && T b))
  names-Ite c a b = ap T (sym (rolls-Ite c a b)) ∙ fold-roll-CTerm Bool Bool all_parts (only_step slots params)
      (CTerm-F.Ite c a b)

  pub names-Top : F Top ≡ true
  names-Top = ap F (sym rolls-Top) ∙ fold-roll-CForm Bool Bool all_parts (only_step slots params) CForm-F.Top

  pub names-Bottom : F Bottom ≡ true
  names-Bottom = ap F (sym rolls-Bottom) ∙ fold-roll-CForm Bool Bool all_parts (only_step slots params)
      CForm-F.Bottom

  names-AtLeast : (t : CTerm) → F (AtLeast t) ≡ T t
  names-AtLeast t = ap F (sym (rolls-AtLeast t)) ∙ fold-roll-CForm Bool Bool all_parts (only_step slots params)
      (CForm-F.AtLeast t)

  names-Zero : (t : CTerm) → F (Zero t) ≡ T t
  names-Zero t = ap F (sym (rolls-Zero t)) ∙ fold-roll-CForm Bool Bool all_parts (only_step slots params)
      (CForm-F.Zero t)

  names-Not : (f : CForm) → F (Not f) ≡ F f
  names-Not f = ap F (sym (rolls-Not f)) ∙ fold-roll-CForm Bool Bool all_parts (only_step slots params)
      (CForm-F.Not f)

  names-And : (f g : CForm) → F (And f g) ≡ (F f && F g)
  names-And f g = ap F (sym (rolls-And f g)) ∙ fold-roll-CForm Bool Bool all_parts (only_step slots params)
      (CForm-F.And f g)

  names-Or : (f g : CForm) → F (Or f g) ≡ (F f && F g)
  names-Or f g = ap F (sym (rolls-Or f g)) ∙ fold-roll-CForm Bool Bool all_parts (only_step slots params)
      (CForm-F.Or f g)

  -- folding names nothing new

  constant_names : (t : CTerm) (m : Option ℤ) → T t ≡ true → T (constant_or m t) ≡ true
  constant_names t None h = h
  constant_names t (Some z) h = by (is_small z)
    where
      by : (b : Bool) → T (cond b (Const z) t) ≡ true
      by true = names-Const z
      by false = h

  term_folded : (t : CTerm) → T t ≡ true → T (folded_term t) ≡ true
  term_folded t h = constant_names t (number_of t) h

  truth_names : (f : CForm) (m : Option Bool) → F f ≡ true → F (truth_or m f) ≡ true
  truth_names f None h = h
  truth_names f (Some true) h = names-Top
  truth_names f (Some false) h = names-Bottom

  form_folded : (f : CForm) → F f ≡ true → F (folded_form f) ≡ true
  form_folded f h = truth_names f (truth_of f) h

  pub sum_names : (a b : CTerm) → T a ≡ true → T b ≡ true → T (sum_term a b) ≡ true
  sum_names a b h i = term_folded (Add a b) (names-Add a b ∙ and_both (T a) (T b) h i)

  pub difference_names : (a b : CTerm) → T a ≡ true → T b ≡ true → T (difference_term a b) ≡ true
  difference_names a b h i = term_folded (Sub a b) (names-Sub a b ∙ and_both (T a) (T b) h i)

  scaled_names : (k : ℤ) (a : CTerm) → T a ≡ true → T (scaled_term k a) ≡ true
  scaled_names k a h = term_folded (Scale k a) (names-Scale k a ∙ h)

  quotient_names : (k : ℤ) (a : CTerm) → T a ≡ true → T (quotient_term k a) ≡ true
  quotient_names k a h = term_folded (Div a k) (names-Div k a ∙ h)

  remainder_names : (k : ℤ) (a : CTerm) → T a ≡ true → T (remainder_term k a) ≡ true
  remainder_names k a h = term_folded (Mod a k) (names-Mod k a ∙ h)

  branch_names : (m : Option Bool) (c : CForm) (a b : CTerm) → F c ≡ true → T a ≡ true → T b ≡ true →
      T (branch_or m a b (Ite c a b)) ≡ true
  branch_names None c a b g h i = names-Ite c a b ∙ and_both (F c) (T a && T b) g (and_both (T a) (T b) h i)
  branch_names (Some true) c a b g h i = h
  branch_names (Some false) c a b g h i = i

  choice_names : (c : CForm) (a b : CTerm) → F c ≡ true → T a ≡ true → T b ≡ true → T (choice_term c a b) ≡ true
  choice_names c a b g h i = branch_names (truth_of c) c a b g h i

  at_least_names : (t : CTerm) → T t ≡ true → F (at_least_form t) ≡ true
  at_least_names t h = form_folded (AtLeast t) (names-AtLeast t ∙ h)

  pub zero_names : (t : CTerm) → T t ≡ true → F (zero_form t) ≡ true
  zero_names t h = form_folded (Zero t) (names-Zero t ∙ h)

  pub not_names : (f : CForm) → F f ≡ true → F (not_form f) ≡ true
  not_names f h = form_folded (Not f) (names-Not f ∙ h)

  pub and_names : (f g : CForm) → F f ≡ true → F g ≡ true → F (and_form f g) ≡ true
  and_names f g h i = form_folded (And f g) (names-And f g ∙ and_both (F f) (F g) h i)

  pub or_names : (f g : CForm) → F f ≡ true → F g ≡ true → F (or_form f g) ≡ true
  or_names f g h i = form_folded (Or f g) (names-Or f g ∙ and_both (F f) (F g) h i)

  -- cores

  abbrev pub Fine : Formed → Type 0
  Fine a = core_names_only slots params a.core ≡ true

  pub as_term : (c : Core) → core_names_only slots params c ≡ true → T (term_of c) ≡ true
  as_term (Core.Number t known) h = h
  as_term (Core.Truth f known) h = choice_names f (Const (pos 1)) (Const (pos 0)) h (names-Const (pos 1))
      (names-Const (pos 0))

  pub as_form : (c : Core) → core_names_only slots params c ≡ true → F (form_of c) ≡ true
  as_form (Core.Truth f known) h = h
  as_form (Core.Number t known) h = at_least_names (difference_term t (Const (pos 1)))
      (difference_names t (Const (pos 1)) h (names-Const (pos 1)))

  pub fine_number : (a : Formed) → Fine a → Fine (as_number a)
  fine_number a h = as_term a.core h

  pub fine_truth : (a : Formed) → Fine a → Fine (as_truth a)
  fine_truth a h = as_form a.core h

  fine_sum : (a b : Formed) → Fine a → Fine b → Fine (sum a b)
  fine_sum a b h i = sum_names (term_of a.core) (term_of b.core) (as_term a.core h) (as_term b.core i)

  fine_difference : (a b : Formed) → Fine a → Fine b → Fine (difference a b)
  fine_difference a b h i = difference_names (term_of a.core) (term_of b.core) (as_term a.core h) (as_term b.core i)

  fine_negation : (a : Formed) → Fine a → Fine (negation a)
  fine_negation a h = scaled_names (negsuc 0) (term_of a.core) (as_term a.core h)

  fine_multiple : (k a : Formed) → Fine a → Fine (multiple k a)
  fine_multiple k a i = scaled_names (factor_of k.core) (term_of a.core) (as_term a.core i)

  fine_product : (a b : Formed) → Fine a → Fine b → Fine (product a b)
  fine_product a b h i = by a.constant
    where
      by : (c : Bool) → core_names_only slots params (cond c (multiple a b) (multiple b a)).core ≡ true
      by true = fine_multiple a b i
      by false = fine_multiple b a h

  fine_factored : (a : Formed) (o : Operator) (at : ℕ) (b : Formed) → Fine a → Fine b →
      Fine (factored a ((o, at), b))
  fine_factored a Operator.Times at b h i = fine_product a b h i
  fine_factored a Operator.Div at b h i = quotient_names (divisor_of (as_number b)) (term_of a.core)
      (as_term a.core h)
  fine_factored a Operator.Mod at b h i = remainder_names (divisor_of (as_number b)) (term_of a.core)
      (as_term a.core h)

  fine_at_least : (a : Formed) → Fine a → Fine (at_least_zero a)
  fine_at_least a h = at_least_names (term_of a.core) (as_term a.core h)

  fine_zero : (a : Formed) → Fine a → Fine (is_zero a)
  fine_zero a h = zero_names (term_of a.core) (as_term a.core h)

  fine_denial : (a : Formed) → Fine a → Fine (denial a)
  fine_denial a h = not_names (form_of a.core) (as_form a.core h)

  fine_conjunction : (a b : Formed) → Fine a → Fine b → Fine (conjunction a b)
  fine_conjunction a b h i = and_names (form_of a.core) (form_of b.core) (as_form a.core h) (as_form b.core i)

  fine_disjunction : (a b : Formed) → Fine a → Fine b → Fine (disjunction a b)
  fine_disjunction a b h i = or_names (form_of a.core) (form_of b.core) (as_form a.core h) (as_form b.core i)

  fine_implication : (a b : Formed) → Fine a → Fine b → Fine (implication a b)
  fine_implication a b h i = fine_disjunction (denial a) b (fine_denial a h) i

  pub fine_constant : (z : ℤ) → Fine (number_constant z)
  fine_constant z = names-Const z

  pub fine_top : Fine (truth_constant Top)
  fine_top = names-Top

  fine_bottom : Fine (truth_constant Bottom)
  fine_bottom = names-Bottom

  equation_fine : (c d : Core) (a b : Formed) → Fine a → Fine b → Fine (equation_by c d a b)
  equation_fine (Core.Truth f k) (Core.Truth g l) a b h i =
      fine_conjunction (implication a b) (implication b a) (fine_implication a b h i) (fine_implication b a i h)
  equation_fine (Core.Truth f k) (Core.Number t l) a b h i = fine_zero (difference a b) (fine_difference a b h i)
  equation_fine (Core.Number t k) (Core.Truth g l) a b h i = fine_zero (difference a b) (fine_difference a b h i)
  equation_fine (Core.Number t k) (Core.Number u l) a b h i = fine_zero (difference a b) (fine_difference a b h i)

  fine_least : (a b : Formed) → Fine a → Fine b → Fine (at_least_zero (difference a b))
  fine_least a b h i = fine_at_least (difference a b) (fine_difference a b h i)

  fine_excess : (a b : Formed) → Fine a → Fine b → Fine (excess a b)
  fine_excess a b h i = fine_at_least (difference (difference a b) (number_constant (pos 1)))
      (fine_difference (difference a b) (number_constant (pos 1)) (fine_difference a b h i) (fine_constant (pos 1)))

  fine_comparison : (r : Symbol) (a b : Formed) → Fine a → Fine b → Fine (comparison r a b)
  fine_comparison Symbol.Equal a b h i = equation_fine a.core b.core a b h i
  fine_comparison Symbol.NotEqual a b h i = fine_denial (equation a b) (equation_fine a.core b.core a b h i)
  fine_comparison Symbol.Below a b h i = fine_excess b a i h
  fine_comparison Symbol.AtMost a b h i = fine_least b a i h
  fine_comparison Symbol.Above a b h i = fine_excess a b h i
  fine_comparison Symbol.AtLeast a b h i = fine_least a b h i
  fine_comparison _ a b h i = names-Bottom

  fine_signed : (minus : Bool) (a : Formed) → Fine a → Fine (signed minus a)
  fine_signed true a h = fine_negation a h
  fine_signed false a h = fine_number a h

  fine_plus : (a : Formed) (o : Symbol) (b : Formed) → Fine a → Fine b → Fine (plus a (o, b))
  fine_plus a Symbol.Minus b h i = fine_difference a b h i
  fine_plus a _ b h i = fine_sum a b h i

  -- arrays

  pub typed_fine : (b : Bool) (a : Formed) → Fine a → Fine (cond b (as_truth a) a)
  typed_fine true a h = fine_truth a h
  typed_fine false a h = h

  chain_names : (e : CTerm) → T e ≡ true → (low : ℤ) (first n : ℕ) → ((k : ℕ) → k < n → slots (first + k) ≡ true) →
      T (chain e low first n) ≡ true
  chain_names e h low first zero s = names-Const (pos 0)
  chain_names e h low first (suc n) s =
      let rest = chain_names e h (low +ℤ pos 1) (suc first) n
      (λ k l. let q : suc first + k ≡ first + suc k = omega arith in ap slots q ∙ s (suc k) (omega (arith, l))) in
      let here : first + 0 ≡ first = omega arith in
      choice_names (zero_form (difference_term e (Const low))) (Slot first) (chain e (low +ℤ pos 1) (suc first) n)
      (zero_names (difference_term e (Const low)) (difference_names e (Const low) h (names-Const low)))
      (names-Slot first ∙ ap slots (sym here) ∙ s 0 (omega arith)) rest

  element_by_fine : (v : Variable) (i : Formed) (m : Option (ℤ × ℤ)) → Fine i → SlotsPass slots v m →
      Fine (element_by v i m)
  element_by_fine v i None h s = names-Const (pos 0)
  element_by_fine v i (Some r) h s = typed_fine v.is_truth (array_formed v i r)
      (chain_names (term_of i.core) (as_term i.core h) r.0 v.first (range_size r) s)

  element_fine : (m : Option Variable) (i : Formed) → Fine i → ((v : Variable) → m ≡ Some v →
      SlotsPass slots v v.indices) → Fine (element_of m i)
  element_fine None i h s = names-Const (pos 0)
  element_fine (Some v) i h s = element_by_fine v i v.indices h (s v refl)

  -- each kind of expression

  abbrev pub Names : Wording → Forming → Type 0
  Names p f = (alone whole : WordTest) (s : Scope) → p alone whole ≡ true → SeesOnly slots params alone whole s →
      Fine (f.made s)

  abbrev Part : Type 0
  Part = Related Names

  abbrev KeepsFine : (Formed → Formed → Formed) → Type 0
  KeepsFine op = (a b : Formed) → Fine a → Fine b → Fine (op a b)

  module _ (alone whole : WordTest) (s : Scope) (g : SeesOnly slots params alone whole s) where
    fold_fine : (op : Formed → Formed → Formed) → KeepsFine op → (a : Formed) → Fine a → (xs : List Part) →
        list_all (λ m. m alone whole) (map (λ k. k.0) xs) ≡ true →
        Fine (fold op a (map (λ m. m.made s) (map (λ k. k.1) xs)))
    fold_fine op k a h [] p = h
    fold_fine op k a h (x ∷ xs) p =
        let here = and_first (x.0 alone whole) (list_all (λ m. m alone whole) (map (λ k. k.0) xs)) p in
        let rest = and_second (x.0 alone whole) (list_all (λ m. m alone whole) (map (λ k. k.0) xs)) p in
        fold_fine op k (op a (x.1.made s)) (k a (x.1.made s) h (x.2 alone whole s here g)) xs rest

    sums_fine : (a : Formed) → Fine a → (xs : List (Symbol × Part)) →
        list_all (λ (part : Symbol × Wording). part.1 alone whole) (map (λ (k : Symbol × Part). (k.0, k.1.0)) xs) ≡ true
        →
        Fine (fold plus a (map (λ (part : Symbol × Forming). (part.0, part.1.made s)) (map (λ (k : Symbol × Part).
        (k.0, k.1.1)) xs)))
    sums_fine a h [] p = h
    sums_fine a h (x ∷ xs) p =
        let more = list_all (λ (part : Symbol × Wording). part.1 alone whole) (map (λ (k : Symbol × Part).
        (k.0, k.1.0)) xs) in
        let here = and_first (x.1.0 alone whole) more p in
        let rest = and_second (x.1.0 alone whole) more p in
        sums_fine (plus a (x.0, x.1.1.made s)) (fine_plus a x.0 (x.1.1.made s) h (x.1.2 alone whole s here g)) xs rest

    factors_fine : (a : Formed) → Fine a → (xs : List (Operator × Part)) →
        list_all (λ (part : Operator × Wording). part.1 alone whole) (map (λ (k : Operator × Part). (k.0, k.1.0)) xs)
        ≡ true →
        Fine (fold factored a (map (factor_at s) (map (λ (k : Operator × Part).
        (k.0, k.1.1)) xs)))
    factors_fine a h [] p = h
    factors_fine a h (x ∷ xs) p =
        let more = list_all (λ (part : Operator × Wording). part.1 alone whole) (map (λ (k : Operator × Part).
        (k.0, k.1.0)) xs) in
        let here = and_first (x.1.0 alone whole) more p in
        let rest = and_second (x.1.0 alone whole) more p in
        factors_fine (factored a (factor_at s (x.0, x.1.1)))
        (fine_factored a x.0 x.1.1.at (x.1.1.made s) h (x.1.2 alone whole s here g)) xs rest

  joined_fine : (op : Formed → Formed → Formed) → KeepsFine op → (f : ℤ → Formed) → ((z : ℤ) → Fine (f z)) →
      (a : Formed) → Fine a → (zs : List ℤ) → Fine (fold op a (map f zs))
  joined_fine op k f h a i [] = i
  joined_fine op k f h a i (z ∷ zs) = joined_fine op k f h (op a (f z)) (k a (f z) i (h z)) zs

  gathered_fine : (which : Word) (f : ℤ → Formed) → ((z : ℤ) → Fine (f z)) → (zs : List ℤ) →
      Fine (gathered which (map f zs))
  gathered_fine Word.All f h [] = fine_top
  gathered_fine Word.All f h (z ∷ zs) = joined_fine conjunction fine_conjunction f h (as_truth (f z))
      (fine_truth (f z) (h z)) zs
  gathered_fine Word.Any f h [] = fine_bottom
  gathered_fine Word.Any f h (z ∷ zs) = joined_fine disjunction fine_disjunction f h (as_truth (f z))
      (fine_truth (f z) (h z)) zs
  gathered_fine _ f h zs = sum_gathered f h zs
    where
      sum_gathered : (f : ℤ → Formed) → ((z : ℤ) → Fine (f z)) → (zs : List ℤ) →
          Fine (gathered_by (number_constant (pos 0)) as_number sum (map f zs))
      sum_gathered f h [] = fine_constant (pos 0)
      sum_gathered f h (z ∷ zs) = joined_fine sum fine_sum f h (as_number (f z)) (fine_number (f z) (h z)) zs

  -- a bound number names nothing
  pub inside_sees : (alone whole : WordTest) (s : Scope) (name : List ℕ) (z : ℤ) → SeesOnly slots params alone whole s →
      SeesOnly slots params (or_word alone name) whole (with_number s name z)
  inside_sees alone whole s name z g = record {
    words = λ word. elim (bytes_eq word name) as (λ b. (alone word || b) ≡ true → Fine (formed_or_zero
        (option_or (option_map bound_formed (cond b (Some (Bound.Number z)) (lookup (bytes_eq word) s.bound)))
        (option_or (lookup (bytes_eq word) s.always) (option_or (variable_formed (variable_named word s.variables))
        (option_map number_constant (lookup (bytes_eq word) s.words))))))) [
          | true ↦ λ p. fine_constant z
          | false ↦ λ p. g.words word (or_false (alone word) p)
        ];
    variables = g.variables;
  }

  layer : ExpressionLayers Names words_layer form_layer
  layer (Expr-F.Implies at l r) a w s p g = fine_implication (l.1.made s) (r.1.made s)
      (l.2 a w s (and_first (l.0 a w) (r.0 a w) p) g) (r.2 a w s (and_second (l.0 a w) (r.0 a w) p) g)
  layer (Expr-F.And at x xs) a w s p g =
      let more = list_all (λ m. m a w) (map (λ k. k.0) xs) in
      fold_fine a w s g conjunction fine_conjunction (as_truth (x.1.made s))
      (fine_truth (x.1.made s) (x.2 a w s (and_first (x.0 a w) more p) g)) xs (and_second (x.0 a w) more p)
  layer (Expr-F.Or at x xs) a w s p g =
      let more = list_all (λ m. m a w) (map (λ k. k.0) xs) in
      fold_fine a w s g disjunction fine_disjunction (as_truth (x.1.made s))
      (fine_truth (x.1.made s) (x.2 a w s (and_first (x.0 a w) more p) g)) xs (and_second (x.0 a w) more p)
  layer (Expr-F.Not at x) a w s p g = fine_denial (x.1.made s) (x.2 a w s p g)
  layer (Expr-F.Compare at l r x) a w s p g = fine_comparison r (l.1.made s) (x.1.made s)
      (l.2 a w s (and_first (l.0 a w) (x.0 a w) p) g) (x.2 a w s (and_second (l.0 a w) (x.0 a w) p) g)
  layer (Expr-F.Sum at minus x xs) a w s p g =
      let more = list_all (λ (part : Symbol × Wording). part.1 a w) (map (λ (k : Symbol × Part). (k.0, k.1.0)) xs) in
      sums_fine a w s g (signed minus (x.1.made s))
      (fine_signed minus (x.1.made s) (x.2 a w s (and_first (x.0 a w) more p) g)) xs (and_second (x.0 a w) more p)
  layer (Expr-F.Product at x xs) a w s p g =
      let more = list_all (λ (part : Operator × Wording). part.1 a w) (map (λ (k : Operator × Part).
      (k.0, k.1.0)) xs) in
      factors_fine a w s g (x.1.made s) (x.2 a w s (and_first (x.0 a w) more p) g) xs (and_second (x.0 a w) more p)
  layer (Expr-F.Number at number) a w s p g = fine_constant (pos number)
  layer (Expr-F.True at) a w s p g = fine_top
  layer (Expr-F.False at) a w s p g = fine_bottom
  layer (Expr-F.Word at name None) a w s p g = g.words name.text p
  layer (Expr-F.Word at name (Some x)) a w s p g =
      element_fine (variable_named name.text s.variables) (as_number (x.1.made s))
      (fine_number (x.1.made s) (x.2 a w s (and_second (w name.text) (x.0 a w) p) g))
      (λ v e. g.variables name.text v (and_first (w name.text) (x.0 a w) p) e)
  layer (Expr-F.Brackets at x) a w s p g = x.2 a w s p g
  layer (Expr-F.Quantified at which name range of) a w s p g =
      gathered_fine which (λ z. of.1.made (with_number s name.text z))
      (λ z. of.2 (or_word a name.text) w (with_number s name.text z) p (inside_sees a w s name.text z g))
      (fit_values (numbers s.bound) range)

  pub names_law : (e : Expr) → Names (words_pass e) (forming e)
  names_law e = two_expressions Names words_layer form_layer layer e

pub expressions_name : ExpressionsName
expressions_name slots params alone whole e s p g = names_law slots params e alone whole s p g
