-- What a part is too large for, the whole is too large for.
use Rattle.std.proofs.Common.{◌≡◌, ℕ, ◌+◌, ◌*◌, ◌^◌, ◌≤◌, ◌<◌, max, ℤ, pos, List, [], ◌∷◌, Bool, true, false, cond}
use Rattle.std.proofs.Common.{not, ◌&&◌, ◌||◌, Option, Some, None, refl, ap, arith, inl, inr, ◌⊎◌, nat_le}
use Rattle.std.proofs.lemmas.Bool.{leb-false, lt-leb}
use Rattle.std.proofs.Math.Nat.{mul-le-mul_right}
use Rattle.std.specs.Prelude.{fold}
use Rattle.std.specs.Int.RustNames.{unsigned_abs}
use Rattle.core_terms.specs.from_case_tables.declared.symbol_table.Symbol.{Symbol}
use Rattle.names_rules.specs.from_unity_syntax.declared.expression.Operator.{Operator}
use Rattle.names_rules.specs.from_unity_syntax.declared.name.Range.{Range}
use Rattle.meaning_documents.specs.Names.{Variable}
use Rattle.meaning_documents.specs.from_meaning_executions.Counting.{range_size}
use Rattle.expand_rules.specs.declared.cores.Core.{Core}
use Rattle.expand_rules.specs.declared.cores.Bound.{Bound}
use Rattle.core_terms.specs.declared.trees.CTerm.{CTerm}
use Rattle.core_terms.specs.Folding.{quotient_term, remainder_term}
use Rattle.expand_rules.specs.declared.cores.Flaws.{Flaws}
use Rattle.expand_rules.specs.declared.cores.Measure.{Measure}
use Rattle.expand_rules.specs.declared.cores.Formed.{Formed}
use Rattle.expand_rules.specs.Measures.{sum_measure, multiple_measure, negation_measure, over_measure, pair_measure}
use Rattle.expand_rules.specs.Measures.{ends_weight, element_measure, quantifier_measure, divided_measure}
use Rattle.expand_rules.specs.Measures.{range_misfit}
use Rattle.expand_rules.specs.Forming.{as_number, as_truth, number_measure, truth_measure, number_constant}
use Rattle.expand_rules.specs.Forming.{factor_of, sum, difference, negation, multiple, product, at_least_zero}
use Rattle.expand_rules.specs.Forming.{is_zero, denial, conjunction, disjunction, implication, equation_by}
use Rattle.expand_rules.specs.Forming.{equation, excess, never, comparison, signed, plus, typed, no_element}
use Rattle.expand_rules.specs.Forming.{array_formed, element_by, element_of, numbers, quantified, divided, factored}
use Rattle.expand_rules.specs.Forming.{quotient_weight, remainder_weight}
use Rattle.expand_rules.specs.Limits.{is_past, is_too_large}

abbrev pub IsPast : Formed → Type 0
IsPast f = (2 ^ 62 < f.measure.most) ⊎ ((65536 < f.measure.quantified) ⊎ ((f.constant ≡ false)
    × (65536 < f.measure.size)))

over_by : (a b : ℕ) (v : Bool) → nat_le a b ≡ v → not v ≡ true → b < a
over_by a b true e h = cc h
over_by a b false e h = leb-false a b e

over : (a b : ℕ) → not (nat_le a b) ≡ true → b < a
over a b h = over_by a b (nat_le a b) refl h

past : (a b : ℕ) → b < a → not (nat_le a b) ≡ true
past a b h = ap not (lt-leb a b h)

either : (a b : Bool) → (a || b) ≡ true → (a ≡ true) ⊎ (b ≡ true)
either true b h = inl refl
either false b h = inr h

or_right : (a b : Bool) → b ≡ true → (a || b) ≡ true
or_right true b h = refl
or_right false b h = h

or_left : (a b : Bool) → a ≡ true → (a || b) ≡ true
or_left true b h = refl
or_left false b h = cc h

not_true : (b : Bool) → not b ≡ true → b ≡ false
not_true true h = cc h
not_true false h = refl

and_left : (a b : Bool) → (a && b) ≡ true → a ≡ true
and_left true b h = refl
and_left false b h = cc h

and_right : (a b : Bool) → (a && b) ≡ true → b ≡ true
and_right true b h = h
and_right false b h = cc h

both_true : (a b : Bool) → a ≡ true → b ≡ true → (a && b) ≡ true
both_true true b h i = i
both_true false b h i = h

pub tells : (f : Formed) → is_past f ≡ true → IsPast f
tells f h = elim (either (not (nat_le f.measure.most (2 ^ 62))) (not (nat_le f.measure.quantified 65536) ||
    (not f.constant && not (nat_le f.measure.size 65536))) h) [
      | inl m ↦ inl (over f.measure.most (2 ^ 62) m)
      | inr r ↦ elim (either (not (nat_le f.measure.quantified 65536)) (not f.constant && not (nat_le f.measure.size
          65536)) r) [
            | inl q ↦ inr (inl (over f.measure.quantified 65536 q))
            | inr s ↦ inr (inr (
              not_true f.constant (and_left (not f.constant) (not (nat_le f.measure.size 65536)) s),
              over
                  f.measure.size 65536 (and_right (not f.constant) (not (nat_le f.measure.size 65536)) s),
            ))
          ]
    ]

pub shows : (f : Formed) → IsPast f → is_past f ≡ true
shows f (inl m) = or_left (not (nat_le f.measure.most (2 ^ 62))) _ (past f.measure.most (2 ^ 62) m)
shows f (inr (inl q)) = or_right (not (nat_le f.measure.most (2 ^ 62))) _
    (or_left (not (nat_le f.measure.quantified 65536)) _ (past f.measure.quantified 65536 q))
shows f (inr (inr s)) = or_right (not (nat_le f.measure.most (2 ^ 62))) _
    (or_right (not (nat_le f.measure.quantified 65536)) _
    (both_true (not f.constant) _ (ap not s.0) (past f.measure.size 65536 s.1)))

-- one measure is at least another, as far as limits see
pub record Grows (m n : Measure) : Type 0 where
  pub most : m.most ≤ n.most
  pub quantified : 65536 < m.quantified → 65536 < n.quantified
  pub size : 65536 < m.size → 65536 < n.size

pub grows_on : (l m n : Measure) → Grows l m → Grows m n → Grows l n
grows_on l m n g h = record {
  most = let a = g.most in let b = h.most in omega (arith, a, b);
  quantified = λ e. h.quantified (g.quantified e);
  size = λ e. h.size (g.size e);
}

pub grows_same : (m : Measure) → Grows m m
grows_same m = record { most = omega arith; quantified = λ e. e; size = λ e. e }

past_on : (a b : Formed) → Grows a.measure b.measure → (a.constant ≡ false → b.constant ≡ false) → IsPast a → IsPast b
past_on a b g c (inl m) = let h = g.most in inl (omega (arith, h, m))
past_on a b g c (inr (inl q)) = inr (inl (g.quantified q))
past_on a b g c (inr (inr s)) = inr (inr (c s.0, g.size s.1))

pub past_grows : (a b : Formed) → Grows a.measure b.measure → (a.constant ≡ false → b.constant ≡ false) →
    is_past a ≡ true → is_past b ≡ true
past_grows a b g c h = shows b (past_on a b g c (tells a h))

pub heavy_past : (f : Formed) → 2 ^ 62 < f.measure.most → is_past f ≡ true
heavy_past f h = shows f (inl h)

-- a whole that is too large
pub large_of_past : (f : Formed) → is_past f ≡ true → is_too_large f ≡ true
large_of_past f h = or_left (is_past f) (not (nat_le f.measure.size 65536)) h

pub large_of_size : (f : Formed) → 65536 < f.measure.size → is_too_large f ≡ true
large_of_size f h = or_right (is_past f) (not (nat_le f.measure.size 65536)) (past f.measure.size 65536 h)

pub large_grows : (a b : Formed) → Grows a.measure b.measure → (a.constant ≡ false → b.constant ≡ false) →
    is_too_large a ≡ true → is_too_large b ≡ true
large_grows a b g c h = elim (either (is_past a) (not (nat_le a.measure.size 65536)) h) [
  | inl p ↦ large_of_past b (past_grows a b g c p)
  | inr s ↦ large_of_size b (g.size (over a.measure.size 65536 s))
]

-- measures

number_grows : (c : Core) (m : Measure) → Grows m (number_measure c m)
number_grows (Core.Number t known) m = grows_same m
number_grows (Core.Truth f known) m = record { most = omega arith; quantified = λ e. e; size = λ e. omega (arith, e) }

truth_grows : (c : Core) (m : Measure) → Grows m (truth_measure c m)
truth_grows (Core.Truth f known) m = grows_same m
truth_grows (Core.Number t known) m =
    record { most = omega arith; quantified = λ e. omega (arith, e); size = λ e. omega (arith, e) }

sum_grows_first : (m n : Measure) → Grows m (sum_measure m n)
sum_grows_first m n = record { most = omega arith; quantified = λ e. omega (arith, e); size = λ e. omega (arith, e) }

sum_grows_second : (m n : Measure) → Grows n (sum_measure m n)
sum_grows_second m n = record { most = omega arith; quantified = λ e. omega (arith, e); size = λ e. omega (arith, e) }

pair_grows_first : (m n : Measure) → Grows m (pair_measure m n)
pair_grows_first m n = record { most = omega arith; quantified = λ e. omega (arith, e); size = λ e. omega (arith, e) }

pair_grows_second : (m n : Measure) → Grows n (pair_measure m n)
pair_grows_second m n = record {
  most = omega arith;
  quantified = λ e. omega (arith, e);
  size = λ e. omega (arith, e);
}

divided_grows_first : (own k : ℕ) (flaws : Flaws) (m n : Measure) → Grows m (divided_measure own k flaws m n)
divided_grows_first own k flaws m n =
    record { most = omega arith; quantified = λ e. omega (arith, e); size = λ e. omega (arith, e) }

divided_grows_second : (own k : ℕ) (flaws : Flaws) (m n : Measure) → Grows n (divided_measure own k flaws m n)
divided_grows_second own k flaws m n =
    record { most = omega arith; quantified = λ e. omega (arith, e); size = λ e. omega (arith, e) }

above : (x y z : ℕ) → y ≤ max x (max y z)
above x y z = omega arith

above_last : (x y z : ℕ) → z ≤ max x (max y z)
above_last x y z = omega arith

multiple_grows_first : (k : ℤ) (m n : Measure) → Grows m (multiple_measure k m n)
multiple_grows_first k m n = record {
  most = above (unsigned_abs k * n.own) m.most n.most;
  quantified = λ e. omega (arith, e);
  size = λ e. omega (arith, e);
}

multiple_grows_second : (k : ℤ) (m n : Measure) → Grows n (multiple_measure k m n)
multiple_grows_second k m n = record {
  most = above_last (unsigned_abs k * n.own) m.most n.most;
  quantified = λ e. omega (arith, e);
  size = λ e. omega (arith, e);
}

over_grows : (m : Measure) → Grows m (over_measure m)
over_grows m = record { most = omega arith; quantified = λ e. e; size = λ e. omega (arith, e) }

negation_grows : (m : Measure) → Grows m (negation_measure m)
negation_grows m = record { most = omega arith; quantified = λ e. e; size = λ e. omega (arith, e) }

-- operations

and_false_left : (a b : Bool) → a ≡ false → (a && b) ≡ false
and_false_left a b h = ap (λ v. v && b) h

and_false_right : (a b : Bool) → b ≡ false → (a && b) ≡ false
and_false_right true b h = h
and_false_right false b h = refl

abbrev pub Keeps : (Formed → Formed) → Type 0
Keeps op = (a : Formed) → is_past a ≡ true → is_past (op a) ≡ true

abbrev pub KeepsFirst : (Formed → Formed → Formed) → Type 0
KeepsFirst op = (a b : Formed) → is_past a ≡ true → is_past (op a b) ≡ true

abbrev pub KeepsSecond : (Formed → Formed → Formed) → Type 0
KeepsSecond op = (a b : Formed) → is_past b ≡ true → is_past (op a b) ≡ true

pub as_number_keeps : Keeps as_number
as_number_keeps a = past_grows a (as_number a) (number_grows a.core a.measure) (λ e. e)

pub as_truth_keeps : Keeps as_truth
as_truth_keeps a = past_grows a (as_truth a) (truth_grows a.core a.measure) (λ e. e)

pub sum_first : KeepsFirst sum
sum_first a b = past_grows a (sum a b) (grows_on _ _ _ (number_grows a.core a.measure) (sum_grows_first
    (as_number a).measure (as_number b).measure)) (and_false_left a.constant b.constant)

pub sum_second : KeepsSecond sum
sum_second a b = past_grows b (sum a b) (grows_on _ _ _ (number_grows b.core b.measure) (sum_grows_second
    (as_number a).measure (as_number b).measure)) (and_false_right a.constant b.constant)

pub difference_first : KeepsFirst difference
difference_first a b = past_grows a (difference a b) (grows_on _ _ _ (number_grows a.core a.measure) (sum_grows_first
    (as_number a).measure (as_number b).measure)) (and_false_left a.constant b.constant)

pub difference_second : KeepsSecond difference
difference_second a b = past_grows b (difference a b) (grows_on _ _ _ (number_grows b.core b.measure)
    (sum_grows_second
    (as_number a).measure (as_number b).measure)) (and_false_right a.constant b.constant)

pub negation_keeps : Keeps negation
negation_keeps a = past_grows a (negation a) (grows_on _ _ _ (number_grows a.core a.measure) (negation_grows
    (as_number a).measure)) (λ e. e)

multiple_first : (k a : Formed) → Grows k.measure (multiple k a).measure
multiple_first k a = grows_on _ _ _ (number_grows k.core k.measure) (multiple_grows_first (factor_of k.core)
    (as_number k).measure (as_number a).measure)

multiple_second : (k a : Formed) → Grows a.measure (multiple k a).measure
multiple_second k a = grows_on _ _ _ (number_grows a.core a.measure) (multiple_grows_second (factor_of k.core)
    (as_number k).measure (as_number a).measure)

product_grows_first : (a b : Formed) (c : Bool) → Grows a.measure (cond c (multiple a b) (multiple b a)).measure
product_grows_first a b true = multiple_first a b
product_grows_first a b false = multiple_second b a

product_grows_second : (a b : Formed) (c : Bool) → Grows b.measure (cond c (multiple a b) (multiple b a)).measure
product_grows_second a b true = multiple_second a b
product_grows_second a b false = multiple_first b a

product_first : KeepsFirst product
product_first a b = past_grows a (product a b) (product_grows_first a b a.constant) (and_false_left a.constant
    b.constant)

product_second : KeepsSecond product
product_second a b = past_grows b (product a b) (product_grows_second a b a.constant) (and_false_right a.constant
    b.constant)

module _ (op : ℤ → CTerm → CTerm) (weight : ℕ → ℕ → ℕ) (at : ℕ) where
  divided_first : KeepsFirst (divided op weight at)
  divided_first a b = past_grows a (divided op weight at a b) (grows_on _ _ _ (number_grows a.core a.measure)
      (divided_grows_first _ _ _ (as_number a).measure (as_number b).measure)) (and_false_left a.constant b.constant)

  divided_second : KeepsSecond (divided op weight at)
  divided_second a b = past_grows b (divided op weight at a b) (grows_on _ _ _ (number_grows b.core b.measure)
      (divided_grows_second _ _ _ (as_number a).measure (as_number b).measure)) (and_false_right a.constant b.constant)

pub factored_first : (op : Operator × ℕ) → KeepsFirst (λ a b. factored a (op, b))
factored_first (Operator.Times, at) a b h = product_first a b h
factored_first (Operator.Div, at) a b h = divided_first quotient_term quotient_weight at a b h
factored_first (Operator.Mod, at) a b h = divided_first remainder_term remainder_weight at a b h

pub factored_second : (op : Operator × ℕ) → KeepsSecond (λ a b. factored a (op, b))
factored_second (Operator.Times, at) a b h = product_second a b h
factored_second (Operator.Div, at) a b h = divided_second quotient_term quotient_weight at a b h
factored_second (Operator.Mod, at) a b h = divided_second remainder_term remainder_weight at a b h

pub at_least_keeps : Keeps at_least_zero
at_least_keeps a = past_grows a (at_least_zero a) (grows_on _ _ _ (number_grows a.core a.measure)
    (over_grows (as_number a).measure)) (λ e. e)

pub zero_keeps : Keeps is_zero
zero_keeps a = past_grows a (is_zero a) (grows_on _ _ _ (number_grows a.core a.measure)
    (over_grows (as_number a).measure)) (λ e. e)

pub denial_keeps : Keeps denial
denial_keeps a = past_grows a (denial a) (grows_on _ _ _ (truth_grows a.core a.measure)
    (over_grows (as_truth a).measure)) (λ e. e)

pub conjunction_first : KeepsFirst conjunction
conjunction_first a b = past_grows a (conjunction a b) (grows_on _ _ _ (truth_grows a.core a.measure)
    (pair_grows_first
    (as_truth a).measure (as_truth b).measure)) (and_false_left a.constant b.constant)

pub conjunction_second : KeepsSecond conjunction
conjunction_second a b = past_grows b (conjunction a b) (grows_on _ _ _ (truth_grows b.core b.measure)
    (pair_grows_second (as_truth a).measure (as_truth b).measure)) (and_false_right a.constant b.constant)

pub disjunction_first : KeepsFirst disjunction
disjunction_first a b = past_grows a (disjunction a b) (grows_on _ _ _ (truth_grows a.core a.measure)
    (pair_grows_first
    (as_truth a).measure (as_truth b).measure)) (and_false_left a.constant b.constant)

pub disjunction_second : KeepsSecond disjunction
disjunction_second a b = past_grows b (disjunction a b) (grows_on _ _ _ (truth_grows b.core b.measure)
    (pair_grows_second (as_truth a).measure (as_truth b).measure)) (and_false_right a.constant b.constant)

pub implication_first : KeepsFirst implication
implication_first a b h = disjunction_first (denial a) b (denial_keeps a h)

pub implication_second : KeepsSecond implication
implication_second a b h = disjunction_second (denial a) b h

equation_by_first : (c d : Core) → KeepsFirst (equation_by c d)
equation_by_first (Core.Truth f k) (Core.Truth g l) a b h = conjunction_first (implication a b) (implication b a)
    (implication_first a b h)
equation_by_first (Core.Truth f k) (Core.Number t l) a b h = zero_keeps (difference a b) (difference_first a b h)
equation_by_first (Core.Number t k) (Core.Truth g l) a b h = zero_keeps (difference a b) (difference_first a b h)
equation_by_first (Core.Number t k) (Core.Number u l) a b h = zero_keeps (difference a b) (difference_first a b h)

equation_by_second : (c d : Core) → KeepsSecond (equation_by c d)
equation_by_second (Core.Truth f k) (Core.Truth g l) a b h = conjunction_first (implication a b) (implication b a)
    (implication_second a b h)
equation_by_second (Core.Truth f k) (Core.Number t l) a b h = zero_keeps (difference a b) (difference_second a b h)
equation_by_second (Core.Number t k) (Core.Truth g l) a b h = zero_keeps (difference a b) (difference_second a b h)
equation_by_second (Core.Number t k) (Core.Number u l) a b h = zero_keeps (difference a b) (difference_second a b h)

least_first : KeepsFirst (λ a b. at_least_zero (difference a b))
least_first a b h = at_least_keeps (difference a b) (difference_first a b h)

least_second : KeepsSecond (λ a b. at_least_zero (difference a b))
least_second a b h = at_least_keeps (difference a b) (difference_second a b h)

excess_first : KeepsFirst excess
excess_first a b h = at_least_keeps (difference (difference a b) (number_constant (pos 1))) (difference_first
    (difference a b) (number_constant (pos 1)) (difference_first a b h))

excess_second : KeepsSecond excess
excess_second a b h = at_least_keeps (difference (difference a b) (number_constant (pos 1))) (difference_first
    (difference a b) (number_constant (pos 1)) (difference_second a b h))

never_first : KeepsFirst never
never_first a b = past_grows a (never a b) (pair_grows_first a.measure b.measure)
    (and_false_left a.constant b.constant)

never_second : KeepsSecond never
never_second a b = past_grows b (never a b) (pair_grows_second a.measure b.measure) (and_false_right a.constant
    b.constant)

pub comparison_first : (r : Symbol) → KeepsFirst (comparison r)
comparison_first Symbol.Equal a b h = equation_by_first a.core b.core a b h
comparison_first Symbol.NotEqual a b h = denial_keeps (equation a b) (equation_by_first a.core b.core a b h)
comparison_first Symbol.Below a b h = excess_second b a h
comparison_first Symbol.AtMost a b h = least_second b a h
comparison_first Symbol.Above a b h = excess_first a b h
comparison_first Symbol.AtLeast a b h = least_first a b h
comparison_first _ a b h = never_first a b h

pub comparison_second : (r : Symbol) → KeepsSecond (comparison r)
comparison_second Symbol.Equal a b h = equation_by_second a.core b.core a b h
comparison_second Symbol.NotEqual a b h = denial_keeps (equation a b) (equation_by_second a.core b.core a b h)
comparison_second Symbol.Below a b h = excess_first b a h
comparison_second Symbol.AtMost a b h = least_first b a h
comparison_second Symbol.Above a b h = excess_second a b h
comparison_second Symbol.AtLeast a b h = least_second a b h
comparison_second _ a b h = never_second a b h

pub signed_keeps : (minus : Bool) → Keeps (signed minus)
signed_keeps true a h = negation_keeps a h
signed_keeps false a h = as_number_keeps a h

pub plus_first : (o : Symbol) → KeepsFirst (λ a b. plus a (o, b))
plus_first Symbol.Minus a b h = difference_first a b h
plus_first _ a b h = sum_first a b h

pub plus_second : (o : Symbol) → KeepsSecond (λ a b. plus a (o, b))
plus_second Symbol.Minus a b h = difference_second a b h
plus_second _ a b h = sum_second a b h

typed_by : (b : Bool) → Keeps (λ a. cond b (as_truth a) a)
typed_by true a h = as_truth_keeps a h
typed_by false a h = h

pub typed_keeps : (v : Variable) → Keeps (typed v)
typed_keeps v a h = typed_by v.is_truth a h

-- a fold
pub fold_keeps : {X : Type 0} (op : Formed → X → Formed) → ((a : Formed) (x : X) → is_past a ≡ true →
    is_past (op a x) ≡ true) →
    (a : Formed) (xs : List X) → is_past a ≡ true → is_past (fold op a xs) ≡ true
fold_keeps op k a [] h = h
fold_keeps op k a (x ∷ xs) h = fold_keeps op k (op a x) xs (k a x h)

-- arrays and quantifiers

at_least_one : (n size : ℕ) → size ≤ max 1 n * (size + 5) + 1
at_least_one n size =
    let h : 1 * (size + 5) ≤ max 1 n * (size + 5) = mul-le-mul_right (size + 5) (omega arith) in omega (arith, h)

element_grows : (constant : Bool) (n : ℕ) (ends : ℤ × ℤ) (weight : ℕ) (m : Measure) → constant ≡ false →
    Grows m (element_measure constant n ends weight m)
element_grows true n ends weight m h = cc h
element_grows false n ends weight m h = record {
  most = above (m.own + max (unsigned_abs ends.0) (unsigned_abs ends.1)) m.most weight;
  quantified = λ e. e;
  size = λ e. let s = at_least_one n m.size in omega (arith, e, s);
}

element_on : (v : Variable) (i : Formed) (ends : ℤ × ℤ) → IsPast i → IsPast (array_formed v i ends)
element_on v i ends (inl m) =
    let h = above (i.measure.own + max (unsigned_abs ends.0) (unsigned_abs ends.1)) i.measure.most
    (ends_weight v.range) in
    inl (omega (arith, h, m))
element_on v i ends (inr (inl q)) = inr (inl q)
element_on v i ends (inr (inr s)) =
    inr (inr (refl, (element_grows i.constant (range_size ends) ends (ends_weight v.range) i.measure s.0).size s.1))

array_keeps : (v : Variable) (i : Formed) (ends : ℤ × ℤ) → is_past i ≡ true → is_past (array_formed v i ends) ≡ true
array_keeps v i ends h = shows (array_formed v i ends) (element_on v i ends (tells i h))

no_element_keeps : Keeps no_element
no_element_keeps i = past_grows i (no_element i) (grows_same i.measure) (λ e. refl)

element_by_keeps : (v : Variable) (m : Option (ℤ × ℤ)) → Keeps (λ i. element_by v i m)
element_by_keeps v None i h = no_element_keeps i h
element_by_keeps v (Some ends) i h = typed_keeps v (array_formed v i ends) (array_keeps v i ends h)

element_of_keeps : (m : Option Variable) → Keeps (element_of m)
element_of_keeps None i h = no_element_keeps i h
element_of_keeps (Some v) i h = element_by_keeps v v.indices i h

-- an index that is too large
pub element_keeps : (m : Option Variable) → Keeps (λ i. element_of m (as_number i))
element_keeps m i h = element_of_keeps m (as_number i) (as_number_keeps i h)

quantifier_grows : (fault : Option ℕ) (m : Measure) → Grows m (quantifier_measure fault m)
quantifier_grows fault m =
    record { most = omega arith; quantified = λ e. omega (arith, e); size = λ e. omega (arith, e) }

-- instances that are too large in themselves, or in what a quantifier counts of them
pub quantified_keeps : (bs : List (List ℕ × Bound)) (r : Range) (a : Formed) → is_too_large a ≡ true →
    is_past (quantified bs r a) ≡ true
quantified_keeps bs r a h = elim (either (is_past a) (not (nat_le a.measure.size 65536)) h) [
  | inl p ↦ past_grows a (quantified bs r a) (quantifier_grows (range_misfit (numbers bs) r) a.measure) (λ e. e) p
  | inr s ↦ let w : 65536 < a.measure.size = over a.measure.size 65536 s in
      shows (quantified bs r a) (inr (inl (omega (arith, w))))
]

-- what is too large in itself

pub sum_large : (a b : Formed) → is_too_large a ≡ true → is_too_large (sum a b) ≡ true
sum_large a b = large_grows a (sum a b) (grows_on _ _ _ (number_grows a.core a.measure) (sum_grows_first
    (as_number a).measure (as_number b).measure)) (and_false_left a.constant b.constant)

pub conjunction_large : (a b : Formed) → is_too_large a ≡ true → is_too_large (conjunction a b) ≡ true
conjunction_large a b = large_grows a (conjunction a b) (grows_on _ _ _ (truth_grows a.core a.measure)
    (pair_grows_first (as_truth a).measure (as_truth b).measure)) (and_false_left a.constant b.constant)

pub disjunction_large : (a b : Formed) → is_too_large a ≡ true → is_too_large (disjunction a b) ≡ true
disjunction_large a b = large_grows a (disjunction a b) (grows_on _ _ _ (truth_grows a.core a.measure)
    (pair_grows_first (as_truth a).measure (as_truth b).measure)) (and_false_left a.constant b.constant)
