-- An expression without `div` and `mod` becomes a term or a formula without quotients.
use Rattle.std.proofs.Common.{◌≡◌, ℕ, zero, suc, ℤ, pos, negsuc, ◌+ℤ◌, List, [], ◌∷◌, map, Bool, true, false, cond}
use Rattle.std.proofs.Common.{◌&&◌, Option, Some, None, option_map, IsTrue, refl}
use Rattle.std.specs.Prelude.{fold}
use Rattle.std.specs.List.{list_all}
use Rattle.std.specs.Map.{lookup}
use Rattle.std.specs.Option.{option_or}
use Rattle.std.specs.Str.{bytes_eq}
use Rattle.case_tables.specs.declared.symbol_table.Symbol.{Symbol}
use Rattle.case_tables.specs.declared.word_table.Word.{Word}
use Rattle.unity_syntax.specs.declared.expression.Expr.TheOpen.{Expr-F}
use Rattle.unity_syntax.specs.declared.expression.Operator.{Operator}
use Rattle.unity_syntax.specs.TwoFolds.{Related, ExpressionLayers}
use Rattle.unity_syntax.proofs.ExpressionFolds.{two_expressions}
use Rattle.meaning_states.proofs.StepTheorems.{and_left, and_right}
use Rattle.meaning_documents.specs.Names.{Variable, slot_at, variable_named}
use Rattle.meaning_executions.specs.Counting.{range_size}
use Rattle.core_terms.specs.declared.trees.CTerm.{CTerm}
use Rattle.core_terms.specs.declared.trees.CTerm.TheVariants.{Const, Slot}
use Rattle.core_terms.specs.Folding.{difference_term, zero_form}
use Rattle.expand_rules.specs.declared.cores.Core.{Core}
use Rattle.expand_rules.specs.declared.cores.Bound.{Bound}
use Rattle.expand_rules.specs.declared.cores.Formed.{Formed}
use Rattle.expand_rules.specs.Measures.{ends_weight}
use Rattle.expand_rules.specs.Forming.{Scope, with_number, term_of, form_of, factor_of, as_number, as_truth, sum}
use Rattle.expand_rules.specs.Forming.{difference, negation, multiple, product, factored, at_least_zero, is_zero}
use Rattle.expand_rules.specs.Forming.{denial, conjunction, disjunction, implication, equation_by, equation, excess}
use Rattle.expand_rules.specs.Forming.{comparison, signed, plus, bound_formed, typed, varying, variable_formed}
use Rattle.expand_rules.specs.Forming.{formed_or_zero, word_formed, chain, array_formed, element_by, element_of}
use Rattle.expand_rules.specs.Forming.{number_constant, gathered_by, gathered, numbers, fit_values}
use Rattle.expand_rules.specs.Forming.{Forming, factor_at, form_layer}
use Rattle.plain_quotients.specs.Plain.{FormIsPlain, TermIsPlain}
use Rattle.plain_quotients.specs.Sources.{is_times, times_layer, CoreIsPlain, ScopeIsPlain, ExpressionsPlain}
use Rattle.plain_quotients.proofs.FormLaws.{top_plain, bottom_plain, const_plain, slot_plain, param_plain, sum_kept}
use Rattle.plain_quotients.proofs.FormLaws.{difference_kept, scaled_kept, choice_kept, at_least_kept, zero_kept}
use Rattle.plain_quotients.proofs.FormLaws.{not_kept, and_kept, or_kept}

-- cores

abbrev pub IsPlain : Formed → Type 0
IsPlain a = CoreIsPlain a.core

pub as_term : (c : Core) → CoreIsPlain c → TermIsPlain (term_of c)
as_term (Core.Number t known) h = h
as_term (Core.Truth f known) h =
    choice_kept f (Const (pos 1)) (Const (pos 0)) h (const_plain (pos 1)) (const_plain (pos 0))

pub as_form : (c : Core) → CoreIsPlain c → FormIsPlain (form_of c)
as_form (Core.Number t known) h =
    at_least_kept (difference_term t (Const (pos 1))) (difference_kept t (Const (pos 1)) h (const_plain (pos 1)))
as_form (Core.Truth f known) h = h

sum_plain : (a b : Formed) → IsPlain a → IsPlain b → IsPlain (sum a b)
sum_plain a b h k = sum_kept (term_of a.core) (term_of b.core) (as_term a.core h) (as_term b.core k)

difference_plain : (a b : Formed) → IsPlain a → IsPlain b → IsPlain (difference a b)
difference_plain a b h k = difference_kept (term_of a.core) (term_of b.core) (as_term a.core h) (as_term b.core k)

negation_plain : (a : Formed) → IsPlain a → IsPlain (negation a)
negation_plain a h = scaled_kept (negsuc 0) (term_of a.core) (as_term a.core h)

multiple_plain : (k a : Formed) → IsPlain a → IsPlain (multiple k a)
multiple_plain k a h = scaled_kept (factor_of (as_number k).core) (term_of a.core) (as_term a.core h)

product_plain : (a b : Formed) → IsPlain a → IsPlain b → IsPlain (product a b)
product_plain a b h k = by_side a.constant
  where
    by_side : (c : Bool) → IsPlain (cond c (multiple a b) (multiple b a))
    by_side true = multiple_plain a b k
    by_side false = multiple_plain b a h

factored_plain : (a : Formed) (o : Operator) (at : ℕ) (b : Formed) → IsTrue (is_times o) → IsPlain a → IsPlain b →
    IsPlain (factored a ((o, at), b))
factored_plain a Operator.Times at b only h k = product_plain a b h k
factored_plain a Operator.Div at b only h k = absurd (cc only)
factored_plain a Operator.Mod at b only h k = absurd (cc only)

least_plain : (a : Formed) → IsPlain a → IsPlain (at_least_zero a)
least_plain a h = at_least_kept (term_of a.core) (as_term a.core h)

zero_plain : (a : Formed) → IsPlain a → IsPlain (is_zero a)
zero_plain a h = zero_kept (term_of a.core) (as_term a.core h)

denial_plain : (a : Formed) → IsPlain a → IsPlain (denial a)
denial_plain a h = not_kept (form_of a.core) (as_form a.core h)

conjunction_plain : (a b : Formed) → IsPlain a → IsPlain b → IsPlain (conjunction a b)
conjunction_plain a b h k = and_kept (form_of a.core) (form_of b.core) (as_form a.core h) (as_form b.core k)

disjunction_plain : (a b : Formed) → IsPlain a → IsPlain b → IsPlain (disjunction a b)
disjunction_plain a b h k = or_kept (form_of a.core) (form_of b.core) (as_form a.core h) (as_form b.core k)

implication_plain : (a b : Formed) → IsPlain a → IsPlain b → IsPlain (implication a b)
implication_plain a b h k = disjunction_plain (denial a) b (denial_plain a h) k

equation_plain : (c d : Core) (a b : Formed) → IsPlain a → IsPlain b → IsPlain (equation_by c d a b)
equation_plain (Core.Truth f m) (Core.Truth g n) a b h k =
    conjunction_plain (implication a b) (implication b a) (implication_plain a b h k) (implication_plain b a k h)
equation_plain (Core.Truth f m) (Core.Number t n) a b h k = zero_plain (difference a b) (difference_plain a b h k)
equation_plain (Core.Number t m) (Core.Truth g n) a b h k = zero_plain (difference a b) (difference_plain a b h k)
equation_plain (Core.Number t m) (Core.Number u n) a b h k = zero_plain (difference a b) (difference_plain a b h k)

excess_plain : (a b : Formed) → IsPlain a → IsPlain b → IsPlain (excess a b)
excess_plain a b h k =
    least_plain (difference (difference a b) (number_constant (pos 1)))
    (difference_plain (difference a b) (number_constant (pos 1)) (difference_plain a b h k) (const_plain (pos 1)))

comparison_plain : (r : Symbol) (a b : Formed) → IsPlain a → IsPlain b → IsPlain (comparison r a b)
comparison_plain Symbol.Equal a b h k = equation_plain a.core b.core a b h k
comparison_plain Symbol.NotEqual a b h k = denial_plain (equation a b) (equation_plain a.core b.core a b h k)
comparison_plain Symbol.Below a b h k = excess_plain b a k h
comparison_plain Symbol.AtMost a b h k = least_plain (difference b a) (difference_plain b a k h)
comparison_plain Symbol.Above a b h k = excess_plain a b h k
comparison_plain Symbol.AtLeast a b h k = least_plain (difference a b) (difference_plain a b h k)
comparison_plain _ a b h k = bottom_plain

signed_plain : (minus : Bool) (a : Formed) → IsPlain a → IsPlain (signed minus a)
signed_plain true a h = negation_plain a h
signed_plain false a h = as_term a.core h

plus_plain : (a : Formed) (o : Symbol) (b : Formed) → IsPlain a → IsPlain b → IsPlain (plus a (o, b))
plus_plain a Symbol.Minus b h k = difference_plain a b h k
plus_plain a _ b h k = sum_plain a b h k

-- words

typed_plain : (b : Bool) (a : Formed) → IsPlain a → IsPlain (cond b (as_truth a) a)
typed_plain true a h = as_form a.core h
typed_plain false a h = h

abbrev PlainOr : Option Formed → Type 0
PlainOr None = Unit {0}
PlainOr (Some a) = IsPlain a

either_plain : (a b : Option Formed) → PlainOr a → PlainOr b → PlainOr (option_or a b)
either_plain None b h k = k
either_plain (Some a) b h k = h

or_zero_plain : (a : Option Formed) → PlainOr a → IsPlain (formed_or_zero a)
or_zero_plain None h = const_plain (pos 0)
or_zero_plain (Some a) h = h

bound_plain : (m : Option Bound) → PlainOr (option_map bound_formed m)
bound_plain None = tt
bound_plain (Some (Bound.Number z)) = const_plain z
bound_plain (Some (Bound.Param n weight)) = param_plain n

always_plain : (m : Option Formed) → ((a : Formed) → m ≡ Some a → IsPlain a) → PlainOr m
always_plain None h = tt
always_plain (Some a) h = h a refl

slot_formed_plain : (v : Variable) (m : Option (ℤ × ℤ)) →
    PlainOr (option_map (λ slot. typed v (varying (Slot slot) (ends_weight v.range))) (slot_at v.first m None))
slot_formed_plain v None = typed_plain v.is_truth (varying (Slot v.first) (ends_weight v.range)) (slot_plain v.first)
slot_formed_plain v (Some r) = tt

variable_plain : (m : Option Variable) → PlainOr (variable_formed m)
variable_plain None = tt
variable_plain (Some v) = slot_formed_plain v v.indices

constant_plain : (m : Option ℤ) → PlainOr (option_map number_constant m)
constant_plain None = tt
constant_plain (Some z) = const_plain z

word_plain : (s : Scope) → ScopeIsPlain s → (name : List ℕ) → IsPlain (word_formed s name)
word_plain s always name = or_zero_plain _ (either_plain _ _ (bound_plain (lookup (bytes_eq name) s.bound))
    (either_plain _ _ (always_plain (lookup (bytes_eq name) s.always) (λ a e. always name a e))
    (either_plain _ _ (variable_plain (variable_named name s.variables))
    (constant_plain (lookup (bytes_eq name) s.words)))))

-- arrays

chain_plain : (e : CTerm) → TermIsPlain e → (low : ℤ) (first n : ℕ) → TermIsPlain (chain e low first n)
chain_plain e h low first zero = const_plain (pos 0)
chain_plain e h low first (suc n) =
    choice_kept (zero_form (difference_term e (Const low))) (Slot first) (chain e (low +ℤ pos 1) (suc first) n)
    (zero_kept (difference_term e (Const low)) (difference_kept e (Const low) h (const_plain low))) (slot_plain first)
    (chain_plain e h (low +ℤ pos 1) (suc first) n)

element_plain_by : (v : Variable) (i : Formed) (m : Option (ℤ × ℤ)) → TermIsPlain (term_of i.core) →
    IsPlain (element_by v (as_number i) m)
element_plain_by v i None h = const_plain (pos 0)
element_plain_by v i (Some r) h =
    typed_plain v.is_truth (array_formed v (as_number i) r)
    (chain_plain (term_of i.core) h r.0 v.first (range_size r))

element_plain : (m : Option Variable) (i : Formed) → TermIsPlain (term_of i.core) →
    IsPlain (element_of m (as_number i))
element_plain None i h = const_plain (pos 0)
element_plain (Some v) i h = element_plain_by v i v.indices h

-- each kind of expression

abbrev PlainIn : Bool → Forming → Type 0
PlainIn only f = IsTrue only → (s : Scope) → ScopeIsPlain s → IsPlain (f.made s)

abbrev Part : Type 0
Part = Related PlainIn

abbrev Keeps : (Formed → Formed → Formed) → Type 0
Keeps op = (a b : Formed) → IsPlain a → IsPlain b → IsPlain (op a b)

module _ (s : Scope) (plain : ScopeIsPlain s) where
  fold_plain : (op : Formed → Formed → Formed) → Keeps op → (a : Formed) → IsPlain a → (xs : List Part) →
      IsTrue (list_all (λ m. m) (map (λ k. k.0) xs)) → IsPlain (fold op a (map (λ m. m.made s) (map (λ k. k.1) xs)))
  fold_plain op k a h [] only = h
  fold_plain op k a h (x ∷ xs) only =
      fold_plain op k (op a (x.1.made s))
      (k a (x.1.made s) h (x.2 (and_left x.0 (list_all (λ m. m) (map (λ k. k.0) xs)) only) s plain)) xs
      (and_right x.0 (list_all (λ m. m) (map (λ k. k.0) xs)) only)

  sums_plain : (a : Formed) → IsPlain a → (xs : List (Symbol × Part)) →
      IsTrue (list_all (λ (part : Symbol × Bool). part.1) (map (λ (k : Symbol × Part). (k.0, k.1.0)) xs)) →
      IsPlain (fold plus a (map (λ (part : Symbol × Forming). (part.0, part.1.made s))
      (map (λ (k : Symbol × Part). (k.0, k.1.1)) xs)))
  sums_plain a h [] only = h
  sums_plain a h (x ∷ xs) only =
      let rest : Bool =
      list_all (λ (part : Symbol × Bool). part.1) (map (λ (k : Symbol × Part). (k.0, k.1.0)) xs) in
      sums_plain (plus a (x.0, x.1.1.made s))
      (plus_plain a x.0 (x.1.1.made s) h (x.1.2 (and_left x.1.0 rest only) s plain)) xs (and_right x.1.0 rest only)

  factors_plain : (a : Formed) → IsPlain a → (xs : List (Operator × Part)) →
      IsTrue (list_all (λ (part : Operator × Bool). is_times part.0 && part.1)
      (map (λ (k : Operator × Part). (k.0, k.1.0)) xs)) →
      IsPlain (fold factored a (map (factor_at s) (map (λ (k : Operator × Part). (k.0, k.1.1)) xs)))
  factors_plain a h [] only = h
  factors_plain a h (x ∷ xs) only =
      let rest : Bool =
      list_all (λ (part : Operator × Bool). is_times part.0 && part.1)
      (map (λ (k : Operator × Part). (k.0, k.1.0)) xs) in
      let first = and_left (is_times x.0 && x.1.0) rest only in
      factors_plain (factored a (factor_at s (x.0, x.1.1)))
      (factored_plain a x.0 x.1.1.at (x.1.1.made s) (and_left (is_times x.0) x.1.0 first) h
      (x.1.2 (and_right (is_times x.0) x.1.0 first) s plain)) xs (and_right (is_times x.0 && x.1.0) rest only)

joined_plain : (op : Formed → Formed → Formed) → Keeps op → (f : ℤ → Formed) → ((z : ℤ) → IsPlain (f z)) →
    (a : Formed) → IsPlain a → (zs : List ℤ) → IsPlain (fold op a (map f zs))
joined_plain op k f h a i [] = i
joined_plain op k f h a i (z ∷ zs) = joined_plain op k f h (op a (f z)) (k a (f z) i (h z)) zs

gathered_plain : (which : Word) (f : ℤ → Formed) → ((z : ℤ) → IsPlain (f z)) → (zs : List ℤ) →
    IsPlain (gathered which (map f zs))
gathered_plain Word.All f h [] = top_plain
gathered_plain Word.All f h (z ∷ zs) =
    joined_plain conjunction conjunction_plain f h (as_truth (f z)) (as_form (f z).core (h z)) zs
gathered_plain Word.Any f h [] = bottom_plain
gathered_plain Word.Any f h (z ∷ zs) =
    joined_plain disjunction disjunction_plain f h (as_truth (f z)) (as_form (f z).core (h z)) zs
gathered_plain _ f h zs = sums f h zs
  where
    sums : (f : ℤ → Formed) → ((z : ℤ) → IsPlain (f z)) → (zs : List ℤ) →
        IsPlain (gathered_by (number_constant (pos 0)) as_number sum (map f zs))
    sums f h [] = const_plain (pos 0)
    sums f h (z ∷ zs) = joined_plain sum sum_plain f h (as_number (f z)) (as_term (f z).core (h z)) zs

layer : ExpressionLayers PlainIn times_layer form_layer
layer (Expr-F.Implies at l r) only s plain =
    implication_plain (l.1.made s) (r.1.made s) (l.2 (and_left l.0 r.0 only) s plain)
    (r.2 (and_right l.0 r.0 only) s plain)
layer (Expr-F.And at x xs) only s plain =
    let rest : Bool = list_all (λ m. m) (map (λ (k : Part). k.0) xs) in
    fold_plain s plain conjunction conjunction_plain (as_truth (x.1.made s))
    (as_form (x.1.made s).core (x.2 (and_left x.0 rest only) s plain)) xs (and_right x.0 rest only)
layer (Expr-F.Or at x xs) only s plain =
    let rest : Bool = list_all (λ m. m) (map (λ (k : Part). k.0) xs) in
    fold_plain s plain disjunction disjunction_plain (as_truth (x.1.made s))
    (as_form (x.1.made s).core (x.2 (and_left x.0 rest only) s plain)) xs (and_right x.0 rest only)
layer (Expr-F.Not at x) only s plain = denial_plain (x.1.made s) (x.2 only s plain)
layer (Expr-F.Compare at l r x) only s plain =
    comparison_plain r (l.1.made s) (x.1.made s) (l.2 (and_left l.0 x.0 only) s plain)
    (x.2 (and_right l.0 x.0 only) s plain)
layer (Expr-F.Sum at minus x xs) only s plain =
    let rest : Bool =
    list_all (λ (part : Symbol × Bool). part.1) (map (λ (k : Symbol × Part). (k.0, k.1.0)) xs) in
    sums_plain s plain (signed minus (x.1.made s))
    (signed_plain minus (x.1.made s) (x.2 (and_left x.0 rest only) s plain)) xs (and_right x.0 rest only)
layer (Expr-F.Product at x xs) only s plain =
    let rest : Bool =
    list_all (λ (part : Operator × Bool). is_times part.0 && part.1)
    (map (λ (k : Operator × Part). (k.0, k.1.0)) xs) in
    factors_plain s plain (x.1.made s) (x.2 (and_left x.0 rest only) s plain) xs (and_right x.0 rest only)
layer (Expr-F.Number at number) only s plain = const_plain (pos number)
layer (Expr-F.True at) only s plain = top_plain
layer (Expr-F.False at) only s plain = bottom_plain
layer (Expr-F.Word at name None) only s plain = word_plain s plain name.text
layer (Expr-F.Word at name (Some x)) only s plain =
    element_plain (variable_named name.text s.variables) (x.1.made s)
    (as_term (x.1.made s).core (x.2 only s plain))
layer (Expr-F.Brackets at x) only s plain = x.2 only s plain
layer (Expr-F.Quantified at which name range of) only s plain =
    gathered_plain which (λ z. of.1.made (with_number s name.text z))
    (λ z. of.2 only (with_number s name.text z) plain) (fit_values (numbers s.bound) range)

pub expressions_plain : ExpressionsPlain
expressions_plain e s only plain = two_expressions PlainIn times_layer form_layer layer e only s plain
