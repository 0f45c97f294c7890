-- What expressions become: terms and formulas, folded, with always names put in place and quantifiers unfolded; and how
-- large they are before folding.
use Rattle.std.specs.Prelude.{ℕ, zero, suc, ◌+◌, ◌*◌, ℤ, pos, negsuc, ◌+ℤ◌, List, [], ◌∷◌, map, fold, max, Bool, true}
use Rattle.std.specs.Prelude.{false, cond, ◌&&◌, ◌||◌, Option, Some, None, option_map}
use Rattle.std.specs.Int.RustNames.{int_le, unsigned_abs}
use Rattle.std.specs.Option.{option_or, is_some}
use Rattle.std.specs.Map.{lookup}
use Rattle.std.specs.Str.{bytes_eq}
use Rattle.core_terms.specs.from_case_tables.declared.symbol_table.Symbol.{Symbol}
use Rattle.core_terms.specs.from_case_tables.declared.word_table.Word.{Word}
use Rattle.names_rules.specs.from_unity_syntax.declared.name.End.{End}
use Rattle.names_rules.specs.from_unity_syntax.declared.name.Range.{Range}
use Rattle.names_rules.specs.from_unity_syntax.declared.expression.Expr.{Expr, fold-Expr}
use Rattle.names_rules.specs.from_unity_syntax.declared.expression.Expr.TheOpen.{Expr-F}
use Rattle.names_rules.specs.from_unity_syntax.declared.expression.Operator.{Operator}
use Rattle.core_terms.specs.from_meaning_states.Division.{divisor}
use Rattle.meaning_documents.specs.Names.{Bindings, Variable, or_zero, slot_at}
use Rattle.meaning_documents.specs.Value.{range_values}
use Rattle.meaning_documents.specs.from_meaning_executions.Counting.{range_size}
use Rattle.meaning_documents.specs.Names.{variable_named}
use Rattle.core_terms.specs.declared.trees.CTerm.{CTerm}
use Rattle.core_terms.specs.declared.trees.CTerm.TheVariants.{Const, Slot, Param}
use Rattle.core_terms.specs.declared.trees.CForm.{CForm}
use Rattle.core_terms.specs.declared.trees.CForm.TheVariants.{Top, Bottom}
use Rattle.core_terms.specs.Folding.{number_of, truth_of, sum_term, difference_term, scaled_term, choice_term}
use Rattle.core_terms.specs.Folding.{quotient_term, remainder_term}
use Rattle.core_terms.specs.Folding.{at_least_form, zero_form, not_form, and_form, or_form}
use Rattle.expand_rules.specs.declared.cores.Core.{Core}
use Rattle.expand_rules.specs.declared.cores.Bound.{Bound}
use Rattle.expand_rules.specs.declared.cores.Measure.{Measure}
use Rattle.expand_rules.specs.declared.cores.Formed.{Formed}
use Rattle.expand_rules.specs.declared.effects.Count.{Count}
use Rattle.expand_rules.specs.Measures.{ends_weight, leaf, sum_measure, multiple_measure, negation_measure}
use Rattle.expand_rules.specs.Measures.{over_measure, pair_measure, choice_measure, element_measure}
use Rattle.expand_rules.specs.Measures.{quantifier_measure, divided_measure, is_fit_range, range_misfit}
use Rattle.expand_rules.specs.Measures.{divisor_flaws}
use Rattle.expand_rules.specs.Counts.{no_count, both_counts, one_node_more, ranged_count, index_count, stray_count}
use Rattle.expand_rules.specs.Counts.{flawed_count}

-- where an expression stands: the document's variables and enumeration words, what always names have become, and what
-- bound names and parameters stand for, the innermost first
pub record Scope : Type 0 where
  pub variables : List Variable
  pub words : Bindings
  pub always : List (List ℕ × Formed)
  pub bound : List (List ℕ × Bound)

-- the same place, with one more bound name inside
abbrev pub with_number : Scope → List ℕ → ℤ → Scope
with_number s name z = record s { bound = (name, Bound.Number z) ∷ s.bound }

-- cores

-- a core with what is known of it
abbrev pub number_core : CTerm → Core
number_core t = Core.Number t (number_of t)

abbrev pub truth_core : CForm → Core
truth_core f = Core.Truth f (truth_of f)

-- a core as a term: a truth is 1 or 0
abbrev pub term_of : Core → CTerm
term_of (Core.Number t known) = t
term_of (Core.Truth f known) = choice_term f (Const (pos 1)) (Const (pos 0))

-- a core as a formula: a number is a truth where it is at least 1
abbrev pub form_of : Core → CForm
form_of (Core.Number t known) = at_least_form (difference_term t (Const (pos 1)))
form_of (Core.Truth f known) = f

-- the number of a core that is constant
abbrev pub factor_of : Core → ℤ
factor_of c = or_zero (number_of (term_of c))

-- operations on cores

abbrev pub sum_core : Core → Core → Core
sum_core x y = number_core (sum_term (term_of x) (term_of y))

abbrev pub difference_core : Core → Core → Core
difference_core x y = number_core (difference_term (term_of x) (term_of y))

abbrev pub negated_core : Core → Core
negated_core x = number_core (scaled_term (negsuc 0) (term_of x))

abbrev pub multiple_core : Core → Core → Core
multiple_core k x = number_core (scaled_term (factor_of k) (term_of x))

abbrev pub at_least_core : Core → Core
at_least_core x = truth_core (at_least_form (term_of x))

abbrev pub zero_core : Core → Core
zero_core x = truth_core (zero_form (term_of x))

abbrev pub not_core : Core → Core
not_core x = truth_core (not_form (form_of x))

abbrev pub and_core : Core → Core → Core
and_core x y = truth_core (and_form (form_of x) (form_of y))

abbrev pub or_core : Core → Core → Core
or_core x y = truth_core (or_form (form_of x) (form_of y))

-- what needs no variable and no parameter
abbrev pub constantly : Core → ℕ → Formed
constantly core weight = record { core = core; constant = true; exact = true; measure = leaf weight }

-- a slot or a parameter of such a weight
abbrev pub varying : CTerm → ℕ → Formed
varying t weight = record { core = number_core t; constant = false; exact = true; measure = leaf weight }

abbrev pub number_constant : ℤ → Formed
number_constant z = constantly (number_core (Const z)) (unsigned_abs z)

abbrev pub truth_constant : CForm → Formed
truth_constant f = constantly (truth_core f) 0

-- numbers and truths in each other's place

abbrev pub number_measure : Core → Measure → Measure
number_measure (Core.Number t known) m = m
number_measure (Core.Truth f known) m = choice_measure m

abbrev pub as_number : Formed → Formed
as_number a = record a { core = number_core (term_of a.core); measure = number_measure a.core a.measure }

abbrev pub truth_measure : Core → Measure → Measure
truth_measure (Core.Number t known) m = over_measure (sum_measure m (leaf 1))
truth_measure (Core.Truth f known) m = m

abbrev pub as_truth : Formed → Formed
as_truth a = record a { core = truth_core (form_of a.core); measure = truth_measure a.core a.measure }

-- operations on one and on two

abbrev pub through : (Core → Core) → (Measure → Measure) → Formed → Formed
through op count a = record a { core = op a.core; measure = count a.measure }

abbrev pub both : (Core → Core → Core) → (Measure → Measure → Measure) → Formed → Formed → Formed
both op count a b = record {
  core = op a.core b.core;
  constant = a.constant && b.constant;
  exact = a.exact && b.exact;
  measure = count a.measure b.measure;
}

abbrev pub sum : Formed → Formed → Formed
sum a b = both sum_core sum_measure (as_number a) (as_number b)

abbrev pub difference : Formed → Formed → Formed
difference a b = both difference_core sum_measure (as_number a) (as_number b)

abbrev pub negation : Formed → Formed
negation a = through negated_core negation_measure (as_number a)

-- a number, so many times as a constant says
abbrev pub multiple : Formed → Formed → Formed
multiple k a = both multiple_core (multiple_measure (factor_of k.core)) (as_number k) (as_number a)

-- a product, by a constant factor; of two constants the left one is the factor
abbrev pub product : Formed → Formed → Formed
product a b = record (cond a.constant (multiple a b) (multiple b a)) {
  constant = a.constant && b.constant;
  exact = (a.constant || b.constant) && (a.exact && b.exact);
}

-- a divisor: 1 where its number is less, and where a divisor in it is bad
abbrev pub divisor_of : Formed → ℤ
divisor_of b = cond (is_some b.measure.flaws.divisor) (pos 1) (divisor (factor_of b.core))

-- the place of a divisor that is below 1; where a divisor in it is bad, that one alone is
abbrev pub bad_divisor : ℕ → Formed → Option ℕ
bad_divisor at b = cond (is_some b.measure.flaws.divisor || int_le (pos 1) (factor_of b.core)) None (Some at)

-- a number divided by a constant one, which begins at this byte: what the operation makes, and how far from 0 that lies
abbrev pub divided_by : (ℤ → CTerm → CTerm) → (ℕ → ℕ → ℕ) → ℕ → Formed → Formed → Formed
divided_by op weight at a b = record {
  core = number_core (op (divisor_of b) (term_of a.core));
  constant = a.constant && b.constant;
  exact = b.constant && (a.exact && b.exact);
  measure = divided_measure (weight (unsigned_abs (divisor_of b)) a.measure.own) (unsigned_abs (divisor_of b))
      (divisor_flaws (bad_divisor at b)) a.measure b.measure;
}

abbrev pub divided : (ℤ → CTerm → CTerm) → (ℕ → ℕ → ℕ) → ℕ → Formed → Formed → Formed
divided op weight at a b = divided_by op weight at (as_number a) (as_number b)

-- how far from 0 a quotient and a remainder lie, by a divisor and a number that lie so far from 0
abbrev pub quotient_weight : ℕ → ℕ → ℕ
quotient_weight k own = max 1 own

abbrev pub remainder_weight : ℕ → ℕ → ℕ
remainder_weight k own = 2 * own + k

abbrev pub quotient : ℕ → Formed → Formed → Formed
quotient = divided quotient_term quotient_weight

abbrev pub remainder : ℕ → Formed → Formed → Formed
remainder = divided remainder_term remainder_weight

-- an operator of a product and its right operand, with its first byte, after all that stands before them
abbrev pub factored : Formed → (Operator × ℕ) × Formed → Formed
factored a ((Operator.Times, at), b) = product a b
factored a ((Operator.Div, at), b) = quotient at a b
factored a ((Operator.Mod, at), b) = remainder at a b

-- that a number is at least 0, and that it is 0
abbrev pub at_least_zero : Formed → Formed
at_least_zero a = through at_least_core over_measure (as_number a)

abbrev pub is_zero : Formed → Formed
is_zero a = through zero_core over_measure (as_number a)

abbrev pub denial : Formed → Formed
denial a = through not_core over_measure (as_truth a)

abbrev pub conjunction : Formed → Formed → Formed
conjunction a b = both and_core pair_measure (as_truth a) (as_truth b)

abbrev pub disjunction : Formed → Formed → Formed
disjunction a b = both or_core pair_measure (as_truth a) (as_truth b)

abbrev pub implication : Formed → Formed → Formed
implication a b = disjunction (denial a) b

-- comparisons

-- that two are equal: of truths, that each implies the other; of numbers, that their difference is 0
abbrev pub equation_by : Core → Core → Formed → Formed → Formed
equation_by (Core.Truth f known) (Core.Truth g known2) a b = conjunction (implication a b) (implication b a)
equation_by _ _ a b = is_zero (difference a b)

abbrev pub equation : Formed → Formed → Formed
equation a b = equation_by a.core b.core a b

-- that the first is greater
abbrev pub excess : Formed → Formed → Formed
excess a b = at_least_zero (difference (difference a b) (number_constant (pos 1)))

-- what never holds
abbrev pub never : Formed → Formed → Formed
never a b = both (λ x y. truth_core Bottom) pair_measure a b

-- a comparison; `_` is each symbol that is none
abbrev pub comparison : Symbol → Formed → Formed → Formed
comparison Symbol.Equal a b = equation a b
comparison Symbol.NotEqual a b = denial (equation a b)
comparison Symbol.Below a b = excess b a
comparison Symbol.AtMost a b = at_least_zero (difference b a)
comparison Symbol.Above a b = excess a b
comparison Symbol.AtLeast a b = at_least_zero (difference a b)
comparison _ a b = never a b

-- sums: `+` and `-` from left to right; no symbol but these stands there

abbrev pub signed : Bool → Formed → Formed
signed true a = negation a
signed false a = as_number a

abbrev pub plus : Formed → Symbol × Formed → Formed
plus a (Symbol.Minus, b) = difference a b
plus a (_, b) = sum a b

-- words

abbrev pub bound_formed : Bound → Formed
bound_formed (Bound.Number z) = number_constant z
bound_formed (Bound.Param n weight) = varying (Param n) (max 1 weight)

-- what is read of a variable is a truth where the variable's numbers are truths
abbrev pub typed : Variable → Formed → Formed
typed v a = cond v.is_truth (as_truth a) a

-- the slot of a variable that is no array
abbrev pub plain_formed : Variable → Option Formed
plain_formed v =
    option_map (λ slot. typed v (varying (Slot slot) (ends_weight v.range))) (slot_at v.first v.indices None)

abbrev pub variable_formed : Option Variable → Option Formed
variable_formed None = None
variable_formed (Some v) = plain_formed v

-- 0 where there is no meaning
abbrev pub formed_or_zero : Option Formed → Formed
formed_or_zero None = number_constant (pos 0)
formed_or_zero (Some f) = f

-- what a word stands for: a bound name or a parameter, an always name, a variable, or an enumeration word
abbrev pub word_formed : Scope → List ℕ → Formed
word_formed s name = formed_or_zero
    (option_or (option_map bound_formed (lookup (bytes_eq name) s.bound))
    (option_or (lookup (bytes_eq name) s.always)
    (option_or (variable_formed (variable_named name s.variables))
    (option_map number_constant (lookup (bytes_eq name) s.words)))))

-- arrays

-- the term of a slot, and 0 where there is none
abbrev pub slot_term : Option ℕ → CTerm
slot_term None = Const (pos 0)
slot_term (Some n) = Slot n

-- a choice for each index, from this one on, of the slots from this one on; 0 elsewhere
abbrev pub chain : CTerm → ℤ → ℕ → ℕ → CTerm
chain e low first zero = Const (pos 0)
chain e low first (suc n) =
    choice_term (zero_form (difference_term e (Const low))) (Slot first) (chain e (low +ℤ pos 1) (suc first) n)

-- what is read of no array
abbrev pub no_element : Formed → Formed
no_element index = record (number_constant (pos 0)) {
  constant = false;
  exact = index.exact;
  measure = index.measure;
}

-- what is read of an array, as a number
abbrev pub array_formed : Variable → Formed → ℤ × ℤ → Formed
array_formed v index ends = record {
  core = number_core (chain (term_of index.core) ends.0 v.first (range_size ends));
  constant = false;
  exact = index.exact;
  measure = element_measure index.constant (range_size ends) ends (ends_weight v.range) index.measure;
}

abbrev pub element_by : Variable → Formed → Option (ℤ × ℤ) → Formed
element_by v index None = no_element index
element_by v index (Some ends) = typed v (array_formed v index ends)

abbrev pub element_of : Option Variable → Formed → Formed
element_of None index = no_element index
element_of (Some v) index = element_by v index v.indices

abbrev pub indexed_formed : Scope → List ℕ → Option Formed → Formed
indexed_formed s name None = word_formed s name
indexed_formed s name (Some index) = element_of (variable_named name s.variables) (as_number index)

-- quantifiers

-- the instances joined from left to right; with no instance there is only the constant
abbrev pub gathered_by : Formed → (Formed → Formed) → (Formed → Formed → Formed) → List Formed → Formed
gathered_by none one op [] = none
gathered_by none one op (a ∷ rest) = fold op (one a) rest

-- `all`, `any` or `sum`; no other word stands there
abbrev pub gathered : Word → List Formed → Formed
gathered Word.All fs = gathered_by (truth_constant Top) as_truth conjunction fs
gathered Word.Any fs = gathered_by (truth_constant Bottom) as_truth disjunction fs
gathered _ fs = gathered_by (number_constant (pos 0)) as_number sum fs

-- the numbers of bound names; a parameter has none
abbrev pub number_in : Bound → ℤ
number_in (Bound.Number z) = z
number_in (Bound.Param n weight) = pos 0

abbrev pub numbers : List (List ℕ × Bound) → Bindings
numbers bs = map (λ b. (b.0, number_in b.1)) bs

-- whether a word in a range end stands for one number
abbrev pub stands_for_number : Option Bound → Bool
stands_for_number None = true
stands_for_number (Some (Bound.Number z)) = true
stands_for_number (Some (Bound.Param n weight)) = false

abbrev pub is_number_end : List (List ℕ × Bound) → End → Bool
is_number_end bs (End.Number at minus number) = true
is_number_end bs (End.Word at name offset) = stands_for_number (lookup (bytes_eq name.text) bs)

abbrev pub is_fixed_range : List (List ℕ × Bound) → Range → Bool
is_fixed_range bs r = is_number_end bs r.low && is_number_end bs r.high

-- the numbers of a range; there are none where an end is too large
abbrev pub fit_values : Bindings → Range → List ℤ
fit_values b r = cond (is_fit_range b r) (range_values b r) []

-- instances that are joined, as a quantifier over a range
abbrev pub quantified : List (List ℕ × Bound) → Range → Formed → Formed
quantified bs r a = record a {
  exact = is_fixed_range bs r && a.exact;
  measure = quantifier_measure (range_misfit (numbers bs) r) a.measure;
}

-- a value that is written nowhere

-- a divisor in it, whose first byte this is, counts as a constant index does
abbrev pub divisor_count : ℕ → Formed → Count
divisor_count at b = flawed_count (divisor_flaws (bad_divisor at b))
    (cond b.constant (index_count b.measure) (stray_count b.measure))

-- so much of an operand counts
abbrev pub operand_count : Operator → ℕ → Formed → Count → Count
operand_count Operator.Times at b n = n
operand_count _ at b n = divisor_count at (as_number b)

-- instances together, as a quantifier over a range
abbrev pub quantified_count : List (List ℕ × Bound) → Range → Count → Count
quantified_count bs r n = one_node_more (ranged_count (range_misfit (numbers bs) r) n)

-- expressions

-- an expression: its first byte, what it becomes at each place where it may stand, and what counts of it there where it
-- is written nowhere: each quantifier in it, and each of their instances, so that a fault is found in whichever
-- instance it comes, and its divisors
pub record Forming : Type 0 where
  pub at : ℕ
  pub made : Scope → Formed
  pub unwritten : Scope → Count

abbrev pub place_layer : Expr-F Forming → ℕ
place_layer (Expr-F.Implies at left right) = at
place_layer (Expr-F.And at first rest) = at
place_layer (Expr-F.Or at first rest) = at
place_layer (Expr-F.Not at of) = at
place_layer (Expr-F.Compare at left relation right) = at
place_layer (Expr-F.Sum at minus first rest) = at
place_layer (Expr-F.Product at first rest) = at
place_layer (Expr-F.Number at number) = at
place_layer (Expr-F.True at) = at
place_layer (Expr-F.False at) = at
place_layer (Expr-F.Word at name index) = at
place_layer (Expr-F.Brackets at of) = at
place_layer (Expr-F.Quantified at which name range of) = at

-- an operator with the first byte of its right operand, and what that becomes
abbrev pub factor_at : Scope → Operator × Forming → (Operator × ℕ) × Formed
factor_at s part = ((part.0, part.1.at), part.1.made s)

-- what each kind of expression becomes, from its parts
abbrev pub made_layer : Expr-F Forming → Scope → Formed
made_layer (Expr-F.Implies at left right) s = implication (left.made s) (right.made s)
made_layer (Expr-F.And at first rest) s = fold conjunction (as_truth (first.made s)) (map (λ m. m.made s) rest)
made_layer (Expr-F.Or at first rest) s = fold disjunction (as_truth (first.made s)) (map (λ m. m.made s) rest)
made_layer (Expr-F.Not at of) s = denial (of.made s)
made_layer (Expr-F.Compare at left relation right) s = comparison relation (left.made s) (right.made s)
made_layer (Expr-F.Sum at minus first rest) s =
    fold plus (signed minus (first.made s)) (map (λ part. (part.0, part.1.made s)) rest)
made_layer (Expr-F.Product at first rest) s = fold factored (first.made s) (map (factor_at s) rest)
made_layer (Expr-F.Number at number) s = number_constant (pos number)
made_layer (Expr-F.True at) s = truth_constant Top
made_layer (Expr-F.False at) s = truth_constant Bottom
made_layer (Expr-F.Word at name index) s = indexed_formed s name.text (option_map (λ m. m.made s) index)
made_layer (Expr-F.Brackets at of) s = of.made s
made_layer (Expr-F.Quantified at which name range of) s = quantified s.bound range
    (gathered which (map (λ z. of.made (with_number s name.text z)) (fit_values (numbers s.bound) range)))

abbrev pub operand_at : Scope → Operator × Forming → Count
operand_at s part = operand_count part.0 part.1.at (part.1.made s) (part.1.unwritten s)

-- what counts of each kind where it is written nowhere
abbrev pub unwritten_layer : Expr-F Forming → Scope → Count
unwritten_layer (Expr-F.Implies at left right) s = both_counts (left.unwritten s) (right.unwritten s)
unwritten_layer (Expr-F.And at first rest) s = fold both_counts (first.unwritten s) (map (λ m. m.unwritten s) rest)
unwritten_layer (Expr-F.Or at first rest) s = fold both_counts (first.unwritten s) (map (λ m. m.unwritten s) rest)
unwritten_layer (Expr-F.Not at of) s = of.unwritten s
unwritten_layer (Expr-F.Compare at left relation right) s = both_counts (left.unwritten s) (right.unwritten s)
unwritten_layer (Expr-F.Sum at minus first rest) s =
    fold both_counts (first.unwritten s) (map (λ (part : Symbol × Forming). part.1.unwritten s) rest)
unwritten_layer (Expr-F.Product at first rest) s = fold both_counts (first.unwritten s) (map (operand_at s) rest)
unwritten_layer (Expr-F.Number at number) s = no_count
unwritten_layer (Expr-F.True at) s = no_count
unwritten_layer (Expr-F.False at) s = no_count
unwritten_layer (Expr-F.Word at name None) s = no_count
unwritten_layer (Expr-F.Word at name (Some index)) s = index.unwritten s
unwritten_layer (Expr-F.Brackets at of) s = of.unwritten s
unwritten_layer (Expr-F.Quantified at which name range of) s = quantified_count s.bound range
    (fold both_counts no_count (map (λ z. one_node_more (of.unwritten (with_number s name.text z)))
    (fit_values (numbers s.bound) range)))

-- each kind of expression, from its parts
abbrev pub form_layer : Expr-F Forming → Forming
form_layer e =
    record { at = place_layer e; made = λ s. made_layer e s; unwritten = λ s. unwritten_layer e s }

abbrev pub forming : Expr → Forming
forming = fold-Expr Forming form_layer

-- the first byte of an expression
abbrev pub first_byte : Expr → ℕ
first_byte e = (forming e).at

-- what an expression becomes
abbrev pub formed : Expr → Scope → Formed
formed e = (forming e).made

-- what counts of it where it is written nowhere
abbrev pub unwritten_count : Expr → Scope → Count
unwritten_count e = (forming e).unwritten

-- an operator of a product with the first byte of its right operand, and what that becomes
abbrev pub factor_in : Scope → Operator × Expr → (Operator × ℕ) × Formed
factor_in s p = ((p.0, first_byte p.1), formed p.1 s)

-- so much of the operand counts where the product is written nowhere
abbrev pub operand_in : Scope → Operator × Expr → Count
operand_in s p = operand_count p.0 (first_byte p.1) (formed p.1 s) (unwritten_count p.1 s)
