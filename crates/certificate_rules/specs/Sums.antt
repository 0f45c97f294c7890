-- Sums of multiples of facts, pair by pair.
use Rattle.std.specs.Prelude.{ℕ, zero, suc, nat_lt, ℤ, pos, negsuc, neg_ℤ, ◌+ℤ◌, ◌*ℤ◌, Bool, cond, not, ◌&&◌, Option}
use Rattle.std.specs.Prelude.{Some, None, Result, Ok, length}
use Rattle.std.specs.Prelude.{Err, List, [], ◌∷◌, map, slice_get}
use Rattle.std.specs.List.{list_all}
use Rattle.std.specs.Int.{int_div_euclid, int_rem_euclid}
use Rattle.std.specs.Int.RustNames.{int_le}
use Rattle.meaning_states.specs.State.{int_eq}
use Rattle.obligations.specs.from_core_terms.Values.{number_at}
use Rattle.obligations.specs.from_case_tables.declared.code_table.Code.{Code}
use Rattle.obligations.specs.declared.branches.Fact.{Fact}
use Rattle.obligations.specs.declared.branches.Line.{Line}
use Rattle.obligations.specs.declared.branches.Variable.{Variable}
use Rattle.obligations.specs.LinearForms.{add_at, zeros, line_of_const}
use Rattle.obligations.specs.Load.{in_limit}

-- m times each factor added to the running sum, unless a product or a sum is too big
abbrev pub add_factors : ℤ → List (ℕ × ℤ) → List ℤ → Option (List ℤ)
add_factors m [] sum = Some sum
add_factors m (f ∷ fs) sum =
    cond (in_limit (m *ℤ f.1) && in_limit (number_at sum f.0 +ℤ m *ℤ f.1))
    (add_factors m fs (add_at sum f.0 (m *ℤ f.1))) None

-- the constant, where there are factors
abbrev pub with_constant : ℤ → Option (List ℤ) → Option Line
with_constant c None = None
with_constant c (Some fs) = Some (record { factors = fs; constant = c })

-- m times a fact added to the running sum
abbrev pub add_times : ℤ → Fact → Line → Option Line
add_times m f sum =
    cond (in_limit (m *ℤ f.constant) && in_limit (sum.constant +ℤ m *ℤ f.constant))
    (with_constant (sum.constant +ℤ m *ℤ f.constant) (add_factors m f.factors sum.factors)) None

-- the item at a place counted from 1
abbrev pub numbered : {A : Type 0} → List A → ℕ → Option A
numbered xs zero = None
numbered xs (suc n) = slice_get xs n

-- a sum, or that it is too big
abbrev pub or_too_big : Option Line → Result Line Code
or_too_big None = Err Code.TooBig
or_too_big (Some l) = Ok l

-- a pair is taken where its fact is there, its multiplier is not negative and the sum is not too big
abbrev pub add_pair : ℤ → Option Fact → Line → Result Line Code
add_pair m None sum = Err Code.NoSuchFact
add_pair m (Some f) sum = cond (int_le (pos 0) m) (or_too_big (add_times m f sum)) (Err Code.BadSum)

-- what a pair makes of a line
abbrev pub PairStep : Type 0
PairStep = ℤ × ℕ → Line → Result Line Code

abbrev pub then_by : PairStep → Result Line Code → ℤ × ℕ → Result Line Code
then_by step (Ok l) p = step p l
then_by step (Err c) p = Err c

-- what pairs make of a line, one after the other
abbrev pub each_pair : PairStep → Result Line Code → List (ℤ × ℕ) → Result Line Code
each_pair step r [] = r
each_pair step r (p ∷ ps) = each_pair step (then_by step r p) ps

-- a pair names a fact
abbrev pub fact_step : List Fact → PairStep
fact_step facts p l = add_pair p.0 (numbered facts p.1) l

-- the sum of multiples of facts, pair by pair
abbrev pub sum_pairs : List Fact → Result Line Code → List (ℤ × ℕ) → Result Line Code
sum_pairs facts = each_pair (fact_step facts)

-- m times a variable, counted from 1, is added where the variable is there and no number too big
abbrev pub add_variable : ℤ → ℕ → Line → Result Line Code
add_variable m zero l = Err Code.NoSuchVariable
add_variable m (suc v) l =
    cond (nat_lt v (length l.factors))
    (or_too_big (with_constant l.constant (add_factors m ((v, pos 1) ∷ []) l.factors))) (Err Code.NoSuchVariable)

-- a pair names a variable
abbrev pub variable_step : PairStep
variable_step p l = add_variable p.0 p.1 l

-- a number and multiples of variables, pair by pair
abbrev pub stated : List Variable → ℤ → List (ℤ × ℕ) → Result Line Code
stated vs c ps = each_pair variable_step (Ok (line_of_const vs c)) ps

-- that a line is below 0, as a line that is at least 0
abbrev pub below_0 : Line → Line
below_0 l = record { factors = map neg_ℤ l.factors; constant = neg_ℤ l.constant +ℤ negsuc 0 }

abbrev pub no_sum : List Variable → Line
no_sum vs = record { factors = zeros vs; constant = pos 0 }

-- the sum of all pairs
abbrev pub all_pairs : List Variable → List Fact → List (ℤ × ℕ) → Result Line Code
all_pairs vs facts ps = sum_pairs facts (Ok (no_sum vs)) ps

-- a sum that no values make at least 0
abbrev pub is_false : Line → Bool
is_false l = list_all (λ z. int_eq z (pos 0)) l.factors && not (int_le (pos 0) l.constant)

-- a number of at least 1 that divides all factors
abbrev pub is_divisible : ℤ → Line → Bool
is_divisible d l = int_le (pos 1) d && list_all (λ z. int_eq (int_rem_euclid z d) (pos 0)) l.factors

-- all factors divided, and the constant divided and rounded down
abbrev pub divided : ℤ → Line → Line
divided d l = record {
  factors = map (λ z. int_div_euclid z d) l.factors;
  constant = int_div_euclid l.constant d;
}
