-- Closing chains: rounds, and then a sum that is false.
use Rattle.std.specs.Prelude.{◌≡◌, ◌≤◌, ℕ, zero, suc, ◌+◌, ◌^◌, max, nat_le, ℤ, pos, Bool, true, false, ◌&&◌, Option}
use Rattle.std.specs.Prelude.{Some, None, Result, Ok, List, [], ◌∷◌, ◌++◌, length}
use Rattle.std.specs.List.{list_all}
use Rattle.std.specs.Int.RustNames.{unsigned_abs}
use Rattle.obligations.specs.declared.branches.Fact.{Fact}
use Rattle.obligations.specs.declared.branches.Line.{Line}
use Rattle.obligations.specs.declared.certificates.Node.{Node}
use Rattle.case_tables.specs.declared.code_table.Code.{Code}
use Rattle.obligations.specs.Certificates.{units}
use Rattle.obligations.specs.LinearForms.{fact_of}
use Rattle.certificate_rules.specs.Sums.{sum_pairs, is_divisible, divided}
use Rattle.certificate_rules.specs.Refutation.{opens, made_sum}

-- as many zeros
abbrev pub nulls : ℕ → List ℤ
nulls zero = []
nulls (suc n) = pos 0 ∷ nulls n

abbrev pub null_line : ℕ → Line
null_line count = record { factors = nulls count; constant = pos 0 }

-- the sum of all pairs, over so many variables
abbrev pub total_pairs : ℕ → List Fact → List (ℤ × ℕ) → Result Line Code
total_pairs count facts ps = sum_pairs facts (Ok (null_line count)) ps

-- a chain of rounds that ends in a sum, and refutes each branch with these facts over so many variables
abbrev pub Closes : ℕ → List Fact → List Node → Type 0
Closes count facts [] = ⊥
Closes count facts (Node.Case k ∷ ns) = ⊥
Closes count facts (Node.Split v k ∷ ns) = ⊥
Closes count facts (Node.Quot k ∷ ns) = ⊥
Closes count facts (Node.Share c ps ∷ ns) = ⊥
Closes count facts (Node.Sum ps ∷ []) = made_sum (total_pairs count facts ps) ≡ opens []
Closes count facts (Node.Sum ps ∷ n ∷ ns) = ⊥
Closes count facts (Node.Round d ps ∷ ns) =
    (l : Line) × (total_pairs count facts ps ≡ Ok l) × (is_divisible d l ≡ true)
    × Closes count (facts ++ fact_of (divided d l) ∷ []) ns

-- no number of a node is outside plus or minus 2^62
abbrev pub is_plain_number : ℤ → Bool
is_plain_number z = nat_le (unsigned_abs z) (2 ^ 62)

abbrev pub is_plain_factor : ℕ × ℤ → Bool
is_plain_factor f = is_plain_number f.1

abbrev pub is_plain_pair : ℤ × ℕ → Bool
is_plain_pair p = is_plain_number p.0

-- a node that version 1 has, none of whose numbers is outside
abbrev pub is_plain_node : Node → Bool
is_plain_node (Node.Case k) = true
is_plain_node (Node.Split v k) = is_plain_number k
is_plain_node (Node.Sum ps) = list_all is_plain_pair ps
is_plain_node (Node.Round d ps) = is_plain_number d && list_all is_plain_pair ps
is_plain_node (Node.Quot k) = false
is_plain_node (Node.Share c ps) = false

-- at most two rounds before the sum, and few units, all of whose numbers are within plus or minus 2^62
pub record IsShort (count : ℕ) (ns : List Node) : Type 0 where
  pub rounds : length ns ≤ 3
  pub cheap : units ns ≤ max (count + 2) 7
  pub plain : list_all is_plain_node ns ≡ true

-- a short chain refutes each branch with these facts
pub record ClosesShortly (count : ℕ) (facts : List Fact) (ns : List Node) : Type 0 where
  pub closes : Closes count facts ns
  pub short : IsShort count ns

-- the sum of all pairs, or that a pair fails
abbrev pub IsTotal : ℕ → List Fact → List (ℤ × ℕ) → Option Line → Type 0
IsTotal count facts ps None = Unit {0}
IsTotal count facts ps (Some l) = total_pairs count facts ps ≡ Ok l

-- a round adds this fact
pub record IsRoundStep (count : ℕ) (facts : List Fact) (d : ℤ) (ps : List (ℤ × ℕ)) (f : Fact) : Type 0 where
  pub line : Line
  pub total : total_pairs count facts ps ≡ Ok line
  pub divisible : is_divisible d line ≡ true
  pub rounded : f ≡ fact_of (divided d line)

pub record AddsRound (count : ℕ) (d : ℤ) (ps : List (ℤ × ℕ)) (old new : List Fact) : Type 0 where
  pub fact : Fact
  pub round : IsRoundStep count old d ps fact
  pub added : new ≡ old ++ fact ∷ []
