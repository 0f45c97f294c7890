-- Variables that have one value each, as facts say.
use Rattle.std.specs.Prelude.{◌≡◌, ℕ, suc, ◌+◌, ◌-◌, ◌*◌, ◌^◌, ◌≤◌, ◌<◌, nat_eq, ℤ, pos, negsuc, ◌+ℤ◌, Bool, true}
use Rattle.std.specs.Prelude.{false, Option, Some, None, List, [], ◌∷◌, ◌++◌, length, map, take, slice_get}
use Rattle.std.specs.List.{list_all}
use Rattle.std.specs.Int.{int_div_euclid}
use Rattle.std.specs.Int.RustNames.{unsigned_abs}
use Rattle.core_terms.specs.Values.{number_at}
use Rattle.obligations.specs.declared.branches.Branch.{Branch}
use Rattle.obligations.specs.declared.branches.Fact.{Fact}
use Rattle.obligations.specs.declared.branches.Variable.{Variable}
use Rattle.obligations.specs.declared.certificates.Node.{Node}
use Rattle.obligations.specs.Certificates.{units}
use Rattle.obligations.specs.LinearForms.{sum_of}
use Rattle.obligations.specs.Opening.{at_least, at_most}
use Rattle.obligations.specs.Reach.{is_within, are_exact}
use Rattle.certificate_rules.specs.Sums.{numbered}
use Rattle.linear_prover.specs.Chains.{Closes, is_plain_node}
use Rattle.search_tree.specs.declared.points.Point.{Point}
use Rattle.search_tree.specs.declared.fixing.Fixing.{Fixing}
use Rattle.search_tree.specs.Searching.{is_slender, AreTaken}
use Rattle.search_tree.specs.Weighing.{weight_in, is_weight}

-- their values
abbrev pub values_in : List Point → List ℤ
values_in points = map (λ (p : Point). p.value) points

-- the number of the fact that takes a variable with this factor away
abbrev pub bound_number : ℤ → Option Point → ℕ
bound_number a None = 0
bound_number (pos a) (Some p) = p.most
bound_number (negsuc a) (Some p) = p.least

-- and the factor's absolute value
abbrev pub pair_at : List Point → ℕ × ℤ → ℤ × ℕ
pair_at points f = (pos (unsigned_abs f.1), bound_number f.1 (slice_get points f.0))

-- a variable has a value by facts of these numbers
pub record IsPoint (facts : List Fact) (v : ℕ) (p : Point) : Type 0 where
  pub least : numbered facts p.least ≡ Some (at_least v p.value)
  pub most : numbered facts p.most ≡ Some (at_most v p.value)

-- so has each of these, the first of which has this place
abbrev pub ArePoints : List Fact → ℕ → List Point → Type 0
ArePoints facts n [] = Unit {0}
ArePoints facts n (p ∷ ps) = IsPoint facts n p × ArePoints facts (suc n) ps

-- whether the last factor is that of a variable
abbrev pub ends_in : ℕ → List (ℕ × ℤ) → Bool
ends_in v [] = false
ends_in v (f ∷ []) = nat_eq f.0 v
ends_in v (f ∷ g ∷ fs) = ends_in v (g ∷ fs)

-- the first fact that names a variable, none of those after it, has this place
pub record IsFirst (facts : List Fact) (v i : ℕ) : Type 0 where
  pub fact : Fact
  pub there : slice_get facts i ≡ Some fact
  pub names : ends_in v fact.factors ≡ true
  pub before : list_all (λ (f : Fact). is_within v f.factors) (take i facts) ≡ true

-- all factors but the last
abbrev pub front : List (ℕ × ℤ) → List (ℕ × ℤ)
front fs = take (length fs - 1) fs

-- the absolute value of the last factor, and 0 where there is none
abbrev pub last_size : List (ℕ × ℤ) → ℕ
last_size [] = 0
last_size (f ∷ []) = unsigned_abs f.1
last_size (f ∷ g ∷ fs) = last_size (g ∷ fs)

-- a fact's constant and all factors but the last, at the values
abbrev pub worth_at : List Point → Fact → ℤ
worth_at points f = f.constant +ℤ sum_of (values_in points) (front f.factors)

-- divided by the last factor's absolute value
abbrev pub quotient_at : List Point → Fact → ℤ
quotient_at points f = int_div_euclid (worth_at points f) (pos (last_size f.factors))

-- the round that does so with a fact of this number
abbrev pub round_at : List Point → ℕ → Fact → Node
round_at points n f = Node.Round (pos (last_size f.factors)) ((pos 1, n) ∷ map (pair_at points) (front f.factors))

-- a fact from which the value of its last variable can be read
pub record IsReadable (points : List Point) (f : Fact) : Type 0 where
  pub slender : is_slender f ≡ true
  pub some : 0 < last_size f.factors
  pub known : is_within (length points) (front f.factors) ≡ true
  pub tame : (p : ℕ) → unsigned_abs (number_at (values_in points) p) ≤ 2 ^ 62
  pub small : unsigned_abs (quotient_at points f) ≤ 2 ^ 62

-- a variable has a value more: two rounds give its bounds
abbrev pub with_value : ℕ → ℤ → Node → Node → Fixing → Fixing
with_value v z low high x = record {
  facts = (x.facts ++ at_most v z ∷ []) ++ at_least v z ∷ [];
  rounds = (x.rounds ++ low ∷ []) ++ high ∷ [];
  points = x.points ++ record { value = z; least = (length x.facts + 1) + 1; most = length x.facts + 1 } ∷ [];
}

-- the rounds of two facts, of which the first has this number
abbrev pub fixed_by : ℕ → ℕ → Fact → Fact → Fixing → Fixing
fixed_by v n low high x =
    with_value v (quotient_at x.points low) (round_at x.points n low) (round_at x.points (n + 1) high) x

-- Rounds, one after the other, and the facts that there are after them.
pub record Chained (count : ℕ) (old facts : List Fact) (rounds : List Node) (k : ℕ) : Type 0 where
  pub more : List Fact
  pub is : facts ≡ old ++ more
  pub exact : are_exact count facts ≡ true
  pub slender : list_all is_slender facts ≡ true
  pub keeps : (ns : List Node) → Closes count facts ns → Closes count old (rounds ++ ns)
  pub few : length rounds ≡ k
  pub cheap : units rounds ≤ k * (count + 2)
  pub plain : list_all is_plain_node rounds ≡ true

-- each of the first variables has one value, which the facts say, within its weight
pub record Pointed (ws : List ℕ) (facts : List Fact) (points : List Point) : Type 0 where
  pub are : ArePoints facts 0 points
  pub within : (p : ℕ) → unsigned_abs (number_at (values_in points) p) ≤ weight_in ws p

-- the variables of an obligation and so many added ones have their values
pub record IsFixing (vs : List Variable) (b : Branch) (n : ℕ) (x : Fixing) : Type 0 where
  pub weights : List ℕ
  pub limits : list_all is_weight weights ≡ true
  pub taken : AreTaken weights vs b.added b.facts
  pub chained : Chained (length vs + b.added) b.facts x.facts x.rounds (2 * n)
  pub pointed : Pointed weights x.facts x.points
  pub long : length x.points ≡ length vs + n
