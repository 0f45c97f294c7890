-- What a script means.
use Rattle.std.specs.Prelude.{◌≡◌, ◌↔◌, ℤ, pos, ◌+ℤ◌, ◌*ℤ◌, ◌≤ℤ◌, ◌<ℤ◌, Bool, false, not, ◌&&◌, List, map}
use Rattle.std.specs.List.{list_all}
use Rattle.std.specs.Int.{int_div_euclid, int_rem_euclid}
use Rattle.std.specs.Int.RustNames.{unsigned_abs}
use Rattle.core_terms.specs.Conditions.{EachPair}
use Rattle.obligations.specs.declared.branches.Variable.{Variable}
use Rattle.obligations.specs.declared.branches.Obligation.{Obligation}
use Rattle.obligations.specs.Settling.{form_at}
use Rattle.obligations.specs.Opening.{in_ranges, Valid}
use Rattle.obligations.specs.Obligations.{IsObligation}
use Rattle.solver_scripts.specs.Naming.{Naming}
use Rattle.solver_scripts.specs.Terms.{Assignment, bool_worth}
use Rattle.solver_scripts.specs.Scripts.{variable_symbol, ranges_asked, falsehood_asked}

-- q and r are what the standard calls the quotient and the remainder of m and n
pub record AreDivided (m n q r : ℤ) : Type 0 where
  pub whole : m ≡ n *ℤ q +ℤ r
  pub low : pos 0 ≤ℤ r
  pub high : r <ℤ pos (unsigned_abs n)

-- these are, for each divisor but 0, and no others
abbrev pub DivisionIsStandard : Type 0
DivisionIsStandard = (m n q r : ℤ) → (n ≡ pos 0 → ⊥) →
    AreDivided m n q r ↔ ((q ≡ int_div_euclid m n) × (r ≡ int_rem_euclid m n))

-- an assignment meets both asserts of an obligation's script
abbrev pub meets : Naming → Obligation → Assignment → Bool
meets name o a = list_all (bool_worth a) (ranges_asked name o) && bool_worth a (falsehood_asked name o)

-- the number that an assignment gives each variable
abbrev pub values_of : Naming → List Variable → Assignment → List ℤ
values_of name vs a = map (λ v. a (variable_symbol name v)) vs

-- it meets them exactly where it gives each variable a number in its range, and the form is false there
abbrev pub ScriptMeans : Type 0
ScriptMeans = (name : Naming) (o : Obligation) (a : Assignment) → IsObligation o →
    meets name o a ≡ (in_ranges o.variables (values_of name o.variables a)
    && not (form_at o.variables (values_of name o.variables a) o.form))

-- no two variables have one symbol
abbrev pub AreNamedApart : Naming → List Variable → Type 0
AreNamedApart name vs = EachPair (λ s t. s ≡ t → ⊥) (map (variable_symbol name) vs)

-- no assignment meets both asserts: that is what `unsat` says
abbrev pub IsUnsat : Naming → Obligation → Type 0
IsUnsat name o = (a : Assignment) → meets name o a ≡ false

-- so it is said exactly of what is valid
abbrev pub UnsatIsValid : Type 0
UnsatIsValid =
    (name : Naming) (o : Obligation) → IsObligation o → AreNamedApart name o.variables → IsUnsat name o ↔ Valid o
