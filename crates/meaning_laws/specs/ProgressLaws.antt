-- Laws of chapter 3 by which one leads-to follows from others; the bounds are this profile's. They hold of any system,
-- and so of one that is kept to a test.
use Rattle.std.specs.Prelude.{◌≡◌, ℕ, ◌+◌, ◌*◌, max, ℤ, List, ◌&&◌, Some, IsTrue, slice_get}
use Rattle.std.specs.Int.RustNames.{int_lt}
use Rattle.std.specs.List.{list_any}
use Rattle.meaning_states.specs.State.{State, int_eq, in_range}
use Rattle.meaning_executions.specs.Counting.{range_size}
use Rattle.meaning_executions.specs.Execution.{System}
use Rattle.meaning_executions.specs.Properties.{Test, but_not, Everywhere, Unless, LeadsTo}
use Rattle.meaning_laws.specs.Tests.{both_hold, one_holds}

-- transitivity: p leads to q and q to r; the bounds add
abbrev pub Transitivity : Type 0
Transitivity = (x : System) (p q r : Test) (bound more : ℕ) →
    LeadsTo x p q bound → LeadsTo x q r more → LeadsTo x p r (bound + more)

-- disjunction: both p and q lead to r; the greater bound serves
abbrev pub EitherLeads : Type 0
EitherLeads = (x : System) (p q r : Test) (bound other : ℕ) → LeadsTo x p r bound → LeadsTo x q r other →
    LeadsTo x (one_holds p q) r (max bound other)

-- one of a family holds
abbrev pub any_holds : (ℤ → Test) → List ℤ → Test
any_holds p numbers state = list_any (λ m. p m state) numbers

-- disjunction of a family: each of its tests leads to q within one bound
abbrev pub AnyLeads : Type 0
AnyLeads = (x : System) (p : ℤ → Test) (q : Test) (bound : ℕ) (numbers : List ℤ) →
    ((place : ℕ) (m : ℤ) → slice_get numbers place ≡ Some m → LeadsTo x (p m) q bound) →
    LeadsTo x (any_holds p numbers) q bound

-- progress and safety: while p leads to q, r unless b is kept
abbrev pub ProgressWithSafety : Type 0
ProgressWithSafety = (x : System) (p q r b : Test) (bound : ℕ) → LeadsTo x p q bound → Unless x r b →
    LeadsTo x (both_hold p r) (one_holds (both_hold q r) b) bound

-- a stronger p and a weaker q, where the one implies the other at each state of each execution
abbrev pub LeadsWeaker : Type 0
LeadsWeaker = (x : System) (p q strong weak : Test) (bound : ℕ) →
    Everywhere x (λ state. IsTrue (strong state) → IsTrue (p state)) →
    Everywhere x (λ state. IsTrue (q state) → IsTrue (weak state)) →
    LeadsTo x p q bound → LeadsTo x strong weak bound

-- p holds, and the measure is m
abbrev pub at_measure : (State → ℤ) → Test → ℤ → Test
at_measure measure p m state = p state && int_eq (measure state) m

-- p holds, and the measure is below m
abbrev pub below_measure : (State → ℤ) → Test → ℤ → Test
below_measure measure p m state = p state && int_lt (measure state) m

-- induction: a measure that lies in a range while p holds and q does not, and falls within a bound from each of its
-- values
abbrev pub LeadsByInduction : Type 0
LeadsByInduction = (x : System) (measure : State → ℤ) (range : ℤ × ℤ) (p q : Test) (bound : ℕ) →
    Everywhere x (λ state. IsTrue (but_not p q state) → IsTrue (in_range (Some range) (measure state))) →
    ((m : ℤ) → IsTrue (in_range (Some range) m) →
    LeadsTo x (at_measure measure p m) (one_holds (below_measure measure p m) q) bound) →
    LeadsTo x p q (range_size range * bound)

-- completion: p leads to q and p' to q', and each of these is kept until r comes; so both come to hold, or r does. The
-- greater bound serves
abbrev pub Completion : Type 0
Completion = (x : System) (p q p' q' r : Test) (bound more : ℕ) →
    LeadsTo x p (one_holds q r) bound → Unless x q r → LeadsTo x p' (one_holds q' r) more → Unless x q' r →
    LeadsTo x (both_hold p p') (one_holds (both_hold q q') r) (max bound more)

-- cancellation: p leads to q or b, and b on to r; the bounds add
abbrev pub LeadsCancellation : Type 0
LeadsCancellation = (x : System) (p q b r : Test) (bound more : ℕ) →
    LeadsTo x p (one_holds q b) bound → LeadsTo x b r more → LeadsTo x p (one_holds q r) (bound + more)
