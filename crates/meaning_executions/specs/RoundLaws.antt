-- Laws of rounds, and of properties within a bound.
use Rattle.std.specs.Prelude.{◌≡◌, ℕ, suc, ◌<◌, ◌≤◌, ◌↔◌, List, ◌∷◌, Some, IsTrue, IsFalse, nat_eq, take, drop, length}
use Rattle.std.specs.Prelude.{slice_get}
use Rattle.std.specs.List.{list_any}
use Rattle.meaning_states.specs.State.{State}
use Rattle.meaning_executions.specs.Execution.{System, IsExecution}
use Rattle.meaning_executions.specs.Rounds.{has_all, rounds, IsShortest}
use Rattle.meaning_executions.specs.Properties.{Test, Everywhere, Ensures, LeadsTo}

-- the first n choices are the shortest prefix in which every number below k occurs
pub record IsRound (choices : List ℕ) (k n : ℕ) : Type 0 where
  pub within : n ≤ length choices
  pub full : IsTrue (has_all k (take n choices))
  pub least : (fewer : ℕ) → fewer < n → IsFalse (has_all k (take fewer choices))

-- where an instance does not occur there is no round
abbrev pub NoRound : Type 0
NoRound = (choices : List ℕ) (k missing : ℕ) → missing < k → IsFalse (list_any (nat_eq missing) choices) →
    rounds choices k ≡ 0

-- else there is one more than in what follows the shortest prefix in which all occur
abbrev pub OneMoreRound : Type 0
OneMoreRound = (choices : List ℕ) (k n : ℕ) → 0 < k → IsRound choices k n →
    rounds choices k ≡ suc (rounds (drop n choices) k)

-- at most one prefix is the shortest that has so many rounds
abbrev pub OneShortest : Type 0
OneShortest = (choices : List ℕ) (k bound m n : ℕ) → IsShortest choices k bound m → IsShortest choices k bound n → m ≡ n

-- where there are so many rounds, some prefix is the shortest that has them
abbrev pub ShortestExists : Type 0
ShortestExists = (choices : List ℕ) (k bound : ℕ) → bound ≤ rounds choices k → (n : ℕ) × IsShortest choices k bound n

-- q holds at this place of an execution, or later
pub record HoldsLater (q : Test) (states : List State) (first : ℕ) : Type 0 where
  pub place : ℕ
  pub state : State
  pub after : first ≤ place
  pub stands : slice_get states place ≡ Some state
  pub holds : IsTrue (q state)

-- in every execution, from each state with p, q holds there or later, if the choices that follow have so many rounds
abbrev pub FollowsWithin : System → Test → Test → ℕ → Type 0
FollowsWithin x p q bound = (first : State) (choices : List ℕ) (later : List State) → IsExecution x first choices
    later →
    (place : ℕ) (state : State) → slice_get (first ∷ later) place ≡ Some state → IsTrue (p state) →
    bound ≤ rounds (drop place choices) (length x.steps) → HoldsLater q (first ∷ later) place

-- it says the same where the end of the rounds is left out, since prefixes of executions are executions
abbrev pub LeadsIsFollows : Type 0
LeadsIsFollows = (x : System) (p q : Test) (bound : ℕ) → LeadsTo x p q bound ↔ FollowsWithin x p q bound

-- within 0 rounds: q holds where p does
abbrev pub WithinNone : Type 0
WithinNone = (x : System) (p q : Test) → LeadsTo x p q 0 ↔ Everywhere x (λ state. IsTrue (p state) → IsTrue (q state))

-- what holds within a bound holds within a greater one
abbrev pub BoundGrows : Type 0
BoundGrows = (x : System) (p q : Test) (bound more : ℕ) → bound ≤ more → LeadsTo x p q bound → LeadsTo x p q more

-- `p ensures q` gives `p leadsto q` within one round
abbrev pub EnsuresLeads : Type 0
EnsuresLeads = (x : System) (p q : Test) → Ensures x p q → LeadsTo x p q 1
