-- The properties of programs, read on executions. A test says of each state whether a formula is true there.
use Rattle.std.specs.Prelude.{◌≡◌, ◌≢◌, ℕ, suc, ◌+◌, ◌≤◌, List, ◌∷◌, Bool, false, not, ◌&&◌, ◌||◌, Some, None, IsTrue}
use Rattle.std.specs.Prelude.{drop, length, slice_get}
use Rattle.meaning_states.specs.State.{State}
use Rattle.meaning_executions.specs.Execution.{Act, System, IsExecution}
use Rattle.meaning_executions.specs.Rounds.{IsShortest}

abbrev pub Test : Type 0
Test = State → Bool

-- the test that no state passes
abbrev pub never : Test
never state = false

-- p holds and q does not
abbrev pub but_not : Test → Test → Test
but_not p q state = p state && not (q state)

-- what holds at every state of every execution
abbrev pub Everywhere : System → (State → Type 0) → Type 0
Everywhere x P = (first : State) (choices : List ℕ) (later : List State) → IsExecution x first choices later →
    (place : ℕ) (state : State) → slice_get (first ∷ later) place ≡ Some state → P state

-- `defined`: at every state of every execution, the step of every instance is defined
abbrev pub IsAlwaysDefined : System → Type 0
IsAlwaysDefined x = Everywhere x
    (λ state. (choice : ℕ) (act : Act) → slice_get x.steps choice ≡ Some act → act state ≢ None)

-- `invariant p`: p holds at every state of every execution
abbrev pub IsInvariant : System → Test → Type 0
IsInvariant x p = Everywhere x (λ state. IsTrue (p state))

-- a fixed point: the step of each instance is defined there and leads back to it
abbrev pub IsFixedPoint : System → State → Type 0
IsFixedPoint x state = (choice : ℕ) (act : Act) → slice_get x.steps choice ≡ Some act → act state ≡ Some state

-- `fixed p`: every state with p, of every execution, is a fixed point
abbrev pub Fixed : System → Test → Type 0
Fixed x p = Everywhere x (λ state. IsTrue (p state) → IsFixedPoint x state)

-- `p unless q`: at adjacent states of every execution, if the first has p and not q, the second has p or q
abbrev pub Unless : System → Test → Test → Type 0
Unless x p q = (first : State) (choices : List ℕ) (later : List State) → IsExecution x first choices later →
    (place : ℕ) (now next : State) → slice_get (first ∷ later) place ≡ Some now →
    slice_get (first ∷ later) (suc place) ≡ Some next →
    IsTrue (but_not p q now) → IsTrue (p next || q next)

-- `stable p`: p unless false
abbrev pub IsStable : System → Test → Type 0
IsStable x p = Unless x p never

-- `constant p`: at adjacent states of every execution, p holds at both or at neither
abbrev pub Constant : System → Test → Type 0
Constant x p = (first : State) (choices : List ℕ) (later : List State) → IsExecution x first choices later →
    (place : ℕ) (now next : State) → slice_get (first ∷ later) place ≡ Some now →
    slice_get (first ∷ later) (suc place) ≡ Some next → p now ≡ p next

-- the step of an act is defined and gives a state with q, from every state of every execution that has p and not q
abbrev pub Helps : System → Test → Test → Act → Type 0
Helps x p q act = Everywhere x
    (λ state. IsTrue (but_not p q state) → (next : State) × (act state ≡ Some next) × IsTrue (q next))

-- `p ensures q`: p unless q, and there is one instance that helps, the same for all states
pub record Ensures (x : System) (p q : Test) : Type 0 where
  pub unless : Unless x p q
  pub helper : (choice : ℕ) × (act : Act) × (slice_get x.steps choice ≡ Some act) × Helps x p q act

-- q holds at one of the places of a list of states from the first to the last of these
pub record HoldsSoon (q : Test) (states : List State) (first last : ℕ) : Type 0 where
  pub place : ℕ
  pub state : State
  pub after : first ≤ place
  pub before : place ≤ last
  pub stands : slice_get states place ≡ Some state
  pub holds : IsTrue (q state)

-- `p leadsto q` holds within a bound: in every execution, from each state with p, q holds there or later, no later than
-- at the end of so many rounds of the choices that follow, where they have so many
abbrev pub LeadsTo : System → Test → Test → ℕ → Type 0
LeadsTo x p q bound = (first : State) (choices : List ℕ) (later : List State) → IsExecution x first choices later →
    (place n : ℕ) (state : State) → slice_get (first ∷ later) place ≡ Some state → IsTrue (p state) →
    IsShortest (drop place choices) (length x.steps) bound n → HoldsSoon q (first ∷ later) place (place + n)

-- `p until q` within a bound: p unless q, and p leads to q
pub record Until (x : System) (p q : Test) (bound : ℕ) : Type 0 where
  pub unless : Unless x p q
  pub leads : LeadsTo x p q bound

-- q holds where p does
abbrev pub implied : Test → Test → Test
implied p q state = not (p state) || q state

-- `p detects q` within a bound: where p holds q does, and q leads to p
pub record Detects (x : System) (p q : Test) (bound : ℕ) : Type 0 where
  pub always : IsInvariant x (implied p q)
  pub leads : LeadsTo x q p bound
