-- What stands of the single steps of a system, where a test u holds before and after them: the triples of chapter 3, in
-- which the substitution axiom lets an invariant u be assumed. No execution is asked for, so what stands passes to
-- unions (chapter 7); where u always holds, what stands holds in executions.
use Rattle.std.specs.Prelude.{◌≡◌, ◌≢◌, ℕ, ◌<◌, ◌||◌, Some, None, IsTrue, length, slice_get}
use Rattle.meaning_states.specs.State.{State}
use Rattle.meaning_executions.specs.Execution.{Act, System, chosen_step}
use Rattle.meaning_executions.specs.Properties.{Test, but_not, IsFixedPoint, LeadsTo}
use Rattle.meaning_executions.specs.Systems.{kept}

-- what holds of each defined step by one choice between states with u
abbrev pub StepsBy : System → ℕ → Test → (State → State → Type 0) → Type 0
StepsBy x choice u R = (now next : State) → IsTrue (u now) → IsTrue (u next) → chosen_step x choice now ≡ Some next →
    R now next

-- what holds of each defined step between states with u
abbrev pub EachDefinedStep : System → Test → (State → State → Type 0) → Type 0
EachDefinedStep x u R = (choice : ℕ) → StepsBy x choice u R

-- a step keeps p
abbrev pub StepKeeps : Test → State → State → Type 0
StepKeeps p now next = IsTrue (p now) → IsTrue (p next)

-- a step from a state with p and not q gives p or q
abbrev pub StepUnless : Test → Test → State → State → Type 0
StepUnless p q now next = IsTrue (but_not p q now) → IsTrue (p next || q next)

-- p holds before and after a step, or at neither
abbrev pub StepSame : Test → State → State → Type 0
StepSame p now next = p now ≡ p next

-- a step from a state with p and not q gives q
abbrev pub StepHelps : Test → Test → State → State → Type 0
StepHelps p q now next = IsTrue (but_not p q now) → IsTrue (q next)

-- `defined`: at each state with u the step of each instance is defined
abbrev pub DefinedStands : System → Test → Type 0
DefinedStands x u = (state : State) (choice : ℕ) (act : Act) → IsTrue (u state) → slice_get x.steps choice ≡ Some act →
    act state ≢ None

-- `fixed p`: each state with u and p is a fixed point
abbrev pub FixedStands : System → Test → Test → Type 0
FixedStands x u p = (state : State) → IsTrue (u state) → IsTrue (p state) → IsFixedPoint x state

-- `invariant p`: each initial state with u has p, and each step keeps it
pub record InvariantStands (x : System) (u p : Test) : Type 0 where
  pub starts : (state : State) → IsTrue (x.initial state) → IsTrue (u state) → IsTrue (p state)
  pub keeps : EachDefinedStep x u (StepKeeps p)

-- `p unless q`: no step leads from p and not q to neither
abbrev pub UnlessStands : System → Test → Test → Test → Type 0
UnlessStands x u p q = EachDefinedStep x u (StepUnless p q)

-- `constant p`: no step changes whether p holds
abbrev pub ConstantStands : System → Test → Test → Type 0
ConstantStands x u p = EachDefinedStep x u (StepSame p)

-- `p ensures q` by the instance of this choice: p unless q, and each step of the instance leads from p and not q to q
pub record EnsuresStands (x : System) (u p q : Test) (choice : ℕ) : Type 0 where
  pub unless : UnlessStands x u p q
  pub within : choice < length x.steps
  pub helps : StepsBy x choice u (StepHelps p q)

-- `p leadsto q` within a bound, in the executions whose states all pass u
abbrev pub LeadsStands : System → Test → Test → Test → ℕ → Type 0
LeadsStands x u p q bound = LeadsTo (kept u x) p q bound
