-- Layers: systems that do what a system under them does, and more to slots of their own.
use Rattle.std.specs.Prelude.{◌≡◌, ℕ, ◌<◌, ◌≤◌, nat_lt, List, [], ◌∷◌, cond, Some, IsTrue, length}
use Rattle.meaning_states.specs.State.{State}
use Rattle.meaning_laws.specs.from_meaning_executions.Execution.{System, IsExecution, chosen_step}
use Rattle.meaning_laws.specs.from_meaning_executions.Rounds.{rounds}
use Rattle.meaning_laws.specs.from_meaning_executions.Properties.{Test, IsInvariant}
use Rattle.meaning_laws.specs.Stands.{InvariantStands, UnlessStands, EnsuresStands, LeadsStands}

-- a state with the layer's own slots as they are in another, the first
abbrev pub Back : Type 0
Back = State → State → State

-- y is a layer over x: what its first instances do, those of x do where the layer's own slots are put back, and its
-- other instances change these slots alone
pub record IsOver (y x : System) (back : Back) : Type 0 where
  pub some : 0 < length x.steps
  pub few : length x.steps ≤ length y.steps
  pub itself : (s : State) → back s s ≡ s
  pub below : (origin s t : State) (choice : ℕ) → choice < length x.steps → chosen_step y choice s ≡ Some t →
      chosen_step x choice (back origin s) ≡ Some (back origin t)
  pub beside : (origin s t : State) (choice : ℕ) → length x.steps ≤ choice → chosen_step y choice s ≡ Some t →
      back origin t ≡ back origin s

-- the choices of the first k instances
abbrev pub choices_below : ℕ → List ℕ → List ℕ
choices_below k [] = []
choices_below k (c ∷ cs) = cond (nat_lt c k) (c ∷ choices_below k cs) (choices_below k cs)

-- the states after these choices, with the layer's own slots put back
abbrev pub states_below : Back → State → ℕ → List ℕ → List State → List State
states_below back origin k [] ts = []
states_below back origin k (c ∷ cs) [] = []
states_below back origin k (c ∷ cs) (t ∷ ts) =
    cond (nat_lt c k) (back origin t ∷ states_below back origin k cs ts) (states_below back origin k cs ts)

-- the projection of an execution of a layer that starts where the system under it may
abbrev pub ProjectionRuns : Type 0
ProjectionRuns = (y x : System) (back : Back) → IsOver y x back → (first : State) (cs : List ℕ) (ts : List State) →
    IsExecution y first cs ts → IsTrue (x.initial first) →
    IsExecution x first (choices_below (length x.steps) cs) (states_below back first (length x.steps) cs ts)

-- it has at least as many rounds
abbrev pub RoundsOfBelow : Type 0
RoundsOfBelow = (k m : ℕ) (cs : List ℕ) → 0 < k → k ≤ m → rounds cs m ≤ rounds (choices_below k cs) k

-- a test does not see the layer's own slots
abbrev pub IsBlind : Back → Test → Type 0
IsBlind back p = (origin s : State) → p (back origin s) ≡ p s

-- where v holds in the layer, u holds under it
pub record Guards (y x : System) (back : Back) (u v : Test) : Type 0 where
  pub starts : (s : State) → IsTrue (y.initial s) → IsTrue (v s) → IsTrue (x.initial s)
  pub keeps : (origin s : State) → IsTrue (v origin) → IsTrue (v s) → IsTrue (u (back origin s))

abbrev pub UnlessCarried : Type 0
UnlessCarried = (y x : System) (back : Back) (u v p q : Test) → IsOver y x back → Guards y x back u v →
    IsBlind back p → IsBlind back q → UnlessStands x u p q → UnlessStands y v p q

abbrev pub EnsuresCarried : Type 0
EnsuresCarried = (y x : System) (back : Back) (u v p q : Test) (choice : ℕ) → IsOver y x back → Guards y x back u v →
    IsBlind back p → IsBlind back q → EnsuresStands x u p q choice → EnsuresStands y v p q choice

abbrev pub InvariantCarried : Type 0
InvariantCarried = (y x : System) (back : Back) (u v p : Test) → IsOver y x back → Guards y x back u v →
    IsBlind back p → InvariantStands x u p → InvariantStands y v p

-- within the same bound
abbrev pub LeadsCarried : Type 0
LeadsCarried = (y x : System) (back : Back) (u v p q : Test) (bound : ℕ) → IsOver y x back → Guards y x back u v →
    IsBlind back p → IsBlind back q → LeadsStands x u p q bound → LeadsStands y v p q bound

-- what holds throughout the system under a layer holds throughout the layer
abbrev pub ThroughoutCarried : Type 0
ThroughoutCarried = (y x : System) (back : Back) (w : Test) → IsOver y x back → IsBlind back w →
    ((s : State) → IsTrue (y.initial s) → IsTrue (x.initial s)) → IsInvariant x w → IsInvariant y w
