-- What a walk through the states shows, which goes so many choices on from a state.
use Rattle.std.specs.Prelude.{◌≡◌, ℕ, ◌≤◌, List, [], ◌∷◌, ◌++◌, Some, IsTrue, drop, length, slice_get}
use Rattle.meaning_states.specs.State.{State, Ranges, is_state}
use Rattle.meaning_executions.specs.Execution.{System, Steps, chosen_step}
use Rattle.meaning_executions.specs.Rounds.{rounds}
use Rattle.meaning_executions.specs.RoundLaws.{HoldsLater}
use Rattle.meaning_executions.specs.Properties.{Test}

-- when those choices have been made, q holds here or later, if with the choices that follow they have so many rounds
abbrev pub LeadsBehind : System → Test → ℕ → ℕ → List ℕ → State → Type 0
LeadsBehind x q bound most made s = (choices : List ℕ) (later : List State) → Steps x s choices later →
    length choices ≤ most → bound ≤ rounds (made ++ choices) (length x.steps) → HoldsLater q (s ∷ later) 0

-- and so from the state after one choice more
abbrev pub ComesAt : System → Test → ℕ → ℕ → List ℕ → State → ℕ → Type 0
ComesAt x q bound most made s choice = (t : State) → chosen_step x choice s ≡ Some t →
    LeadsBehind x q bound most (made ++ choice ∷ []) t

-- and so after each choice
abbrev pub ComesAfter : System → Test → ℕ → ℕ → List ℕ → State → Type 0
ComesAfter x q bound most made s = (choice : ℕ) → ComesAt x q bound most made s choice

-- from each state with p, here or later, q holds there or later, if the choices that follow have so many rounds
abbrev pub LeadsWithin : System → Test → Test → ℕ → ℕ → State → Type 0
LeadsWithin x p q bound most s = (choices : List ℕ) (later : List State) → Steps x s choices later →
    length choices ≤ most → (place : ℕ) (state : State) → slice_get (s ∷ later) place ≡ Some state →
    IsTrue (p state) → bound ≤ rounds (drop place choices) (length x.steps) → HoldsLater q (s ∷ later) place

-- and so from the state after one choice more
abbrev pub LeadsAt : System → Test → Test → ℕ → ℕ → State → ℕ → Type 0
LeadsAt x p q bound most s choice = (t : State) → chosen_step x choice s ≡ Some t → LeadsWithin x p q bound most t

-- and so after each choice
abbrev pub LeadsAfter : System → Test → Test → ℕ → ℕ → State → Type 0
LeadsAfter x p q bound most s = (choice : ℕ) → LeadsAt x p q bound most s choice

-- and so from each state that begins with these numbers
abbrev pub LeadsOn : Ranges → ℕ → System → Test → Test → ℕ → State → Type 0
LeadsOn ranges most x p q bound begun = (rest : State) → IsTrue (is_state ranges (begun ++ rest)) →
    LeadsWithin x p q bound most (begun ++ rest)
