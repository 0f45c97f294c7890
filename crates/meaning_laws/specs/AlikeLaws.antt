-- Systems that are alike have the same properties.
use Rattle.std.specs.Prelude.{ℕ, List}
use Rattle.meaning_states.specs.State.{State, Ranges}
use Rattle.meaning_executions.specs.Execution.{System, IsExecution}
use Rattle.meaning_executions.specs.Properties.{Test, IsAlwaysDefined, IsInvariant, Fixed, Unless, Constant, Ensures}
use Rattle.meaning_executions.specs.Properties.{LeadsTo}
use Rattle.meaning_executions.specs.Systems.{kept}
use Rattle.meaning_executions.specs.Alike.{StepEquivalent, SameAt}

-- the second is alike the first; so each law below leads back too
abbrev pub AlikeBack : Type 0
AlikeBack = (ranges : Ranges) (x y : System) → StepEquivalent ranges x y → StepEquivalent ranges y x

-- kept to tests that pass at the same states, they are alike too
abbrev pub KeptAlike : Type 0
KeptAlike = (ranges : Ranges) (x y : System) → StepEquivalent ranges x y → (u v : Test) → SameAt ranges u v →
    StepEquivalent ranges (kept u x) (kept v y)

-- they have the same executions
abbrev pub RunsAlike : Type 0
RunsAlike = (ranges : Ranges) (x y : System) → StepEquivalent ranges x y →
    (first : State) (choices : List ℕ) (later : List State) → IsExecution x first choices later →
    IsExecution y first choices later

-- what one claims by `defined`, the other does
abbrev pub DefinedAlike : Type 0
DefinedAlike = (ranges : Ranges) (x y : System) → StepEquivalent ranges x y → IsAlwaysDefined x → IsAlwaysDefined y

-- by `fixed p`, for tests that pass at the same states
abbrev pub FixedAlike : Type 0
FixedAlike = (ranges : Ranges) (x y : System) → StepEquivalent ranges x y → (p p' : Test) → SameAt ranges p p' →
    Fixed x p → Fixed y p'

-- by `invariant p`
abbrev pub InvariantAlike : Type 0
InvariantAlike = (ranges : Ranges) (x y : System) → StepEquivalent ranges x y → (p p' : Test) → SameAt ranges p p' →
    IsInvariant x p → IsInvariant y p'

-- by `p unless q`, and so by `stable p`
abbrev pub UnlessAlike : Type 0
UnlessAlike = (ranges : Ranges) (x y : System) → StepEquivalent ranges x y → (p q p' q' : Test) →
    SameAt ranges p p' → SameAt ranges q q' → Unless x p q → Unless y p' q'

-- by `constant p`
abbrev pub ConstantAlike : Type 0
ConstantAlike = (ranges : Ranges) (x y : System) → StepEquivalent ranges x y → (p p' : Test) → SameAt ranges p p' →
    Constant x p → Constant y p'

-- by `p ensures q`
abbrev pub EnsuresAlike : Type 0
EnsuresAlike = (ranges : Ranges) (x y : System) → StepEquivalent ranges x y → (p q p' q' : Test) →
    SameAt ranges p p' → SameAt ranges q q' → Ensures x p q → Ensures y p' q'

-- by `p leadsto q`, within the same bound
abbrev pub LeadsAlike : Type 0
LeadsAlike = (ranges : Ranges) (x y : System) → StepEquivalent ranges x y → (p q p' q' : Test) (bound : ℕ) →
    SameAt ranges p p' → SameAt ranges q q' → LeadsTo x p q bound → LeadsTo y p' q' bound
