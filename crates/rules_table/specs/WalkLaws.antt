-- The steps of a whole document give properties that hold.
use Rattle.std.specs.Prelude.{◌≡◌, ℕ, List, Bool, Some, Ok, IsTrue, slice_get}
use Rattle.meaning_states.specs.State.{State}
use Rattle.core_terms.specs.declared.programs.CSlot.{CSlot}
use Rattle.core_terms.specs.declared.programs.CProgram.{CProgram}
use Rattle.core_terms.specs.declared.documents.Ref.{Ref}
use Rattle.core_terms.specs.declared.documents.CRule.{CRule}
use Rattle.core_terms.specs.declared.documents.CStep.{CStep}
use Rattle.core_terms.specs.declared.documents.CProof.{CProof}
use Rattle.core_terms.specs.declared.documents.CDocument.{CDocument}
use Rattle.core_terms.specs.Conditions.{IsCoreDocument}
use Rattle.fair_rounds.specs.declared.records.Record.{Record}
use Rattle.fair_rounds.specs.from_executor.CoreSystem.{core_system}
use Rattle.fair_rounds.specs.Records.{Holds}
use Rattle.rules_table.specs.Validity.{AllValid}
use Rattle.rules_table.specs.Layers.{is_layer}
use Rattle.rules_table.specs.Walk.{Plan, program_of, walk_of}

-- where all that is left to be shown is valid, the property of each record holds in all executions of its program
abbrev pub WalkSound : Type 0
WalkSound = (d : CDocument) → IsCoreDocument d → (starts : CProgram → Bool) (plan : Plan) →
    walk_of d starts ≡ Ok plan → AllValid d.slots plan.goals →
    (place : ℕ) (a : Record) (c : CProgram) → slice_get plan.records place ≡ Some a →
    program_of d.programs a.program ≡ Some c → Holds d.slots c a

-- the program is a layer over the one that a reference names, and may begin only where that may
pub record StandsOver (slots : List CSlot) (programs : List CProgram) (c : CProgram) (r : Ref) : Type 0 where
  pub below : CProgram
  pub named : program_of programs r.program ≡ Some below
  pub layer : IsTrue (is_layer c below)
  pub begins : (s : State) → IsTrue ((core_system slots c).initial s) → IsTrue ((core_system slots below).initial s)

-- so is the program of each step by `superpose`, where all that is left to be shown is valid
abbrev pub LayersStand : Type 0
LayersStand = (d : CDocument) → IsCoreDocument d → (starts : CProgram → Bool) (plan : Plan) →
    walk_of d starts ≡ Ok plan → AllValid d.slots plan.goals → (at n : ℕ) (proof : CProof) (c : CProgram) (s : CStep)
    (r : Ref) → slice_get d.proofs at ≡ Some proof → program_of d.programs proof.program ≡ Some c →
    slice_get proof.steps n ≡ Some s → s.rule ≡ CRule.Superpose r → StandsOver d.slots d.programs c r
