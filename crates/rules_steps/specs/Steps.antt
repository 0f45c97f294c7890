-- What a step's rule gives.
use Rattle.std.specs.Prelude.{◌≡◌, List, All}
use Rattle.core_terms.specs.declared.programs.CSlot.{CSlot}
use Rattle.core_terms.specs.declared.programs.CProgram.{CProgram}
use Rattle.core_terms.specs.declared.documents.CStep.{CStep}
use Rattle.safety_rules.specs.from_obligations.Obligations.{IsObligation}
use Rattle.safety_rules.specs.declared.places.Derived.{Derived}
use Rattle.rules_steps.specs.Using.{IsEntry}

-- a record under the step's name, whose parts fit, and obligations
pub record IsStepGiven (slots : List CSlot) (c : CProgram) (s : CStep) (d : Derived) : Type 0 where
  pub program : d.made.program ≡ c.name
  pub name : d.made.name ≡ s.name
  pub entry : IsEntry slots d.made
  pub obligations : All IsObligation d.obligations
