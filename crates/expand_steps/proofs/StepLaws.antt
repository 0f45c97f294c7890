-- Steps one after the other.
use Rattle.std.proofs.Common.{◌≡◌, ℕ, List, ◌++◌, map}
use Rattle.unity_syntax.specs.declared.proof.Step.{Step}
use Rattle.core_terms.specs.declared.documents.CStep.{CStep}
use Rattle.expand_rules.specs.Forming.{Scope}
use Rattle.expand_declarations.specs.Texts.{Texts}
use Rattle.expand_steps.specs.Steps.{core_step, steps_fault}

-- with the steps so far, these lead to what all lead to from the old ones
pub record StepsAhead (words : Texts) (owner : List ℕ) (s : Scope) (now : List CStep) (rest : List Step)
    (old : List CStep) (all : List Step) : Type 0 where
  pub cores : now ++ map (core_step words owner s) rest ≡ old ++ map (core_step words owner s) all
  pub faults : steps_fault words owner s rest ≡ steps_fault words owner s all
