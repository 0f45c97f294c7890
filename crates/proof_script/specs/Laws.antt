-- What a search for certificates always answers.
use Rattle.std.specs.Prelude.{◌≤◌, ℕ, Result, Ok, Err}
use Rattle.core_terms.specs.declared.documents.CDocument.{CDocument}
use Rattle.core_terms.specs.Conditions.{IsCoreDocument}
use Rattle.proof_script.specs.declared.plans.Proof.{Proof}
use Rattle.proof_plans.specs.declared.plans.ScriptError.{ScriptError}
use Rattle.proof_script.specs.Proving.{enough_for, Finds}
use Rattle.proof_plans.specs.Reaching.{reach_of, reached}

-- no search ends for want of units where the budget is at least what always suffices for all obligations
abbrev pub EnoughSuffices : Type 0
EnoughSuffices = (d : CDocument) (budget program step number : ℕ) →
    enough_for (reached (reach_of d)).obligations ≤ budget →
    Finds d budget (Ok (Proof.Budget program step number)) → ⊥

-- an answer other than want of memory
abbrev pub IsAnswered : Result Proof ScriptError → Type 0
IsAnswered (Ok found) = Unit {0}
IsAnswered (Err (ScriptError.Step fault)) = Unit {0}
IsAnswered (Err ScriptError.Memory) = ⊥

-- whatever the budget, a search may answer something of each document
abbrev pub SomeFinding : Type 0
SomeFinding = (d : CDocument) (budget : ℕ) → IsCoreDocument d →
    (finding : Result Proof ScriptError) × IsAnswered finding × Finds d budget finding
