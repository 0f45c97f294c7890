-- What the steps of a proof claim.
use Rattle.std.specs.Prelude.{◌≡◌, ℕ, ℤ, List, [], ◌∷◌, Bool, true, false, ◌&&◌, Option, Some, None, IsTrue}
use Rattle.unity_syntax.specs.from_case_tables.declared.word_table.Word.{Word}
use Rattle.unity_syntax.specs.declared.proof.Param.{Param}
use Rattle.unity_syntax.specs.declared.proof.Claim.{Claim}
use Rattle.unity_syntax.specs.declared.proof.Step.{Step}
use Rattle.unity_syntax.specs.declared.proof.Proof.{Proof}
use Rattle.unity_syntax.specs.declared.document.Document.{Document}
use Rattle.meaning_executions.specs.from_meaning_states.State.{in_range}
use Rattle.meaning_documents.specs.Names.{Bindings}
use Rattle.meaning_documents.specs.Value.{range_ends}
use Rattle.meaning_documents.specs.Setting.{Setting, is_true_at}
use Rattle.meaning_documents.specs.Programs.{Composed, program_named, programs_of, document_setting}
use Rattle.meaning_executions.specs.Execution.{System}
use Rattle.meaning_documents.specs.AsSystem.{system_of}
use Rattle.meaning_executions.specs.Properties.{Test, IsAlwaysDefined, IsInvariant, Fixed, IsStable, Constant, Unless}
use Rattle.meaning_executions.specs.Properties.{Ensures, LeadsTo, Until, Detects}

-- the parameters of a step, in order
abbrev pub parameters : Option (Param × List Param) → List Param
parameters None = []
parameters (Some ps) = ps.0 ∷ ps.1

-- each parameter has a number, and it lies in the parameter's range
abbrev pub are_parameter_values : List Param → List ℤ → Bool
are_parameter_values [] [] = true
are_parameter_values [] (z ∷ zs) = false
are_parameter_values (p ∷ ps) [] = false
are_parameter_values (p ∷ ps) (z ∷ zs) = in_range (Some (range_ends [] p.range)) z && are_parameter_values ps zs

-- parameters with their numbers
abbrev pub argument_bindings : List Param → List ℤ → Bindings
argument_bindings [] zs = []
argument_bindings (p ∷ ps) [] = []
argument_bindings (p ∷ ps) (z ∷ zs) = (p.name.text, z) ∷ argument_bindings ps zs

-- what `p unless q`, `p ensures q`, `p leadsto q`, `p until q` or `p detects q`, within a bound, says; `_` is each word
-- that is none of the five
abbrev pub ClaimsBetween : System → Word → ℕ → Test → Test → Type 0
ClaimsBetween x Word.Unless bound p q = Unless x p q
ClaimsBetween x Word.Ensures bound p q = Ensures x p q
ClaimsBetween x Word.Leadsto bound p q = LeadsTo x p q bound
ClaimsBetween x Word.Until bound p q = Until x p q bound
ClaimsBetween x Word.Detects bound p q = Detects x p q bound
ClaimsBetween x _ bound p q = ⊥

-- what a claim says of a program, for these numbers of the parameters; what leads to something, within the bound
abbrev pub ClaimsOf : Setting → System → Bindings → ℕ → Claim → Type 0
ClaimsOf g x bindings bound (Claim.Defined at) = IsAlwaysDefined x
ClaimsOf g x bindings bound (Claim.Invariant at p) = IsInvariant x (is_true_at g bindings p)
ClaimsOf g x bindings bound (Claim.Stable at p) = IsStable x (is_true_at g bindings p)
ClaimsOf g x bindings bound (Claim.Constant at p) = Constant x (is_true_at g bindings p)
ClaimsOf g x bindings bound (Claim.Fixed at p) = Fixed x (is_true_at g bindings p)
ClaimsOf g x bindings bound (Claim.Between at p which q) =
    ClaimsBetween x which bound (is_true_at g bindings p) (is_true_at g bindings q)

-- what a step claims of a program: its claim for each number of each parameter in its range
abbrev pub StepClaims : Setting → System → ℕ → Step → Type 0
StepClaims g x bound step = (zs : List ℤ) → IsTrue (are_parameter_values (parameters step.params) zs) →
    ClaimsOf g x (argument_bindings (parameters step.params) zs) bound step.claim

-- what a step of a proof in a document claims: the proof's program is one of the document's, and of that the step's
-- claim is true
pub record Claims (d : Document) (proof : Proof) (step : Step) (bound : ℕ) : Type 0 where
  pub program : Composed
  pub named : program_named proof.program.text (programs_of d) ≡ Some program
  pub claimed : StepClaims (document_setting d) (system_of (document_setting d) program) bound step
