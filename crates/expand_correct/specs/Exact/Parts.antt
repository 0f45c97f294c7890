-- Where the parts of a well-named document stand: what is declared before each of them, after which it has no fault.
use Rattle.std.specs.Prelude.{◌≡◌, ℕ, List, Some, None, slice_get}
use Rattle.std.specs.Prelude.{take}
use Rattle.unity_syntax.specs.declared.program.Program.{Program}
use Rattle.unity_syntax.specs.declared.proof.Proof.{Proof}
use Rattle.unity_syntax.specs.declared.document.Part.{Part as DocumentPart}
use Rattle.unity_syntax.specs.declared.document.Document.{Document}
use Rattle.meaning_documents.specs.Setting.{programs_among}
use Rattle.names_rules.specs.Scope.{Table}
use Rattle.names_rules.specs.Part.{Part, run}
use Rattle.names_rules.specs.Proofs.{Programs, step_part}
use Rattle.names_rules.specs.WellNamed.{Declared, nothing_declared, part_of, program_part, proof_part, IsWellNamed}
use Rattle.names_laws.specs.StayingLaws.{StaysIn}
use Rattle.names_laws.specs.AttributeLaws.{ArraysVary}

-- what holds of each item of a list
abbrev pub EachItem : {X : Type 0} → (X → Type 0) → List X → Type 0
EachItem P xs = (place : ℕ) (x : _) → slice_get xs place ≡ Some x → P x

-- what is known before each item of a run: each item has no fault there
abbrev pub PartsFaultless : {S X : Type 0} → (S → X → Part S) → Type 0
PartsFaultless f = (s : _) (xs : List _) → (run f s xs).fault ≡ None → (place : ℕ) (x : _) →
    slice_get xs place ≡ Some x → (f (run f s (take place xs)).after x).fault ≡ None

-- the words that a document declares
abbrev pub final_names : Document → Table
final_names d = (run part_of nothing_declared d.parts).after.names

-- what is declared before a program: the program has no fault there, and what it declares stays to the end
pub record ProgramStands (final : Table) (program : Program) : Type 0 where
  pub before : Declared
  pub faultless : (program_part before program).fault ≡ None
  pub stays : StaysIn (program_part before program).after.names final
  pub vary : ArraysVary before.names

-- what is declared before a proof, likewise
pub record ProofStands (final : Table) (proof : Proof) : Type 0 where
  pub before : Declared
  pub faultless : (proof_part before proof).fault ≡ None
  pub stays : StaysIn before.names final
  pub vary : ArraysVary before.names

-- each program of a well-named document stands so,
abbrev pub ProgramsStand : Type 0
ProgramsStand = (d : Document) → IsWellNamed d → (place : ℕ) (program : Program) →
    slice_get (programs_among d.parts) place ≡ Some program → ProgramStands (final_names d) program

-- and so does each proof
abbrev pub ProofsStand : Type 0
ProofsStand = (d : Document) → IsWellNamed d → (place at : ℕ) (proof : Proof) →
    slice_get d.parts place ≡ Some (DocumentPart.Proof at proof) → ProofStands (final_names d) proof

-- each step of a proof without a fault has none after the steps before it
abbrev pub StepsFaultless : Type 0
StepsFaultless = (programs : Programs) (names : Table) → PartsFaultless (step_part programs names)
