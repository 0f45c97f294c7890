-- What `check` answers.
use Rattle.std.specs.Prelude.{◌≡◌, ◌⊎◌, ℕ, List, Option, Ok, Err}
use Rattle.std.specs.Io.KnownBytes.{Appends}
use Rattle.unity_base.specs.Streams.{AppendsPart}
use Rattle.case_tables.specs.declared.code_table.Code.{Code}
use Rattle.unity_syntax.specs.declared.document.Document.{Document}
use Rattle.fixed_correct.specs.from_expand_documents.Cores.{core_document}
use Rattle.cli_texts.specs.from_proof_plans.declared.plans.Plan.{Plan}
use Rattle.cli_texts.specs.from_proof_plans.declared.plans.StepFault.{StepFault}
use Rattle.cli_texts.specs.from_proof_plans.Verdicts.{verdict_of}
use Rattle.certificate_reading.specs.Certificates.{certificates_of}
use Rattle.cli_texts.specs.Refusals.{fault_text, refusal_text}
use Rattle.cli_texts.specs.Verdicts.{accepted_text, rejected_text}
use Rattle.unity_cli.specs.declared.status.Status.{Status}
use Rattle.unity_cli.specs.Admitted.{greatest_size, IsAdmitted, IsBad}

-- each step follows its rule, and each obligation has one certificate, which refutes its negation
pub record IsAccepted (bytes : List ℕ) (text : List ℕ) : Type 0 where
  pub document : Document
  pub read : IsAdmitted greatest_size bytes document
  pub plan : Plan
  pub verdict : verdict_of (core_document document) (certificates_of document) ≡ Ok plan
  pub text_is : text ≡ accepted_text (core_document document).words plan

-- this is the first failure
pub record IsRejected (bytes : List ℕ) (text : List ℕ) : Type 0 where
  pub document : Document
  pub read : IsAdmitted greatest_size bytes document
  pub fault : StepFault
  pub verdict : verdict_of (core_document document) (certificates_of document) ≡ Err fault
  pub text_is : text ≡ rejected_text (core_document document).words fault

-- what `check` answers for these bytes
abbrev pub Checked : List ℕ → Status → List ℕ → Type 0
Checked bytes Status.Done text = IsAccepted bytes text
Checked bytes Status.Rejected text = IsRejected bytes text
Checked bytes Status.BadDocument text = IsBad greatest_size bytes text
Checked bytes status text = ⊥

-- the form of what `check` writes, of whatever document
abbrev pub IsCheckText : Status → List ℕ → Type 0
IsCheckText Status.Done text = (words : List (List ℕ)) × (plan : Plan) × (text ≡ accepted_text words plan)
IsCheckText Status.Rejected text = (words : List (List ℕ)) × (fault : StepFault) × (text ≡ rejected_text words fault)
IsCheckText Status.BadDocument text =
    (text ≡ refusal_text Code.TooLong) ⊎ ((code : Code) × (at : ℕ) × (text ≡ fault_text code at))
IsCheckText status text = ⊥

-- such a text was appended
abbrev pub WritesCheckText : Status → Option (List ℕ) → Option (List ℕ) → Type 0
WritesCheckText status old new = (text : List ℕ) × IsCheckText status text × Appends old new text

-- a front part of such a text was appended
abbrev pub WritesCheckPart : Option (List ℕ) → Option (List ℕ) → Type 0
WritesCheckPart old new = (status : Status) × (text : List ℕ) × IsCheckText status text × AppendsPart old new text
