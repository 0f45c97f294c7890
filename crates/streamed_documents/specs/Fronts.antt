-- What is found of a front.
use Rattle.std.specs.Prelude.{◌≡◌, ◌⊎◌, ℕ, ◌+◌, ◌^◌, ◌≤◌, Bool, if◌then◌else◌, List, [], length, Option, Some}
use Rattle.std.specs.Prelude.{None, All}
use Rattle.std.specs.Prelude.{Result}
use Rattle.core_terms.specs.Conditions.{IsCoreDocument}
use Rattle.core_terms.specs.declared.documents.CDocument.{CDocument}
use Rattle.obligations.specs.declared.certificates.Cert.{Cert}
use Rattle.proof_plans.specs.declared.plans.StepFault.{StepFault}
use Rattle.proof_plans.specs.Giving.{AreWhole}
use Rattle.proof_plans.specs.Verdicts.{verdict_of}
use Rattle.step_plans.specs.declared.summaries.Summary.{Summary}
use Rattle.step_plans.specs.Summaries.{summed}
use Rattle.event_judge.specs.declared.judge.Judge.{Judge}
use Rattle.event_judge.specs.Judges.{JudgeStandsFor}
use Rattle.event_judge.specs.Told.{certs_events}
use Rattle.unity_base.specs.declared.window.Window.{Window}
use Rattle.unity_base.specs.Window.{coming, window_at, window_limit}
use Rattle.unity_syntax.specs.declared.document.Document.{Document}
use Rattle.unity_syntax.specs.Classes.{says_later}
use Rattle.unity_lexer.specs.declared.front.Front.{Front}
use Rattle.unity_lexer.specs.Tokens.{AreInOrder}
use Rattle.unity_lexer.specs.Scans.{IsFront, IsNoSection, IsSmall}
use Rattle.unity_parser.specs.ParseAnswers.{IsRefusal}
use Rattle.unity_parser.specs.Document.{IsDocument}
use Rattle.certificate_reading.specs.Certificates.{certificates_of}
use Rattle.unity_parser.specs.Fronts.{front_tokens}
use Rattle.names_rules.specs.WellNamed.{IsWellNamed}
use Rattle.quantified_assign.specs.from_expand_documents.Cores.{core_document}
use Rattle.quantified_assign.specs.from_expand_documents.Faults.{expansion_fault}
use Rattle.front_documents.specs.Laws.{IsFrontDocument}
use Rattle.streamed_documents.specs.declared.fronts.Opened.{Opened}
use Rattle.streamed_documents.specs.declared.fronts.Listener.{Listener}
use Rattle.streamed_documents.specs.declared.fronts.Passage.{Passage}
use Rattle.streamed_documents.specs.declared.behind.Pending.{Pending}
use Rattle.streamed_documents.specs.declared.found.Flaw.{Flaw}
use Rattle.streamed_documents.specs.declared.found.Finding.{Finding}
use Rattle.streamed_documents.specs.Found.{IsRefused, section_place}
use Rattle.streamed_documents.specs.Hearing.{IsPendingOn, IsReadyFor}

-- where the bytes of a text are told: its front was read, and the rest is still to come
pub record HasFront (w : Window) (left : Option (List ℕ)) (bytes : List ℕ) (f : Front) : Type 0 where
  pub front : IsFront (window_limit w) bytes f (coming w left)
  pub place : (rest : List ℕ) → coming w left ≡ Some rest → window_at w + length rest ≡ length bytes

-- what is so of the front of any source: its tokens stand in order, before this place, and none is the word
pub record IsOrderly (place : ℕ) (f : Front) : Type 0 where
  pub order : AreInOrder 0 place f.tokens
  pub small : All IsSmall f.tokens
  pub none : All IsNoSection f.tokens

-- a document that such a front is, which is not too long, and that has no fault has a core form as calls take it
abbrev pub FrontCores : Type 0
FrontCores = (place : ℕ) (f : Front) (d : Document) → place ≤ 2 ^ 29 → IsOrderly place f → IsFrontDocument f d →
    IsWellNamed d → expansion_fault d ≡ None → IsCoreDocument (core_document d)

-- the version of the section behind a front, where there is one
abbrev pub version_behind : Option ℕ → Bool → Option ℕ
version_behind None later = None
version_behind (Some cut) later = Some (if later then 2 else 1)

abbrev pub section_version : Front → Option ℕ
section_version f = version_behind f.cut (says_later f.tokens)

-- the first fault of a front, or the document that it is, with what is pending on it
abbrev pub IsOpening : Front → Opened → Type 0
IsOpening f (Opened.Fault code at) = IsRefusal f.bytes.items (front_tokens f) code at
IsOpening f (Opened.Document version pending) =
    (version ≡ section_version f) × (d : Document) × IsFrontDocument f d × IsPendingOn f.cut [] d pending

-- what stands behind the front may be read
abbrev pub MayGoOn : Listener → Opened → Type 0
MayGoOn listener (Opened.Fault code at) = Unit {0}
MayGoOn listener (Opened.Document version pending) =
    IsReadyFor listener pending × ((v : ℕ) → version ≡ Some v → (v ≡ 1) ⊎ (v ≡ 2))

-- the bytes are a document, and this is pending on it, with all its certificates told
pub record IsPassed (most : ℕ) (bytes : List ℕ) (p : Pending) : Type 0 where
  pub document : Document
  pub size : length bytes ≤ most
  pub is_document : IsDocument bytes document
  pub pending : IsPendingOn (section_place document.certificates) (certs_events (certificates_of document)) document p

abbrev pub IsPassage : ℕ → List ℕ → Passage → Type 0
IsPassage most bytes (Passage.Refused flaw) = IsRefused most bytes flaw
IsPassage most bytes (Passage.Passed pending) = IsPassed most bytes pending

-- what is pending is there for this listener
abbrev pub IsPassageFor : Listener → Passage → Type 0
IsPassageFor listener (Passage.Refused flaw) = Unit {0}
IsPassageFor listener (Passage.Passed pending) = IsReadyFor listener pending

-- the verdict of a judge, by whatever certificates it was told
abbrev pub IsVerdict : Judge → Result Summary StepFault → Type 0
IsVerdict judge verdict = (d : CDocument) (certs : List Cert) → AreWhole certs →
    JudgeStandsFor d judge (certs_events certs) → summed (verdict_of d certs) ≡ verdict

abbrev pub IsVerdictBy : CDocument → Judge → Finding → Type 0
IsVerdictBy core judge (Finding.Refused flaw) = ⊥
IsVerdictBy core judge (Finding.Judged j) = (j.core ≡ core) × IsVerdict judge j.verdict

-- what is pending is found
abbrev pub IsSettled : Pending → Finding → Type 0
IsSettled (Pending.Fault code at) found = found ≡ Finding.Refused (Flaw.Fault code at)
IsSettled (Pending.Document r) found = ⊥
IsSettled (Pending.Judge core judge) found = IsVerdictBy core judge found
