-- What is answered where nothing behind a front is at fault, and what was told to it.
use Rattle.std.specs.Prelude.{◌≡◌, ◌++◌, ℕ, List, Option, Some, None}
use Rattle.unity_base.specs.declared.events.CertEvent.{CertEvent}
use Rattle.core_terms.specs.declared.documents.CDocument.{CDocument}
use Rattle.unity_syntax.specs.declared.document.Document.{Document}
use Rattle.names_rules.specs.WellNamed.{IsWellNamed}
use Rattle.quantified_assign.specs.from_expand_documents.Cores.{core_document}
use Rattle.quantified_assign.specs.from_expand_documents.Faults.{expansion_fault}
use Rattle.event_judge.specs.declared.judge.Judge.{Judge}
use Rattle.event_judge.specs.Judges.{JudgeIsReady, JudgeStandsFor}
use Rattle.streamed_documents.specs.declared.behind.Pending.{Pending}
use Rattle.streamed_documents.specs.declared.fronts.Listener.{Listener}
use Rattle.streamed_documents.specs.declared.found.ReadDocument.{ReadDocument}
use Rattle.streamed_documents.specs.Places.{step_places}
use Rattle.streamed_documents.specs.WellFormed.{document_fault}

-- a judge of this document was told these events more, and may be told others
pub record ToldMore (d : CDocument) (old new : Judge) (es : List CertEvent) : Type 0 where
  pub ready : JudgeIsReady d new
  pub stands : (before : List CertEvent) → JudgeStandsFor d old before → JudgeStandsFor d new (before ++ es)

-- a judge hears events, and nothing else does
abbrev pub Hears : Pending → Pending → List CertEvent → Type 0
Hears (Pending.Fault code at) new es = new ≡ Pending.Fault code at
Hears (Pending.Document r) new es = new ≡ Pending.Document r
Hears (Pending.Judge core old) new es =
    (judge : Judge) × (new ≡ Pending.Judge core judge) × ToldMore core old judge es

-- it may be told events
abbrev pub MayHear : Pending → Type 0
MayHear (Pending.Fault code at) = Unit {0}
MayHear (Pending.Document r) = Unit {0}
MayHear (Pending.Judge core judge) = JudgeIsReady core judge

-- whatever it was told, it may be told more, and is of the same document
abbrev pub StaysReady : Pending → Pending → Type 0
StaysReady (Pending.Fault code at) new = new ≡ Pending.Fault code at
StaysReady (Pending.Document r) new = new ≡ Pending.Document r
StaysReady (Pending.Judge core old) new = (judge : Judge) × (new ≡ Pending.Judge core judge) × JudgeIsReady core judge

-- it is a fault, or there for this listener
abbrev pub IsReadyFor : Listener → Pending → Type 0
IsReadyFor listener (Pending.Fault code at) = Unit {0}
IsReadyFor Listener.Judge (Pending.Document r) = ⊥
IsReadyFor Listener.Nobody (Pending.Document r) = Unit {0}
IsReadyFor Listener.Judge (Pending.Judge core judge) = JudgeIsReady core judge
IsReadyFor Listener.Nobody (Pending.Judge core judge) = ⊥

-- a document without a fault, with a judge that was told these events of it
pub record IsJudgeOf (es : List CertEvent) (d : Document) (core : CDocument) (judge : Judge) : Type 0 where
  pub named : IsWellNamed d
  pub expands : expansion_fault d ≡ None
  pub core_is : core ≡ core_document d
  pub stands : JudgeStandsFor core judge es

-- a document without a fault, whose section begins at this place, and what is kept of it
pub record IsKeptOf (section_at : Option ℕ) (d : Document) (r : ReadDocument) : Type 0 where
  pub named : IsWellNamed d
  pub expands : expansion_fault d ≡ None
  pub core_is : r.core ≡ core_document d
  pub number_is : r.number_at ≡ d.number_at
  pub section_is : r.section_at ≡ section_at
  pub places_is : r.places ≡ step_places d

-- the first fault of a document's names or expansion, or what is kept of it, or its judge
abbrev pub IsPendingOn : Option ℕ → List CertEvent → Document → Pending → Type 0
IsPendingOn section_at es d (Pending.Fault code at) = document_fault d ≡ Some (record { code = code; at = at })
IsPendingOn section_at es d (Pending.Document r) = IsKeptOf section_at d r
IsPendingOn section_at es d (Pending.Judge core judge) = IsJudgeOf es d core judge
