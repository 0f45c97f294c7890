-- What is left to be shown, as it is told of a document's text.
use Rattle.std.proofs.Common.{◌≡◌, ℕ, List, map, Option, Some, None, Result, Ok, Err, IfOk, refl, sym, ap, ◌∙◌, subst}
use Rattle.std.proofs.Common.{arith}
use Rattle.std.specs.Io.KnownBytes.{Appends}
use Rattle.unity_base.specs.Streams.{AppendsPart}
use Rattle.unity_syntax.specs.declared.document.Document.{Document}
use Rattle.core_terms.specs.declared.documents.CDocument.{CDocument}
use Rattle.fixed_correct.specs.from_expand_documents.Cores.{core_document}
use Rattle.cli_texts.specs.from_proof_plans.declared.plans.Plan.{Plan}
use Rattle.cli_texts.specs.from_proof_plans.declared.plans.StepFault.{StepFault}
use Rattle.cli_texts.specs.from_proof_plans.Planning.{reach_from}
use Rattle.cli_texts.specs.from_proof_plans.Reaching.{reach_of}
use Rattle.cli_texts.specs.Verdicts.{rejected_text}
use Rattle.cli_words.specs.Requests.{obligations}
use Rattle.streamed_documents.specs.declared.found.ReadDocument.{ReadDocument}
use Rattle.streamed_documents.specs.Places.{step_places}
use Rattle.told_obligations.specs.declared.origins.Origin.{Origin}
use Rattle.told_obligations.specs.Origins.{document_origins}
use Rattle.told_obligations.specs.Places.{line_of}
use Rattle.told_obligations.specs.Listing.{obligations_text, told_of}
use Rattle.unity_cli.specs.declared.status.Status.{Status}
use Rattle.unity_cli.specs.Status.{HasText}
use Rattle.unity_cli.specs.Admitted.{greatest_bare_size, IsAdmitted}
use Rattle.unity_cli.specs.Answer.Obligations.{IsListed, IsStopped}
use Rattle.unity_cli.specs.Answering.{Telling}
use Rattle.unity_cli.specs.declared.input.Input.{Input}
use Rattle.unity_cli.specs.Input.{AreKept, IsAdmittedAs, IsInput}
use Rattle.unity_cli.proofs.Told.{exact_told, part_told}

-- ---- what was read

-- the bytes of a document are those that are kept
pub kept_admitted : (input : Input) (r : ReadDocument) (kept bytes : List ℕ) → input ≡ Input.Document r →
    IsInput greatest_bare_size bytes input → AreKept input kept bytes →
    (kept ≡ bytes) × IsAdmittedAs greatest_bare_size kept r
kept_admitted input r kept bytes e is are =
    let same : kept ≡ bytes = subst (λ i. AreKept i kept bytes) e are in
    let admitted = subst (IsInput greatest_bare_size bytes) e is in
    (same, subst (λ b. IsAdmittedAs greatest_bare_size b r) (sym same) admitted)

-- ---- documents

-- what is told of a reading is told of its document
pub plan_listed : (bytes : List ℕ) (r : ReadDocument) (plan : Plan) (origins : List Origin) (places lines : List ℕ)
    (text : List ℕ) → (is : IsAdmittedAs greatest_bare_size bytes r) → reach_of r.core ≡ reach_from plan None →
    origins ≡ document_origins r.core plan.records → places ≡ r.places → lines ≡ map (line_of bytes) r.places →
    text ≡ obligations_text (told_of r.core plan origins places lines) → IsListed bytes text
plan_listed bytes r plan origins places lines text is planned origins_are places_are lines_are text_is =
    let d = is.document in
    let all_origins : origins ≡ document_origins (core_document d) plan.records =
    origins_are ∙ ap (λ (c : CDocument). document_origins c plan.records) is.core_is in
    let all_places : places ≡ step_places d = places_are ∙ is.places_is in
    let all_lines : lines ≡ map (line_of bytes) (step_places d) =
    lines_are ∙ ap (map (line_of bytes)) is.places_is in
    record {
      document = d;
      read = is.read;
      plan = plan;
      planned = ap (λ (c : CDocument). reach_of c) (sym is.core_is) ∙ planned;
      text_is = text_is
          ∙ ap (λ (c : CDocument). obligations_text (told_of c plan origins places lines)) is.core_is
          ∙ ap (λ os. obligations_text (told_of (core_document d) plan os places lines)) all_origins
          ∙ ap (λ ps. obligations_text (told_of (core_document d) plan
          (document_origins (core_document d) plan.records) ps lines)) all_places
          ∙ ap (λ ls. obligations_text (told_of (core_document d) plan
          (document_origins (core_document d) plan.records) (step_places d) ls)) all_lines;
    }

pub fault_stopped : (bytes : List ℕ) (r : ReadDocument) (plan : Plan) (fault : StepFault) (text : List ℕ) →
    (is : IsAdmittedAs greatest_bare_size bytes r) → reach_of r.core ≡ reach_from plan (Some fault) →
    text ≡ rejected_text r.core.words fault → IsStopped bytes text
fault_stopped bytes r plan fault text is planned text_is = record {
  document = is.document;
  read = is.read;
  stop = record { plan = plan; fault = fault };
  planned = ap (λ (c : CDocument). reach_of c) (sym is.core_is) ∙ planned;
  text_is = text_is ∙ ap (λ (c : CDocument). rejected_text c.words fault) is.core_is;
}

-- ---- telling

pub listed_whole : (bytes : List ℕ) (old new : Option (List ℕ)) (text : List ℕ) → IsListed bytes text →
    Appends old new text → Telling obligations bytes old new Status.Done
listed_whole bytes old new text is appends =
    exact_told obligations bytes old new Status.Done Status.Done text is refl appends (λ w. cc)

pub listed_part : (bytes : List ℕ) (old new : Option (List ℕ)) (text : List ℕ) → IsListed bytes text →
    AppendsPart old new text → Telling obligations bytes old new Status.WriteFault
listed_part bytes old new text is part =
    part_told obligations bytes old new new Status.WriteFault Status.Done text is part refl refl
