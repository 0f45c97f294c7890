-- What a search finds is its answer.
use Rattle.std.proofs.Common.{◌≡◌, ◌≤◌, ◌+◌, ℕ, List, ◌∷◌, ◌++◌, length, Option, Some, None, Result, Ok, IfOk}
use Rattle.std.proofs.Common.{refl, sym}
use Rattle.std.proofs.Common.{ap, ◌∙◌, subst, arith}
use Rattle.unity_syntax.specs.declared.certificate.Certificates.{Certificates}
use Rattle.unity_syntax.specs.declared.document.Document.{Document}
use Rattle.core_terms.specs.declared.documents.CDocument.{CDocument}
use Rattle.core_terms.specs.Conditions.{IsCoreDocument}
use Rattle.fixed_correct.specs.from_expand_documents.Cores.{core_document}
use Rattle.obligations.specs.declared.certificates.Cert.{Cert}
use Rattle.cli_texts.specs.from_proof_plans.declared.plans.Plan.{Plan}
use Rattle.proof_script.specs.declared.plans.Proof.{Proof}
use Rattle.cli_texts.specs.from_proof_plans.declared.plans.ScriptError.{ScriptError}
use Rattle.proof_script.specs.Proving.{Finds, ProvedWithin}
use Rattle.cli_texts.specs.from_proof_plans.Verdicts.{verdict_of}
use Rattle.cli_texts.specs.Verdicts.{accepted_text}
use Rattle.certificate_printing.specs.Certificates.{certificates_text}
use Rattle.certificate_roundtrip.specs.Found.{front, text_with}
use Rattle.certificate_roundtrip.specs.TextLaws.{IsFoundText}
use Rattle.certificate_roundtrip.proofs.FoundTexts.{proved_is_read}
use Rattle.plain_quotients.proofs.OnlyTimesLaws.{earlier_leave_none}
use Rattle.unity_cli.specs.declared.prove.Found.{Found}
use Rattle.unity_cli.specs.declared.input.Input.{Input}
use Rattle.streamed_documents.specs.declared.found.ReadDocument.{ReadDocument}
use Rattle.unity_cli.specs.declared.status.Status.{Status}
use Rattle.unity_cli.specs.Admitted.{greatest_size, greatest_bare_size, IsAdmitted}
use Rattle.unity_cli.specs.Answer.Check.{IsAccepted}
use Rattle.unity_cli.specs.Answer.Prove.{IsFinding, IsProvedText, Searched}
use Rattle.unity_cli.specs.Answering.{HasPlan}
use Rattle.streamed_documents.specs.Found.{section_place}
use Rattle.unity_cli.specs.Input.{AreKept, IsAdmittedAs, bytes_before, words_in}
use Rattle.unity_cli.proofs.Accepted.{read_core}
use Rattle.unity_cli.proofs.Told.{sound_core}

pub are_kept : (input : Input) (bytes : List ℕ) → AreKept input bytes bytes
are_kept Input.TooLong bytes = tt
are_kept (Input.Fault code at) bytes = tt
are_kept (Input.Document r) bytes = refl

pub searched_core : (bytes : List ℕ) (r : ReadDocument) → IsAdmittedAs greatest_bare_size bytes r →
    IsCoreDocument r.core
searched_core bytes r is = sound_core greatest_bare_size (omega arith) r (bytes, is)

-- what is found of the core form is found of the document
pub finds_told : (bytes : List ℕ) (budget : ℕ) (r : ReadDocument) (finding : Result Proof ScriptError)
    (told : CDocument → List ℕ) (text : List ℕ) → Finds r.core budget finding →
    text ≡ told r.core →
    IsAdmittedAs greatest_bare_size bytes r → IsFinding bytes budget finding told text
finds_told bytes budget r finding told text h e is = record {
  document = is.document;
  read = is.read;
  finds = subst (λ c. Finds c budget finding) is.core_is h;
  text_is = e ∙ ap told is.core_is;
}

-- the document's text with certificates that were found is that document with them, and so it is accepted
with_accepted : (bytes : List ℕ) (d : Document) (plan : Plan) (certs : List Cert) →
    IsAdmitted greatest_bare_size bytes d → verdict_of (core_document d) certs ≡ Ok plan → IsFoundText bytes d certs →
    IsAccepted (text_with bytes d certs) (accepted_text (core_document d).words plan)
with_accepted bytes d plan certs read verdict found = record {
  document = record d { certificates = Some found.read.section };
  read = record {
    size = within (length (text_with bytes d certs)) (length bytes) found.size read.size;
    reading = record {
      is_document = found.read.is_document;
      named = read.reading.named;
      expands = read.reading.expands;
    };
  };
  plan = plan;
  verdict = subst (λ cs. verdict_of (core_document d) cs ≡ Ok plan) (sym found.read.says) verdict;
  text_is = refl;
}
  where
    within : (a b : ℕ) → a ≤ b + 57000018 → b ≤ greatest_bare_size → a ≤ greatest_size
    within a b h k = omega (arith, h, k)

found_accepted : (bytes : List ℕ) (budget : ℕ) (d : Document) (plan : Plan) (certs : List Cert) →
    IsAdmitted greatest_bare_size bytes d → budget ≤ 1000000 → ProvedWithin (core_document d) budget plan certs →
    IsAccepted (text_with bytes d certs) (accepted_text (core_document d).words plan)
found_accepted bytes budget d plan certs read few proved =
    with_accepted bytes d plan certs read proved.verdict
    (proved_is_read bytes d (core_document d) budget plan certs read.reading.is_document
    (earlier_leave_none bytes d read.reading.is_document)
    (read_core greatest_bare_size (omega arith) bytes d read) proved few)

-- the text with certificates that were found
pub found_of : (bytes : List ℕ) (budget : ℕ) (d : Document) (plan : Plan) (certs : List Cert) (text : List ℕ) →
    IsAdmitted greatest_bare_size bytes d → budget ≤ 1000000 → ProvedWithin (core_document d) budget plan certs →
    text ≡ text_with bytes d certs → IsProvedText bytes budget text
found_of bytes budget d plan certs text read few proved e = record {
  document = d;
  read = read;
  plan = plan;
  certs = certs;
  proved = proved;
  text_is = e;
  verdict_text = accepted_text (core_document d).words plan;
  accepted = subst (λ t. IsAccepted t (accepted_text (core_document d).words plan)) (sym e)
      (found_accepted bytes budget d plan certs read few proved);
}

-- what stands before the section of a document
pub before_section : (bytes : List ℕ) (c : Option Certificates) → bytes_before bytes (section_place c) ≡ front bytes c
before_section bytes None = refl
before_section bytes (Some c) = refl

module _ (bytes : List ℕ) (budget : ℕ) (r : ReadDocument) (plan : Plan) (certs : List Cert) (before text : List ℕ)
    (few : budget ≤ 1000000) (proved : ProvedWithin r.core budget plan certs)
    (front_is : before ≡ bytes_before bytes r.section_at) (text_is : text ≡ before ++ 10 ∷ certificates_text certs)
    (is : IsAdmittedAs greatest_bare_size bytes r) where
  whole_text : text ≡ text_with bytes is.document certs
  whole_text = text_is ∙ ap (λ t. t ++ 10 ∷ certificates_text certs)
      (front_is ∙ ap (bytes_before bytes) is.section_is ∙ before_section bytes is.document.certificates)

  pub found_told : IsProvedText bytes budget text
  found_told =
      found_of bytes budget is.document plan certs text is.read few
      (subst (λ c. ProvedWithin c budget plan certs) is.core_is proved) whole_text

  pub found_planned : IsAccepted text (accepted_text r.core.words plan)
  found_planned =
      subst (λ t. IsAccepted t (accepted_text r.core.words plan)) (sym whole_text)
      (subst (λ (c : CDocument). IsAccepted (text_with bytes is.document certs) (accepted_text c.words plan))
      (sym is.core_is) (found_accepted bytes budget is.document plan certs is.read few
      (subst (λ c. ProvedWithin c budget plan certs) is.core_is proved)))

-- the words of a document are those of its reading
pub reading_plan : (input : Input) (r : ReadDocument) {E : Type 0} (result : Result Found E) →
    input ≡ Input.Document r → IfOk result (HasPlan r.core.words) → IfOk result (HasPlan (words_in input))
reading_plan input r result e h = subst (λ i. IfOk result (HasPlan (words_in i))) (sym e) h

pub bad_searched : (bytes : List ℕ) (budget : ℕ) (status : Status) (text meant : List ℕ) →
    status ≡ Status.BadDocument → text ≡ meant → Searched bytes budget Status.BadDocument meant →
    Searched bytes budget status text
bad_searched bytes budget status text meant e f h =
    subst (λ x. Searched bytes budget x text) (sym e)
    (subst (Searched bytes budget Status.BadDocument) (sym f) h)
