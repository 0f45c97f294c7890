-- What `check` accepts it accepts in version 2 with the same text.
use Rattle.std.proofs.Common.{◌≡◌, ◌≤◌, ℕ, List, Ok, sym, ◌∙◌, subst, arith, refl}
use Rattle.unity_syntax.specs.declared.document.Document.{Document}
use Rattle.unity_parser.proofs.Readings.{one_document}
use Rattle.fixed_correct.specs.from_expand_documents.Cores.{core_document}
use Rattle.certificate_reading.specs.Certificates.{certificates_of}
use Rattle.cli_texts.specs.from_proof_plans.Verdicts.{verdict_of}
use Rattle.plain_quotients.specs.from_upgraded_texts.Upgraded.{upgraded, upgraded_text}
use Rattle.plain_quotients.proofs.lemmas_from_upgraded_texts.Documents.{upgraded_is_as_long, upgraded_is_read}
use Rattle.plain_quotients.proofs.lemmas_from_upgraded_texts.Cores.{upgraded_core, upgraded_expands, upgraded_is_named}
use Rattle.plain_quotients.proofs.lemmas_from_upgraded_texts.Accepting.{upgraded_is_accepted}
use Rattle.unity_cli.specs.declared.status.Status.{Status}
use Rattle.unity_cli.specs.Status.{HasText}
use Rattle.unity_cli.specs.Admitted.{greatest_size, greatest_bare_size, IsAdmitted}
use Rattle.unity_cli.specs.Answer.Check.{Checked, IsAccepted}
use Rattle.unity_cli.specs.Answer.Upgrade.{IsUpgraded, Upgraded}
use Rattle.unity_cli.proofs.OneAnswers.{read_not_bad}

-- what `upgrade` takes `check` takes

pub wider : (bytes : List ℕ) (d : Document) → IsAdmitted greatest_bare_size bytes d → IsAdmitted greatest_size bytes d
wider bytes d read =
    let few = read.size in
    record { size = omega (arith, few); reading = read.reading }

-- its upgraded text is accepted

accepted_again : (bytes verdict : List ℕ) (a : IsAccepted bytes verdict) →
    IsAccepted (upgraded_text bytes a.document) verdict
accepted_again bytes verdict a =
    let is = a.read.reading.is_document in
    record {
      document = upgraded a.document;
      read = record {
        size = subst (λ n. n ≤ greatest_size) (sym (upgraded_is_as_long bytes a.document is)) a.read.size;
        reading = record {
          is_document = upgraded_is_read bytes a.document is;
          named = upgraded_is_named a.document a.read.reading.named;
          expands = upgraded_expands a.document ∙ a.read.reading.expands;
        };
      };
      plan = a.plan;
      verdict = subst (λ c. verdict_of c (certificates_of a.document) ≡ Ok a.plan) (sym (upgraded_core a.document))
          (upgraded_is_accepted (core_document a.document) (certificates_of a.document) a.plan a.verdict);
      text_is = a.text_is;
    }

pub upgraded_of : (bytes text verdict : List ℕ) (d : Document) → IsAdmitted greatest_bare_size bytes d →
    IsAccepted bytes verdict → text ≡ upgraded_text bytes d → IsUpgraded bytes text
upgraded_of bytes text verdict d read a e =
    let same = one_document bytes a.document d a.read.reading.is_document read.reading.is_document in
    record {
      document = d;
      read = read;
      verdict = verdict;
      accepted = a;
      text_is = e;
      again = subst (λ t. IsAccepted t verdict) (sym e)
          (subst (λ x. IsAccepted (upgraded_text bytes x) verdict) same (accepted_again bytes verdict a));
    }

-- else the answer is that of `check`
pub checked_upgraded : (bytes : List ℕ) (status : Status) (text : List ℕ) (d : Document) →
    IsAdmitted greatest_bare_size bytes d → Checked bytes status text → (status ≡ Status.Done → ⊥) →
    Upgraded bytes status text
checked_upgraded bytes Status.Done text d read h other = absurd (other refl)
checked_upgraded bytes Status.Rejected text d read h other = (read.size, h)
checked_upgraded bytes Status.BadDocument text d read h other =
    absurd (read_not_bad bytes text d (wider bytes d read) h)
checked_upgraded bytes Status.Refuted text d read h other = h
checked_upgraded bytes Status.Budget text d read h other = h
checked_upgraded bytes Status.Undefined text d read h other = h
checked_upgraded bytes Status.BadWords text d read h other = h
checked_upgraded bytes Status.ReadFault text d read h other = h
checked_upgraded bytes Status.WriteFault text d read h other = h
checked_upgraded bytes Status.WantOfMemory text d read h other = h
checked_upgraded bytes Status.Violated text d read h other = h

-- each answer has its whole text

pub upgraded_has_text : (bytes : List ℕ) (status : Status) (text : List ℕ) → Upgraded bytes status text → HasText status
upgraded_has_text bytes Status.Done text h = tt
upgraded_has_text bytes Status.Rejected text h = tt
upgraded_has_text bytes Status.BadDocument text h = tt
upgraded_has_text bytes Status.Refuted text h = tt
upgraded_has_text bytes Status.Budget text h = tt
upgraded_has_text bytes Status.Undefined text h = tt
upgraded_has_text bytes Status.BadWords text h = tt
upgraded_has_text bytes Status.ReadFault text h = h
upgraded_has_text bytes Status.WriteFault text h = h
upgraded_has_text bytes Status.WantOfMemory text h = h
upgraded_has_text bytes Status.Violated text h = tt

pub bad_upgraded : (bytes : List ℕ) (status : Status) (text meant : List ℕ) → status ≡ Status.BadDocument →
    text ≡ meant → Upgraded bytes Status.BadDocument meant → Upgraded bytes status text
bad_upgraded bytes status text meant e f h =
    subst (λ x. Upgraded bytes x text) (sym e) (subst (Upgraded bytes Status.BadDocument) (sym f) h)
