-- What is read of a text meets the conditions of the calls that judge it.
use Rattle.std.proofs.Common.{◌≡◌, ◌≤◌, ℕ, List, length, None, sym, subst, arith}
use Rattle.unity_syntax.specs.declared.document.Document.{Document}
use Rattle.unity_parser.specs.Document.{IsDocument}
use Rattle.names_rules.specs.WellNamed.{IsWellNamed}
use Rattle.core_terms.specs.declared.documents.CDocument.{CDocument}
use Rattle.core_terms.specs.Conditions.{IsCoreDocument}
use Rattle.streamed_documents.specs.from_expand_documents.Cores.{core_document}
use Rattle.streamed_documents.specs.from_expand_documents.Faults.{expansion_fault}
use Rattle.streamed_documents.proofs.lemmas_from_expand_fits.Parsed.Reading.{read_cores}
use Rattle.obligations.specs.declared.certificates.Cert.{Cert}
use Rattle.certificate_reading.specs.Certificates.{certificates_of}
use Rattle.certificate_reading.proofs.Whole.{are_whole_trees}
use Rattle.proof_plans.specs.Giving.{AreWhole}

pub core_meets : (bytes : List ℕ) (d : Document) (c : CDocument) → length bytes ≤ 65536 → IsDocument bytes d →
    IsWellNamed d → expansion_fault d ≡ None → c ≡ core_document d → IsCoreDocument c
core_meets bytes d c few is named expands same = subst IsCoreDocument (sym same)
    (read_cores bytes d (omega (arith, few)) is named expands)

pub are_whole : (bytes : List ℕ) (d : Document) (certs : List Cert) → IsDocument bytes d → certs ≡ certificates_of d →
    AreWhole certs
are_whole bytes d certs is same = subst AreWhole (sym same) (are_whole_trees bytes d is)

pub ruleset whole_laws = (core_meets, are_whole)
