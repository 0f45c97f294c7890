-- What is found of a document in version 2.
use Rattle.std.specs.Prelude.{◌≡◌, List, Ok}
use Rattle.unity_syntax.specs.declared.document.Document.{Document}
use Rattle.names_rules.specs.WellNamed.{IsWellNamed}
use Rattle.expand_fits.specs.from_expand_documents.Cores.{core_document}
use Rattle.expand_fits.specs.from_expand_documents.Faults.{expansion_fault}
use Rattle.core_terms.specs.declared.documents.CDocument.{CDocument}
use Rattle.obligations.specs.declared.certificates.Cert.{Cert}
use Rattle.proof_plans.specs.declared.plans.Plan.{Plan}
use Rattle.proof_plans.specs.Verdicts.{verdict_of}
use Rattle.upgraded_texts.specs.Upgraded.{upgraded}

-- its names have no fault where the document's have none,
abbrev pub UpgradedIsNamed : Type 0
UpgradedIsNamed = (d : Document) → IsWellNamed d → IsWellNamed (upgraded d)

-- and its expansion has the same fault, or none
abbrev pub UpgradedExpands : Type 0
UpgradedExpands = (d : Document) → expansion_fault (upgraded d) ≡ expansion_fault d

-- its core form is that of the document, in version 2
abbrev pub UpgradedCore : Type 0
UpgradedCore = (d : Document) → core_document (upgraded d) ≡ record (core_document d) { version = 2 }

-- certificates with which a document is accepted are so in version 2, with the same plan
abbrev pub UpgradedIsAccepted : Type 0
UpgradedIsAccepted = (d : CDocument) (certs : List Cert) (plan : Plan) → verdict_of d certs ≡ Ok plan →
    verdict_of (record d { version = 2 }) certs ≡ Ok plan
