-- Which bytes are a document whose proofs follow the rules.
use Rattle.std.specs.Prelude.{ℕ, List}
use Rattle.unity_syntax.specs.declared.document.Document.{Document}
use Rattle.fixed_correct.specs.from_expand_documents.Cores.{core_document}
use Rattle.cli_texts.specs.from_proof_plans.Following.{Follows}
use Rattle.certificate_reading.specs.Certificates.{certificates_of}
use Rattle.unity_cli.specs.Admitted.{greatest_size, IsAdmitted}

-- the bytes are a document without a fault; each step of its proofs gets its record by the rules, each proof has its
-- `defined` step, and there is one certificate for each obligation, in order, which refutes it
pub record FollowsTheRules (bytes : List ℕ) : Type 0 where
  pub document : Document
  pub read : IsAdmitted greatest_size bytes document
  pub follows : Follows (core_document document) (certificates_of document)
