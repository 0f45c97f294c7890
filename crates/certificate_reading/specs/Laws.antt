-- What is so of the certificates of each document that a text is.
use Rattle.std.specs.Prelude.{◌≡◌, ℕ, List, true, All}
use Rattle.unity_syntax.specs.declared.document.Document.{Document}
use Rattle.unity_parser.specs.Document.{IsDocument}
use Rattle.obligations.specs.declared.certificates.Cert.{Cert}
use Rattle.certificate_rules.specs.Trees.{is_whole}
use Rattle.certificate_reading.specs.Certificates.{certificates_of}

-- the nodes are one whole tree
abbrev pub IsWholeTree : Cert → Type 0
IsWholeTree c = is_whole c.nodes 1 ≡ true

abbrev pub AreWholeTrees : Type 0
AreWholeTrees = (bytes : List ℕ) (d : Document) → IsDocument bytes d → All IsWholeTree (certificates_of d)
