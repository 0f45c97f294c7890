-- The certificates of a document, from their text.
use Rattle.std.specs.Prelude.{◌^◌, ℕ, min, ℤ, pos, neg_ℤ, Bool, true, false, List, [], ◌∷◌, map, Option, Some, None}
use Rattle.unity_syntax.specs.declared.certificate.Pair.{Pair}
use Rattle.unity_syntax.specs.declared.certificate.Node.{Node as WrittenNode}
use Rattle.unity_syntax.specs.declared.certificate.CertText.{CertText}
use Rattle.unity_syntax.specs.declared.certificate.Certificates.{Certificates}
use Rattle.unity_syntax.specs.declared.document.Document.{Document}
use Rattle.obligations.specs.declared.certificates.Node.{Node}
use Rattle.obligations.specs.declared.certificates.Cert.{Cert}

-- a number with its sign; no number of a text is past 2^62
abbrev pub number_of : Bool → ℕ → ℤ
number_of false n = pos (min n (2 ^ 62))
number_of true n = neg_ℤ (pos (min n (2 ^ 62)))

-- a multiplier and the number of a fact
abbrev pub pair_of : Pair → ℤ × ℕ
pair_of p = (number_of p.minus p.multiplier, p.fact)

-- a node, as it is written
abbrev pub node_of : WrittenNode → Node
node_of (WrittenNode.Case at number) = Node.Case number
node_of (WrittenNode.Split at variable minus bound) = Node.Split variable (number_of minus bound)
node_of (WrittenNode.Sum at pairs) = Node.Sum (map pair_of pairs)
node_of (WrittenNode.Round at minus divisor pairs) = Node.Round (number_of minus divisor) (map pair_of pairs)
node_of (WrittenNode.Quot at number) = Node.Quot number
node_of (WrittenNode.Share at minus constant pairs) = Node.Share (number_of minus constant) (map pair_of pairs)

abbrev pub certificate_of : CertText → Cert
certificate_of c = record { nodes = node_of c.first ∷ map node_of c.rest }

abbrev pub section_of : Option Certificates → List CertText
section_of None = []
section_of (Some section) = section.items

-- the certificates of a document, in order
abbrev pub certificates_of : Document → List Cert
certificates_of d = map certificate_of (section_of d.certificates)
