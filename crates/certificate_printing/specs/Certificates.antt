-- The text of certificates.
use Rattle.std.specs.Prelude.{ℕ, suc, ℤ, List, [], ◌∷◌, ◌++◌, codes, decimal}
use Rattle.std.specs.List.{flat_map}
use Rattle.std.specs.Fmt.{signed_decimal}
use Rattle.obligations.specs.declared.certificates.Cert.{Cert}
use Rattle.obligations.specs.declared.certificates.Node.{Node}

-- ` MULTIPLIER*NUMBER`
abbrev pub pair_text : ℤ × ℕ → List ℕ
pair_text p = codes " " ++ (signed_decimal p.0 ++ (codes "*" ++ decimal p.1))

-- ` round DIVISOR`
abbrev pub round_text : ℤ → List ℕ
round_text d = codes " round " ++ signed_decimal d

-- ` share CONSTANT`
abbrev pub share_text : ℤ → List ℕ
share_text c = codes " share " ++ signed_decimal c

-- a blank, and the node with single blanks
abbrev pub node_text : Node → List ℕ
node_text (Node.Case k) = codes " case " ++ decimal k
node_text (Node.Split v k) = codes " split " ++ (decimal v ++ (codes " " ++ signed_decimal k))
node_text (Node.Sum ps) = codes " sum" ++ flat_map pair_text ps
node_text (Node.Round d ps) = round_text d ++ flat_map pair_text ps
node_text (Node.Quot k) = codes " quot " ++ decimal k
node_text (Node.Share c ps) = share_text c ++ flat_map pair_text ps

-- the line of a certificate with its number
abbrev pub certificate_line : ℕ → Cert → List ℕ
certificate_line number c = decimal number ++ (codes ":" ++ (flat_map node_text c.nodes ++ (codes ";" ++ 10 ∷ [])))

-- a line for each certificate, the first of which has this number
abbrev pub certificate_lines : ℕ → List Cert → List ℕ
certificate_lines number [] = []
certificate_lines number (c ∷ cs) = certificate_line number c ++ certificate_lines (suc number) cs

-- the whole section: certificates are numbered from 1
abbrev pub certificates_text : List Cert → List ℕ
certificates_text certs =
    (codes "certificates" ++ 10 ∷ []) ++ (certificate_lines 1 certs ++ (codes "end" ++ 10 ∷ []))
