-- The section that says certificates, as it is written from a place on.
use Rattle.std.proofs.Common.{ℕ, suc, List, [], ◌∷◌}
use Rattle.std.specs.Prelude.{codes}
use Rattle.case_tables.specs.declared.symbol_table.Symbol.{Symbol}
use Rattle.case_tables.specs.declared.word_table.Word.{Word}
use Rattle.unity_syntax.specs.declared.certificate.Node.{Node as WrittenNode}
use Rattle.unity_syntax.specs.declared.certificate.CertText.{CertText}
use Rattle.unity_syntax.specs.declared.certificate.Certificates.{Certificates}
use Rattle.obligations.specs.declared.certificates.Node.{Node}
use Rattle.obligations.specs.declared.certificates.Cert.{Cert}
use Rattle.certificate_roundtrip.specs.Pieces.{Piece, gap, word, sign, number, node_pieces, line_pieces}
use Rattle.certificate_roundtrip.proofs.Parts.{end_of}
use Rattle.certificate_roundtrip.proofs.Nodes.{written_node}

abbrev pub written_nodes : ℕ → List Node → List WrittenNode
written_nodes at [] = []
written_nodes at (n ∷ ns) = written_node at n ∷ written_nodes (end_of at (node_pieces n)) ns

abbrev pub first_of : List WrittenNode → WrittenNode
first_of [] = WrittenNode.Case 0 0
first_of (n ∷ ns) = n

abbrev pub rest_of : List WrittenNode → List WrittenNode
rest_of [] = []
rest_of (n ∷ ns) = ns

-- what stands before the nodes
abbrev pub line_start : ℕ → List Piece
line_start n = number n ∷ sign 58 Symbol.Colon ∷ []

abbrev pub written_line : ℕ → ℕ → List Node → CertText
written_line at n ns =
    let nodes : List WrittenNode = written_nodes (end_of at (line_start n)) ns in
    record { at = at; number = n; first = first_of nodes; rest = rest_of nodes }

abbrev pub written_lines : ℕ → ℕ → List Cert → List CertText
written_lines at n [] = []
written_lines at n (c ∷ cs) = written_line at n c.nodes ∷ written_lines (end_of at (line_pieces n c)) (suc n) cs

-- what stands before the lines
abbrev pub section_start : List Piece
section_start = word (codes "certificates") Word.Certificates ∷ gap 10 ∷ []

abbrev pub written_section : ℕ → List Cert → Certificates
written_section at certs = record { at = at; items = written_lines (end_of at section_start) 1 certs }
