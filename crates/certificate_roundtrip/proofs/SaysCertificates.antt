-- The section that says certificates says these.
use Rattle.std.proofs.Common.{◌≡◌, ℕ, suc, ◌^◌, nat_le, true, List, [], ◌∷◌, ◌++◌, map, refl, ap}
use Rattle.std.specs.List.{flat_map, list_all, AllByRecursion}
use Rattle.std.proofs.lemmas.Bool.{and_parts}
use Rattle.case_tables.specs.declared.symbol_table.Symbol.{Symbol}
use Rattle.unity_syntax.proofs.BackParts.{both_same}
use Rattle.obligations.specs.declared.certificates.Node.{Node}
use Rattle.obligations.specs.declared.certificates.Cert.{Cert}
use Rattle.certificate_rules.specs.Trees.{is_whole}
use Rattle.certificate_reading.specs.Certificates.{node_of, certificate_of}
use Rattle.certificate_reading.specs.Laws.{IsWholeTree}
use Rattle.certificate_roundtrip.specs.Pieces.{Piece, gap, sign, node_pieces, line_pieces, lines_pieces}
use Rattle.certificate_roundtrip.specs.Pieces.{section_pieces, is_readable}
use Rattle.certificate_roundtrip.proofs.Parts.{end_of, Pass, readable_parts}
use Rattle.certificate_roundtrip.proofs.Nodes.{says_node}
use Rattle.certificate_roundtrip.proofs.Written.{written_nodes, line_start, written_line, written_lines}
use Rattle.certificate_roundtrip.proofs.Written.{section_start, written_section}

says_nodes : (at : ℕ) (ns : List Node) → Pass (flat_map node_pieces ns) →
    map node_of (written_nodes at ns) ≡ ns
says_nodes at [] h = refl
says_nodes at (n ∷ ns) h =
    let c = readable_parts (node_pieces n) (flat_map node_pieces ns) h in
    both_same (λ (x : Node) (xs : List Node). x ∷ xs) (says_node at n c.0)
    (says_nodes (end_of at (node_pieces n)) ns c.1)

says_line : (at n : ℕ) (ns : List Node) → is_whole ns 1 ≡ true → Pass (flat_map node_pieces ns) →
    certificate_of (written_line at n ns) ≡ record { nodes = ns }
says_line at n [] w h = cc
says_line at n (x ∷ xs) w h =
    ap (λ (ms : List Node). record { nodes = ms }) (says_nodes (end_of at (line_start n)) (x ∷ xs) h)

abbrev line_end : List Piece
line_end = sign 59 Symbol.Semicolon ∷ gap 10 ∷ []

line_readable : (n : ℕ) (c : Cert) → Pass (line_pieces n c) → Pass (flat_map node_pieces c.nodes)
line_readable n c h =
    let tail : Pass (flat_map node_pieces c.nodes ++ line_end) =
    (and_parts (nat_le n (2 ^ 62)) (list_all is_readable (flat_map node_pieces c.nodes ++ line_end)) h).1 in
    (readable_parts (flat_map node_pieces c.nodes) line_end tail).0

says_lines : (at n : ℕ) (certs : List Cert) → AllByRecursion IsWholeTree certs → Pass (lines_pieces n certs) →
    map certificate_of (written_lines at n certs) ≡ certs
says_lines at n [] w h = refl
says_lines at n (c ∷ cs) w h =
    let r = readable_parts (line_pieces n c) (lines_pieces (suc n) cs) h in
    both_same (λ (x : Cert) (xs : List Cert). x ∷ xs) (says_line at n c.nodes w.0 (line_readable n c r.0))
    (says_lines (end_of at (line_pieces n c)) (suc n) cs w.1 r.1)

-- the certificates of the section are these
pub says_section : (at : ℕ) (certs : List Cert) → AllByRecursion IsWholeTree certs →
    Pass (section_pieces certs) → map certificate_of (written_section at certs).items ≡ certs
says_section at certs w h =
    says_lines (end_of at section_start) 1 certs w (readable_parts (lines_pieces 1 certs) _ h).0
