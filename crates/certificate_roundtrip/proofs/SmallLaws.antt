-- Certificates with small numbers are written so that they can be read.
use Rattle.std.proofs.Common.{◌≡◌, ℕ, suc, ◌≤◌, ◌+◌, ◌^◌, ℤ, pos, negsuc, true, ◌&&◌, Option, Some, None, List, []}
use Rattle.std.proofs.Common.{◌∷◌, ◌++◌, length, refl, sym, ap, ◌∙◌, subst, arith, append_assoc}
use Rattle.std.specs.Prelude.{All, codes}
use Rattle.std.specs.Int.RustNames.{unsigned_abs}
use Rattle.std.specs.List.{flat_map, list_all}
use Rattle.std.proofs.lemmas.Bool.{and_parts, le-leb}
use Rattle.std.proofs.lemmas.List.Elements.{All-head, All-tail}
use Rattle.case_tables.specs.declared.symbol_table.Symbol.{Symbol}
use Rattle.case_tables.specs.declared.word_table.Word.{Word}
use Rattle.obligations.specs.declared.certificates.Cert.{Cert}
use Rattle.obligations.specs.declared.certificates.Node.{Node}
use Rattle.obligations.specs.Certificates.{node_index, node_number, node_pairs, map_or}
use Rattle.certificate_roundtrip.specs.SectionLaws.{SmallAreReadable}
use Rattle.certificate_roundtrip.specs.Pieces.{Piece, gap, word, sign, number, signed, pair_pieces, index_pieces}
use Rattle.certificate_roundtrip.specs.Pieces.{number_pieces, node_pieces}
use Rattle.certificate_roundtrip.specs.Pieces.{line_pieces}
use Rattle.certificate_roundtrip.specs.Pieces.{lines_pieces, is_readable}
use Rattle.certificate_roundtrip.proofs.Parts.{parts_join}
use Rattle.certificate_roundtrip.specs.Small.{IsSmallCertificate, is_text_number, is_small_node, is_small_pair}

abbrev AreReadable : List Piece → Type 0
AreReadable ps = list_all is_readable ps ≡ true

number_then : (n : ℕ) (ps : List Piece) → is_text_number n ≡ true → AreReadable ps → AreReadable (number n ∷ ps)
number_then n ps h k = ap (λ a. a && list_all is_readable ps) h ∙ k

signed_then : (z : ℤ) (ps : List Piece) → is_text_number (unsigned_abs z) ≡ true → AreReadable ps →
    AreReadable (signed z ++ ps)
signed_then (pos n) ps h k = number_then n ps h k
signed_then (negsuc n) ps h k = number_then (suc n) ps h k

pair_then : (p : ℤ × ℕ) (ps : List Piece) → is_small_pair p ≡ true → AreReadable ps → AreReadable (pair_pieces p ++ ps)
pair_then (z, i) ps h k =
    let parts = and_parts (is_text_number (unsigned_abs z)) (is_text_number i) h in
    subst AreReadable (sym (append_assoc (signed z) (sign 42 Symbol.Times ∷ number i ∷ []) ps))
    (signed_then z (sign 42 Symbol.Times ∷ number i ∷ ps) parts.0 (number_then i ps parts.1 k))

pairs_then : (qs : List (ℤ × ℕ)) (ps : List Piece) → list_all is_small_pair qs ≡ true → AreReadable ps →
    AreReadable (flat_map pair_pieces qs ++ ps)
pairs_then [] ps h k = k
pairs_then (q ∷ qs) ps h k =
    let parts = and_parts (is_small_pair q) (list_all is_small_pair qs) h in
    subst AreReadable (sym (append_assoc (pair_pieces q) (flat_map pair_pieces qs) ps))
    (pair_then q (flat_map pair_pieces qs ++ ps) parts.0 (pairs_then qs ps parts.1 k))

index_then : (i : Option ℕ) (ps : List Piece) → map_or i true is_text_number ≡ true → AreReadable ps →
    AreReadable (map_or i [] index_pieces ++ ps)
index_then None ps h k = k
index_then (Some v) ps h k = number_then v ps h k

own_number_then : (o : Option ℤ) (ps : List Piece) → map_or o true (λ z. is_text_number (unsigned_abs z)) ≡ true →
    AreReadable ps → AreReadable (map_or o [] number_pieces ++ ps)
own_number_then None ps h k = k
own_number_then (Some z) ps h k = signed_then z ps h k

node_then : (n : Node) (ps : List Piece) → is_small_node n ≡ true → AreReadable ps → AreReadable (node_pieces n ++ ps)
node_then n ps h k =
    let pairs : List Piece = flat_map pair_pieces (node_pairs n) in
    let index = and_parts (map_or (node_index n) true is_text_number)
    (map_or (node_number n) true (λ z. is_text_number (unsigned_abs z)) && list_all is_small_pair (node_pairs n)) h in
    let number = and_parts (map_or (node_number n) true (λ z. is_text_number (unsigned_abs z)))
    (list_all is_small_pair (node_pairs n)) index.1 in
    subst AreReadable (sym (parts_join n ps))
    (index_then (node_index n) (map_or (node_number n) [] number_pieces ++ (pairs ++ ps)) index.0
    (own_number_then (node_number n) (pairs ++ ps) number.0 (pairs_then (node_pairs n) ps number.1 k)))

nodes_then : (ns : List Node) (ps : List Piece) → list_all is_small_node ns ≡ true → AreReadable ps →
    AreReadable (flat_map node_pieces ns ++ ps)
nodes_then [] ps h k = k
nodes_then (n ∷ ns) ps h k =
    let parts = and_parts (is_small_node n) (list_all is_small_node ns) h in
    subst AreReadable (sym (append_assoc (node_pieces n) (flat_map node_pieces ns) ps))
    (node_then n (flat_map node_pieces ns ++ ps) parts.0 (nodes_then ns ps parts.1 k))

abbrev line_end : List Piece
line_end = sign 59 Symbol.Semicolon ∷ gap 10 ∷ []

line_then : (n : ℕ) (c : Cert) (ps : List Piece) → is_text_number n ≡ true → IsSmallCertificate c → AreReadable ps →
    AreReadable (line_pieces n c ++ ps)
line_then n c ps h s k =
    number_then n (sign 58 Symbol.Colon ∷ ((flat_map node_pieces c.nodes ++ line_end) ++ ps)) h
    (subst AreReadable (sym (append_assoc (flat_map node_pieces c.nodes) line_end ps))
    (nodes_then c.nodes (line_end ++ ps) s k))

-- the numbers of certificates, from this one on, are small
lines_then : (n : ℕ) (certs : List Cert) (ps : List Piece) → n + length certs ≤ 2 ^ 62 + 1 →
    All IsSmallCertificate certs →
    AreReadable ps → AreReadable (lines_pieces n certs ++ ps)
lines_then n [] ps few s k = k
lines_then n (c ∷ cs) ps few s k =
    subst AreReadable (sym (append_assoc (line_pieces n c) (lines_pieces (suc n) cs) ps))
    (line_then n c (lines_pieces (suc n) cs ++ ps) (le-leb n (2 ^ 62) (first n (length cs) few))
    (All-head IsSmallCertificate c cs s)
    (lines_then (suc n) cs ps (rest n (length cs) few) (All-tail IsSmallCertificate c cs s) k))
  where
    first : (m l : ℕ) → m + suc l ≤ 2 ^ 62 + 1 → m ≤ 2 ^ 62
    first m l h = omega (arith, h)

    rest : (m l : ℕ) → m + suc l ≤ 2 ^ 62 + 1 → suc m + l ≤ 2 ^ 62 + 1
    rest m l h = omega (arith, h)

pub small_are_readable : SmallAreReadable
small_are_readable certs s few =
    lines_then 1 certs (word (codes "end") Word.End ∷ gap 10 ∷ []) (from_one (length certs) few) s refl
  where
    from_one : (n : ℕ) → n ≤ 2 ^ 62 → 1 + n ≤ 2 ^ 62 + 1
    from_one n h = omega (arith, h)
