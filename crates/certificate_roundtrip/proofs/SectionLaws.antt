-- The section that is written is read back into its tokens.
use Rattle.std.proofs.Common.{◌≡◌, ℕ, suc, ◌≤◌, ◌^◌, nat_le, ℤ, pos, negsuc, true, Option, Some, None, List, []}
use Rattle.std.proofs.Common.{◌∷◌, ◌+◌, ◌++◌, length, refl, sym, ap, ◌∙◌, subst, arith, append_assoc}
use Rattle.std.specs.Prelude.{Contains, codes, decimal}
use Rattle.std.specs.List.{flat_map, list_all}
use Rattle.std.proofs.lemmas.Bool.{and_parts, leb-true}
use Rattle.case_tables.specs.declared.symbol_table.Symbol.{Symbol}
use Rattle.case_tables.specs.declared.word_table.Word.{Word}
use Rattle.case_tables.specs.TableRows.{word_rows}
use Rattle.obligations.specs.declared.certificates.Cert.{Cert}
use Rattle.obligations.specs.declared.certificates.Node.{Node}
use Rattle.obligations.specs.Certificates.{node_index, node_number, node_pairs, map_or}
use Rattle.unity_lexer.specs.Symbols.{first_symbol}
use Rattle.unity_lexer.specs.Tokens.{Tokenizes}
use Rattle.certificate_printing.specs.Certificates.{node_text, certificate_line, certificate_lines}
use Rattle.certificate_printing.specs.Certificates.{certificates_text}
use Rattle.certificate_roundtrip.specs.SectionLaws.{SectionIsRead}
use Rattle.certificate_roundtrip.specs.Pieces.{Piece, gap, word, sign, number, signed, pair_pieces, index_pieces}
use Rattle.certificate_roundtrip.specs.Pieces.{number_pieces, node_pieces, line_pieces}
use Rattle.certificate_roundtrip.specs.Pieces.{lines_pieces, section_pieces, text_of, tokens_from, is_readable}
use Rattle.certificate_roundtrip.proofs.PieceLaws.{Breaks, Separate, reads_all}
use Rattle.certificate_roundtrip.proofs.Parts.{parts_join, text_join}
use Rattle.certificate_roundtrip.proofs.Nodes.{node_words, node_is}

abbrev AreReadable : List Piece → Type 0
AreReadable ps = list_all is_readable ps ≡ true

abbrev Then : List Piece → Type 0
Then ps = AreReadable ps → Separate ps

number_first : (n : ℕ) (ps : List Piece) → AreReadable (number n ∷ ps) → (n ≤ 2 ^ 62) × AreReadable ps
number_first n ps h =
    let c = and_parts (nat_le n (2 ^ 62)) (list_all is_readable ps) h in
    (leb-true n (2 ^ 62) c.0, c.1)

sep_number : (n : ℕ) (ps : List Piece) → Then ps → Breaks (text_of ps) → Then (number n ∷ ps)
sep_number n ps k b h = let c = number_first n ps h in ((refl, c.0, b), k c.1)

sep_blank : (ps : List Piece) → Then ps → Then (gap 32 ∷ ps)
sep_blank ps k h = ((32, refl, refl), k h)

sep_line_feed : (ps : List Piece) → Then ps → Then (gap 10 ∷ ps)
sep_line_feed ps k h = ((10, refl, refl), k h)

sep_minus : (ps : List Piece) → Then ps → Then (sign 45 Symbol.Minus ∷ ps)
sep_minus ps k h = ((refl, refl), k h)

sep_times : (ps : List Piece) → Then ps → Then (sign 42 Symbol.Times ∷ ps)
sep_times ps k h = ((refl, refl), k h)

sep_signed : (z : ℤ) (ps : List Piece) → Then ps → Breaks (text_of ps) → Then (signed z ++ ps)
sep_signed (pos n) ps k b = sep_number n ps k b
sep_signed (negsuc n) ps k b = sep_minus (number (suc n) ∷ ps) (sep_number (suc n) ps k b)

sep_pair : (p : ℤ × ℕ) (ps : List Piece) → Then ps → Breaks (text_of ps) → Then (pair_pieces p ++ ps)
sep_pair (pos m, i) ps k b =
    sep_blank (number m ∷ sign 42 Symbol.Times ∷ number i ∷ ps)
    (sep_number m (sign 42 Symbol.Times ∷ number i ∷ ps) (sep_times (number i ∷ ps) (sep_number i ps k b)) refl)
sep_pair (negsuc m, i) ps k b =
    sep_blank (sign 45 Symbol.Minus ∷ number (suc m) ∷ sign 42 Symbol.Times ∷ number i ∷ ps)
    (sep_minus (number (suc m) ∷ sign 42 Symbol.Times ∷ number i ∷ ps)
    (sep_number (suc m) (sign 42 Symbol.Times ∷ number i ∷ ps) (sep_times (number i ∷ ps) (sep_number i ps k b)) refl))

breaks_pairs : (qs : List (ℤ × ℕ)) (ps : List Piece) → Breaks (text_of ps) →
    Breaks (text_of (flat_map pair_pieces qs ++ ps))
breaks_pairs [] ps b = b
breaks_pairs (q ∷ qs) ps b = refl

sep_pairs : (qs : List (ℤ × ℕ)) (ps : List Piece) → Then ps → Breaks (text_of ps) → Then (flat_map pair_pieces qs ++ ps)
sep_pairs [] ps k b = k
sep_pairs (q ∷ qs) ps k b =
    subst Then (sym (append_assoc (pair_pieces q) (flat_map pair_pieces qs) ps))
    (sep_pair q (flat_map pair_pieces qs ++ ps) (sep_pairs qs ps k b) (breaks_pairs qs ps b))

sep_index : (i : Option ℕ) (ps : List Piece) → Then ps → Breaks (text_of ps) → Then (map_or i [] index_pieces ++ ps)
sep_index None ps k b = k
sep_index (Some v) ps k b = sep_blank (number v ∷ ps) (sep_number v ps k b)

breaks_index : (i : Option ℕ) (ps : List Piece) → Breaks (text_of ps) →
    Breaks (text_of (map_or i [] index_pieces ++ ps))
breaks_index None ps b = b
breaks_index (Some v) ps b = refl

sep_own_number : (o : Option ℤ) (ps : List Piece) → Then ps → Breaks (text_of ps) →
    Then (map_or o [] number_pieces ++ ps)
sep_own_number None ps k b = k
sep_own_number (Some z) ps k b = sep_blank (signed z ++ ps) (sep_signed z ps k b)

breaks_own_number : (o : Option ℤ) (ps : List Piece) → Breaks (text_of ps) →
    Breaks (text_of (map_or o [] number_pieces ++ ps))
breaks_own_number None ps b = b
breaks_own_number (Some z) ps b = refl

sep_node : (n : Node) (ps : List Piece) → Then ps → Breaks (text_of ps) → Then (node_pieces n ++ ps)
sep_node n ps k b h =
    let pairs : List Piece = flat_map pair_pieces (node_pairs n) ++ ps in
    let number : List Piece = map_or (node_number n) [] number_pieces ++ pairs in
    let to_pairs : Breaks (text_of pairs) = breaks_pairs (node_pairs n) ps b in
    let to_number : Breaks (text_of number) = breaks_own_number (node_number n) pairs to_pairs in
    let parts : Then (map_or (node_index n) [] index_pieces ++ number) =
    sep_index (node_index n) number
    (sep_own_number (node_number n) pairs (sep_pairs (node_pairs n) ps k b) to_pairs) to_number in
    let breaks : Breaks (text_of (map_or (node_index n) [] index_pieces ++ number)) =
    breaks_index (node_index n) number to_number in
    let here = node_words n in
    let join = sym (parts_join n ps) in (
      (32, refl, refl),
      ((here.there, here.spelled, subst (λ xs. Breaks (text_of xs)) join breaks), subst Then join parts h),
    )

end_word : Contains word_rows (codes "end", Word.End)
end_word = (7, omega arith, refl)

certificates_word : Contains word_rows (codes "certificates", Word.Certificates)
certificates_word = (10, omega arith, refl)

breaks_nodes : (ns : List Node) (ps : List Piece) → Breaks (text_of ps) →
    Breaks (text_of (flat_map node_pieces ns ++ ps))
breaks_nodes [] ps b = b
breaks_nodes (n ∷ ns) ps b =
    subst (λ xs. Breaks (text_of xs)) (sym (append_assoc (node_pieces n) (flat_map node_pieces ns) ps))
    refl

sep_nodes : (ns : List Node) (ps : List Piece) → Then ps → Breaks (text_of ps) → Then (flat_map node_pieces ns ++ ps)
sep_nodes [] ps k b = k
sep_nodes (n ∷ ns) ps k b =
    subst Then (sym (append_assoc (node_pieces n) (flat_map node_pieces ns) ps))
    (sep_node n (flat_map node_pieces ns ++ ps) (sep_nodes ns ps k b) (breaks_nodes ns ps b))

abbrev line_end : List Piece
line_end = sign 59 Symbol.Semicolon ∷ gap 10 ∷ []

colon_first : (ns : List Node) (ps : List Piece) →
    first_symbol (58 ∷ text_of ((flat_map node_pieces ns ++ line_end) ++ ps)) ≡ Some (Symbol.Colon, 1)
colon_first [] ps = refl
colon_first (n ∷ ns) ps = refl

sep_end : (ps : List Piece) → Then ps → Then (line_end ++ ps)
sep_end ps k h = ((refl, refl), ((10, refl, refl), k h))

sep_line : (n : ℕ) (c : Cert) (ps : List Piece) → Then ps → Then (line_pieces n c ++ ps)
sep_line n c ps k h =
    let all : Then ((flat_map node_pieces c.nodes ++ line_end) ++ ps) =
    subst Then (sym (append_assoc (flat_map node_pieces c.nodes) line_end ps))
    (sep_nodes c.nodes (line_end ++ ps) (sep_end ps k) refl) in
    let top = number_first n (sign 58 Symbol.Colon ∷ ((flat_map node_pieces c.nodes ++ line_end) ++ ps)) h in
    ((refl, top.0, refl), ((refl, colon_first c.nodes ps), all top.1))

sep_lines : (n : ℕ) (certs : List Cert) (ps : List Piece) → Then ps → Then (lines_pieces n certs ++ ps)
sep_lines n [] ps k = k
sep_lines n (c ∷ cs) ps k =
    subst Then (sym (append_assoc (line_pieces n c) (lines_pieces (suc n) cs) ps))
    (sep_line n c (lines_pieces (suc n) cs ++ ps) (sep_lines (suc n) cs ps k))

abbrev last : List Piece
last = word (codes "end") Word.End ∷ gap 10 ∷ []

sep_last : Then last
sep_last h = ((end_word, refl, refl), ((10, refl, refl), tt))

pub sep_section : (certs : List Cert) → Then (section_pieces certs)
sep_section certs h =
    ((certificates_word, refl, refl), ((10, refl, refl), sep_lines 1 certs last sep_last h))

-- the text

nodes_are : (ns : List Node) → text_of (flat_map node_pieces ns) ≡ flat_map node_text ns
nodes_are [] = refl
nodes_are (n ∷ ns) =
    text_join (node_pieces n) (flat_map node_pieces ns)
    ∙ ap (λ t. t ++ text_of (flat_map node_pieces ns)) (node_is n)
    ∙ ap (λ t. node_text n ++ t) (nodes_are ns)

line_is : (n : ℕ) (c : Cert) → text_of (line_pieces n c) ≡ certificate_line n c
line_is n c =
    ap (λ t. decimal n ++ (58 ∷ t)) (text_join (flat_map node_pieces c.nodes) line_end
    ∙ ap (λ t. t ++ (59 ∷ 10 ∷ [])) (nodes_are c.nodes))

lines_are : (n : ℕ) (certs : List Cert) → text_of (lines_pieces n certs) ≡ certificate_lines n certs
lines_are n [] = refl
lines_are n (c ∷ cs) =
    text_join (line_pieces n c) (lines_pieces (suc n) cs)
    ∙ ap (λ t. t ++ text_of (lines_pieces (suc n) cs)) (line_is n c)
    ∙ ap (λ t. certificate_line n c ++ t) (lines_are (suc n) cs)

pub section_is : (certs : List Cert) → text_of (section_pieces certs) ≡ certificates_text certs
section_is certs =
    ap (λ t. codes "certificates" ++ (10 ∷ t)) (text_join (lines_pieces 1 certs) last
    ∙ ap (λ t. t ++ (codes "end" ++ 10 ∷ [])) (lines_are 1 certs))

pub section_is_read : SectionIsRead
section_is_read certs h =
    let ps : List Piece = section_pieces certs in
    subst (λ t. Tokenizes 0 t (tokens_from 0 ps) (length t) []) (section_is certs)
    (subst (λ n. Tokenizes 0 (text_of ps) (tokens_from 0 ps) n []) (none (length (text_of ps)))
    (reads_all 0 ps (sep_section certs h)))
  where
    none : (n : ℕ) → 0 + n ≡ n
    none n = omega arith
