-- How long a text with certificates is.
use Rattle.std.proofs.Common.{◌≡◌, ℕ, suc, ◌≤◌, ◌+◌, ◌*◌, ◌^◌, ℤ, pos, negsuc, true, ◌&&◌, List, [], ◌∷◌, ◌++◌}
use Rattle.std.proofs.Common.{map, length, length-append, Option, Some, None, take, sym, ap, ◌∙◌, subst, arith}
use Rattle.std.specs.Prelude.{All, codes, decimal, sum}
use Rattle.std.specs.Int.RustNames.{unsigned_abs}
use Rattle.std.specs.Fmt.{signed_decimal}
use Rattle.std.specs.List.{flat_map, list_all}
use Rattle.std.proofs.lemmas.Bool.{and_parts}
use Rattle.std.proofs.lemmas.Fmt.{length-decimal-le}
use Rattle.std.proofs.lemmas.Grind.{common_steps}
use Rattle.std.proofs.lemmas.List.Elements.{All-head, All-tail}
use Rattle.unity_syntax.specs.declared.certificate.Certificates.{Certificates}
use Rattle.obligations.specs.declared.certificates.Cert.{Cert}
use Rattle.obligations.specs.declared.certificates.Node.{Node}
use Rattle.obligations.specs.Certificates.{node_index, node_number, node_pairs, map_or, node_units, units}
use Rattle.certificate_rules.specs.Trees.{is_whole}
use Rattle.certificate_printing.specs.Certificates.{pair_text, node_text, certificate_line}
use Rattle.certificate_printing.specs.Certificates.{certificate_lines}
use Rattle.certificate_printing.specs.Certificates.{certificates_text}
use Rattle.certificate_reading.specs.Laws.{IsWholeTree}
use Rattle.certificate_roundtrip.specs.Pieces.{Piece, signed, pair_pieces, index_pieces, number_pieces, part_pieces}
use Rattle.certificate_roundtrip.specs.Pieces.{node_word, text_of}
use Rattle.certificate_roundtrip.proofs.Parts.{text_join, signed_is, pairs_are}
use Rattle.certificate_roundtrip.proofs.Nodes.{node_words, node_is}
use Rattle.certificate_roundtrip.specs.Small.{is_text_number, is_small_pair, is_small_node, IsSmallCertificate}
use Rattle.proof_script.specs.Proving.{units_of}
use Rattle.certificate_roundtrip.specs.Found.{front}
use Rattle.certificate_roundtrip.specs.TextLaws.{ProvedAreFew, TextIsShort}

-- the lengths of parts, one after another
joined : (xs ys : List ℕ) (a b : ℕ) → length xs ≤ a → length ys ≤ b → length (xs ++ ys) ≤ a + b
joined xs ys a b h k = let e = length-append xs ys in omega (arith, e, h, k)

small_digits : (n : ℕ) → is_text_number n ≡ true → length (decimal n) ≤ 19
small_digits n h =
    let few : n ≤ 2 ^ 62 = grind (arith, h) in
    length-decimal-le 19 n (omega arith) (omega (arith, few)) (omega (arith, few))

signed_digits : (z : ℤ) → is_text_number (unsigned_abs z) ≡ true → length (signed_decimal z) ≤ 20
signed_digits (pos n) h = let few = small_digits n h in omega (arith, few)
signed_digits (negsuc n) h = let few = small_digits (suc n) h in omega (arith, few)

pair_size : (p : ℤ × ℕ) → is_small_pair p ≡ true → length (pair_text p) ≤ 41
pair_size (z, i) h =
    let parts = and_parts (is_text_number (unsigned_abs z)) (is_text_number i) h in
    joined (codes " ") (signed_decimal z ++ (codes "*" ++ decimal i)) 1 40 (omega arith)
    (joined (signed_decimal z) (codes "*" ++ decimal i) 20 20 (signed_digits z parts.0)
    (joined (codes "*") (decimal i) 1 19 (omega arith) (small_digits i parts.1)))

pairs_size : (ps : List (ℤ × ℕ)) → list_all is_small_pair ps ≡ true → length (flat_map pair_text ps) ≤ 47 * length ps
pairs_size [] h = omega arith
pairs_size (p ∷ ps) h =
    let parts = and_parts (is_small_pair p) (list_all is_small_pair ps) h in
    let one = pair_size p parts.0 in
    let rest = pairs_size ps parts.1 in
    let all = length-append (pair_text p) (flat_map pair_text ps) in
    omega (arith, one, rest, all)

index_size : (i : Option ℕ) → map_or i true is_text_number ≡ true → length (text_of (map_or i [] index_pieces)) ≤ 20
index_size None h = omega arith
index_size (Some k) h =
    joined (codes " ") (decimal k ++ []) 1 19 (omega arith)
    (joined (decimal k) [] 19 0 (small_digits k h) (omega arith))

number_size : (o : Option ℤ) → map_or o true (λ z. is_text_number (unsigned_abs z)) ≡ true →
    length (text_of (map_or o [] number_pieces)) ≤ 21
number_size None h = omega arith
number_size (Some z) h =
    joined (codes " ") (text_of (signed z)) 1 20 (omega arith)
    (subst (λ t. length t ≤ 20) (sym (signed_is z)) (signed_digits z h))

-- a blank, the word, and what the node has of an index, a number and pairs
node_size : (n : Node) → is_small_node n ≡ true → length (node_text n) ≤ 47 * node_units n
node_size n h =
    let index : List Piece = map_or (node_index n) [] index_pieces in
    let number : List Piece = map_or (node_number n) [] number_pieces in
    let pairs : List Piece = flat_map pair_pieces (node_pairs n) in
    let most : ℕ = 47 * length (node_pairs n) in
    let named = and_parts (map_or (node_index n) true is_text_number)
    (map_or (node_number n) true (λ z. is_text_number (unsigned_abs z)) && list_all is_small_pair (node_pairs n)) h in
    let rest = and_parts (map_or (node_number n) true (λ z. is_text_number (unsigned_abs z)))
    (list_all is_small_pair (node_pairs n)) named.1 in
    let text : text_of (part_pieces n) ≡ text_of index ++ (text_of number ++ flat_map pair_text (node_pairs n)) =
    text_join index (number ++ pairs)
    ∙ ap (λ t. text_of index ++ t) (text_join number pairs)
    ∙ ap (λ t. text_of index ++ (text_of number ++ t)) (pairs_are (node_pairs n)) in
    let parts : length (text_of (part_pieces n)) ≤ 20 + (21 + most) =
    subst (λ t. length t ≤ 20 + (21 + most)) (sym text)
    (joined (text_of index) (text_of number ++ flat_map pair_text (node_pairs n)) 20 (21 + most)
    (index_size (node_index n) named.0)
    (joined (text_of number) (flat_map pair_text (node_pairs n)) 21 most (number_size (node_number n) rest.0)
    (pairs_size (node_pairs n) rest.1))) in
    let all = joined (codes " ") ((node_word n).0 ++ text_of (part_pieces n)) 1 (5 + (20 + (21 + most))) (omega arith)
    (joined (node_word n).0 (text_of (part_pieces n)) 5 (20 + (21 + most)) (node_words n).short parts) in
    subst (λ t. length t ≤ 47 * node_units n) (node_is n) (within (length (node_pairs n)) _ all)
  where
    within : (count size : ℕ) → size ≤ 1 + (5 + (20 + (21 + 47 * count))) → size ≤ 47 * (1 + count)
    within count size h = omega (arith, h)

nodes_size : (ns : List Node) → list_all is_small_node ns ≡ true → length (flat_map node_text ns) ≤ 47 * units ns
nodes_size [] h = omega arith
nodes_size (n ∷ ns) h =
    let parts = and_parts (is_small_node n) (list_all is_small_node ns) h in
    let one = node_size n parts.0 in
    let rest = nodes_size ns parts.1 in
    let all = length-append (node_text n) (flat_map node_text ns) in
    omega (arith, one, rest, all)

-- a whole tree has a node
some_units : (ns : List Node) → is_whole ns 1 ≡ true → 1 ≤ units ns
some_units [] h = absurd (cc (h))
some_units (n ∷ ns) h = omega arith

line_size : (number : ℕ) (c : Cert) → number ≤ 1000000 → IsWholeTree c → IsSmallCertificate c →
    length (certificate_line number c) ≤ 57 * units c.nodes
line_size number c few whole small =
    let some = some_units c.nodes whole in
    let all = joined (decimal number) (codes ":" ++ (flat_map node_text c.nodes ++ (codes ";" ++ 10 ∷ []))) 7
    (1 + (47 * units c.nodes + 2))
    (length-decimal-le 7 number (omega arith) (omega (arith, few)) (omega (arith, few)))
    (joined (codes ":") (flat_map node_text c.nodes ++ (codes ";" ++ 10 ∷ [])) 1 (47 * units c.nodes + 2) (omega arith)
    (joined (flat_map node_text c.nodes) (codes ";" ++ 10 ∷ []) (47 * units c.nodes) 2 (nodes_size c.nodes small)
    (omega arith))) in
    omega (arith, some, all)

units_first : (c : Cert) (cs : List Cert) → units_of (c ∷ cs) ≡ units c.nodes + units_of cs
units_first c cs = first (units c.nodes) (map (λ (d : Cert). units d.nodes) cs)
  where
    first : (n : ℕ) (ns : List ℕ) → sum (n ∷ ns) ≡ n + sum ns
    first n ns = grind (arith, common_steps)

lines_size : (number : ℕ) (certs : List Cert) → number + length certs ≤ 1000001 → All IsWholeTree certs →
    All IsSmallCertificate certs → length (certificate_lines number certs) ≤ 57 * units_of certs
lines_size number [] few whole small = omega arith
lines_size number (c ∷ cs) few whole small =
    let one = line_size number c (first number (length cs) few) (All-head IsWholeTree c cs whole)
    (All-head IsSmallCertificate c cs small) in
    let rest = lines_size (suc number) cs (later number (length cs) few) (All-tail IsWholeTree c cs whole)
    (All-tail IsSmallCertificate c cs small) in
    let all = length-append (certificate_line number c) (certificate_lines (suc number) cs) in
    let sums = units_first c cs in
    fit (length (certificate_line number c)) (length (certificate_lines (suc number) cs))
    (length (certificate_lines number (c ∷ cs))) (units c.nodes) (units_of cs) (units_of (c ∷ cs)) one rest all sums
  where
    first : (m l : ℕ) → m + suc l ≤ 1000001 → m ≤ 1000000
    first m l h = omega (arith, h)

    later : (m l : ℕ) → m + suc l ≤ 1000001 → suc m + l ≤ 1000001
    later m l h = omega (arith, h)

    fit : (a b c u v w : ℕ) → a ≤ 57 * u → b ≤ 57 * v → c ≡ a + b → w ≡ u + v → c ≤ 57 * w
    fit a b c u v w h k e g = omega (arith, h, k, e, g)

section_size : (certs : List Cert) → All IsWholeTree certs → All IsSmallCertificate certs → length certs ≤ 1000000 →
    length (certificates_text certs) ≤ 57 * units_of certs + 17
section_size certs whole small few =
    let lines = lines_size 1 certs (from_one (length certs) few) whole small in
    let all = joined (codes "certificates" ++ 10 ∷ []) (certificate_lines 1 certs ++ (codes "end" ++ 10 ∷ [])) 13
    (57 * units_of certs + 4) (omega arith)
    (joined (certificate_lines 1 certs) (codes "end" ++ 10 ∷ []) (57 * units_of certs) 4 lines (omega arith)) in
    fit (length (certificates_text certs)) (57 * units_of certs) all
  where
    from_one : (n : ℕ) → n ≤ 1000000 → 1 + n ≤ 1000001
    from_one n h = omega (arith, h)

    fit : (a b : ℕ) → a ≤ 13 + (b + 4) → a ≤ b + 17
    fit a b h = omega (arith, h)

pub proved_are_few : ProvedAreFew
proved_are_few certs whole = counted certs whole
  where
    more : (n u v w : ℕ) → n ≤ v → 1 ≤ u → w ≡ u + v → suc n ≤ w
    more n u v w h k e = omega (arith, h, k, e)

    counted : (certs : List Cert) → All IsWholeTree certs → length certs ≤ units_of certs
    counted [] whole = omega arith
    counted (c ∷ cs) whole =
        more (length cs) (units c.nodes) (units_of cs) (units_of (c ∷ cs))
        (counted cs (All-tail IsWholeTree c cs whole)) (some_units c.nodes (All-head IsWholeTree c cs whole))
        (units_first c cs)

front_size : (bytes : List ℕ) (section : Option Certificates) → length (front bytes section) ≤ length bytes
front_size bytes None = omega arith
front_size bytes (Some c) = taken c.at bytes
  where
    taken : (n : ℕ) (xs : List ℕ) → length (take n xs) ≤ length xs
    taken n xs = grind (arith, common_steps)

pub text_is_short : TextIsShort
text_is_short bytes d certs whole small few =
    joined (front bytes d.certificates) (10 ∷ certificates_text certs) (length bytes) (57 * units_of certs + 18)
    (front_size bytes d.certificates)
    (one_more (length (certificates_text certs)) (57 * units_of certs) (section_size certs whole small few))
  where
    one_more : (a b : ℕ) → a ≤ b + 17 → suc a ≤ b + 18
    one_more a b h = omega (arith, h)
