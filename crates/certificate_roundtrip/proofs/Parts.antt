-- What a node's parts are written as: where they end, their text, their tokens, and that these say them.
use Rattle.std.proofs.Common.{◌≡◌, ℕ, suc, ◌+◌, ◌≤◌, ◌^◌, min, nat_le, ℤ, pos, negsuc, neg_ℤ, Bool, true, false, List}
use Rattle.std.proofs.Common.{[], ◌∷◌, ◌++◌, map, length, Option, Some, None, refl, sym, ap, ◌∙◌, arith, append_assoc}
use Rattle.std.specs.Prelude.{decimal}
use Rattle.std.specs.List.{flat_map, list_all}
use Rattle.std.specs.Fmt.{signed_decimal}
use Rattle.std.proofs.lemmas.Bool.{and_parts, leb-true}
use Rattle.std.proofs.lemmas.List.Folds.{list_all-append}
use Rattle.case_tables.specs.declared.symbol_table.Symbol.{Symbol}
use Rattle.grammar_theory.specs.Ebnf.{Terminal, Tree, pair, Ebnf, many, Derives, both, is_nil, is_more}
use Rattle.unity_syntax.specs.declared.certificate.Pair.{Pair}
use Rattle.unity_syntax.specs.declared.token.TokenKind.{TokenKind}
use Rattle.unity_syntax.specs.Classes.{terminal, terminals}
use Rattle.unity_syntax.specs.Kinds.{Kind}
use Rattle.unity_syntax.specs.Grammar.{grammar, multiple_, minus_, number_}
use Rattle.unity_syntax.specs.View.{view_flag, view_number, view_list, view_pair}
use Rattle.unity_syntax.proofs.BackParts.{both_same}
use Rattle.unity_syntax.proofs.Productions.{all_productions}
use Rattle.obligations.specs.declared.certificates.Node.{Node}
use Rattle.obligations.specs.Certificates.{node_index, node_number, node_pairs, map_or}
use Rattle.certificate_printing.specs.Certificates.{pair_text}
use Rattle.certificate_reading.specs.Certificates.{number_of, pair_of}
use Rattle.certificate_roundtrip.specs.Pieces.{Piece, sign, number, signed, pair_pieces, index_pieces}
use Rattle.certificate_roundtrip.specs.Pieces.{number_pieces, part_pieces, text_of, with_token, tokens_from}
use Rattle.certificate_roundtrip.specs.Pieces.{is_readable}
use Rattle.certificate_roundtrip.proofs.Steps.{number_is, number_then, fixed_then, no_minus_then, minus_then, made_of}

-- one after another

pub parts_join : (n : Node) (ps : List Piece) → part_pieces n ++ ps
    ≡ map_or (node_index n) [] index_pieces
    ++ (map_or (node_number n) [] number_pieces ++ (flat_map pair_pieces (node_pairs n) ++ ps))
parts_join n ps =
    let index : List Piece = map_or (node_index n) [] index_pieces in
    let number : List Piece = map_or (node_number n) [] number_pieces in
    let pairs : List Piece = flat_map pair_pieces (node_pairs n) in
    append_assoc index (number ++ pairs) ps ∙ ap (λ xs. index ++ xs) (append_assoc number pairs ps)

-- where the pieces end that begin at a place
abbrev pub end_of : ℕ → List Piece → ℕ
end_of at [] = at
end_of at (p ∷ ps) = end_of (at + length p.bytes) ps

abbrev pub minus_of : ℤ → Bool
minus_of (pos n) = false
minus_of (negsuc n) = true

abbrev pub amount : ℤ → ℕ
amount (pos n) = n
amount (negsuc n) = suc n

abbrev pub written_pair : ℕ → ℤ × ℕ → Pair
written_pair at p = record { at = at + 1; minus = minus_of p.0; multiplier = amount p.0; fact = p.1 }

abbrev pub written_pairs : ℕ → List (ℤ × ℕ) → List Pair
written_pairs at [] = []
written_pairs at (p ∷ ps) = written_pair at p ∷ written_pairs (end_of at (pair_pieces p)) ps

-- the text

pub no_more : (xs : List ℕ) → xs ++ [] ≡ xs
no_more [] = refl
no_more (x ∷ xs) = ap (λ ys. x ∷ ys) (no_more xs)

pub text_join : (ps qs : List Piece) → text_of (ps ++ qs) ≡ text_of ps ++ text_of qs
text_join [] qs = refl
text_join (p ∷ ps) qs =
    ap (λ t. p.bytes ++ t) (text_join ps qs) ∙ sym (append_assoc p.bytes (text_of ps) (text_of qs))

pub signed_is : (z : ℤ) → text_of (signed z) ≡ signed_decimal z
signed_is (pos n) = no_more (decimal n)
signed_is (negsuc n) = ap (λ t. 45 ∷ t) (no_more (decimal (suc n)))

-- at the end of a node
pub signed_last : (z : ℤ) → text_of (signed z ++ []) ≡ signed_decimal z
signed_last (pos n) = signed_is (pos n)
signed_last (negsuc n) = signed_is (negsuc n)

pair_is : (p : ℤ × ℕ) → text_of (pair_pieces p) ≡ pair_text p
pair_is p =
    ap (λ t. 32 ∷ t) (text_join (signed p.0) (sign 42 Symbol.Times ∷ number p.1 ∷ [])
    ∙ ap (λ t. t ++ (42 ∷ (decimal p.1 ++ []))) (signed_is p.0)
    ∙ ap (λ t. signed_decimal p.0 ++ (42 ∷ t)) (no_more (decimal p.1)))

pub pairs_are : (qs : List (ℤ × ℕ)) → text_of (flat_map pair_pieces qs) ≡ flat_map pair_text qs
pairs_are [] = refl
pairs_are (q ∷ qs) =
    text_join (pair_pieces q) (flat_map pair_pieces qs)
    ∙ ap (λ t. t ++ text_of (flat_map pair_pieces qs)) (pair_is q)
    ∙ ap (λ t. pair_text q ++ t) (pairs_are qs)

-- what can be read says what is written

abbrev pub Pass : List Piece → Type 0
Pass ps = list_all is_readable ps ≡ true

pub readable_parts : (ps qs : List Piece) → Pass (ps ++ qs) → Pass ps × Pass qs
readable_parts ps qs h =
    and_parts (list_all is_readable ps) (list_all is_readable qs) (sym (list_all-append is_readable ps qs) ∙ h)

number_fits : (n : ℕ) (ps : List Piece) → Pass (number n ∷ ps) → min n (2 ^ 62) ≡ n
number_fits n ps h =
    let c = and_parts (nat_le n (2 ^ 62)) (list_all is_readable ps) h in
    least (leb-true n (2 ^ 62) c.0)
  where
    least : n ≤ 2 ^ 62 → min n (2 ^ 62) ≡ n
    least h = omega (arith, h)

pub says_number : (z : ℤ) → Pass (signed z) → number_of (minus_of z) (amount z) ≡ z
says_number (pos n) h = ap pos (number_fits n [] h)
says_number (negsuc n) h = ap (λ (m : ℕ). neg_ℤ (pos m)) (number_fits (suc n) [] h)

says_pair : (at : ℕ) (p : ℤ × ℕ) → Pass (pair_pieces p) → pair_of (written_pair at p) ≡ p
says_pair at (z, i) h =
    let c = readable_parts (signed z) (sign 42 Symbol.Times ∷ number i ∷ []) h in
    ap (λ (y : ℤ). (y, i)) (says_number z c.0)

pub says_pairs : (at : ℕ) (ps : List (ℤ × ℕ)) → Pass (flat_map pair_pieces ps) →
    map pair_of (written_pairs at ps) ≡ ps
says_pairs at [] h = refl
says_pairs at (p ∷ ps) h =
    let c = readable_parts (pair_pieces p) (flat_map pair_pieces ps) h in
    both_same (λ (x : ℤ × ℕ) (xs : List (ℤ × ℕ)). x ∷ xs) (says_pair at p c.0)
    (says_pairs (end_of at (pair_pieces p)) ps c.1)

-- the tokens of pieces as the grammar sees them
abbrev pub seen : Bool → List ℕ → ℕ → List Piece → List Terminal
seen later bytes at ps = terminals later bytes (tokens_from at ps)

pub seen_join : (later : Bool) (bytes : List ℕ) (at : ℕ) (ps qs : List Piece) →
    seen later bytes at (ps ++ qs) ≡ seen later bytes at ps ++ seen later bytes (end_of at ps) qs
seen_join later bytes at [] qs = refl
seen_join later bytes at (p ∷ ps) qs = first p.token (seen_join later bytes (at + length p.bytes) ps qs)
  where
    first : (k : Option TokenKind) → seen later bytes (at + length p.bytes) (ps ++ qs)
        ≡ seen later bytes (at + length p.bytes) ps ++ seen later bytes (end_of (at + length p.bytes) ps) qs →
        terminals later bytes (with_token at p.bytes k (tokens_from (at + length p.bytes) (ps ++ qs)))
        ≡ terminals later bytes (with_token at p.bytes k (tokens_from (at + length p.bytes) ps))
        ++ seen later bytes (end_of (at + length p.bytes) ps) qs
    first None h = h
    first (Some k) h =
        ap (λ ts. terminal later bytes (record { kind = k; start = at; end = at + length p.bytes }) ∷ ts) h

-- a number with its sign, at the end of a node and before other pieces

pub signed_derives : (later : Bool) (bytes : List ℕ) (at : ℕ) (z : ℤ) →
    Derives grammar (both minus_ number_) (pair (view_flag (minus_of z)) (view_number (amount z)))
    (seen later bytes at (signed z ++ []))
signed_derives later bytes at (pos n) = no_minus_then number_is
signed_derives later bytes at (negsuc n) = minus_then number_is

pub signed_then : (later : Bool) (bytes : List ℕ) (at : ℕ) (z : ℤ) (ps : List Piece) (a : Ebnf) (y : Tree) →
    Derives grammar a y (seen later bytes (end_of at (signed z)) ps) →
    Derives grammar (both minus_ (both number_ a)) (pair (view_flag (minus_of z)) (pair (view_number (amount z)) y))
    (seen later bytes at (signed z ++ ps))
signed_then later bytes at (pos n) ps a y d = no_minus_then (number_then d)
signed_then later bytes at (negsuc n) ps a y d = minus_then (number_then d)

pair_derives : (later : Bool) (bytes : List ℕ) (at : ℕ) (p : ℤ × ℕ) →
    Derives grammar multiple_ (view_pair (written_pair at p)) (seen later bytes at (pair_pieces p))
unfolding all_productions
pair_derives later bytes at (pos m, i) =
    made_of Kind.pair (no_minus_then (number_then (fixed_then number_is))) refl
pair_derives later bytes at (negsuc m, i) =
    made_of Kind.pair (minus_then (number_then (fixed_then number_is))) refl

pub pairs_derive : (later : Bool) (bytes : List ℕ) (at : ℕ) (ps : List (ℤ × ℕ)) →
    Derives grammar (many multiple_) (view_list view_pair (written_pairs at ps))
    (seen later bytes at (flat_map pair_pieces ps))
pairs_derive later bytes at [] = is_nil
pairs_derive later bytes at (p ∷ ps) =
    is_more (pair_derives later bytes at p) (pairs_derive later bytes (end_of at (pair_pieces p)) ps)
    (seen_join later bytes at (pair_pieces p) (flat_map pair_pieces ps))
