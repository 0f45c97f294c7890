-- What each kind of node has of its own: its word, its text, how the grammar writes it, and that this says the node.
use Rattle.std.proofs.Common.{◌≡◌, ℕ, ◌+◌, ◌≤◌, ◌^◌, nat_le, ℤ, Bool, true, false, List, [], ◌∷◌, ◌++◌, length, refl}
use Rattle.std.proofs.Common.{ap, ◌∙◌, arith}
use Rattle.std.specs.Prelude.{Contains, codes, decimal}
use Rattle.std.specs.List.{flat_map, list_all}
use Rattle.std.specs.Fmt.{signed_decimal}
use Rattle.std.proofs.lemmas.Bool.{and_parts}
use Rattle.case_tables.specs.declared.word_table.Word.{Word}
use Rattle.case_tables.specs.TableRows.{word_rows}
use Rattle.grammar_theory.specs.Ebnf.{Derives}
use Rattle.unity_syntax.specs.declared.certificate.Node.{Node as WrittenNode}
use Rattle.unity_syntax.specs.Kinds.{Kind}
use Rattle.unity_syntax.specs.Grammar.{grammar, node_, subtrees}
use Rattle.unity_syntax.specs.View.{view_node}
use Rattle.unity_syntax.proofs.BackParts.{both_same}
use Rattle.unity_syntax.proofs.Productions.{all_productions}
use Rattle.unity_lexer.specs.Tokens.{is_word}
use Rattle.obligations.specs.declared.certificates.Node.{Node}
use Rattle.obligations.specs.Certificates.{arity}
use Rattle.certificate_printing.specs.Certificates.{pair_text, node_text}
use Rattle.certificate_reading.specs.Certificates.{node_of}
use Rattle.certificate_roundtrip.specs.Pieces.{Piece, gap, word, signed, pair_pieces, node_word, node_pieces, text_of}
use Rattle.certificate_roundtrip.specs.Pieces.{is_readable, is_node_of}
use Rattle.certificate_roundtrip.proofs.Steps.{number_is, number_then, fixed_then, chose_left, chose_right, made_of}
use Rattle.certificate_roundtrip.proofs.Parts.{end_of, minus_of, amount, written_pairs, no_more, text_join, signed_is}
use Rattle.certificate_roundtrip.proofs.Parts.{signed_last, pairs_are, Pass, readable_parts, says_number, says_pairs}
use Rattle.certificate_roundtrip.proofs.Parts.{seen, signed_derives, signed_then, pairs_derive}

-- its word is in the table, and short
pub record IsNodeWord (w : List ℕ × Word) : Type 0 where
  pub there : Contains word_rows w
  pub spelled : is_word w.0 ≡ true
  pub short : length w.0 ≤ 5

pub node_words : (n : Node) → IsNodeWord (node_word n)
node_words (Node.Case k) = record { there = (47, omega arith, refl); spelled = refl; short = omega arith }
node_words (Node.Split v k) = record { there = (48, omega arith, refl); spelled = refl; short = omega arith }
node_words (Node.Sum ps) = record { there = (22, omega arith, refl); spelled = refl; short = omega arith }
node_words (Node.Round d ps) = record { there = (49, omega arith, refl); spelled = refl; short = omega arith }
node_words (Node.Quot k) = record { there = (52, omega arith, refl); spelled = refl; short = omega arith }
node_words (Node.Share c ps) = record { there = (53, omega arith, refl); spelled = refl; short = omega arith }

-- a number with its sign, and pairs after it
signed_pairs_are : (z : ℤ) (qs : List (ℤ × ℕ)) →
    text_of (signed z ++ flat_map pair_pieces qs) ≡ signed_decimal z ++ flat_map pair_text qs
signed_pairs_are z qs =
    text_join (signed z) (flat_map pair_pieces qs)
    ∙ ap (λ t. t ++ text_of (flat_map pair_pieces qs)) (signed_is z)
    ∙ ap (λ t. signed_decimal z ++ t) (pairs_are qs)

pub node_is : (n : Node) → text_of (node_pieces n) ≡ node_text n
node_is (Node.Case j) = ap (λ t. codes " case " ++ t) (no_more (decimal j))
node_is (Node.Split v z) = ap (λ t. codes " split " ++ (decimal v ++ (codes " " ++ t))) (signed_last z)
node_is (Node.Sum qs) = ap (λ t. codes " sum" ++ t) (pairs_are qs)
node_is (Node.Round d qs) = ap (λ t. codes " round " ++ t) (signed_pairs_are d qs)
node_is (Node.Quot j) = ap (λ t. codes " quot " ++ t) (no_more (decimal j))
node_is (Node.Share c qs) = ap (λ t. codes " share " ++ t) (signed_pairs_are c qs)

-- what stands before the pairs of a sum, before the divisor of a round, and before the constant of a share
abbrev sum_word : List Piece
sum_word = gap 32 ∷ word (codes "sum") Word.Sum ∷ []

abbrev round_word : List Piece
round_word = gap 32 ∷ word (codes "round") Word.Round ∷ gap 32 ∷ []

abbrev share_word : List Piece
share_word = gap 32 ∷ word (codes "share") Word.Share ∷ gap 32 ∷ []

abbrev pub written_node : ℕ → Node → WrittenNode
written_node at (Node.Case k) = WrittenNode.Case (at + 1) k
written_node at (Node.Split v k) = WrittenNode.Split (at + 1) v (minus_of k) (amount k)
written_node at (Node.Sum ps) = WrittenNode.Sum (at + 1) (written_pairs (end_of at sum_word) ps)
written_node at (Node.Round d ps) =
    WrittenNode.Round (at + 1) (minus_of d) (amount d) (written_pairs (end_of (end_of at round_word) (signed d)) ps)
written_node at (Node.Quot k) = WrittenNode.Quot (at + 1) k
written_node at (Node.Share c ps) =
    WrittenNode.Share (at + 1) (minus_of c) (amount c) (written_pairs (end_of (end_of at share_word) (signed c)) ps)

pub says_node : (at : ℕ) (n : Node) → Pass (node_pieces n) → node_of (written_node at n) ≡ n
says_node at (Node.Case k) h = refl
says_node at (Node.Split v k) h =
    let c = and_parts (nat_le v (2 ^ 62)) (list_all is_readable (signed k ++ [])) h in
    ap (λ (z : ℤ). Node.Split v z) (says_number k (readable_parts (signed k) [] c.1).0)
says_node at (Node.Sum ps) h = ap (λ (qs : List (ℤ × ℕ)). Node.Sum qs)
    (says_pairs (end_of at sum_word) ps h)
says_node at (Node.Round d ps) h =
    let c = readable_parts (signed d) (flat_map pair_pieces ps) h in
    both_same (λ (z : ℤ) (qs : List (ℤ × ℕ)). Node.Round z qs) (says_number d c.0)
    (says_pairs (end_of (end_of at round_word) (signed d)) ps c.1)
says_node at (Node.Quot k) h = refl
says_node at (Node.Share c ps) h =
    let r = readable_parts (signed c) (flat_map pair_pieces ps) h in
    both_same (λ (z : ℤ) (qs : List (ℤ × ℕ)). Node.Share z qs) (says_number c r.0)
    (says_pairs (end_of (end_of at share_word) (signed c)) ps r.1)

pub node_derives : (later : Bool) (bytes : List ℕ) (at : ℕ) (n : Node) → is_node_of later n ≡ true →
    Derives grammar node_ (view_node (written_node at n)) (seen later bytes at (node_pieces n))
unfolding all_productions
node_derives later bytes at (Node.Case k) of = chose_left (made_of Kind.node_case (fixed_then number_is) refl)
node_derives later bytes at (Node.Split v k) of =
    chose_right (chose_left (made_of Kind.node_split
    (fixed_then (number_then (signed_derives later bytes _ k))) refl))
node_derives later bytes at (Node.Sum ps) of =
    chose_right (chose_right (chose_left (made_of Kind.node_sum
    (fixed_then (pairs_derive later bytes (end_of at sum_word) ps)) refl)))
node_derives later bytes at (Node.Round d ps) of =
    chose_right (chose_right (chose_right (chose_left (made_of Kind.node_round
    (fixed_then (signed_then later bytes (end_of at round_word) d (flat_map pair_pieces ps) _ _
    (pairs_derive later bytes (end_of (end_of at round_word) (signed d)) ps))) refl))))
node_derives true bytes at (Node.Quot k) of =
    chose_right (chose_right (chose_right (chose_right (chose_left (made_of Kind.node_quot
    (fixed_then number_is) refl)))))
node_derives false bytes at (Node.Quot k) of = absurd (cc of)
node_derives true bytes at (Node.Share c ps) of =
    chose_right (chose_right (chose_right (chose_right (chose_right (made_of Kind.node_share
    (fixed_then (signed_then true bytes (end_of at share_word) c (flat_map pair_pieces ps) _ _
    (pairs_derive true bytes (end_of (end_of at share_word) (signed c)) ps))) refl)))))
node_derives false bytes at (Node.Share c ps) of = absurd (cc of)

pub subtrees_are : (at : ℕ) (n : Node) → subtrees (view_node (written_node at n)) ≡ arity n
subtrees_are at (Node.Case k) = refl
subtrees_are at (Node.Split v k) = refl
subtrees_are at (Node.Sum ps) = refl
subtrees_are at (Node.Round d ps) = refl
subtrees_are at (Node.Quot k) = refl
subtrees_are at (Node.Share c ps) = refl
