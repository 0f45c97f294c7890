-- The tokens of a written section are those of the section that says the certificates.
use Rattle.std.proofs.Common.{◌≡◌, ℕ, Bool, zero, suc, ◌+◌, true, List, [], ◌∷◌, refl, sym, ap, ◌∙◌, subst, arith}
use Rattle.std.specs.Prelude.{codes}
use Rattle.std.specs.List.{flat_map, list_all, AllByRecursion}
use Rattle.std.proofs.lemmas.Bool.{and_parts, eqb-true}
use Rattle.case_tables.specs.declared.symbol_table.Symbol.{Symbol}
use Rattle.case_tables.specs.declared.word_table.Word.{Word}
use Rattle.grammar_theory.specs.Ebnf.{numbered, numbered_item, prefix_trees, Derives, is_valued, is_both, is_no_number}
use Rattle.grammar_theory.specs.Ebnf.{is_next_number, is_no_tree, is_next_node, is_named}
use Rattle.unity_syntax.specs.Classes.{number_class}
use Rattle.unity_syntax.specs.Kinds.{Kind}
use Rattle.unity_syntax.specs.Grammar.{grammar, node_, certificate_, certificates_, subtrees}
use Rattle.unity_syntax.specs.View.{view_list, view_node, view_certificate, view_certificates}
use Rattle.unity_syntax.proofs.Productions.{all_productions}
use Rattle.obligations.specs.declared.certificates.Node.{Node}
use Rattle.obligations.specs.declared.certificates.Cert.{Cert}
use Rattle.obligations.specs.Certificates.{arity}
use Rattle.certificate_rules.specs.Trees.{is_whole}
use Rattle.certificate_reading.specs.Laws.{IsWholeTree}
use Rattle.certificate_roundtrip.specs.Pieces.{Piece, gap, word, sign, node_pieces, line_pieces, lines_pieces}
use Rattle.certificate_roundtrip.specs.Pieces.{section_pieces, is_node_of}
use Rattle.certificate_roundtrip.proofs.Steps.{fixed_then, then_fixed, made_of}
use Rattle.certificate_roundtrip.proofs.Parts.{end_of, seen, seen_join}
use Rattle.certificate_roundtrip.proofs.Nodes.{written_node, node_derives, subtrees_are}
use Rattle.certificate_roundtrip.proofs.Written.{written_nodes, line_start, written_line, written_lines}
use Rattle.certificate_roundtrip.proofs.Written.{section_start, written_section}

nodes_derive : (later : Bool) (bytes : List ℕ) (at : ℕ) (ns : List Node) (n : ℕ) → is_whole ns n ≡ true →
    list_all (is_node_of later) ns ≡ true →
    Derives grammar (prefix_trees n subtrees node_) (view_list view_node (written_nodes at ns))
    (seen later bytes at (flat_map node_pieces ns))
nodes_derive later bytes at [] zero h of = is_no_tree
nodes_derive later bytes at [] (suc n) h of = let e = eqb-true (suc n) 0 h in absurd (omega (arith, e))
nodes_derive later bytes at (x ∷ xs) zero h of = absurd cc
nodes_derive later bytes at (x ∷ xs) (suc n) h of =
    let each = and_parts (is_node_of later x) (list_all (is_node_of later) xs) of in
    let count : arity x + n ≡ n + subtrees (view_node (written_node at x)) =
    comm (arity x) n ∙ ap (λ m. n + m) (sym (subtrees_are at x)) in
    is_next_node (node_derives later bytes at x each.0)
    (subst (λ m. Derives grammar (prefix_trees m subtrees node_)
    (view_list view_node (written_nodes (end_of at (node_pieces x)) xs))
    (seen later bytes (end_of at (node_pieces x)) (flat_map node_pieces xs))) count
    (nodes_derive later bytes (end_of at (node_pieces x)) xs (arity x + n) h each.1))
    (seen_join later bytes at (node_pieces x) (flat_map node_pieces xs))
  where
    comm : (a b : ℕ) → a + b ≡ b + a
    comm a b = omega arith

-- a line

abbrev line_end : List Piece
line_end = sign 59 Symbol.Semicolon ∷ gap 10 ∷ []

line_of : (later : Bool) (bytes : List ℕ) (at n : ℕ) (ns : List Node) → is_whole ns 1 ≡ true →
    list_all (is_node_of later) ns ≡ true →
    Derives grammar (numbered_item n number_class certificate_) (view_certificate (written_line at n ns))
    (seen later bytes at (line_pieces n (record { nodes = ns })))
unfolding all_productions
line_of later bytes at n [] h of = absurd cc
line_of later bytes at n (x ∷ xs) h of =
    is_named (is_both (is_valued refl refl)
    (fixed_then (then_fixed _ _ _ (nodes_derive later bytes (end_of at (line_start n)) (x ∷ xs) 1 h of)
    (seen_join later bytes (end_of at (line_start n)) (flat_map node_pieces (x ∷ xs)) line_end))) refl) refl

lines_derive : (later : Bool) (bytes : List ℕ) (at n : ℕ) (certs : List Cert) → AllByRecursion IsWholeTree certs →
    AllByRecursion (λ (c : Cert). list_all (is_node_of later) c.nodes ≡ true) certs →
    Derives grammar (numbered n number_class certificate_) (view_list view_certificate (written_lines at n certs))
    (seen later bytes at (lines_pieces n certs))
lines_derive later bytes at n [] h of = is_no_number
lines_derive later bytes at n (c ∷ cs) h of =
    is_next_number (line_of later bytes at n c.nodes h.0 of.0)
    (lines_derive later bytes (end_of at (line_pieces n c)) (suc n) cs h.1 of.1)
    (seen_join later bytes at (line_pieces n c) (lines_pieces (suc n) cs))

-- the section

abbrev section_end : List Piece
section_end = word (codes "end") Word.End ∷ gap 10 ∷ []

pub section_derives : (later : Bool) (bytes : List ℕ) (at : ℕ) (certs : List Cert) → AllByRecursion IsWholeTree certs →
    AllByRecursion (λ (c : Cert). list_all (is_node_of later) c.nodes ≡ true) certs →
    Derives grammar certificates_ (view_certificates (written_section at certs))
    (seen later bytes at (section_pieces certs))
unfolding all_productions
section_derives later bytes at certs h of =
    made_of Kind.certificates (fixed_then
    (then_fixed _ _ _ (lines_derive later bytes (end_of at section_start) 1 certs h of)
    (seen_join later bytes (end_of at section_start) (lines_pieces 1 certs) section_end))) refl
