-- The forms of the items that stand in braces.
use Rattle.std.proofs.Common.{◌≡◌, ℕ, true, false, [], ◌∷◌, refl}
use Rattle.case_tables.specs.declared.symbol_table.Symbol.{Symbol}
use Rattle.grammar_theory.specs.Ebnf.{numbered, numbered_item, prefix_trees}
use Rattle.grammar_theory.specs.LookAhead.{empties, good}
use Rattle.unity_syntax.specs.Classes.{number_class, symbol}
use Rattle.unity_syntax.specs.Grammar.{grammar, past, inst_, multiple_, node_, subtrees, certificate_}
use Rattle.unity_syntax.proofs.Productions.{all_productions}
use Rattle.parser_programs.proofs.lemmas_from_parser_expressions.Repetition.{IsItem}

pub is_inst : IsItem (past (symbol Symbol.Comma) inst_) (symbol Symbol.Comma ∷ [])
unfolding all_productions
is_inst = record { good_many = refl; begins_with = refl; takes = refl }

pub is_multiple : IsItem multiple_ (symbol Symbol.Minus ∷ number_class ∷ [])
unfolding all_productions
is_multiple = record { good_many = refl; begins_with = refl; takes = refl }

-- a node takes a token, and nodes of so many trees are read with one token of look-ahead
pub good_node : good grammar node_ ≡ true
unfolding all_productions
good_node = refl

pub node_takes : empties node_ ≡ false
unfolding all_productions
node_takes = refl

pub good_nodes : (trees : ℕ) → good grammar (prefix_trees trees subtrees node_) ≡ true
unfolding all_productions
good_nodes trees = refl

-- a certificate under its number takes a token, and so are certificates
pub good_certificate : (k : ℕ) → good grammar (numbered_item k number_class certificate_) ≡ true
unfolding all_productions
good_certificate k = refl

pub good_certificates : (k : ℕ) → good grammar (numbered k number_class certificate_) ≡ true
unfolding all_productions
good_certificates k = refl
