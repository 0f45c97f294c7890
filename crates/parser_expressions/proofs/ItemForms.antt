-- The forms of the items that stand in braces.
use Rattle.std.proofs.Common.{[], ◌∷◌, refl}
use Rattle.case_tables.specs.declared.symbol_table.Symbol.{Symbol}
use Rattle.unity_syntax.specs.Classes.{symbol}
use Rattle.unity_syntax.specs.Grammar.{past, name_, end_}
use Rattle.unity_syntax.proofs.Productions.{all_productions}
use Rattle.parser_expressions.proofs.Repetition.{IsItem}

pub is_end : IsItem (past (symbol Symbol.Comma) end_) (symbol Symbol.Comma ∷ [])
unfolding all_productions
is_end = record { good_many = refl; begins_with = refl; takes = refl }

pub is_name : IsItem (past (symbol Symbol.Comma) name_) (symbol Symbol.Comma ∷ [])
unfolding all_productions
is_name = record { good_many = refl; begins_with = refl; takes = refl }
