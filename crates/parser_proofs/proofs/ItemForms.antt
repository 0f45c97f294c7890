-- The forms of the items that stand in braces.
use Rattle.std.proofs.Common.{[], ◌∷◌, refl}
use Rattle.case_tables.specs.declared.symbol_table.Symbol.{Symbol}
use Rattle.unity_syntax.specs.Classes.{name_class, symbol}
use Rattle.unity_syntax.specs.Grammar.{past, param_, ref_, step_}
use Rattle.unity_syntax.proofs.Productions.{all_productions}
use Rattle.parser_expressions.proofs.Repetition.{IsItem}

pub is_param : IsItem (past (symbol Symbol.Comma) param_) (symbol Symbol.Comma ∷ [])
unfolding all_productions
is_param = record { good_many = refl; begins_with = refl; takes = refl }

pub is_reference : IsItem (past (symbol Symbol.Comma) ref_) (symbol Symbol.Comma ∷ [])
unfolding all_productions
is_reference = record { good_many = refl; begins_with = refl; takes = refl }

pub is_step : IsItem step_ (name_class ∷ [])
unfolding all_productions
is_step = record { good_many = refl; begins_with = refl; takes = refl }
