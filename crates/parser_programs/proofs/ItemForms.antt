-- The forms of the items that stand in braces.
use Rattle.std.proofs.Common.{[], ◌∷◌, refl}
use Rattle.case_tables.specs.declared.symbol_table.Symbol.{Symbol}
use Rattle.unity_syntax.specs.Classes.{name_class, symbol}
use Rattle.unity_syntax.specs.Grammar.{past, pred_, choice_, target_, comp_, item_, var_, def_, init_}
use Rattle.unity_syntax.proofs.Productions.{all_productions}
use Rattle.parser_expressions.proofs.Repetition.{IsItem}

pub is_value : IsItem (past (symbol Symbol.Comma) pred_) (symbol Symbol.Comma ∷ [])
unfolding all_productions
is_value = record { good_many = refl; begins_with = refl; takes = refl }

pub is_choice : IsItem (past (symbol Symbol.Tilde) choice_) (symbol Symbol.Tilde ∷ [])
unfolding all_productions
is_choice = record { good_many = refl; begins_with = refl; takes = refl }

pub is_target : IsItem (past (symbol Symbol.Comma) target_) (symbol Symbol.Comma ∷ [])
unfolding all_productions
is_target = record { good_many = refl; begins_with = refl; takes = refl }

pub is_component : IsItem (past (symbol Symbol.Parallel) comp_) (symbol Symbol.Parallel ∷ [])
unfolding all_productions
is_component = record { good_many = refl; begins_with = refl; takes = refl }

pub is_item : IsItem (past (symbol Symbol.Box) item_) (symbol Symbol.Box ∷ [])
unfolding all_productions
is_item = record { good_many = refl; begins_with = refl; takes = refl }

pub is_var : IsItem var_ (name_class ∷ [])
unfolding all_productions
is_var = record { good_many = refl; begins_with = refl; takes = refl }

pub is_def : IsItem def_ (name_class ∷ [])
unfolding all_productions
is_def = record { good_many = refl; begins_with = refl; takes = refl }

pub is_init : IsItem (past (symbol Symbol.Comma) init_) (symbol Symbol.Comma ∷ [])
unfolding all_productions
is_init = record { good_many = refl; begins_with = refl; takes = refl }
