-- The forms of the items that stand in braces.
use Rattle.std.proofs.Common.{[], ◌∷◌, refl}
use Rattle.case_tables.specs.declared.word_table.Word.{Word}
use Rattle.case_tables.specs.declared.symbol_table.Symbol.{Symbol}
use Rattle.grammar_theory.specs.Ebnf.{both}
use Rattle.grammar_theory.specs.LookAhead.{first}
use Rattle.unity_syntax.specs.Classes.{reserved, symbol}
use Rattle.unity_syntax.specs.Grammar.{atom_, product_, and_, or_, plus_or_minus_, operator_}
use Rattle.unity_syntax.proofs.Productions.{all_productions}
use Rattle.parser_expressions.proofs.Repetition.{IsItem}
use Rattle.parser_expressions.specs.declared.joints.Joint.{Joint}
use Rattle.parser_expressions.specs.Joints.{joint_word, joined_unit_}

pub is_factor : IsItem (both operator_ atom_) (first operator_)
unfolding all_productions
is_factor = record { good_many = refl; begins_with = refl; takes = refl }

pub is_summand : IsItem (both plus_or_minus_ product_) (symbol Symbol.Plus ∷ symbol Symbol.Minus ∷ [])
unfolding all_productions
is_summand = record { good_many = refl; begins_with = refl; takes = refl }

pub is_and : IsItem and_ (reserved Word.And ∷ [])
unfolding all_productions
is_and = record { good_many = refl; begins_with = refl; takes = refl }

pub is_or : IsItem or_ (reserved Word.Or ∷ [])
unfolding all_productions
is_or = record { good_many = refl; begins_with = refl; takes = refl }

pub is_joined : (by : Joint) → IsItem (joined_unit_ by) (reserved (joint_word by) ∷ [])
is_joined Joint.And = is_and
is_joined Joint.Or = is_or
