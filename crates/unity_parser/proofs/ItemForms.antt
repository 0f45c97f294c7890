-- The forms of the items that stand in braces.
use Rattle.std.proofs.Common.{[], ◌∷◌, refl}
use Rattle.case_tables.specs.declared.word_table.Word.{Word}
use Rattle.unity_syntax.specs.Classes.{reserved}
use Rattle.unity_syntax.specs.Grammar.{part_}
use Rattle.unity_syntax.proofs.Productions.{all_productions}
use Rattle.parser_programs.proofs.lemmas_from_parser_expressions.Repetition.{IsItem}

pub is_part : IsItem part_ (reserved Word.Program ∷ reserved Word.Proof ∷ [])
unfolding all_productions
is_part = record { good_many = refl; begins_with = refl; takes = refl }
