-- What joins units.
use Rattle.std.specs.Prelude.{ℕ}
use Rattle.case_tables.specs.declared.word_table.Word.{Word}
use Rattle.grammar_theory.specs.Ebnf.{Ebnf}
use Rattle.unity_syntax.specs.Classes.{reserved}
use Rattle.unity_syntax.specs.Kinds.{Kind, kind}
use Rattle.unity_syntax.specs.Grammar.{past, unit_}
use Rattle.parser_expressions.specs.declared.joints.Joint.{Joint}

-- its word
abbrev pub joint_word : Joint → Word
joint_word Joint.And = Word.And
joint_word Joint.Or = Word.Or

-- the kind of what it joins
abbrev pub joint_kind : Joint → ℕ
joint_kind Joint.And = kind Kind.expr_and
joint_kind Joint.Or = kind Kind.expr_or

-- "and" unit, or "or" unit
abbrev pub joined_unit_ : Joint → Ebnf
joined_unit_ by = past (reserved (joint_word by)) unit_
