use Rattle.std.proofs.Common.{◌≡◌, ◌↔◌, ℕ, false, List, Option, Some, None, IsNone, MatchOption, Contains, refl, sym}
use Rattle.std.proofs.Common.{◌∙◌}
use Rattle.case_tables.specs.declared.word_table.Word.{Word}
use Rattle.case_tables.specs.Rows.{HasName}
use Rattle.case_tables.specs.TableRows.{word_rows}
use Rattle.unity_lexer.specs.ReservedShapes.{may_be_reserved}
use Rattle.unity_lexer.proofs.Longest.{not_both, row_passes}
use Rattle.unity_lexer.proofs.reserved.reserved_word.Goals as goal

-- what the look-up in the table answers
found : (o : Option Word) (name : List ℕ) → ((word : Word) → (o ≡ Some word) ↔ Contains word_rows (name, word)) → IsNone
    o ↔ (HasName word_rows name → ⊥)
    → MatchOption o (HasName word_rows name → ⊥) (λ word. Contains word_rows (name, word))
found None name exact none = none.0 refl
found (Some word) name exact none = (exact word).0 refl

-- a word that fails the first test is in no row
refused : (name : List ℕ) → may_be_reserved name ≡ false → HasName word_rows name → ⊥
refused name h named = not_both (may_be_reserved name) (row_passes (λ row. may_be_reserved row.0) word_rows
    (name, named.0) refl named.1) h

pub returns-then-may_be_reserved : goal.returns-then-may_be_reserved
returns-then-may_be_reserved c = found c.find.result c.args.word.now (rw c.words.ensures.listed at c.find.ensures.exact)
    (rw c.words.ensures.listed at c.find.ensures.none)

pub returns-else-may_be_reserved : goal.returns-else-may_be_reserved
returns-else-may_be_reserved c = refused c.args.word.now (sym c.may_be_reserved.ensures ∙ c.if-may_be_reserved.false)
