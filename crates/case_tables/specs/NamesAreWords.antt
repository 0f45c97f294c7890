-- The names of rules and of kinds are spelled as reserved words.
use Rattle.std.specs.Prelude.{◌≡◌, List, map, Option, Some}
use Rattle.case_tables.specs.declared.word_table.Word.{Word}
use Rattle.case_tables.specs.declared.rule_table.RuleName.{RuleName}
use Rattle.case_tables.specs.declared.kind_table.Kind.{Kind}
use Rattle.case_tables.specs.Rows.{value_in}
use Rattle.case_tables.specs.TableRows.{word_rows, rule_rows, kind_rows}

-- the word that a rule is named by
abbrev pub word_of_rule : RuleName → Word
word_of_rule RuleName.Text = Word.Text
word_of_rule RuleName.Weaken = Word.Weaken
word_of_rule RuleName.Conj = Word.Conj
word_of_rule RuleName.Simpleconj = Word.Simpleconj
word_of_rule RuleName.Disj = Word.Disj
word_of_rule RuleName.Simpledisj = Word.Simpledisj
word_of_rule RuleName.Cancel = Word.Cancel
word_of_rule RuleName.Union = Word.Union
word_of_rule RuleName.Imply = Word.Imply
word_of_rule RuleName.From = Word.From
word_of_rule RuleName.Trans = Word.Trans
word_of_rule RuleName.Either = Word.Either
word_of_rule RuleName.Exists = Word.Exists
word_of_rule RuleName.Induct = Word.Induct
word_of_rule RuleName.Psp = Word.Psp
word_of_rule RuleName.Superpose = Word.Superpose
word_of_rule RuleName.Complete = Word.Complete
word_of_rule RuleName.Until = Word.Until
word_of_rule RuleName.Detects = Word.Detects
word_of_rule RuleName.Constant = Word.Constant

-- the word that a kind is named by
abbrev pub word_of_kind : Kind → Word
word_of_kind Kind.Defined = Word.Defined
word_of_kind Kind.Invariant = Word.Invariant
word_of_kind Kind.Unless = Word.Unless
word_of_kind Kind.Ensures = Word.Ensures
word_of_kind Kind.Leadsto = Word.Leadsto
word_of_kind Kind.Until = Word.Until
word_of_kind Kind.Detects = Word.Detects
word_of_kind Kind.Constant = Word.Constant
word_of_kind Kind.Fixed = Word.Fixed

-- the reserved word that each rule's name spells is the rule's word
abbrev pub RulesAreWords : Type 0
RulesAreWords = map (λ row. value_in word_rows row.0) rule_rows ≡ map (λ row. Some (word_of_rule row.1)) rule_rows

-- the reserved word that each kind's name spells is the kind's word
abbrev pub KindsAreWords : Type 0
KindsAreWords = map (λ row. value_in word_rows row.0) kind_rows ≡ map (λ row. Some (word_of_kind row.1)) kind_rows
