-- What a call answers once a record that its row asks for is known.
use Rattle.std.proofs.Common.{List, Result, Ok, Err, subst}
use Rattle.case_tables.specs.declared.code_table.Code.{Code}
use Rattle.core_terms.specs.declared.programs.CSlot.{CSlot}
use Rattle.fair_rounds.specs.declared.records.Record.{Record}
use Rattle.safety_rules.specs.from_rules_table.Conclusion.{Conclusion}
use Rattle.safety_rules.specs.from_rules_table.Table.{go_on}
use Rattle.safety_rules.specs.declared.places.Derived.{Derived}
use Rattle.safety_rules.specs.declared.places.RuleError.{RuleError}
use Rattle.safety_rules.specs.Answers.{RuleAnswers}
use Rattle.safety_rules.specs.Instances.{AnswersRecord}

pub answered_on : (a : Record) (row : Result Record Code) (f : Record → Result Conclusion Code)
    (answer : Result Derived RuleError) (slots : List CSlot) → AnswersRecord (Ok a) row →
    RuleAnswers answer slots (f a) → RuleAnswers answer slots (go_on row f)
answered_on a (Ok x) f answer slots same given = subst (λ (b : Record). RuleAnswers answer slots (f b)) same given
answered_on a (Err code) f answer slots none given = absurd none
