-- The errors that formulas too large make.
use Rattle.case_tables.specs.declared.code_table.Code.{Code}
use Rattle.obligations.specs.declared.making.TooLargeError.{TooLargeError}
use Rattle.wp_substitution.specs.declared.pooled.WpError.{WpError}
use Rattle.safety_rules.specs.declared.places.RuleError.{RuleError}

abbrev pub rule_error : TooLargeError → RuleError
rule_error TooLargeError.TooLarge = RuleError.Fault Code.FormulaTooLarge
rule_error TooLargeError.Memory = RuleError.Memory

abbrev pub precondition_error : WpError → RuleError
precondition_error WpError.TooLarge = RuleError.Fault Code.FormulaTooLarge
precondition_error WpError.Memory = RuleError.Memory
