-- How many statements a program may have.
use Rattle.std.specs.Prelude.{ℕ, cond, nat_lt, Option, Some, None}
use Rattle.case_tables.specs.declared.code_table.Code.{Code}
use Rattle.unity_syntax.specs.declared.name.Name.{Name}
use Rattle.unity_syntax.specs.declared.statement.Items.{Items}
use Rattle.names_rules.specs.Reading.{Fault}
use Rattle.expand_rules.specs.Lists.{statement_count}

-- more than 4,096 of something, at a name
abbrev pub too_many : ℕ → Name → Option Fault
too_many count name = cond (nat_lt 4096 count) (Some (record { code = Code.TooLarge; at = name.at })) None

-- more than 4,096 statements, at the program's name
abbrev pub statements_fault : Name → Items → Option Fault
statements_fault name items = too_many (statement_count items) name
