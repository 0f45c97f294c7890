-- What is concluded, with the step's own parameters.
use Rattle.std.specs.Prelude.{ℕ, List, Result, Ok, Err}
use Rattle.case_tables.specs.declared.code_table.Code.{Code}
use Rattle.core_terms.specs.declared.trees.Range.{Range}
use Rattle.fair_rounds.specs.declared.records.Record.{Record}
use Rattle.rules_table.specs.Conclusion.{Conclusion}

-- a record of other parameters and rounds
abbrev pub narrowed : List Range → ℕ → Record → Record
narrowed params bound a = record a { params = params; bound = bound }

-- what is concluded of it
abbrev pub narrowed_row : List Range → ℕ → Result Conclusion Code → Result Conclusion Code
narrowed_row params bound (Ok x) = Ok (record { made = narrowed params bound x.made; goals = x.goals })
narrowed_row params bound (Err code) = Err code
