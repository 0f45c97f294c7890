-- What is concluded, with another bound.
use Rattle.std.specs.Prelude.{ℕ, Result, Ok, Err}
use Rattle.case_tables.specs.declared.code_table.Code.{Code}
use Rattle.rules_table.specs.Conclusion.{Conclusion}

abbrev pub bounded_row : ℕ → Result Conclusion Code → Result Conclusion Code
bounded_row bound (Ok x) = Ok (record { made = record x.made { bound = bound }; goals = x.goals })
bounded_row bound (Err code) = Err code
