-- The names of codes and kinds, as texts have them.
use Rattle.std.specs.Prelude.{ℕ, List, [], ◌++◌, codes, decimal, unwrap_or}
use Rattle.case_tables.specs.declared.kind_table.Kind.{Kind}
use Rattle.case_tables.specs.declared.code_table.Code.{Code}
use Rattle.case_tables.specs.contracts.kind_table.KindPartialEq.TheImpl.{ghosts as kind_ghosts}
use Rattle.case_tables.specs.contracts.code_table.CodePartialEq.TheImpl.{ghosts as code_ghosts}
use Rattle.case_tables.specs.Rows.{name_in}
use Rattle.case_tables.specs.Numbers.{number_of}
use Rattle.case_tables.specs.TableRows.{kind_rows, code_rows}

-- the name of a kind of property, by the table of kinds
abbrev pub kind_name : Kind → List ℕ
kind_name kind = unwrap_or (name_in kind_ghosts.eq kind_rows kind) []

-- the name of a code, by the table of codes
abbrev pub code_name : Code → List ℕ
code_name code = unwrap_or (name_in code_ghosts.eq code_rows code) []

-- `CODE NAME`
abbrev pub code_text : Code → List ℕ
code_text code = decimal (number_of code) ++ (codes " " ++ code_name code)
