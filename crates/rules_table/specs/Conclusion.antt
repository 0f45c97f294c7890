-- What a rule gives: the record of the step, and what is left to be shown for it.
use Rattle.std.specs.Prelude.{List}
use Rattle.fair_rounds.specs.declared.records.Record.{Record}
use Rattle.rules_table.specs.Validity.{Goal}

pub record Conclusion : Type 0 where
  pub made : Record
  pub goals : List Goal
