-- The records of all steps; want of memory says nothing.
use Rattle.std.specs.Prelude.{◌≡◌, List, Result, Ok, Err}
use Rattle.fair_rounds.specs.declared.records.Record.{Record}
use Rattle.safety_rules.specs.from_rules_table.Walk as walk
use Rattle.safety_rules.specs.from_rules_table.Walk.{Failure}
use Rattle.proof_plans.specs.declared.plans.ScriptError.{ScriptError}
use Rattle.proof_plans.specs.Planning.{IsFailureOf}

-- the records of the walk along the table of rules, or its first failure
abbrev pub Books : Result (List Record) ScriptError → Result walk.Plan Failure → Type 0
Books (Ok records) walked = (w : walk.Plan) × (walked ≡ Ok w) × (records ≡ w.records)
Books (Err (ScriptError.Step fault)) walked = IsFailureOf fault walked
Books (Err ScriptError.Memory) walked = Unit {0}
