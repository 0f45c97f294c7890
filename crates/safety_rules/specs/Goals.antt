-- Obligations, added one after the other.
use Rattle.std.specs.Prelude.{◌≡◌, true, false, ◌&&◌, List, ◌++◌, map, Result, Ok, Err}
use Rattle.std.specs.List.{list_all}
use Rattle.case_tables.specs.declared.code_table.Code.{Code}
use Rattle.core_terms.specs.declared.trees.Range.{Range}
use Rattle.core_terms.specs.declared.trees.CForm.{CForm}
use Rattle.core_terms.specs.declared.programs.CSlot.{CSlot}
use Rattle.obligations.specs.declared.branches.Obligation.{Obligation}
use Rattle.fair_rounds.specs.declared.records.Record.{Record}
use Rattle.rules_table.specs.Limits.{fits, is_provable}
use Rattle.rules_table.specs.Validity.{goal_obligation}
use Rattle.safety_rules.specs.declared.places.Derived.{Derived}
use Rattle.safety_rules.specs.declared.places.RuleError.{RuleError}

-- the obligations of these formulas were added; the error says that one of the formulas is too large
abbrev pub Added : {T : Type 0} → Result T RuleError → List Obligation → List Obligation → List CSlot → List Range →
    List CForm → Type 0
Added (Ok done) old new slots params forms =
    (new ≡ old ++ map (goal_obligation slots params) forms) × (list_all (is_provable slots params) forms ≡ true)
Added (Err (RuleError.Fault code)) old new slots params forms =
    (code ≡ Code.FormulaTooLarge) × (list_all (is_provable slots params) forms ≡ false)
Added (Err RuleError.Memory) old new slots params forms = Unit {0}

-- the record and these obligations; the error says that its p or q is too large
abbrev pub Concludes : Result Derived RuleError → List CSlot → List Range → Record → List Obligation → Type 0
Concludes (Ok d) slots params made goals =
    (d ≡ (record { made = made; obligations = goals })) ×
    ((fits slots params made.p && fits slots params made.q) ≡ true)
Concludes (Err (RuleError.Fault code)) slots params made goals =
    (code ≡ Code.FormulaTooLarge) × ((fits slots params made.p && fits slots params made.q) ≡ false)
Concludes (Err RuleError.Memory) slots params made goals = Unit {0}
