-- What a call's answer says of the table.
use Rattle.std.specs.Prelude.{◌≡◌, List, map, Result, Ok, Err, All, []}
use Rattle.case_tables.specs.declared.code_table.Code.{Code}
use Rattle.core_terms.specs.declared.programs.CSlot.{CSlot}
use Rattle.core_terms.specs.Conditions.{FormFits, IsRange, IsSlot, IsProgram}
use Rattle.obligations.specs.declared.branches.Obligation.{Obligation}
use Rattle.fair_rounds.specs.declared.records.Record.{Record}
use Rattle.rules_table.specs.Validity.{Goal, goal_obligation}
use Rattle.rules_table.specs.Conclusion.{Conclusion}
use Rattle.rules_table.specs.Table.{Site}
use Rattle.safety_rules.specs.declared.places.Place.{Place}
use Rattle.safety_rules.specs.declared.places.Derived.{Derived}
use Rattle.safety_rules.specs.declared.places.RuleError.{RuleError}

-- a place as the table sees it
abbrev pub site_of : Place → Site
site_of pl = record {
  program = pl.program.now;
  slots = pl.slots.now;
  params = pl.params.now;
  name = pl.name;
  using = pl.using.now;
}

-- what is handed to a rule fits together
pub record IsPlace (pl : Place) : Type 0 where
  pub slots : All IsSlot pl.slots.now
  pub program : IsProgram pl.slots.now pl.program.now
  pub params : All IsRange pl.params.now
  pub using : All (FormFits pl.slots.now []) pl.using.now

-- a premise is a record with the place's parameters, whose parts fit
pub record IsPremiseAt (pl : Place) (a : Record) : Type 0 where
  pub params : a.params ≡ pl.params.now
  pub p : FormFits pl.slots.now pl.params.now a.p
  pub q : FormFits pl.slots.now pl.params.now a.q
  pub under : All (FormFits pl.slots.now []) a.under

-- what is left to be shown, as obligations
abbrev pub obligations_of : List CSlot → List Goal → List Obligation
obligations_of slots goals = map (λ (g : Goal). goal_obligation slots g.params g.form) goals

-- a conclusion as a call gives it
abbrev pub derived_of : List CSlot → Conclusion → Derived
derived_of slots x = record { made = x.made; obligations = obligations_of slots x.goals }

-- the call gives what the table gives, or the code of the first condition that fails; want of memory says nothing
abbrev pub RuleAnswers : Result Derived RuleError → List CSlot → Result Conclusion Code → Type 0
RuleAnswers (Ok d) slots (Ok x) = d ≡ derived_of slots x
RuleAnswers (Ok d) slots (Err code) = ⊥
RuleAnswers (Err (RuleError.Fault code)) slots (Ok x) = ⊥
RuleAnswers (Err (RuleError.Fault code)) slots (Err first) = code ≡ first
RuleAnswers (Err RuleError.Memory) slots x = Unit {0}
