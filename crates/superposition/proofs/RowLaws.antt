-- What the call answers where a condition of the row fails, and where none does.
use Rattle.std.proofs.Common.{◌≡◌, nat_eq, [], ◌∷◌, true, false, not, Err, Result, ap, ◌∙◌}
use Rattle.case_tables.specs.declared.code_table.Code.{Code}
use Rattle.core_terms.specs.declared.programs.CProgram.{CProgram}
use Rattle.fair_rounds.specs.declared.records.Record.{Record}
use Rattle.safety_rules.specs.from_rules_table.Layers.{is_carried, is_layer, names_old, record_over, starts_below}
use Rattle.safety_rules.specs.from_rules_table.Layers.{superpose_of}
use Rattle.safety_rules.specs.from_rules_table.Table.{Site, concluded}
use Rattle.safety_rules.proofs.lemmas_from_rules_table.RowEquations.{superpose-is}
use Rattle.safety_rules.proofs.AnswerLaws.{needs_met, needs_not, refused, given_by}
use Rattle.safety_rules.specs.Answers.{RuleAnswers}
use Rattle.safety_rules.specs.declared.places.Derived.{Derived}
use Rattle.safety_rules.specs.declared.places.RuleError.{RuleError}
use Rattle.superposition.proofs.LabelLaws.{equal_told, apart_told}

module _ (site : Site) (f : CProgram) (a : Record) where
  abbrev Answers : Result Derived RuleError → Type 0
  Answers answer = RuleAnswers answer site.slots (superpose_of site f a)

  pub own_record : a.program ≡ site.program.name → Answers (Err (RuleError.Fault Code.OtherProgram))
  own_record same =
      refused site.slots Code.OtherProgram _ (superpose-is site f a
      ∙ needs_not (not (nat_eq a.program site.program.name)) Code.OtherProgram _
      (ap not (equal_told a.program site.program.name same)))

  module _ (apart : a.program ≡ site.program.name → ⊥) where
    other : not (nat_eq a.program site.program.name) ≡ true
    other = ap not (apart_told a.program site.program.name apart)

    pub other_kind : is_carried a.kind ≡ false → Answers (Err (RuleError.Fault Code.WrongKind))
    other_kind fails =
        refused site.slots Code.WrongKind _ (superpose-is site f a
        ∙ needs_met (not (nat_eq a.program site.program.name)) Code.OtherProgram _ other
        ∙ needs_not (is_carried a.kind) Code.WrongKind _ fails)

    pub other_layer : is_carried a.kind ≡ true → is_layer site.program f ≡ false →
        Answers (Err (RuleError.Fault Code.NotALayer))
    other_layer carried fails =
        refused site.slots Code.NotALayer _ (superpose-is site f a
        ∙ needs_met (not (nat_eq a.program site.program.name)) Code.OtherProgram _ other
        ∙ needs_met (is_carried a.kind) Code.WrongKind _ carried
        ∙ needs_not (is_layer site.program f) Code.NotALayer _ fails)

    pub other_names : is_carried a.kind ≡ true → is_layer site.program f ≡ true → names_old site.program f a ≡ false →
        Answers (Err (RuleError.Fault Code.NamesNewVariable))
    other_names carried layer fails =
        refused site.slots Code.NamesNewVariable _ (superpose-is site f a
        ∙ needs_met (not (nat_eq a.program site.program.name)) Code.OtherProgram _ other
        ∙ needs_met (is_carried a.kind) Code.WrongKind _ carried
        ∙ needs_met (is_layer site.program f) Code.NotALayer _ layer
        ∙ needs_not (names_old site.program f a) Code.NamesNewVariable _ fails)

    pub as_carried : is_carried a.kind ≡ true → is_layer site.program f ≡ true → names_old site.program f a ≡ true →
        (answer : Result Derived RuleError) → RuleAnswers answer site.slots
        (concluded site.slots site.params (record_over site f a) (starts_below site f ∷ [])) → Answers answer
    as_carried carried layer old answer given =
        given_by site.slots answer _ (concluded site.slots site.params (record_over site f a)
        (starts_below site f ∷ [])) (superpose-is site f a
        ∙ needs_met (not (nat_eq a.program site.program.name)) Code.OtherProgram _ other
        ∙ needs_met (is_carried a.kind) Code.WrongKind _ carried
        ∙ needs_met (is_layer site.program f) Code.NotALayer _ layer
        ∙ needs_met (names_old site.program f a) Code.NamesNewVariable _ old) given
