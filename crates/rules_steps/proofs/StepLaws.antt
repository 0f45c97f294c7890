-- The row of a step, and what a call's answer says of it.
use Rattle.std.proofs.Common.{◌≡◌, Bool, true, false, ◌||◌, List, []}
use Rattle.std.proofs.Common.{Result, Ok, Err, refl, sym, ap, ◌∙◌, subst}
use Rattle.case_tables.specs.declared.code_table.Code.{Code}
use Rattle.core_terms.specs.declared.trees.CForm.{CForm}
use Rattle.core_terms.specs.Conditions.{FormFits, IsStep}
use Rattle.core_terms.specs.Trees.{same_form}
use Rattle.core_terms.proofs.SameLaws.{same_form_is}
use Rattle.meaning_states.proofs.StepTheorems.{and_left, and_right}
use Rattle.core_terms.specs.declared.programs.CSlot.{CSlot}
use Rattle.core_terms.specs.declared.programs.CProgram.{CProgram}
use Rattle.core_terms.specs.declared.documents.CStep.{CStep}
use Rattle.fair_rounds.specs.declared.records.Record.{Record}
use Rattle.safety_rules.specs.from_rules_table.Conclusion.{Conclusion}
use Rattle.safety_rules.specs.from_rules_table.Table.{Site, needs, go_on}
use Rattle.safety_rules.proofs.lemmas_from_rules_table.SiteLaws.{met, went_on}
use Rattle.safety_rules.specs.from_rules_table.Walk.{is_first, has_defined, used, suits, applied, claims, step_site}
use Rattle.safety_rules.specs.from_rules_table.Walk.{Around, rule_of}
use Rattle.safety_rules.proofs.lemmas_from_rules_table.EachLaws.{Each, from_all}
use Rattle.safety_rules.specs.declared.places.Derived.{Derived}
use Rattle.safety_rules.specs.declared.places.RuleError.{RuleError}
use Rattle.safety_rules.specs.Answers.{derived_of, RuleAnswers}
use Rattle.rules_steps.specs.Using.{Uses, IsEntry, BookFits}
use Rattle.rules_steps.proofs.SmallLaws.{IsSmall}
use Rattle.rules_steps.proofs.GoodLaws.{IsGood, good_applied, entry_of}
use Rattle.rules_steps.proofs.UsingLaws.{used_fit}

abbrev pub claim_row : CStep → Result Conclusion Code → Result Conclusion Code
claim_row s row = go_on row (λ x. needs (claims s x) Code.ConclusionDiffers (Ok x))

module _ (seen : Around) (c : CProgram) (s : CStep) (book : List Record) where
  abbrev slots : List CSlot
  slots = seen.slots

  abbrev pub row : Result Conclusion Code
  row = rule_of seen c s book

  abbrev pub applied_row : List CForm → Result Conclusion Code
  applied_row using = claim_row s (applied seen (step_site slots c s using) s book s.rule)

  -- once the invariants that are used are known
  abbrev pub used_row : Result (List CForm) Code → Result Conclusion Code
  used_row r = go_on r (λ using. needs (suits seen.version s.rule s.kind) Code.WrongKind (applied_row using))

  abbrev pub may_stand : Bool
  may_stand = is_first s.kind || has_defined c.name book

  rule-is : row ≡ needs may_stand Code.DefinedMissing (used_row (used c book s.using))
  unfolding rule_of
  rule-is = refl

  pub not_yet : may_stand ≡ false → RuleAnswers (Err (RuleError.Fault Code.DefinedMissing)) slots row
  not_yet missing =
      subst (λ r. RuleAnswers (Err (RuleError.Fault Code.DefinedMissing)) slots r)
      (sym (rule-is ∙ ap (λ (b : Bool). needs b Code.DefinedMissing (used_row (used c book s.using))) missing)) refl

  -- what follows the invariants that are used
  used_so : may_stand ≡ true → (r : Result (List CForm) Code) → used c book s.using ≡ r → row ≡ used_row r
  used_so stands r is =
      rule-is ∙ ap (λ (b : Bool). needs b Code.DefinedMissing (used_row (used c book s.using))) stands
      ∙ ap used_row is

  -- a call that finds the invariants fails
  pub not_used : may_stand ≡ true → (error : RuleError) → Uses (Err error) (used c book s.using) →
      RuleAnswers (Err error) slots row
  not_used stands (RuleError.Fault code) is =
      subst (λ r. RuleAnswers (Err (RuleError.Fault code)) slots r) (sym (used_so stands (Err code) is)) refl
  not_used stands RuleError.Memory is = tt

  pub not_this : may_stand ≡ true → (using : List CForm) → used c book s.using ≡ Ok using →
      suits seen.version s.rule s.kind ≡ false → RuleAnswers (Err (RuleError.Fault Code.WrongKind)) slots row
  not_this stands using is wrong =
      subst (λ r. RuleAnswers (Err (RuleError.Fault Code.WrongKind)) slots r)
      (sym (used_so stands (Ok using) is ∙ ap (λ (b : Bool). needs b Code.WrongKind (applied_row using)) wrong)) refl

  pub given_so : may_stand ≡ true → (using : List CForm) → used c book s.using ≡ Ok using →
      suits seen.version s.rule s.kind ≡ true → (answer : Result Derived RuleError) →
      RuleAnswers answer slots (applied_row using) →
      RuleAnswers answer slots row
  given_so stands using is serves answer given =
      subst (λ r. RuleAnswers answer slots r)
      (sym (used_so stands (Ok using) is ∙ ap (λ (b : Bool). needs b Code.WrongKind (applied_row using)) serves)) given

  -- what the row gives is small, and its record fits
  pub good_step : IsStep slots s → BookFits slots book → (x : Conclusion) → row ≡ Ok x →
      Each (IsSmall slots) x.goals × IsEntry slots x.made
  good_step good fits x is =
      let stands = met may_stand Code.DefinedMissing (used_row (used c book s.using)) x (sym rule-is ∙ is) in
      let u = went_on (used c book s.using)
      (λ (using : List CForm). needs (suits seen.version s.rule s.kind) Code.WrongKind (applied_row using)) x stands.1
      in
      let suited = met (suits seen.version s.rule s.kind) Code.WrongKind (applied_row u.0) x u.2 in
      let site : Site = step_site slots c s u.0 in
      let given = went_on (applied seen site s book s.rule)
      (λ (y : Conclusion). needs (claims s y) Code.ConclusionDiffers (Ok y)) x suited.1 in
      let y : Conclusion = given.0 in
      let claimed = met (claims s y) Code.ConclusionDiffers (Ok y) x given.2 in
      let same : y ≡ x = cc (claimed.1) in
      let using : Each (FormFits slots []) u.0 =
      from_all (FormFits slots []) u.0 (used_fit slots c book fits s.using u.0 u.1) in
      let made : IsGood site s.kind y =
      good_applied seen site s book fits good.params using s.rule suited.0 good.rule y given.1 in
      let p : y.made.p ≡ s.p =
      same_form_is y.made.p s.p (and_left (same_form y.made.p s.p) (same_form y.made.q s.q) claimed.0) in
      let q : y.made.q ≡ s.q =
      same_form_is y.made.q s.q (and_right (same_form y.made.p s.p) (same_form y.made.q s.q) claimed.0) in
      subst (λ (z : Conclusion). Each (IsSmall slots) z.goals × IsEntry slots z.made) same
      (made.small, entry_of slots s y.made good made.params made.under made.helper made.kind_is p q)

-- what a call's answer says of a row

pub answered : (d : Derived) (slots : List CSlot) (r : Result Conclusion Code) → RuleAnswers (Ok d) slots r →
    (x : Conclusion) × (r ≡ Ok x) × (d ≡ derived_of slots x)
answered d _ (Ok x) h = (x, refl, h)
answered d _ (Err code) h = absurd h

pub failed : (code : Code) (slots : List CSlot) (r : Result Conclusion Code) →
    RuleAnswers (Err (RuleError.Fault code)) slots r → r ≡ Err code
failed code _ (Ok x) h = absurd h
failed code _ (Err first) h = ap (λ (k : Code). Err k) (sym h)
