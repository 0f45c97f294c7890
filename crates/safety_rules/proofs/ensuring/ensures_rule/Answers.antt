use Rattle.std.proofs.Common.{◌≡◌, ◌++◌, List, [], true, Result, Ok, Err, Some, refl, sym, map, ◌∙◌}
use Rattle.std.specs.Result.{IsErrAnd}
use Rattle.case_tables.specs.declared.kind_table.Kind.{Kind}
use Rattle.case_tables.specs.declared.code_table.Code.{Code}
use Rattle.core_terms.specs.declared.trees.CForm.{CForm}
use Rattle.core_terms.specs.declared.documents.Helper.{Helper}
use Rattle.obligations.specs.declared.branches.Obligation.{Obligation}
use Rattle.rules_table.specs.Table.{Site, record_of, is_helper, unless_forms, meant_forms, helped_form, instances_of}
use Rattle.rules_table.specs.Table.{helper_forms, ensures_of}
use Rattle.rules_table.proofs.RowEquations.{ensures-is}
use Rattle.rules_table.proofs.EnsuresSound.{ensures_sound}
use Rattle.safety_rules.specs.declared.places.Derived.{Derived}
use Rattle.safety_rules.specs.declared.places.RuleError.{RuleError}
use Rattle.safety_rules.specs.Answers.{site_of, RuleAnswers}
use Rattle.safety_rules.specs.Goals.{Added}
use Rattle.safety_rules.proofs.AnswerLaws.{needs_met, needs_not, refused_goals, rule_given, refused, given_by}
use Rattle.safety_rules.proofs.SoundLaws.{site_good, answer_stands, error_stands}
use Rattle.safety_rules.proofs.ErrorLaws.{handed_on}
use Rattle.safety_rules.proofs.ensuring.ensures_rule.Goals as goal

module _ (site : Site) (p q : CForm) (h : Helper) where
  abbrev helped_forms : List CForm
  helped_forms = map (helped_form site p q h) (instances_of site h)

  abbrev all_forms : List CForm
  all_forms = unless_forms site p q ++ helper_forms site p q h

  -- an obligation is too large, or memory was refused for it
  not_added : (r : Result Derived RuleError) (e : RuleError) (old new : List Obligation) → is_helper site h ≡ true →
      IsErrAnd r (λ x. x ≡ e) → Added {T = Unit {0}} (Err e) old new site.slots site.params all_forms →
      RuleAnswers r site.slots (ensures_of site p q h)
  not_added r e old new helps handed added =
      handed_on (λ x. RuleAnswers x site.slots (ensures_of site p q h)) r e handed
      (given_by site.slots (Err e) (ensures_of site p q h) _
      (ensures-is site p q h ∙ needs_met (is_helper site h) Code.NoSuchStatement _ helps)
      (refused_goals site.slots site.params (Unit {0}) e old new (record_of site Kind.Ensures p q [] (Some h)) all_forms
      added))

pub returns-then-not-is_helper-clause-answer : goal.returns-then-not-is_helper-clause-answer
returns-then-not-is_helper-clause-answer c =
    let site : Site = site_of c.args.pl.now in
    refused site.slots Code.NoSuchStatement (ensures_of site c.args.p.now c.args.q.now c.args.h.now)
    (ensures-is site c.args.p.now c.args.q.now c.args.h.now
    ∙ needs_not (is_helper site c.args.h.now) Code.NoSuchStatement _
    (sym c.is_helper.ensures ∙ c.if-not-is_helper.true))

pub returns-in_err-ensures_goals-clause-answer : goal.returns-in_err-ensures_goals-clause-answer
returns-in_err-ensures_goals-clause-answer c =
    let site : Site = site_of c.args.pl.now in
    not_added site c.args.p.now c.args.q.now c.args.h.now c.from_residual.result c.in_err-ensures_goals.field-0.0
    c.new-goals.result c.ensures_goals.new.goals (sym c.is_helper.ensures ∙ c.if-not-is_helper.false)
    c.from_residual.ensures.1 c.in_err-ensures_goals.ensures

pub returns-clause-answer : goal.returns-clause-answer
returns-clause-answer c =
    let site : Site = site_of c.args.pl.now in
    let p : CForm = c.args.p.now in
    let q : CForm = c.args.q.now in
    let h : Helper = c.args.h.now in
    given_by site.slots c.conclude.result (ensures_of site p q h) _
    (ensures-is site p q h
    ∙ needs_met (is_helper site h) Code.NoSuchStatement _ (sym c.is_helper.ensures ∙ c.if-not-is_helper.false))
    (rule_given c.in_ok-ensures_goals.field-0 site Kind.Ensures p q c.in_ok-held_form.field-0
    c.in_ok-held_form-2.field-0 [] ([] ++ []) (Some h) c.in_ok-some_helper.field-0 (all_forms site p q h)
    c.new-goals.result c.ensures_goals.new.goals c.conclude.result c.in_ok-held_form.ensures c.in_ok-held_form-2.ensures
    refl c.in_ok-some_helper.ensures c.new-goals.ensures c.in_ok-ensures_goals.ensures c.conclude.ensures)

pub returns-in_err-ensures_goals-clause-sound : goal.returns-in_err-ensures_goals-clause-sound
returns-in_err-ensures_goals-clause-sound c =
    error_stands c.args.pl.now c.from_residual.result c.in_err-ensures_goals.field-0.0 c.from_residual.ensures.1

pub returns-clause-sound : goal.returns-clause-sound
returns-clause-sound c =
    let site : Site = site_of c.args.pl.now in
    answer_stands c.args.pl.now c.conclude.result (ensures_of site c.args.p.now c.args.q.now c.args.h.now)
    (λ x e valid. ensures_sound site (site_good c.args.pl.now c.requires.place) c.args.p.now c.args.q.now
    c.args.h.now x e valid) (returns-clause-answer c)
