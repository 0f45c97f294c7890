use Rattle.std.proofs.Common.{◌++◌, ◌∷◌, ◌||◌, [], Err, sym, ◌∙◌, append-nil}
use Rattle.case_tables.specs.declared.code_table.Code.{Code}
use Rattle.core_terms.specs.declared.trees.CForm.{CForm}
use Rattle.fair_rounds.specs.declared.records.Record.{Record}
use Rattle.rules_table.specs.Forms.{imply}
use Rattle.rules_table.specs.Table.{Site, record_of, weaken_of, is_unless, is_ensures}
use Rattle.rules_table.proofs.RowEquations.{weaken-is}
use Rattle.safety_rules.specs.Answers.{site_of, RuleAnswers}
use Rattle.safety_rules.proofs.UsableLaws.{usable}
use Rattle.safety_rules.proofs.AnswerLaws.{needs_met, needs_not, refused_goals, rule_given, refused, given_by}
use Rattle.rules_table.proofs.CalcSound.{weaken_sound}
use Rattle.safety_rules.proofs.SoundLaws.{site_good, premise_good, answer_stands, error_stands}
use Rattle.safety_rules.proofs.ErrorLaws.{handed_on}
use Rattle.safety_rules.proofs.weakening.weaken_rule.Goals as goal

pub returns-then-not-has_end-clause-answer : goal.returns-then-not-has_end-clause-answer
returns-then-not-has_end-clause-answer c =
    let site : Site = site_of c.args.pl.now in
    refused site.slots Code.WrongKind (weaken_of site c.args.a.now c.args.r.now)
    (weaken-is site c.args.a.now c.args.r.now
    ∙ needs_not (is_unless c.args.a.now.kind || is_ensures c.args.a.now.kind) Code.WrongKind _
    (sym c.has_end.ensures ∙ c.if-not-has_end.true))

pub add_follows-requires-clause-q : goal.add_follows-requires-clause-q
add_follows-requires-clause-q c =
    usable c.args.pl.now.slots.now c.args.pl.now.params.now c.args.a.now.q c.requires.record.q

pub add_follows-requires-clause-r : goal.add_follows-requires-clause-r
add_follows-requires-clause-r c =
    usable c.args.pl.now.slots.now c.args.pl.now.params.now c.args.r.now c.requires.r

pub returns-in_err-add_follows-clause-answer : goal.returns-in_err-add_follows-clause-answer
returns-in_err-add_follows-clause-answer c =
    let site : Site = site_of c.args.pl.now in
    let a : Record = c.args.a.now in
    let r : CForm = c.args.r.now in
    let e = c.in_err-add_follows.field-0.0 in
    handed_on (λ x. RuleAnswers x site.slots (weaken_of site a r)) c.from_residual.result e c.from_residual.ensures.1
    (given_by site.slots (Err e) (weaken_of site a r) _
    (weaken-is site a r
    ∙ needs_met (is_unless a.kind || is_ensures a.kind) Code.WrongKind _
    (sym c.has_end.ensures ∙ c.if-not-has_end.false))
    (refused_goals site.slots site.params (Unit {0}) e c.new-goals.result c.add_follows.new.goals
    (record_of site a.kind a.p r a.under a.helper)
    (imply (site.using ++ (a.q ∷ [])) r ∷ []) c.in_err-add_follows.ensures))

pub returns-clause-answer : goal.returns-clause-answer
returns-clause-answer c =
    let site : Site = site_of c.args.pl.now in
    let a : Record = c.args.a.now in
    let r : CForm = c.args.r.now in
    given_by site.slots c.conclude.result (weaken_of site a r) _
    (weaken-is site a r
    ∙ needs_met (is_unless a.kind || is_ensures a.kind) Code.WrongKind _
    (sym c.has_end.ensures ∙ c.if-not-has_end.false))
    (rule_given c.in_ok-add_follows.field-0 site a.kind a.p r c.in_ok-held_form.field-0
    c.in_ok-held_form-2.field-0 a.under
    (c.as_slice.result.now ++ []) a.helper c.in_ok-copied_helper.field-0 (imply (site.using ++ (a.q ∷ [])) r ∷ [])
    c.new-goals.result c.add_follows.new.goals c.conclude.result c.in_ok-held_form.ensures c.in_ok-held_form-2.ensures
    (append-nil c.as_slice.result.now ∙ c.as_slice.ensures) c.in_ok-copied_helper.ensures c.new-goals.ensures
    c.in_ok-add_follows.ensures c.conclude.ensures)

pub returns-in_err-add_follows-clause-sound : goal.returns-in_err-add_follows-clause-sound
returns-in_err-add_follows-clause-sound c stands =
    error_stands c.args.pl.now c.from_residual.result c.in_err-add_follows.field-0.0 c.from_residual.ensures.1

pub returns-clause-sound : goal.returns-clause-sound
returns-clause-sound c stands =
    answer_stands c.args.pl.now c.conclude.result (weaken_of (site_of c.args.pl.now) c.args.a.now c.args.r.now)
    (λ x e valid. weaken_sound (site_of c.args.pl.now) (site_good c.args.pl.now c.requires.place) c.args.a.now
    c.args.r.now (premise_good c.args.pl.now c.args.a.now c.requires.record stands) x e valid)
    (returns-clause-answer c)
