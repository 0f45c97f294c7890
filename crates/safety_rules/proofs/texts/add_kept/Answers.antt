use Rattle.std.proofs.Common.{◌≡◌, List, map, Option, Some, None, Ok, Err, refl, sym, ap, ◌∙◌, subst}
use Rattle.std.specs.Prelude.{All}
use Rattle.std.proofs.lemmas.Bool.{OnTrue_at}
use Rattle.std.proofs.lemmas.List.{take_all}
use Rattle.std.proofs.lemmas.Option.{slice_get_within}
use Rattle.case_tables.specs.declared.code_table.Code.{Code}
use Rattle.core_terms.specs.declared.trees.Range.{Range}
use Rattle.core_terms.specs.declared.trees.CForm.{CForm}
use Rattle.core_terms.specs.declared.programs.CSlot.{CSlot}
use Rattle.core_terms.specs.declared.programs.CStmt.{CStmt}
use Rattle.core_terms.specs.Conditions.{WriteFits}
use Rattle.wp_substitution.specs.Preconditions.{defined_form, wp_form}
use Rattle.wp_substitution.specs.Oversized.{IsOversized}
use Rattle.wp_substitution.specs.Joined.{joined_all}
use Rattle.wp_substitution.proofs.LightLaws.{writes_light}
use Rattle.rules_table.specs.Forms.{imply}
use Rattle.safety_rules.specs.declared.places.RuleError.{RuleError}
use Rattle.safety_rules.specs.Usable.{NamesExist, IsUsable}
use Rattle.safety_rules.specs.Errors.{precondition_error}
use Rattle.safety_rules.specs.Premises.{implied_by}
use Rattle.safety_rules.specs.Goals.{Added}
use Rattle.safety_rules.proofs.UsableLaws.{item_fits, read_is, all_usable, all_exist, exist_imply, exist_wp}
use Rattle.safety_rules.proofs.UsableLaws.{imply-is}
use Rattle.safety_rules.proofs.PooledLaws.{each_tree}
use Rattle.safety_rules.proofs.AnswerLaws.{none_yet, one_more, loop_fails, all_added}
use Rattle.safety_rules.proofs.ErrorLaws.{handed_on}
use Rattle.safety_rules.proofs.OversizedLaws.{kept_refused, precondition_refused}
use Rattle.safety_rules.proofs.texts.add_kept.Goals as goal

pub loop-s-init : goal.loop-s-init
loop-s-init c = record {
  added = none_yet c.args.pl.now.slots.now c.args.pl.now.params.now _ c.args.goals.now;
  whole = c.in_ok-whole.ensures.whole;
  light = c.in_ok-whole.ensures.light;
  there = c.in_ok-id.ensures.tree ∙ ap Some (c.get.ensures ∙ c.in_ok-held.ensures.tree);
}

pub is_oversized-requires : goal.is_oversized-requires
is_oversized-requires c =
    writes_light c.args.pl.now.slots.now c.get-statement.result.now (item_fits _ _ _ c.loop-s.s-index _ (read_is
    c.as_slice-s-items.result.now c.loop-s.s-index _ _ c.get-statement.ensures c.s-item.is)
    c.loop-s-test.true c.as_slice-s-items.ensures c.requires.place.program.statements)

pub returns-then-branch : goal.returns-then-branch
returns-then-branch c =
    let slots : List CSlot = c.args.pl.now.slots.now in
    let params : List Range = c.args.pl.now.params.now in
    let make : CStmt → CForm =
    λ s. imply c.args.premises.now (wp_form slots s (imply c.args.pl.now.using.now c.args.q.now)) in
    let fits = item_fits slots _ _ c.loop-s.s-index c.get-statement.result.now (read_is c.as_slice-s-items.result.now
    c.loop-s.s-index _ _ c.get-statement.ensures c.s-item.is) c.loop-s-test.true
    c.as_slice-s-items.ensures c.requires.place.program.statements in
    let large = OnTrue_at {P = (slots : List CSlot) → All (WriteFits slots) c.get-statement.result.now.writes →
    IsOversized (defined_form slots c.get-statement.result.now)} c.if-branch.true c.in_ok-is_oversized.ensures.large
    slots
    fits.writes in
    subst (λ ss. Added {T = Unit {0}} (Err (RuleError.Fault Code.FormulaTooLarge)) c.args.goals.now c.loop-s.goals
    slots params (map make ss)) c.as_slice-s-items.ensures
    (loop_fails slots params (Unit {0}) (Unit {0}) (RuleError.Fault Code.FormulaTooLarge) make
    c.as_slice-s-items.result.now c.loop-s.s-index c.get-statement.result.now (make c.get-statement.result.now)
    c.args.goals.now
    c.loop-s.goals c.loop-s.goals c.loop-s-test.true (read_is c.as_slice-s-items.result.now c.loop-s.s-index _ _
    c.get-statement.ensures c.s-item.is) refl
    (kept_refused slots params (Unit {0}) c.loop-s.goals c.loop-s.goals c.args.premises.now
    (imply c.args.pl.now.using.now c.args.q.now) c.get-statement.result.now large))

pub kept-requires-clause-premises : goal.kept-requires-clause-premises
kept-requires-clause-premises c = c.loop-s.invariant.light

pub kept-requires-clause-statement : goal.kept-requires-clause-statement
kept-requires-clause-statement c =
    item_fits _ _ _ c.loop-s.s-index _ (read_is c.as_slice-s-items.result.now c.loop-s.s-index _ _
    c.get-statement.ensures c.s-item.is) c.loop-s-test.true c.as_slice-s-items.ensures
    c.requires.place.program.statements

pub kept-requires-clause-number : goal.kept-requires-clause-number
kept-requires-clause-number c = slice_get_within c.loop-s.pool.forms c.in_ok-id.id.place _ c.loop-s.invariant.there

pub kept-requires-clause-after : goal.kept-requires-clause-after
kept-requires-clause-after c =
    λ f there.
    each_tree (λ g. IsUsable c.args.pl.now.slots.now c.args.pl.now.params.now g) c.loop-s.pool.forms
    c.in_ok-id.id.place (imply c.args.pl.now.using.now c.args.q.now) f c.loop-s.invariant.there there
    (subst (λ g. IsUsable c.args.pl.now.slots.now c.args.pl.now.params.now g) c.in_ok-held.ensures.tree
    c.in_ok-held.ensures.usable)

-- the premises joined make the same formula
made_of : (premises : List CForm) (whole : Option CForm) (form before : CForm) → whole ≡ joined_all None premises →
    form ≡ implied_by whole before → form ≡ imply premises before
made_of premises whole form before e h = h ∙ ap (λ w. implied_by w before) e ∙ imply-is premises before

pub returns-in_err-form : goal.returns-in_err-form
returns-in_err-form c =
    let slots : List CSlot = c.args.pl.now.slots.now in
    let params : List Range = c.args.pl.now.params.now in
    let after : CForm = imply c.args.pl.now.using.now c.args.q.now in
    let make : CStmt → CForm = λ s. imply c.args.premises.now (wp_form slots s after) in
    let e = c.in_err-form.field-0.0 in
    handed_on (λ r. Added r c.args.goals.now c.loop-s.goals slots params
    (map make c.args.pl.now.program.now.statements)) c.from_residual-in_err-form.result
    (precondition_error e) c.from_residual-in_err-form.ensures.1 (subst (λ ss. Added {T = Unit {0}}
    (Err (precondition_error e)) c.args.goals.now c.loop-s.goals slots params (map make ss))
    c.as_slice-s-items.ensures (loop_fails slots params (Unit {0}) (Unit {0}) (precondition_error e) make
    c.as_slice-s-items.result.now c.loop-s.s-index c.get-statement.result.now (make c.get-statement.result.now)
    c.args.goals.now c.loop-s.goals c.loop-s.goals c.loop-s-test.true (read_is c.as_slice-s-items.result.now
    c.loop-s.s-index _ _ c.get-statement.ensures c.s-item.is) refl
    (precondition_refused slots params (Unit {0}) c.loop-s.goals c.loop-s.goals c.args.premises.now after
    c.get-statement.result.now e (c.in_err-form.ensures.too_large after c.loop-s.invariant.there))))

pub add_goal-requires-clause-names : goal.add_goal-requires-clause-names
add_goal-requires-clause-names c =
    let slots : List CSlot = c.args.pl.now.slots.now in
    let params : List Range = c.args.pl.now.params.now in
    let using : List CForm = c.args.pl.now.using.now in
    let fits = item_fits slots _ _ c.loop-s.s-index c.get-statement.result.now (read_is c.as_slice-s-items.result.now
    c.loop-s.s-index _ _ c.get-statement.ensures c.s-item.is) c.loop-s-test.true
    c.as_slice-s-items.ensures c.requires.place.program.statements in
    subst (λ f. NamesExist slots params f) (sym (made_of c.args.premises.now _
    c.in_ok-form.form (wp_form c.args.pl.now.slots.now c.get-statement.result.now
    (imply c.args.pl.now.using.now c.args.q.now)) c.loop-s.invariant.whole
    (c.in_ok-form.ensures.tree (imply c.args.pl.now.using.now c.args.q.now) c.loop-s.invariant.there)))
    (exist_imply slots params c.args.premises.now _ (all_exist slots params c.args.premises.now c.requires.premises)
    (exist_wp slots params c.get-statement.result.now (imply using c.args.q.now) fits
    (exist_imply slots params using c.args.q.now
    (all_exist slots params using (all_usable slots params using c.requires.place.using)) c.requires.q.names)))

pub returns-in_err-add_goal : goal.returns-in_err-add_goal
returns-in_err-add_goal c =
    let slots : List CSlot = c.args.pl.now.slots.now in
    let params : List Range = c.args.pl.now.params.now in
    let make : CStmt → CForm =
    λ s. imply c.args.premises.now (wp_form slots s (imply c.args.pl.now.using.now c.args.q.now)) in
    handed_on (λ r. Added r c.args.goals.now c.add_goal.new.goals slots params
    (map make c.args.pl.now.program.now.statements)) c.from_residual-in_err-add_goal.result
    c.in_err-add_goal.field-0.0 c.from_residual-in_err-add_goal.ensures.1 (subst (λ ss. Added {T = Unit {0}}
    (Err c.in_err-add_goal.field-0.0) c.args.goals.now c.add_goal.new.goals slots params (map make ss))
    c.as_slice-s-items.ensures (loop_fails slots params (Unit {0}) (Unit {0}) c.in_err-add_goal.field-0.0 make
    c.as_slice-s-items.result.now c.loop-s.s-index c.get-statement.result.now c.in_ok-form.form c.args.goals.now
    c.loop-s.goals
    c.add_goal.new.goals c.loop-s-test.true (read_is c.as_slice-s-items.result.now c.loop-s.s-index _ _
    c.get-statement.ensures c.s-item.is) (made_of c.args.premises.now _
    c.in_ok-form.form (wp_form c.args.pl.now.slots.now c.get-statement.result.now
    (imply c.args.pl.now.using.now c.args.q.now)) c.loop-s.invariant.whole
    (c.in_ok-form.ensures.tree (imply c.args.pl.now.using.now c.args.q.now) c.loop-s.invariant.there))
    c.in_err-add_goal.ensures))

pub loop-s-preserved : goal.loop-s-preserved
loop-s-preserved c =
    let after : CForm = imply c.args.pl.now.using.now c.args.q.now in
    record {
      added = one_more c.args.pl.now.slots.now c.args.pl.now.params.now c.in_ok-add_goal.field-0
          (λ (s : CStmt). imply c.args.premises.now (wp_form c.args.pl.now.slots.now s after))
          c.as_slice-s-items.result.now c.loop-s.s-index c.get-statement.result.now c.in_ok-form.form
          c.args.goals.now c.loop-s.goals c.add_goal.new.goals c.loop-s-test.true
          (read_is c.as_slice-s-items.result.now c.loop-s.s-index _ _ c.get-statement.ensures c.s-item.is)
          (made_of c.args.premises.now _ c.in_ok-form.form
          (wp_form c.args.pl.now.slots.now c.get-statement.result.now after) c.loop-s.invariant.whole
          (c.in_ok-form.ensures.tree after c.loop-s.invariant.there)) c.loop-s.invariant.added
          c.in_ok-add_goal.ensures;
      whole = c.loop-s.invariant.whole;
      light = c.loop-s.invariant.light;
      there = c.in_ok-form.ensures.kept c.in_ok-id.id.place after c.loop-s.invariant.there;
    }

pub returns : goal.returns
returns c =
    let slots : List CSlot = c.args.pl.now.slots.now in
    let params : List Range = c.args.pl.now.params.now in
    let make : CStmt → CForm =
    λ s. imply c.args.premises.now (wp_form slots s (imply c.args.pl.now.using.now c.args.q.now)) in
    subst (λ ss. Added (Ok (tt {0})) c.args.goals.now c.loop-s.goals slots params
    (map make ss)) c.as_slice-s-items.ensures
    (all_added slots params (tt {0}) make c.as_slice-s-items.result.now c.loop-s.s-index c.args.goals.now c.loop-s.goals
    (take_all c.loop-s.s-index c.as_slice-s-items.result.now c.loop-s-test.false) c.loop-s.invariant.added)
