use Rattle.std.proofs.Common.{◌++◌, ◌∷◌, [], List, map, Ok, Err, sym, subst, ◌∙◌}
use Rattle.std.proofs.lemmas.List.Elements.{All-push}
use Rattle.core_terms.specs.declared.trees.Range.{Range}
use Rattle.core_terms.specs.declared.trees.CForm.{CForm}
use Rattle.core_terms.specs.declared.programs.CSlot.{CSlot}
use Rattle.core_terms.specs.declared.programs.CStmt.{CStmt}
use Rattle.wp_substitution.specs.Preconditions.{wp_form}
use Rattle.rules_table.specs.Forms.{imply}
use Rattle.rules_table.specs.Table.{Site, kept_form, invariant_forms}
use Rattle.safety_rules.specs.Answers.{site_of}
use Rattle.safety_rules.specs.Goals.{Added}
use Rattle.safety_rules.specs.Usable.{IsUsable, NamesExist}
use Rattle.safety_rules.proofs.UsableLaws.{usable, usable_closed, all_usable, all_exist, exist_imply, pushed_usable}
use Rattle.safety_rules.proofs.AnswerLaws.{first_fails, then_added}
use Rattle.safety_rules.proofs.ErrorLaws.{handed_on}
use Rattle.safety_rules.proofs.texts.add_invariant.Goals as goal

pub add_goal-requires-clause-names : goal.add_goal-requires-clause-names
add_goal-requires-clause-names c =
    let slots : List CSlot = c.args.pl.now.slots.now in
    let params : List Range = c.args.pl.now.params.now in
    let using : List CForm = c.args.pl.now.using.now in
    let initially : CForm = c.args.pl.now.program.now.initially in
    subst (λ f. NamesExist slots params f) (sym c.in_ok-first.ensures)
    (exist_imply slots params (using ++ initially ∷ []) c.args.p.now
    (all_exist slots params (using ++ initially ∷ [])
    (All-push (IsUsable slots params) using initially (all_usable slots params using c.requires.place.using)
    (usable_closed slots params initially c.requires.place.program.initially)))
    (usable slots params c.args.p.now c.requires.p).names)

pub returns-in_err-add_goal : goal.returns-in_err-add_goal
returns-in_err-add_goal c =
    let slots : List CSlot = c.args.pl.now.slots.now in
    let params : List Range = c.args.pl.now.params.now in
    let site : Site = site_of c.args.pl.now in
    let others : List CForm = map (kept_form site (c.args.p.now ∷ []) c.args.p.now) site.program.statements in
    handed_on (λ r. Added r c.args.goals.now c.add_goal.new.goals slots params (invariant_forms site c.args.p.now))
    c.from_residual-in_err-add_goal.result c.in_err-add_goal.field-0.0 c.from_residual-in_err-add_goal.ensures.1
    (first_fails slots params (Unit {0}) (Unit {0}) c.in_err-add_goal.field-0.0 c.args.goals.now c.add_goal.new.goals
    (imply (site.using ++ (site.program.initially ∷ [])) c.args.p.now) others
    (subst (λ f. Added {T = Unit {0}}
    (Err c.in_err-add_goal.field-0.0) c.args.goals.now c.add_goal.new.goals slots params (f ∷ []))
    c.in_ok-first.ensures c.in_err-add_goal.ensures))

pub add_kept-requires-clause-premises : goal.add_kept-requires-clause-premises
add_kept-requires-clause-premises c =
    pushed_usable c.args.pl.now.slots.now c.args.pl.now.params.now c.args.pl.now.using.now c.args.p.now
    c.as_slice.result.now (c.as_slice.ensures ∙ c.in_ok-premises.ensures) c.requires.place.using
    (usable c.args.pl.now.slots.now c.args.pl.now.params.now c.args.p.now c.requires.p)

pub add_kept-requires-clause-q : goal.add_kept-requires-clause-q
add_kept-requires-clause-q c = usable c.args.pl.now.slots.now c.args.pl.now.params.now c.args.p.now c.requires.p

pub returns : goal.returns
returns c =
    let slots : List CSlot = c.args.pl.now.slots.now in
    let params : List Range = c.args.pl.now.params.now in
    let site : Site = site_of c.args.pl.now in
    let others : List CForm = map (kept_form site (c.args.p.now ∷ []) c.args.p.now) site.program.statements in
    then_added slots params c.in_ok-add_goal.field-0 c.add_kept.result c.args.goals.now c.add_goal.new.goals
    c.add_kept.new.goals (imply (site.using ++ (site.program.initially ∷ [])) c.args.p.now) others
    (subst (λ f. Added (Ok c.in_ok-add_goal.field-0) c.args.goals.now c.add_goal.new.goals slots params (f ∷ []))
    c.in_ok-first.ensures c.in_ok-add_goal.ensures)
    (subst (λ ps. Added c.add_kept.result c.add_goal.new.goals c.add_kept.new.goals slots params
    (map (λ (s : CStmt). imply ps (wp_form slots s (imply site.using c.args.p.now))) site.program.statements))
    (c.as_slice.ensures ∙ c.in_ok-premises.ensures) c.add_kept.ensures)
