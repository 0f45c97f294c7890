use Rattle.std.proofs.Common.{◌≡◌, ◌+◌, ◌++◌, ◌∷◌, List, map, filter, take, Ok, Err, Some, refl, sym, ap, subst, ◌∙◌}
use Rattle.std.specs.Prelude.{slice_get}
use Rattle.std.proofs.lemmas.List.{take_all}
use Rattle.std.proofs.lemmas.Option.{slice_get_within}
use Rattle.core_terms.specs.declared.trees.Range.{Range}
use Rattle.core_terms.specs.declared.trees.CForm.{CForm}
use Rattle.core_terms.specs.declared.programs.CSlot.{CSlot}
use Rattle.core_terms.specs.declared.programs.CStmt.{CStmt}
use Rattle.obligations.specs.declared.branches.Obligation.{Obligation}
use Rattle.core_terms.specs.Folding.{not_form}
use Rattle.core_terms.specs.Pools.{Pooled}
use Rattle.rules_table.specs.Forms.{imply}
use Rattle.rules_table.specs.Table.{Site, equations, helped_form}
use Rattle.safety_rules.specs.Answers.{site_of}
use Rattle.safety_rules.specs.Errors.{precondition_error}
use Rattle.safety_rules.specs.Usable.{NamesExist, IsUsable}
use Rattle.safety_rules.specs.Goals.{Added}
use Rattle.safety_rules.proofs.UsableLaws.{usable, item_fits, read_is}
use Rattle.safety_rules.proofs.AnswerLaws.{AddedFor, none_yet}
use Rattle.safety_rules.proofs.ErrorLaws.{handed_on}
use Rattle.safety_rules.specs.Helpers.{may_mean}
use Rattle.safety_rules.proofs.FilterLaws.{filter_takes, filter_drops, one_after, still_added, filter_fails}
use Rattle.safety_rules.proofs.FilterLaws.{filter_added}
use Rattle.safety_rules.proofs.NameLaws.{helped_exists}
use Rattle.safety_rules.proofs.OversizedLaws.{precondition_refused}
use Rattle.safety_rules.proofs.PooledLaws.{each_tree}
use Rattle.safety_rules.proofs.ensuring.add_helped.Goals as goal
use Rattle.safety_rules.proofs.ensuring.add_helped.Goals.{
  then-may_mean+in_ok-before+in_ok-form+in_ok-owned_form+in_ok-add_goal,
}
use Rattle.safety_rules.proofs.ensuring.add_helped.Goals.{else-may_mean}

pub after-requires-clause-q : goal.after-requires-clause-q
after-requires-clause-q c = usable c.args.pl.now.slots.now c.args.pl.now.params.now c.args.q.now c.requires.q

pub loop-s-init : goal.loop-s-init
loop-s-init c = record {
  added = none_yet c.args.pl.now.slots.now c.args.pl.now.params.now _ c.args.goals.now;
  there = c.in_ok-id.ensures.tree ∙ ap Some (c.get.ensures ∙ c.in_ok-held.ensures.tree);
}

pub before-requires-clause-statement : goal.before-requires-clause-statement
before-requires-clause-statement c =
    item_fits _ _ _ c.loop-s.s-index _ (read_is c.as_slice-s-items.result.now c.loop-s.s-index _ _
    c.get-statement.ensures c.s-item.is) c.loop-s-test.true c.as_slice-s-items.ensures
    c.requires.place.program.statements

pub before-requires-clause-number : goal.before-requires-clause-number
before-requires-clause-number c = slice_get_within c.loop-s.pool.forms c.in_ok-id.id.place _ c.loop-s.invariant.there

pub before-requires-clause-after : goal.before-requires-clause-after
before-requires-clause-after c =
    λ f there.
    each_tree (λ g. IsUsable c.args.pl.now.slots.now c.args.pl.now.params.now g) c.loop-s.pool.forms
    c.in_ok-id.id.place (imply c.args.pl.now.using.now c.args.q.now) f c.loop-s.invariant.there there
    (subst (λ g. IsUsable c.args.pl.now.slots.now c.args.pl.now.params.now g) c.in_ok-held.ensures.tree
    c.in_ok-held.ensures.usable)

pub returns-in_err-before : goal.returns-in_err-before
returns-in_err-before c =
    let site : Site = site_of c.args.pl.now in
    let after : CForm = imply site.using c.args.q.now in
    let make : CStmt → CForm = helped_form site c.args.p.now c.args.q.now c.args.h.now in
    let test = may_mean c.args.h.now in
    let e = c.in_err-before.field-0.0 in
    handed_on (λ r. Added r c.args.goals.now c.loop-s.goals site.slots site.params
    (map make (filter test c.args.pl.now.program.now.statements)))
    c.from_residual-in_err-before.result (precondition_error e) c.from_residual-in_err-before.ensures.1
    (subst (λ ss. Added {T = Unit {0}}
    (Err (precondition_error e)) c.args.goals.now c.loop-s.goals site.slots site.params (map make (filter test ss)))
    c.as_slice-s-items.ensures
    (filter_fails site.slots site.params (Unit {0})
    (Unit {0}) (precondition_error e) make test c.as_slice-s-items.result.now c.loop-s.s-index
    c.get-statement.result.now (make c.get-statement.result.now) c.may_mean.result c.args.goals.now c.loop-s.goals
    c.loop-s.goals c.loop-s-test.true
    (read_is c.as_slice-s-items.result.now c.loop-s.s-index _ _ c.get-statement.ensures c.s-item.is)
    c.may_mean.ensures c.if-may_mean.true refl
    (precondition_refused site.slots site.params (Unit {0}) c.loop-s.goals c.loop-s.goals
    (site.using ++ (c.args.p.now ∷ not_form c.args.q.now ∷ equations c.args.h.now.args
    c.get-statement.result.now.indices)) after c.get-statement.result.now e
    (c.in_err-before.ensures.too_large after c.loop-s.invariant.there))))

pub helped-requires-clause-helper : goal.helped-requires-clause-helper
helped-requires-clause-helper c = c.requires.helper.args.numbers

pub add_goal-requires-clause-names : goal.add_goal-requires-clause-names
add_goal-requires-clause-names c =
    let slots : List CSlot = c.args.pl.now.slots.now in
    let params : List Range = c.args.pl.now.params.now in
    let using : List CForm = c.args.pl.now.using.now in
    let site : Site = site_of c.args.pl.now in
    let fits = item_fits slots _ _ c.loop-s.s-index _ (read_is c.as_slice-s-items.result.now c.loop-s.s-index _ _
    c.get-statement.ensures c.s-item.is) c.loop-s-test.true c.as_slice-s-items.ensures
    c.requires.place.program.statements in
    subst (λ f. NamesExist slots params f) (sym (c.in_ok-owned_form.ensures ∙ c.in_ok-form.ensures
    ∙ ap (imply (site.using ++ (c.args.p.now ∷ not_form c.args.q.now ∷ equations c.args.h.now.args
    c.get-statement.result.now.indices))) (c.in_ok-before.ensures.tree (imply site.using c.args.q.now)
    c.loop-s.invariant.there)))
    (helped_exists slots params using c.args.p.now c.args.q.now c.args.h.now.args c.get-statement.result.now
    c.requires.place.using c.requires.p c.requires.q c.requires.helper.args.names fits)

pub returns-in_err-add_goal : goal.returns-in_err-add_goal
returns-in_err-add_goal c =
    let site : Site = site_of c.args.pl.now in
    let make : CStmt → CForm = helped_form site c.args.p.now c.args.q.now c.args.h.now in
    let test = may_mean c.args.h.now in
    handed_on (λ r. Added r c.args.goals.now c.add_goal.new.goals site.slots site.params
    (map make (filter test c.args.pl.now.program.now.statements)))
    c.from_residual-in_err-add_goal.result c.in_err-add_goal.field-0.0 c.from_residual-in_err-add_goal.ensures.1
    (subst (λ ss. Added {T = Unit {0}}
    (Err c.in_err-add_goal.field-0.0) c.args.goals.now c.add_goal.new.goals site.slots site.params
    (map make (filter test ss)))
    c.as_slice-s-items.ensures
    (filter_fails site.slots site.params (Unit {0})
    (Unit {0}) c.in_err-add_goal.field-0.0 make test c.as_slice-s-items.result.now c.loop-s.s-index
    c.get-statement.result.now c.in_ok-owned_form.field-0 c.may_mean.result c.args.goals.now c.loop-s.goals
    c.add_goal.new.goals
    c.loop-s-test.true (read_is c.as_slice-s-items.result.now c.loop-s.s-index _ _ c.get-statement.ensures c.s-item.is)
    c.may_mean.ensures c.if-may_mean.true
    (c.in_ok-owned_form.ensures ∙ c.in_ok-form.ensures
    ∙ ap (imply (site.using ++ (c.args.p.now ∷ not_form c.args.q.now ∷ equations c.args.h.now.args
    c.get-statement.result.now.indices))) (c.in_ok-before.ensures.tree (imply site.using c.args.q.now)
    c.loop-s.invariant.there)) c.in_err-add_goal.ensures))

pub loop-s-preserved : goal.loop-s-preserved
loop-s-preserved c =
    let site : Site = site_of c.args.pl.now in
    let make : CStmt → CForm = helped_form site c.args.p.now c.args.q.now c.args.h.now in
    let test = may_mean c.args.h.now in
    let items : List CStmt = c.as_slice-s-items.result.now in
    let i = c.loop-s.s-index in
    elim c.if-may_mean.branch [
      | then-may_mean+in_ok-before+in_ok-form+in_ok-owned_form+in_ok-add_goal w ↦
          record {
            added = subst (λ (os : List Obligation). AddedFor site.slots site.params make
                (filter test (take (i + 1) items)) c.args.goals.now os) (sym w.goals-is)
                (one_after site.slots site.params w.in_ok-add_goal.field-0 make (filter test (take i items))
                (filter test (take (i + 1) items)) c.get-statement.result.now w.in_ok-owned_form.field-0
                c.args.goals.now c.loop-s.goals
                w.add_goal.new.goals
                (filter_takes test items i c.get-statement.result.now c.may_mean.result c.loop-s-test.true (read_is
                c.as_slice-s-items.result.now c.loop-s.s-index _ _ c.get-statement.ensures c.s-item.is)
                c.may_mean.ensures w.if-may_mean.true)
                (w.in_ok-owned_form.ensures ∙ w.in_ok-form.ensures
                ∙ ap (imply (site.using ++ (c.args.p.now ∷ not_form c.args.q.now ∷ equations c.args.h.now.args
                c.get-statement.result.now.indices))) (w.in_ok-before.ensures.tree (imply site.using c.args.q.now)
                c.loop-s.invariant.there)) c.loop-s.invariant.added w.in_ok-add_goal.ensures);
            there = subst (λ (fs : List CForm). slice_get fs c.in_ok-id.id.place ≡ Some (imply site.using c.args.q.now))
                (sym (ap (λ (p : Pooled). p.forms) w.pool-is)) (w.in_ok-before.ensures.kept c.in_ok-id.id.place
                (imply site.using c.args.q.now) c.loop-s.invariant.there);
          }
      | else-may_mean w ↦
          record {
            added = subst (λ (os : List Obligation). AddedFor site.slots site.params make
                (filter test (take (i + 1) items)) c.args.goals.now os) (sym w.goals-is)
                (still_added site.slots site.params make (filter test (take i items)) (filter test (take (i + 1) items))
                c.args.goals.now c.loop-s.goals
                (filter_drops test items i c.get-statement.result.now c.may_mean.result c.loop-s-test.true (read_is
                c.as_slice-s-items.result.now c.loop-s.s-index _ _ c.get-statement.ensures c.s-item.is)
                c.may_mean.ensures w.if-may_mean.false) c.loop-s.invariant.added);
            there = subst (λ (fs : List CForm). slice_get fs c.in_ok-id.id.place ≡ Some (imply site.using c.args.q.now))
                (sym (ap (λ (p : Pooled). p.forms) w.pool-is)) c.loop-s.invariant.there;
          }
    ]

pub returns : goal.returns
returns c =
    let site : Site = site_of c.args.pl.now in
    let make : CStmt → CForm = helped_form site c.args.p.now c.args.q.now c.args.h.now in
    let test = may_mean c.args.h.now in
    subst (λ ss. Added (Ok (tt {0})) c.args.goals.now c.loop-s.goals site.slots site.params
    (map make (filter test ss))) c.as_slice-s-items.ensures
    (filter_added site.slots site.params (tt {0}) make test c.as_slice-s-items.result.now c.loop-s.s-index
    c.args.goals.now c.loop-s.goals
    (take_all c.loop-s.s-index c.as_slice-s-items.result.now c.loop-s-test.false) c.loop-s.invariant.added)
