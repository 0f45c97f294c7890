use Rattle.std.proofs.Common.{◌≡◌, ◌++◌, ◌∷◌, [], List, map, Ok, Err, refl, ap, sym, subst}
use Rattle.core_terms.specs.declared.trees.CForm.{CForm}
use Rattle.fair_rounds.specs.declared.records.Record.{Record}
use Rattle.safety_rules.specs.from_rules_table.Forms.{imply}
use Rattle.safety_rules.specs.from_rules_table.Table.{Site, shown_forms}
use Rattle.safety_rules.specs.Answers.{site_of}
use Rattle.safety_rules.specs.Goals.{Added}
use Rattle.safety_rules.proofs.AnswerLaws.{first_part_fails, second_part_added}
use Rattle.safety_rules.proofs.ErrorLaws.{handed_on}
use Rattle.union_theorem.proofs.shown.add_both_shown.Goals as goal

shown_joined : (make : CForm → CForm) (fs gs : List CForm) → map make (fs ++ gs) ≡ map make fs ++ map make gs
shown_joined make [] gs = refl
shown_joined make (f ∷ fs) gs = ap (λ rest. make f ∷ rest) (shown_joined make fs gs)

pub returns-in_err-add_shown : goal.returns-in_err-add_shown
returns-in_err-add_shown c =
    let site : Site = site_of c.args.pl.now in
    let a : Record = c.args.a.now in
    let b : Record = c.args.b.now in
    let e = c.in_err-add_shown.field-0.0 in
    handed_on (λ r. Added r c.args.goals.now c.add_shown.new.goals site.slots site.params (shown_forms site a b))
    c.from_residual.result e c.from_residual.ensures.1
    (subst (λ forms. Added {T = Unit {0}} (Err e) c.args.goals.now c.add_shown.new.goals site.slots site.params forms)
    (sym (shown_joined (imply site.using) a.under b.under))
    (first_part_fails site.slots site.params (Unit {0}) (Unit {0}) e c.args.goals.now c.add_shown.new.goals
    (map (imply site.using) a.under) (map (imply site.using) b.under)
    (subst (λ u. Added {T = Unit {0}} (Err e) c.args.goals.now c.add_shown.new.goals site.slots site.params
    (map (imply site.using) u)) c.as_slice.ensures c.in_err-add_shown.ensures)))

pub returns : goal.returns
returns c =
    let site : Site = site_of c.args.pl.now in
    let a : Record = c.args.a.now in
    let b : Record = c.args.b.now in
    subst (λ forms. Added c.add_shown-2.result c.args.goals.now c.add_shown-2.new.goals site.slots site.params forms)
    (sym (shown_joined (imply site.using) a.under b.under))
    (second_part_added site.slots site.params c.in_ok-add_shown.field-0 c.add_shown-2.result c.args.goals.now
    c.add_shown.new.goals c.add_shown-2.new.goals (map (imply site.using) a.under) (map (imply site.using) b.under)
    (subst (λ u. Added (Ok c.in_ok-add_shown.field-0) c.args.goals.now c.add_shown.new.goals site.slots site.params
    (map (imply site.using) u)) c.as_slice.ensures c.in_ok-add_shown.ensures)
    (subst (λ u. Added c.add_shown-2.result c.add_shown.new.goals c.add_shown-2.new.goals site.slots site.params
    (map (imply site.using) u)) c.as_slice-2.ensures c.add_shown-2.ensures))
