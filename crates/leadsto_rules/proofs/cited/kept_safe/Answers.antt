use Rattle.std.proofs.Common.{◌≤◌, ◌^◌, List, refl, sym, ap, subst, ◌∙◌}
use Rattle.core_terms.specs.declared.programs.CSlot.{CSlot}
use Rattle.core_terms.specs.declared.trees.Range.{Range}
use Rattle.core_terms.specs.Folding.{and_form, or_form}
use Rattle.core_terms.specs.Weights.{plain_weight}
use Rattle.safety_rules.specs.Foldable.{IsFoldable}
use Rattle.safety_rules.specs.Answers.{site_of}
use Rattle.safety_rules.specs.Usable.{NamesExist}
use Rattle.safety_rules.proofs.lemmas_from_wp_substitution.LightLaws.{form_light}
use Rattle.leadsto_rules.proofs.NodeLaws.{node_gives, foldable, both_hold_exist, kept_exists}
use Rattle.leadsto_rules.proofs.cited.kept_safe.Goals as goal

pub both_of-requires-clause-p : goal.both_of-requires-clause-p
both_of-requires-clause-p c =
    subst (λ f. IsFoldable f) (sym c.get.ensures)
    (foldable c.args.pl.now.slots.now c.args.ranges.now c.args.t.p c.requires.t.p)

pub both_of-requires-clause-q : goal.both_of-requires-clause-q
both_of-requires-clause-q c =
    foldable c.args.pl.now.slots.now c.args.ranges.now c.args.a.now.p c.requires.record.p

pub kept_or_ended-requires-clause-q : goal.kept_or_ended-requires-clause-q
kept_or_ended-requires-clause-q c =
    subst (λ f. plain_weight f ≤ 2 ^ 62) (sym c.get-2.ensures)
    (form_light c.args.pl.now.slots.now c.args.ranges.now c.args.t.q c.requires.t.q)

pub kept_or_ended-requires-clause-before : goal.kept_or_ended-requires-clause-before
kept_or_ended-requires-clause-before c =
    form_light c.args.pl.now.slots.now c.args.ranges.now c.args.a.now.p c.requires.record.p

pub kept_or_ended-requires-clause-after : goal.kept_or_ended-requires-clause-after
kept_or_ended-requires-clause-after c =
    form_light c.args.pl.now.slots.now c.args.ranges.now c.args.a.now.q c.requires.record.q

pub beside-requires-clause-p : goal.beside-requires-clause-p
beside-requires-clause-p c =
    let slots : List CSlot = c.args.pl.now.slots.now in
    let ranges : List Range = c.args.ranges.now in
    let t = c.args.t in
    let a = c.args.a.now in
    subst (λ f. NamesExist slots ranges f)
    (sym (c.get-3.ensures ∙ c.in_ok-p.ensures ∙ ap (λ f. and_form f a.p) c.get.ensures))
    (both_hold_exist slots ranges t.p a.p c.requires.t.p c.requires.record.p)

pub beside-requires-clause-q : goal.beside-requires-clause-q
beside-requires-clause-q c =
    let slots : List CSlot = c.args.pl.now.slots.now in
    let ranges : List Range = c.args.ranges.now in
    let t = c.args.t in
    let a = c.args.a.now in
    subst (λ f. NamesExist slots ranges f)
    (sym (c.get-4.ensures ∙ c.in_ok-q.ensures ∙ ap (λ f. or_form (and_form f a.p) a.q) c.get-2.ensures))
    (kept_exists slots ranges t.q a.p a.q c.requires.t.q c.requires.record.p c.requires.record.q)

pub returns-clause-answer : goal.returns-clause-answer
returns-clause-answer c =
    let a = c.args.a.now in
    node_gives (site_of c.args.pl.now) c.args.ranges.now c.beside.result
    (c.get-3.ensures ∙ c.in_ok-p.ensures ∙ ap (λ f. and_form f a.p) c.get.ensures)
    (c.get-4.ensures ∙ c.in_ok-q.ensures ∙ ap (λ f. or_form (and_form f a.p) a.q) c.get-2.ensures) refl refl refl
    c.beside.ensures.answer
