use Rattle.std.proofs.Common.{◌≡◌, ◌-◌, min, true, Some, length, ◌∙◌, ap, suc, ◌∷◌, sym, subst, refl, arith, rules}
use Rattle.obligations.specs.Plain.{waiting_only, plain_leaves, cut_leaves}
use Rattle.obligations.specs.Reach.{are_exact, some_out_of_reach}
use Rattle.obligations.specs.Settling.{settled, added}
use Rattle.search_tree.specs.declared.halves.Half.{Half}
use Rattle.obligations.specs.declared.sides.Side.{Side}
use Rattle.search_tree.specs.Halves.{half_ranges, half_fact}
use Rattle.obligations.specs.Sides.{side_of}
use Rattle.search_tree.proofs.CycleLaws.{whole-again, empty-list, replaced-is, quot-counted}
use Rattle.search_tree.proofs.LeavesLaws.{few-counted, reached-leaf, whole-leaf, opened-leaves, halved-leaves}
use Rattle.search_tree.proofs.LeavesLaws.{quotient-counted, counted-back, part-counted, parts-counted}
use Rattle.search_tree.proofs.ReadyLaws.{ready-some}
use Rattle.search_tree.proofs.ViewLaws.{as-seen, seen-leaves, view-variables, view-exact, in-side, in-quotient, in-half}
use Rattle.search_tree.proofs.ViewLaws.{side-needs, number-fits, quotient-needs, half-needs, halves-need, form-needs}
use Rattle.search_tree.proofs.ViewLaws.{halves-take}
use Rattle.search_tree.proofs.WaitLaws.{quotient-found}
use Rattle.search_tree.proofs.leaves.+leaves.Goals as goal

pub leaves_of_form-leaves_of_quot-requires : goal.leaves_of_form-leaves_of_quot-requires
leaves_of_form-leaves_of_quot-requires t c = (
  search rules,
  (
    c.requires.view,
    (c.requires.rest, (sym c.is_either.ensures ∙ c.if-not-is_either.true, c.requires.ready)),
  ),
)

pub leaves_of_form-returns-then-not-is_either-clause-leaves :
    goal.leaves_of_form-returns-then-not-is_either-clause-leaves
leaves_of_form-returns-then-not-is_either-clause-leaves t c =
    quotient-counted c.args.view.vs.now c.args.view.scope.now c.args.view.rest c.args.view.ranges.now
    c.args.branch.now c.args.form.now
    c.args.wanted c.in_ok-leaves.leaves c.requires.view.scope c.requires.reach
    (sym c.is_either.ensures ∙ c.if-not-is_either.true) c.in_ok-leaves.ensures.leaves

pub leaves_of_form-leaves_of_side-requires : goal.leaves_of_form-leaves_of_side-requires
leaves_of_form-leaves_of_side-requires t c = (
  search rules,
  side-needs c.args.view c.args.branch.now c.args.form.now c.requires.view
      (sym c.is_either.ensures ∙ c.if-not-is_either.false) c.requires.ready Side.First c.args.branch.now refl,
)

pub leaves_of_form-leaves_of_side-requires-2 : goal.leaves_of_form-leaves_of_side-requires-2
leaves_of_form-leaves_of_side-requires-2 t c = (
  search rules,
  side-needs c.args.view c.args.branch.now c.args.form.now c.requires.view
      (sym c.is_either.ensures ∙ c.if-not-is_either.false) c.requires.ready Side.Second _
      c.in_ok-first.ensures.branch,
)

pub leaves_of_form-returns-then-first-wanted-clause-leaves : goal.leaves_of_form-returns-then-first-wanted-clause-leaves
leaves_of_form-returns-then-first-wanted-clause-leaves t c =
    opened-leaves c.args.view.vs.now c.args.view.scope.now c.args.view.rest c.args.view.ranges.now c.args.branch.now
    c.args.form.now
    c.args.wanted c.in_ok-first.first c.requires.view.scope c.requires.reach
    (sym c.is_either.ensures ∙ c.if-not-is_either.false)
    (part-counted c.args.wanted _ _ c.in_ok-first.first c.in_ok-first.ensures.leaves (omega arith))

pub leaves_of_form-returns-clause-leaves : goal.leaves_of_form-returns-clause-leaves
leaves_of_form-returns-clause-leaves t c =
    opened-leaves c.args.view.vs.now c.args.view.scope.now c.args.view.rest c.args.view.ranges.now c.args.branch.now
    c.args.form.now
    c.args.wanted _ c.requires.view.scope c.requires.reach
    (sym c.is_either.ensures ∙ c.if-not-is_either.false)
    (parts-counted c.args.wanted _ _ c.in_ok-first.first c.in_ok-second.second c.in_ok-first.ensures.leaves
    (subst (λ b. c.in_ok-second.second ≡ min (c.args.wanted - c.in_ok-first.first) (plain_leaves c.args.view.vs.now
    c.args.view.rest c.args.view.ranges.now
    (settled c.args.view.scope.now (side_of Side.Second c.args.form.now) b)))
    c.in_ok-first.ensures.branch c.in_ok-second.ensures.leaves))

pub leaves_of_quot-unreachable-requires : goal.leaves_of_quot-unreachable-requires
leaves_of_quot-unreachable-requires t c =
    quotient-found c.args.view.vs.now (suc c.args.view.rest) c.args.view.ranges.now c.args.form.now c.args.branch.now
    _ _
    c.requires.ready c.requires.either c.in_ok-replaced.ensures c.in_default.is

pub leaves_of_quot-overflow_cast-next : goal.leaves_of_quot-overflow_cast-next
leaves_of_quot-overflow_cast-next t c =
    let few = number-fits c.args.view c.args.branch.now c.args.form.now c.requires.view c.requires.rest
    c.requires.ready
    c.next_param-next.result c.next_param-next.ensures in
    grind (arith, few)

pub leaves_of_quot-leaves_without-requires : goal.leaves_of_quot-leaves_without-requires
leaves_of_quot-leaves_without-requires t c = (
  search rules,
  quotient-needs c.args.view c.args.branch.now c.args.form.now c.requires.view c.requires.rest c.requires.ready
      c.in-Some.replaced
      _ _ c.next_param-next.ensures c.in_ok-replaced.ensures c.in-Some.is,
)

pub leaves_of_quot-returns-clause-leaves : goal.leaves_of_quot-returns-clause-leaves
leaves_of_quot-returns-clause-leaves t c =
    let is = replaced-is c.args.view.vs.now c.args.view.scope.now c.args.form.now c.args.branch.now
    c.in-Some.replaced _ _
    c.requires.view.scope c.next_param-next.ensures c.in_ok-replaced.ensures c.in-Some.is in
    let few = c.requires.rest in
    quot-counted c.args.view.vs.now c.args.view.scope.now c.args.view.rest c.args.view.ranges.now c.args.form.now
    c.args.branch.now
    c.in-Some.replaced c.requires.view.scope (omega (arith, few)) is c.args.wanted c.in_ok-leaves.leaves
    c.in_ok-leaves.ensures.leaves

pub leaves_without-some_leaves-requires : goal.leaves_without-some_leaves-requires
leaves_without-some_leaves-requires t c = (
  search rules,
  in-quotient c.args.view c.within.result c.args.branch.now c.take_quotient.new.branch c.args.replaced.now
      c.as_slice.result.now (c.as_slice.ensures ∙ c.in_ok-scope.ensures.scope) c.in_ok-scope.ensures.branch
      c.within.ensures c.requires.view c.requires.ready,
)

pub leaves_without-returns-clause-leaves : goal.leaves_without-returns-clause-leaves
leaves_without-returns-clause-leaves t c =
    seen-leaves c.within.result c.args.view.vs.now c.as_slice.result.now c.args.view.rest c.args.view.ranges.now
    c.args.view.ranges.now _ c.take_quotient.new.branch c.args.wanted c.in_ok-leaves.leaves c.within.ensures refl
    c.in_ok-scope.ensures.branch c.in_ok-leaves.ensures.leaves

pub leaves_of_side-settle_side-requires-clause-variables : goal.leaves_of_side-settle_side-requires-clause-variables
leaves_of_side-settle_side-requires-clause-variables t c =
    view-variables c.args.view c.args.branch.now
    (settled c.args.view.scope.now (side_of c.args.side c.args.form.now) c.args.branch.now) c.requires.view
    c.requires.ready refl

pub leaves_of_side-some_leaves-requires : goal.leaves_of_side-some_leaves-requires
leaves_of_side-some_leaves-requires t c = (
  search rules,
  in-side c.args.view c.args.branch.now c.settle_side.new.branch (side_of c.args.side c.args.form.now)
      c.in_ok-settle_side.ensures.branch c.requires.view c.requires.ready,
)

pub leaves_of_halves-leaves_of_half-requires : goal.leaves_of_halves-leaves_of_half-requires
leaves_of_halves-leaves_of_half-requires t c = (
  search rules,
  half-needs c.args.view c.args.branch.now c.args.halves c.requires.view c.requires.ready c.requires.halves
      c.requires.none Half.Low c.args.branch.now refl,
)

pub leaves_of_halves-leaves_of_half-requires-2 : goal.leaves_of_halves-leaves_of_half-requires-2
leaves_of_halves-leaves_of_half-requires-2 t c = (
  search rules,
  half-needs c.args.view c.args.branch.now c.args.halves c.requires.view c.requires.ready c.requires.halves
      c.requires.none Half.High _ c.in_ok-low.ensures.branch,
)

pub leaves_of_half-some_leaves-requires : goal.leaves_of_half-some_leaves-requires
leaves_of_half-some_leaves-requires t c = (
  search rules,
  in-half c.args.view c.over.result c.args.branch.now c.take_half.new.branch c.args.half c.args.halves
      c.as_slice.result.now (c.as_slice.ensures ∙ c.in_ok-ranges.ensures.ranges) c.in_ok-ranges.ensures.branch
      c.over.ensures
      c.requires.view c.requires.ready,
)

pub leaves_of_half-returns-clause-leaves : goal.leaves_of_half-returns-clause-leaves
leaves_of_half-returns-clause-leaves t c =
    seen-leaves c.over.result c.args.view.vs.now c.args.view.scope.now c.args.view.rest c.as_slice.result.now
    (half_ranges c.args.half c.args.halves c.args.view.ranges.now) (added c.args.branch.now
    (half_fact c.args.half c.args.halves))
    c.take_half.new.branch c.args.wanted c.in_ok-leaves.leaves c.over.ensures
    (c.as_slice.ensures ∙ c.in_ok-ranges.ensures.ranges) c.in_ok-ranges.ensures.branch c.in_ok-leaves.ensures.leaves

pub open_some_leaves-below-requires : goal.open_some_leaves-below-requires
open_some_leaves-below-requires t c =
    ready-some c.args.view.vs.now c.args.view.rest c.args.view.ranges.now c.args.branch.now c.requires.ready
    (omega arith)

pub open_some_leaves-leaves_of_form-requires : goal.open_some_leaves-leaves_of_form-requires
open_some_leaves-leaves_of_form-requires t c =
    let one = ready-some c.args.view.vs.now c.args.view.rest c.args.view.ranges.now c.args.branch.now
    c.requires.ready (omega arith) in (
      search rules,
      form-needs c.args.view c.below.result c.args.branch.now c.requires.view one c.below.ensures c.get.result.now
          c.remove-form.new.self
          (whole-again c.args.branch.now c.remove-form.new.self c.get.result.now
          (c.remove-form.ensures.item ∙ ap Some (sym c.get.ensures)) c.remove-form.ensures.rest)
          c.requires.ready c.requires.reach,
    )

pub open_some_leaves-below-requires-in-Some : goal.open_some_leaves-below-requires-in-Some
open_some_leaves-below-requires-in-Some t c =
    halves-take c.args.view c.args.branch.now c.in-Some.halves c.requires.ready c.in-Some.ensures

pub open_some_leaves-leaves_of_halves-requires : goal.open_some_leaves-leaves_of_halves-requires
open_some_leaves-leaves_of_halves-requires t c =
    let one = halves-take c.args.view c.args.branch.now c.in-Some.halves c.requires.ready c.in-Some.ensures in (
      search rules,
      halves-need c.args.view c.below-in-Some.result c.args.branch.now c.requires.view one c.below-in-Some.ensures
          c.in-Some.halves c.requires.ready c.in-Some.ensures
          (empty-list c.args.branch.now.waiting (omega arith)),
    )

pub open_some_leaves-returns-in_ok-insert-clause-leaves : goal.open_some_leaves-returns-in_ok-insert-clause-leaves
open_some_leaves-returns-in_ok-insert-clause-leaves t c =
    let one = ready-some c.args.view.vs.now c.args.view.rest c.args.view.ranges.now c.args.branch.now
    c.requires.ready (omega arith) in
    counted-back c.args.view.vs.now c.args.view.rest c.args.view.ranges.now c.args.branch.now c.remove-form.new.self
    c.get.result.now c.args.wanted c.in_ok-leaves.leaves one
    (whole-again c.args.branch.now c.remove-form.new.self c.get.result.now
    (c.remove-form.ensures.item ∙ ap Some (sym c.get.ensures)) c.remove-form.ensures.rest)
    (as-seen c.below.ensures (λ vs us k rs. c.in_ok-leaves.leaves ≡ min c.args.wanted
    (plain_leaves vs (suc k) rs (waiting_only c.args.branch.now (c.get.result.now ∷ c.remove-form.new.self))))
    c.in_ok-leaves.ensures.leaves)

pub open_some_leaves-returns-in_ok-leaves-in-Some-clause-leaves :
    goal.open_some_leaves-returns-in_ok-leaves-in-Some-clause-leaves
open_some_leaves-returns-in_ok-leaves-in-Some-clause-leaves t c =
    let h = c.in-Some.halves in
    halved-leaves c.args.view.vs.now c.args.view.rest c.args.view.ranges.now c.args.branch.now h.place h.at
    c.args.wanted
    c.in_ok-leaves-in-Some.leaves
    (halves-take c.args.view c.args.branch.now h c.requires.ready c.in-Some.ensures) c.requires.reach
    (empty-list c.args.branch.now.waiting (omega arith)) c.in-Some.ensures
    (as-seen c.below-in-Some.ensures (λ vs us k rs. c.in_ok-leaves-in-Some.leaves ≡ min c.args.wanted
    (cut_leaves (plain_leaves vs k) rs c.args.branch.now (Some (record { place = h.place; at = h.at }))))
    c.in_ok-leaves-in-Some.ensures.leaves)

pub open_some_leaves-returns-in-None-clause-leaves : goal.open_some_leaves-returns-in-None-clause-leaves
open_some_leaves-returns-in-None-clause-leaves t c =
    whole-leaf c.args.view.vs.now c.args.view.rest c.args.view.ranges.now c.args.branch.now c.args.wanted
    c.requires.wanted
    c.requires.reach (empty-list c.args.branch.now.waiting (omega arith)) c.in-None.ensures

pub some_leaves-some_out_of_reach-requires-clause-variables :
    goal.some_leaves-some_out_of_reach-requires-clause-variables
some_leaves-some_out_of_reach-requires-clause-variables t c =
    view-variables c.args.view c.args.branch.now c.args.branch.now c.requires.view c.requires.ready refl

pub some_leaves-some_out_of_reach-requires-clause-exact : goal.some_leaves-some_out_of_reach-requires-clause-exact
some_leaves-some_out_of_reach-requires-clause-exact t c =
    subst (λ fs. are_exact (length c.args.view.scope.now) fs ≡ true) (sym c.as_slice.ensures)
    (view-exact c.args.view c.args.branch.now c.requires.view c.requires.ready)

pub some_leaves-returns-then-wanted-le1-clause-leaves : goal.some_leaves-returns-then-wanted-le1-clause-leaves
some_leaves-returns-then-wanted-le1-clause-leaves t c =
    few-counted c.args.view.vs.now c.args.view.rest c.args.view.ranges.now c.args.branch.now c.args.wanted
    (omega arith)

pub some_leaves-returns-then-branch-clause-leaves : goal.some_leaves-returns-then-branch-clause-leaves
some_leaves-returns-then-branch-clause-leaves t c =
    reached-leaf c.args.view.vs.now c.args.view.rest c.args.view.ranges.now c.args.branch.now c.args.wanted
    (omega arith)
    (subst (λ fs. some_out_of_reach fs ≡ true) c.as_slice.ensures
    (sym c.in_ok-some_out_of_reach.ensures ∙ c.if-branch.true))
