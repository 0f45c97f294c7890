use Rattle.std.proofs.Common.{Some, List, length, ◌∙◌, ap, suc, ◌∷◌, sym, subst, refl, IfOk, arith, rules}
use Rattle.obligations.specs.declared.branches.Fact.{Fact}
use Rattle.obligations.specs.Plain.{waiting_only, plain_leaves, cut_leaves}
use Rattle.obligations.specs.Settling.{settled, added}
use Rattle.search_tree.specs.declared.halves.Half.{Half}
use Rattle.obligations.specs.declared.sides.Side.{Side}
use Rattle.search_tree.specs.declared.trail.Ended.{Ended}
use Rattle.search_tree.specs.Halves.{half_ranges, half_fact}
use Rattle.search_tree.specs.Searching.{Ends}
use Rattle.obligations.specs.Sides.{side_of}
use Rattle.search_tree.proofs.SearchLaws.{shortly-ends}
use Rattle.search_tree.proofs.ReadyLaws.{leaves-some, ready-some, leaf-count}
use Rattle.search_tree.proofs.CycleLaws.{tried-some, empty-list, taken, not-taken, kept, put-is, stop-is}
use Rattle.search_tree.proofs.CycleLaws.{sides-stopped, sides-first, sides-met, sides-second, halves-stopped}
use Rattle.search_tree.proofs.CycleLaws.{halves-first, halves-met, halves-second, whole-again, opened-ends}
use Rattle.search_tree.proofs.CycleLaws.{halved-ends, quotient-ends, put-back, replaced-is, quot-stopped, quot-went}
use Rattle.search_tree.proofs.ViewLaws.{as-seen, seen-ends, view-variables, view-exact, in-side, in-quotient, in-half}
use Rattle.search_tree.proofs.ViewLaws.{side-needs, number-fits, quotient-needs, the-cut, half-needs, halves-need}
use Rattle.search_tree.proofs.ViewLaws.{form-needs, halves-take}
use Rattle.search_tree.proofs.WaitLaws.{quotient-found}
use Rattle.search_tree.proofs.plain_tree.+search.Goals as goal

pub refute_form-refute_quot-requires : goal.refute_form-refute_quot-requires
refute_form-refute_quot-requires t c = (
  search rules,
  (
    c.requires.view,
    (c.requires.rest, (sym c.is_either.ensures ∙ c.if-not-is_either.true, c.requires.ready)),
  ),
)

pub refute_form-returns-then-not-is_either-clause-ends : goal.refute_form-returns-then-not-is_either-clause-ends
refute_form-returns-then-not-is_either-clause-ends t c =
    quotient-ends c.args.view.vs.now c.args.view.scope.now c.args.view.rest c.args.view.ranges.now c.args.branch.now
    c.args.form.now
    c.args.trail.now c.refute_quot.new.trail c.in_ok-ended.ended c.requires.view.scope c.requires.reach
    (sym c.is_either.ensures ∙ c.if-not-is_either.true) c.in_ok-ended.ensures.ends

pub refute_form-refute_side-requires : goal.refute_form-refute_side-requires
refute_form-refute_side-requires t c = (
  search rules,
  side-needs c.args.view c.args.branch.now c.args.form.now c.requires.view
      (sym c.is_either.ensures ∙ c.if-not-is_either.false) c.requires.ready Side.First c.args.branch.now refl,
)

pub refute_form-refute_side-requires-in-Closed : goal.refute_form-refute_side-requires-in-Closed
refute_form-refute_side-requires-in-Closed t c = (
  search rules,
  side-needs c.args.view c.args.branch.now c.args.form.now c.requires.view
      (sym c.is_either.ensures ∙ c.if-not-is_either.false) c.requires.ready Side.Second _
      (kept c.in_ok-refute_side.field-0 c.refute_side.new.branch c.args.branch.now c.in-Closed.is
      c.in_ok-refute_side.ensures.branch),
)

pub refute_form-returns-then-not-branch-clause-ends : goal.refute_form-returns-then-not-branch-clause-ends
refute_form-returns-then-not-branch-clause-ends t c =
    let either = sym c.is_either.ensures ∙ c.if-not-is_either.false in
    opened-ends c.args.view.vs.now c.args.view.scope.now c.args.view.rest c.args.view.ranges.now c.args.branch.now
    c.args.form.now
    c.args.trail.now c.put_node.new.trail Ended.Stopped c.requires.view.scope
    c.requires.reach either
    (sides-stopped c.args.view.vs.now c.args.view.scope.now c.args.view.rest c.args.view.ranges.now c.args.form.now
    c.args.branch.now
    c.requires.view.scope (omega arith) either
    c.args.trail.now c.put_node.new.trail
    (not-taken _ _ c.in_ok-put_node.ensures c.if-not-branch.true))

pub refute_form-returns-in_ok-ended-in-Closed-clause-ends : goal.refute_form-returns-in_ok-ended-in-Closed-clause-ends
refute_form-returns-in_ok-ended-in-Closed-clause-ends t c =
    let either = sym c.is_either.ensures ∙ c.if-not-is_either.false in
    let put = taken _ _ c.in_ok-put_node.ensures c.if-not-branch.false in
    opened-ends c.args.view.vs.now c.args.view.scope.now c.args.view.rest c.args.view.ranges.now c.args.branch.now
    c.args.form.now
    c.args.trail.now c.refute_side-in-Closed.new.trail c.in_ok-ended-in-Closed.ended c.requires.view.scope
    c.requires.reach either
    (sides-second c.args.view.vs.now c.args.view.scope.now c.args.view.rest c.args.view.ranges.now c.args.form.now
    c.args.branch.now
    c.requires.view.scope (omega arith) either
    c.args.trail.now c.put_node.new.trail c.refute_side.new.trail c.refute_side-in-Closed.new.trail
    c.in_ok-refute_side.field-0 c.in_ok-ended-in-Closed.ended c.refute_side.new.branch
    (record { nodes = put.0; spare = put.1 }) c.in-Closed.is c.in_ok-refute_side.ensures.ends
    c.in_ok-refute_side.ensures.branch c.in_ok-ended-in-Closed.ensures.ends)

pub refute_form-returns-in-Stopped-clause-ends : goal.refute_form-returns-in-Stopped-clause-ends
refute_form-returns-in-Stopped-clause-ends t c =
    let either = sym c.is_either.ensures ∙ c.if-not-is_either.false in
    let put = taken _ _ c.in_ok-put_node.ensures c.if-not-branch.false in
    opened-ends c.args.view.vs.now c.args.view.scope.now c.args.view.rest c.args.view.ranges.now c.args.branch.now
    c.args.form.now
    c.args.trail.now c.refute_side.new.trail Ended.Stopped c.requires.view.scope
    c.requires.reach either
    (sides-first c.args.view.vs.now c.args.view.scope.now c.args.view.rest c.args.view.ranges.now c.args.form.now
    c.args.branch.now
    c.requires.view.scope (omega arith) either
    c.args.trail.now c.put_node.new.trail c.refute_side.new.trail
    c.in_ok-refute_side.field-0 (record { nodes = put.0; spare = put.1 }) c.in-Stopped.is
    c.in_ok-refute_side.ensures.ends)

pub refute_form-returns-in-Refuted-clause-ends : goal.refute_form-returns-in-Refuted-clause-ends
refute_form-returns-in-Refuted-clause-ends t c =
    let either = sym c.is_either.ensures ∙ c.if-not-is_either.false in
    opened-ends c.args.view.vs.now c.args.view.scope.now c.args.view.rest c.args.view.ranges.now c.args.branch.now
    c.args.form.now
    c.args.trail.now c.refute_side.new.trail (Ended.Refuted c.in-Refuted.values) c.requires.view.scope
    c.requires.reach either
    (sides-met c.args.view.vs.now c.args.view.scope.now c.args.view.rest c.args.view.ranges.now c.args.form.now
    c.args.branch.now
    c.requires.view.scope (omega arith) either
    c.put_node.new.trail c.refute_side.new.trail
    c.in_ok-refute_side.field-0 c.in-Refuted.values c.in-Refuted.is c.in_ok-refute_side.ensures.ends)

pub refute_quot-unreachable-requires : goal.refute_quot-unreachable-requires
refute_quot-unreachable-requires t c =
    quotient-found c.args.view.vs.now (suc c.args.view.rest) c.args.view.ranges.now c.args.form.now c.args.branch.now
    _ _
    c.requires.ready c.requires.either c.in_ok-replaced.ensures c.in_default.is

pub refute_quot-overflow_cast-next : goal.refute_quot-overflow_cast-next
refute_quot-overflow_cast-next t c =
    let few = number-fits c.args.view c.args.branch.now c.args.form.now c.requires.view c.requires.rest
    c.requires.ready
    c.next_param-next.result c.next_param-next.ensures in
    grind (arith, few)

pub refute_quot-refute_without-requires : goal.refute_quot-refute_without-requires
refute_quot-refute_without-requires t c = (
  search rules,
  quotient-needs c.args.view c.args.branch.now c.args.form.now c.requires.view c.requires.rest c.requires.ready
      c.in-Some.replaced
      _ _ c.next_param-next.ensures c.in_ok-replaced.ensures c.in-Some.is,
)

pub refute_quot-returns-then-not-branch-clause-ends : goal.refute_quot-returns-then-not-branch-clause-ends
refute_quot-returns-then-not-branch-clause-ends t c =
    let is = replaced-is c.args.view.vs.now c.args.view.scope.now c.args.form.now c.args.branch.now
    c.in-Some.replaced _ _
    c.requires.view.scope c.next_param-next.ensures c.in_ok-replaced.ensures c.in-Some.is in
    quot-stopped c.args.view.vs.now c.args.view.scope.now c.args.view.rest c.args.view.ranges.now c.args.form.now
    c.args.branch.now
    c.in-Some.replaced c.requires.view.scope (omega arith) is c.args.trail.now c.put_node.new.trail
    (not-taken _ _ c.in_ok-put_node.ensures c.if-not-branch.true)

pub refute_quot-returns-clause-ends : goal.refute_quot-returns-clause-ends
refute_quot-returns-clause-ends t c =
    let is = replaced-is c.args.view.vs.now c.args.view.scope.now c.args.form.now c.args.branch.now
    c.in-Some.replaced _ _
    c.requires.view.scope c.next_param-next.ensures c.in_ok-replaced.ensures c.in-Some.is in
    let put = taken _ _ c.in_ok-put_node.ensures c.if-not-branch.false in
    let closed = c.requires.ready.closed in
    quot-went c.args.view.vs.now c.args.view.scope.now c.args.view.rest c.args.view.ranges.now c.args.form.now
    c.args.branch.now
    c.in-Some.replaced c.requires.view.scope (omega arith) is c.args.trail.now c.put_node.new.trail
    c.refute_without.new.trail c.in_ok-ended.ended (record { nodes = put.0; spare = put.1 }) closed.waiting.0
    (record { facts = closed.facts; waiting = closed.waiting.1 }) c.in_ok-ended.ensures.ends

pub refute_without-refute-requires : goal.refute_without-refute-requires
refute_without-refute-requires t c = (
  search rules,
  in-quotient c.args.view c.within.result c.args.branch.now c.take_quotient.new.branch c.args.replaced.now
      c.as_slice.result.now (c.as_slice.ensures ∙ c.in_ok-scope.ensures.scope) c.in_ok-scope.ensures.branch
      c.within.ensures c.requires.view c.requires.ready,
)

pub refute_without-returns-clause-ends : goal.refute_without-returns-clause-ends
refute_without-returns-clause-ends t c =
    seen-ends c.within.result c.args.view.vs.now c.as_slice.result.now c.args.view.rest c.args.view.ranges.now
    c.args.view.ranges.now _ c.take_quotient.new.branch c.args.trail.now c.refute.new.trail c.in_ok-ended.ended
    c.within.ensures refl c.in_ok-scope.ensures.branch c.in_ok-ended.ensures.ends

pub refute_side-settle_side-requires-clause-variables : goal.refute_side-settle_side-requires-clause-variables
refute_side-settle_side-requires-clause-variables t c =
    view-variables c.args.view c.args.branch.now
    (settled c.args.view.scope.now (side_of c.args.side c.args.form.now) c.args.branch.now) c.requires.view
    c.requires.ready refl

pub refute_side-refute-requires : goal.refute_side-refute-requires
refute_side-refute-requires t c = (
  search rules,
  in-side c.args.view c.args.branch.now c.settle_side.new.branch (side_of c.args.side c.args.form.now)
      c.in_ok-settle_side.ensures.branch c.requires.view c.requires.ready,
)

pub refute_halves-refute_half-requires : goal.refute_halves-refute_half-requires
refute_halves-refute_half-requires t c = (
  search rules,
  half-needs c.args.view c.args.branch.now c.args.halves c.requires.view c.requires.ready c.requires.halves
      c.requires.none Half.Low c.args.branch.now refl,
)

pub refute_halves-refute_half-requires-in-Closed : goal.refute_halves-refute_half-requires-in-Closed
refute_halves-refute_half-requires-in-Closed t c = (
  search rules,
  half-needs c.args.view c.args.branch.now c.args.halves c.requires.view c.requires.ready c.requires.halves
      c.requires.none Half.High _
      (kept c.in_ok-refute_half.field-0 c.refute_half.new.branch c.args.branch.now c.in-Closed.is
      c.in_ok-refute_half.ensures.branch),
)

pub refute_halves-returns-then-not-branch-clause-ends : goal.refute_halves-returns-then-not-branch-clause-ends
refute_halves-returns-then-not-branch-clause-ends t c =
    let cut = the-cut c.args.view c.args.branch.now c.args.halves c.requires.view c.requires.ready c.requires.halves
    c.requires.none in
    halves-stopped c.args.view.vs.now c.args.view.rest c.args.view.ranges.now c.args.halves.place c.args.halves.at
    c.args.branch.now
    cut.simple (omega arith) c.args.trail.now c.put_node.new.trail
    (stop-is c.args.trail.now c.put_node.new.trail c.split_node.result _ c.split_node.ensures
    (not-taken _ _ c.in_ok-put_node.ensures c.if-not-branch.true))

pub refute_halves-returns-in_ok-ended-in-Closed-clause-ends :
    goal.refute_halves-returns-in_ok-ended-in-Closed-clause-ends
refute_halves-returns-in_ok-ended-in-Closed-clause-ends t c =
    let cut = the-cut c.args.view c.args.branch.now c.args.halves c.requires.view c.requires.ready c.requires.halves
    c.requires.none in
    let long = c.requires.ready.long in
    let inside = cut.inside in
    let put = taken _ _ c.in_ok-put_node.ensures c.if-not-branch.false in
    halves-second c.args.view.vs.now c.args.view.rest c.args.view.ranges.now c.args.halves.place c.args.halves.at
    c.args.branch.now
    cut.simple (omega arith) c.args.trail.now c.put_node.new.trail c.refute_half.new.trail
    c.refute_half-in-Closed.new.trail
    c.in_ok-refute_half.field-0 c.in_ok-ended-in-Closed.ended c.refute_half.new.branch (omega (arith, long, inside))
    (put-is c.args.trail.now c.put_node.new.trail c.split_node.result _ c.split_node.ensures put) c.in-Closed.is
    c.in_ok-refute_half.ensures.ends
    c.in_ok-refute_half.ensures.branch c.in_ok-ended-in-Closed.ensures.ends

pub refute_halves-returns-in-Stopped-clause-ends : goal.refute_halves-returns-in-Stopped-clause-ends
refute_halves-returns-in-Stopped-clause-ends t c =
    let cut = the-cut c.args.view c.args.branch.now c.args.halves c.requires.view c.requires.ready c.requires.halves
    c.requires.none in
    let long = c.requires.ready.long in
    let inside = cut.inside in
    let put = taken _ _ c.in_ok-put_node.ensures c.if-not-branch.false in
    halves-first c.args.view.vs.now c.args.view.rest c.args.view.ranges.now c.args.halves.place c.args.halves.at
    c.args.branch.now
    cut.simple (omega arith) c.args.trail.now c.put_node.new.trail c.refute_half.new.trail
    c.in_ok-refute_half.field-0 (omega (arith, long, inside))
    (put-is c.args.trail.now c.put_node.new.trail c.split_node.result _ c.split_node.ensures put) c.in-Stopped.is
    c.in_ok-refute_half.ensures.ends

pub refute_halves-returns-in-Refuted-clause-ends : goal.refute_halves-returns-in-Refuted-clause-ends
refute_halves-returns-in-Refuted-clause-ends t c =
    let cut = the-cut c.args.view c.args.branch.now c.args.halves c.requires.view c.requires.ready c.requires.halves
    c.requires.none in
    halves-met c.args.view.vs.now c.args.view.rest c.args.view.ranges.now c.args.halves.place c.args.halves.at
    c.args.branch.now
    cut.simple (omega arith) c.put_node.new.trail c.refute_half.new.trail
    c.in_ok-refute_half.field-0 c.in-Refuted.values c.in-Refuted.is c.in_ok-refute_half.ensures.ends

pub refute_half-refute-requires : goal.refute_half-refute-requires
refute_half-refute-requires t c = (
  search rules,
  in-half c.args.view c.over.result c.args.branch.now c.take_half.new.branch c.args.half c.args.halves
      c.as_slice.result.now (c.as_slice.ensures ∙ c.in_ok-ranges.ensures.ranges) c.in_ok-ranges.ensures.branch
      c.over.ensures
      c.requires.view c.requires.ready,
)

pub refute_half-returns-clause-ends : goal.refute_half-returns-clause-ends
refute_half-returns-clause-ends t c =
    seen-ends c.over.result c.args.view.vs.now c.args.view.scope.now c.args.view.rest c.as_slice.result.now
    (half_ranges c.args.half c.args.halves c.args.view.ranges.now) (added c.args.branch.now
    (half_fact c.args.half c.args.halves))
    c.take_half.new.branch c.args.trail.now c.refute.new.trail c.in_ok-ended.ended c.over.ensures
    (c.as_slice.ensures ∙ c.in_ok-ranges.ensures.ranges) c.in_ok-ranges.ensures.branch c.in_ok-ended.ensures.ends

pub refute_open-below-requires : goal.refute_open-below-requires
refute_open-below-requires t c =
    ready-some c.args.view.vs.now c.args.view.rest c.args.view.ranges.now c.args.branch.now c.requires.ready
    (omega arith)

pub refute_open-refute_form-requires : goal.refute_open-refute_form-requires
refute_open-refute_form-requires t c =
    let one = ready-some c.args.view.vs.now c.args.view.rest c.args.view.ranges.now c.args.branch.now
    c.requires.ready (omega arith) in (
      search rules,
      form-needs c.args.view c.below.result c.args.branch.now c.requires.view one c.below.ensures c.get.result.now
          c.remove-form.new.self
          (whole-again c.args.branch.now c.remove-form.new.self c.get.result.now
          (c.remove-form.ensures.item ∙ ap Some (sym c.get.ensures)) c.remove-form.ensures.rest)
          c.requires.ready c.requires.reach,
    )

pub refute_open-below-requires-in-Some : goal.refute_open-below-requires-in-Some
refute_open-below-requires-in-Some t c =
    halves-take c.args.view c.args.branch.now c.in-Some.halves c.requires.ready c.in-Some.ensures

pub refute_open-refute_halves-requires : goal.refute_open-refute_halves-requires
refute_open-refute_halves-requires t c =
    let one = halves-take c.args.view c.args.branch.now c.in-Some.halves c.requires.ready c.in-Some.ensures in (
      search rules,
      halves-need c.args.view c.below-in-Some.result c.args.branch.now c.requires.view one c.below-in-Some.ensures
          c.in-Some.halves c.requires.ready c.in-Some.ensures
          (empty-list c.args.branch.now.waiting (omega arith)),
    )

pub refute_open-returns-in-None-clause-ends : goal.refute_open-returns-in-None-clause-ends
refute_open-returns-in-None-clause-ends t c =
    subst (λ n. IfOk c.refute_leaf.result (λ e. Ends c.args.view.vs.now c.args.view.rest n c.args.branch.now
    c.args.trail.now
    c.refute_leaf.new.trail e))
    (sym (leaf-count c.args.view.vs.now c.args.view.rest c.args.view.ranges.now c.args.branch.now c.requires.reach
    (empty-list c.args.branch.now.waiting (omega arith)) c.in-None.ensures)) c.refute_leaf.ensures

pub refute_open-returns-in_ok-insert-clause-ends : goal.refute_open-returns-in_ok-insert-clause-ends
refute_open-returns-in_ok-insert-clause-ends t c =
    let one = ready-some c.args.view.vs.now c.args.view.rest c.args.view.ranges.now c.args.branch.now
    c.requires.ready (omega arith) in
    put-back c.args.view.vs.now c.args.view.rest c.args.view.ranges.now c.args.branch.now c.remove-form.new.self
    c.get.result.now
    c.args.trail.now c.refute_form.new.trail c.in_ok-ended.ended one
    (whole-again c.args.branch.now c.remove-form.new.self c.get.result.now
    (c.remove-form.ensures.item ∙ ap Some (sym c.get.ensures)) c.remove-form.ensures.rest)
    (as-seen c.below.ensures (λ vs us k rs. let whole = waiting_only c.args.branch.now
    (c.get.result.now ∷ c.remove-form.new.self) in
    Ends vs (suc k) (plain_leaves vs (suc k) rs whole) whole c.args.trail.now c.refute_form.new.trail
    c.in_ok-ended.ended) c.in_ok-ended.ensures.ends)

pub refute_open-returns-in_ok-ended-in-Some-clause-ends : goal.refute_open-returns-in_ok-ended-in-Some-clause-ends
refute_open-returns-in_ok-ended-in-Some-clause-ends t c =
    let h = c.in-Some.halves in
    halved-ends c.args.view.vs.now c.args.view.rest c.args.view.ranges.now c.args.branch.now h.place h.at
    c.args.trail.now
    c.refute_halves.new.trail c.in_ok-ended-in-Some.ended
    (halves-take c.args.view c.args.branch.now h c.requires.ready c.in-Some.ensures) c.requires.reach
    (empty-list c.args.branch.now.waiting (omega arith)) c.in-Some.ensures
    (as-seen c.below-in-Some.ensures (λ vs us k rs. Ends vs (suc k)
    (cut_leaves (plain_leaves vs k) rs c.args.branch.now (Some (record { place = h.place; at = h.at })))
    c.args.branch.now
    c.args.trail.now c.refute_halves.new.trail c.in_ok-ended-in-Some.ended) c.in_ok-ended-in-Some.ensures.ends)

pub refute-returns-in-Some-clause-ends : goal.refute-returns-in-Some-clause-ends
refute-returns-in-Some-clause-ends t c =
    let facts : List Fact = c.args.branch.now.facts in
    let tried = tried-some (length c.args.view.scope.now) facts facts c.args.trail.now c.try_close.new.trail _
    c.in_ok-ended.field-0 c.in-Some.ended refl c.in_ok-ended.ensures c.in-Some.is in
    shortly-ends c.args.view.vs.now c.args.view.scope.now c.args.view.rest
    (plain_leaves c.args.view.vs.now c.args.view.rest c.args.view.ranges.now c.args.branch.now) c.args.branch.now
    c.args.trail.now
    c.try_close.new.trail c.in-Some.ended c.requires.view.scope
    (leaves-some c.args.view.vs.now c.args.view.rest c.args.view.ranges.now c.args.branch.now) tried

pub refute-try_close-requires-clause-variables : goal.refute-try_close-requires-clause-variables
refute-try_close-requires-clause-variables t c =
    view-variables c.args.view c.args.branch.now c.args.branch.now c.requires.view c.requires.ready refl

pub refute-try_close-requires-clause-exact : goal.refute-try_close-requires-clause-exact
refute-try_close-requires-clause-exact t c = view-exact c.args.view c.args.branch.now c.requires.view c.requires.ready
