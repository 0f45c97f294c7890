use Rattle.std.proofs.Common.{ℤ, pos, ◌+ℤ◌, ◌-ℤ◌, [], ◌∷◌, ◌++◌, ◌<◌, ◌≤◌, None, Some, false, get_or, subst, ◌∙◌}
use Rattle.std.proofs.lemmas.Result.{IfOk-weaker}
use Rattle.expand_counting.specs.declared.ranges.NestRange.{NestRange}
use Rattle.expand_counting.specs.Nests.{LeavesRoom, TakesTurns, natural, between}
use Rattle.expand_counting.specs.Conditions.{Narrows, Spans, meeting, sum_over}
use Rattle.expand_counting.proofs.PlanLaws.{count_holds, each_more, each_past, each_end, turns_more}
use Rattle.expand_counting.proofs.walk.+count.Goals as goal

pub count-returns-in-len1-up-plans-clause-count : goal.count-returns-in-len1-up-plans-clause-count
count-returns-in-len1-up-plans-clause-count t c =
    let d : NestRange = record {
      low = record { level = None; minus = false; number = 0 };
      high = record
          { level = None; minus = false; number = 0 };
    } in
    let vs = c.args.values.now in
    let s : Spans vs (get_or c.args.ranges.now 0 d) c.interval-whole.result = subst
    (λ us. Spans us (get_or c.args.ranges.now 0 d) c.interval-whole.result) c.as_slice-in-len1-up-plans.ensures
    c.interval-whole.ensures in
    let n : Narrows vs (get_or c.args.plans.now 0 c.conditions-item.result) c.interval-whole.result
    c.kept-left.result =
    subst (λ cs. Narrows vs cs c.interval-whole.result c.kept-left.result) c.conditions-item.is
    (subst (λ us. Narrows us c.conditions-item.result c.interval-whole.result c.kept-left.result)
    c.as_slice-in-len1-up-plans-2.ensures c.kept-left.ensures) in
    IfOk-weaker c.each.result _ _
    (λ r m. count_holds c.args.ranges.now c.args.plans.now c.args.leaf.now vs c.args.room c.interval-whole.result
    c.kept-left.result d c.conditions-item.result r c.in-len1-up.len_at_least c.in-len1-up-plans.len_at_least
    c.requires.plans s n m)
    c.each.ensures.count

pub each-loop-i-preserved : goal.each-loop-i-preserved
each-loop-i-preserved t c =
    let vs = c.args.values.now in
    let f = λ (z : ℤ). meeting c.args.inner.now c.args.leaf.now (vs ++ z ∷ []) in
    let low = c.args.interval.now.low in
    let n = natural (c.args.interval.now.high +ℤ pos 1 -ℤ low) in
    let b : c.loop-i.i < n = subst (λ m. c.loop-i.i < m) c.how_many-i-end.ensures c.loop-i-test.true in
    let m : LeavesRoom (Some c.in-Some.fewer) c.loop-i.left (f (low +ℤ pos c.loop-i.i)) =
    subst (λ o. LeavesRoom o c.loop-i.left (f (low +ℤ pos c.loop-i.i))) c.in-Some.is
    (subst (λ us. LeavesRoom c.in_ok-fewer.field-0 c.loop-i.left
    (meeting c.args.inner.now c.args.leaf.now (us ++ (low +ℤ pos c.loop-i.i) ∷ []))) c.loop-i.invariant.0
    c.in_ok-fewer.ensures.count) in (
      c.in_ok-fewer.ensures.values ∙ c.loop-i.invariant.0,
      each_more f low c.loop-i.i n c.loop-i.left c.in-Some.fewer (sum_over f (between low c.args.interval.now.high))
          c.args.room b c.loop-i.invariant.1 m,
      turns_more c.args.turns.now c.args.room c.loop-i.turns c.loop-i.left c.at.new.turns c.in-Some.fewer
          c.loop-i.invariant.2
          (subst (λ o. TakesTurns o c.loop-i.left c.loop-i.turns c.at.new.turns) c.in-Some.is
          c.in_ok-fewer.ensures.turns),
    )

pub each-returns-in-None-clause-count : goal.each-returns-in-None-clause-count
each-returns-in-None-clause-count t c =
    let vs = c.args.values.now in
    let f = λ (z : ℤ). meeting c.args.inner.now c.args.leaf.now (vs ++ z ∷ []) in
    let low = c.args.interval.now.low in
    let n = natural (c.args.interval.now.high +ℤ pos 1 -ℤ low) in
    let b : c.loop-i.i < n = subst (λ m. c.loop-i.i < m) c.how_many-i-end.ensures c.loop-i-test.true in
    let m : LeavesRoom None c.loop-i.left (f (low +ℤ pos c.loop-i.i)) =
    subst (λ o. LeavesRoom o c.loop-i.left (f (low +ℤ pos c.loop-i.i))) c.in-None.is
    (subst (λ us. LeavesRoom c.in_ok-fewer.field-0 c.loop-i.left
    (meeting c.args.inner.now c.args.leaf.now (us ++ (low +ℤ pos c.loop-i.i) ∷ []))) c.loop-i.invariant.0
    c.in_ok-fewer.ensures.count) in
    each_past f low c.loop-i.i n c.loop-i.left (sum_over f (between low c.args.interval.now.high)) c.args.room b
    c.loop-i.invariant.1 m

pub each-returns-clause-count : goal.each-returns-clause-count
each-returns-clause-count t c =
    let vs = c.args.values.now in
    let f = λ (z : ℤ). meeting c.args.inner.now c.args.leaf.now (vs ++ z ∷ []) in
    let low = c.args.interval.now.low in
    let n = natural (c.args.interval.now.high +ℤ pos 1 -ℤ low) in
    let b : n ≤ c.loop-i.i = subst (λ m. m ≤ c.loop-i.i) c.how_many-i-end.ensures c.loop-i-test.false in
    each_end f low c.loop-i.i n c.loop-i.left (sum_over f (between low c.args.interval.now.high)) c.args.room b
    c.loop-i.invariant.1
