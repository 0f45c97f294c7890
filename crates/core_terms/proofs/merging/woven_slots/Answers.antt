use Rattle.std.proofs.Common.{arith, inl, inr}
use Rattle.core_terms.proofs.MergeLaws.{step_of_first, step_of_second, step_of_both, woven_whole}
use Rattle.core_terms.proofs.merging.woven_slots.Goals as goal
use Rattle.core_terms.proofs.merging.woven_slots.Goals.{then-loop-left-test+else-right-second, else-loop-left-test}

pub loop-left-preserved-then-slot-other : goal.loop-left-preserved-then-slot-other
loop-left-preserved-then-slot-other c =
    step_of_first c.args.first.now c.args.second.now c.loop-left.slots c.push.new.self c.loop-left.left
    c.loop-left.right 0 0 c.loop-left.invariant (omega (arith, c.loop-left-test.true))
    (omega (arith, c.if-right-second.true)) (omega (arith, c.if-slot-other.true)) c.in_ok-push.ensures.ok

pub loop-left-preserved-then-other-slot : goal.loop-left-preserved-then-other-slot
loop-left-preserved-then-other-slot c =
    step_of_second c.args.first.now c.args.second.now c.loop-left.slots c.push-then-other-slot.new.self
    c.loop-left.left c.loop-left.right 0 0 c.loop-left.invariant (omega (arith, c.loop-left-test.true))
    (omega (arith, c.if-right-second.true)) (omega (arith, c.if-other-slot.true)) c.in_ok-push-2.ensures.ok

pub loop-left-preserved : goal.loop-left-preserved
loop-left-preserved c =
    step_of_both c.args.first.now c.args.second.now c.loop-left.slots c.push-else-other-slot.new.self
    c.loop-left.left c.loop-left.right 0 0 c.loop-left.invariant (omega (arith, c.loop-left-test.true))
    (omega (arith, c.if-right-second.true)) (omega (arith, c.if-slot-other.false, c.if-other-slot.false))
    c.in_ok-push-3.ensures.ok

pub returns : goal.returns
returns c =
    woven_whole c.args.first.now c.args.second.now c.loop-left.slots c.add_slots.new.slots c.add_slots-2.new.slots
    c.loop-left.left c.loop-left.right c.loop-left.invariant (elim c.loop-left-test.branch [
      | then-loop-left-test+else-right-second w ↦ inr (omega (arith, w.if-right-second))
      | else-loop-left-test w ↦ inl (omega (arith, w.loop-left-test))
    ]) c.in_ok-add_slots.ensures c.in_ok-add_slots-2.ensures
