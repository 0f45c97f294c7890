use Rattle.std.proofs.Common.{◌++◌, ◌<◌, subst}
use Rattle.meaning_executions.specs.Counting.{range_size}
use Rattle.expand_rules.specs.Assigning.{spread}
use Rattle.expand_assignments.specs.Adding.{slot_ends}
use Rattle.expand_assignments.proofs.SpreadLaws.{spread_next}
use Rattle.expand_assignments.proofs.arrays.push_spread.Goals as goal

pub loop-place-preserved : goal.loop-place-preserved
loop-place-preserved c =
    let e = c.args.index.now.term in
    let low = c.args.slots.now.ends.lo in
    let n = range_size (slot_ends c.args.slots.now) in
    let i = c.loop-place.place in
    let b : i < n = subst (λ m. i < m) c.len-place-end.ensures c.loop-place-test.true in
    spread_next e low c.args.slots.now.first c.args.c.now.form c.args.v.now i n c.loop-place.writes
    c.push_write.new.writes
    (c.args.writes.now ++ spread e low c.args.slots.now.first n c.args.c.now.form c.args.v.now) b
    c.loop-place.invariant
    c.in_ok-push_write.ensures
