use Rattle.std.proofs.Common.{◌<◌, ◌≤◌, length, arith}
use Rattle.safety_rules.proofs.ArgumentLaws.{other_count, one_fails, one_passes, all_pass}
use Rattle.safety_rules.proofs.instances.are_arguments.Goals as goal

pub returns-then-params-args : goal.returns-then-params-args
returns-then-params-args c =
    other_count c.args.ranges.now c.args.params.now c.args.args.now c.if-params-args.true

pub returns-then-not-is_argument : goal.returns-then-not-is_argument
returns-then-not-is_argument c =
    let same = c.if-params-args.false in
    let fewer : c.loop-place.place < length c.args.args.now = c.loop-place-test.true in
    let less : c.loop-place.place < length c.args.params.now = omega (arith, same, fewer) in
    one_fails c.args.ranges.now c.args.params.now c.args.args.now c.loop-place.place _ _ c.is_argument.result less fewer
    c.is_argument.ensures c.if-not-is_argument.true c.loop-place.invariant

pub loop-place-preserved : goal.loop-place-preserved
loop-place-preserved c =
    let same = c.if-params-args.false in
    let fewer : c.loop-place.place < length c.args.args.now = c.loop-place-test.true in
    let less : c.loop-place.place < length c.args.params.now = omega (arith, same, fewer) in
    one_passes c.args.ranges.now c.args.params.now c.args.args.now c.loop-place.place _ _ c.is_argument.result less
    fewer
    c.is_argument.ensures c.if-not-is_argument.false c.loop-place.invariant

pub returns : goal.returns
returns c =
    let same = c.if-params-args.false in
    let over : length c.args.args.now ≤ c.loop-place.place = c.loop-place-test.false in
    let past : length c.args.params.now ≤ c.loop-place.place = omega (arith, same, over) in
    all_pass c.args.ranges.now c.args.params.now c.args.args.now c.loop-place.place past over c.loop-place.invariant
