use Rattle.std.proofs.Common.{◌+◌, drop, ap, ◌∙◌}
use Rattle.wp_substitution.specs.Preconditions.{pair_forms}
use Rattle.wp_substitution.specs.Joined.{joined_all}
use Rattle.wp_substitution.proofs.JoinedLaws.{pairs_next, known_rest}
use Rattle.wp_substitution.proofs.definedness.add_pairs.Goals as goal

pub add_pairs_of-requires-clause-others : goal.add_pairs_of-requires-clause-others
add_pairs_of-requires-clause-others c =
    known_rest c.args.writes.now c.as_slice-knowns.result.now (c.loop-place.place + 1)
    (c.as_slice-knowns.ensures ∙ c.in_ok-knowns.ensures.known)

pub loop-place-preserved : goal.loop-place-preserved
loop-place-preserved c =
    let one = c.in_ok-add_pairs_of.ensures in
    let next = pairs_next c.loop-place.all.whole c.args.writes.now c.loop-place.place c.index-writes-place.result
    c.loop-place-test.true c.index-writes-place.is in
    let rest = pair_forms (drop (c.loop-place.place + 1) c.args.writes.now) in
    (ap (λ w. joined_all w rest) one.whole ∙ next ∙ c.loop-place.invariant.0, one.known)
