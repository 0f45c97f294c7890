use Rattle.std.proofs.Common.{refl}
use Rattle.std.proofs.lemmas.Option.{slice_get_read}
use Rattle.fixed_points.specs.Leaving.{leaves}
use Rattle.fixed_points.proofs.TellingLaws.{one_more, one_fails}
use Rattle.fixed_points.proofs.telling.leaves_all.Goals as goal

pub leaves-requires-clause-fits : goal.leaves-requires-clause-fits
leaves-requires-clause-fits c =
    c.requires.fits _ _ (slice_get_read _ _ _ _ refl c.loop-write-test.true c.write-item.is)

pub returns-then-not-leaves : goal.returns-then-not-leaves
returns-then-not-leaves c =
    one_fails (leaves c.args.state.now) c.args.writes.now c.loop-write.write-index _ c.loop-write-test.true
    c.write-item.is c.if-not-leaves.ensures

pub loop-write-preserved : goal.loop-write-preserved
loop-write-preserved c =
    one_more (leaves c.args.state.now) c.args.writes.now c.loop-write.write-index _ _ c.loop-write-test.true
    c.write-item.is c.if-not-leaves.ensures c.loop-write.invariant
