use Rattle.std.proofs.Common.{arith, length, map, refl}
use Rattle.std.proofs.lemmas.Option.{slice_get_read}
use Rattle.trace_watch.specs.Cases.{watched}
use Rattle.trace_watch.specs.Stepping.{watched_as}
use Rattle.trace_watch.proofs.LookLaws.{own_few, watched_more}
use Rattle.trace_watch.proofs.making.steps_of.Goals as goal

pub add_step-requires-clause-few : goal.add_step-requires-clause-few
add_step-requires-clause-few c =
    let there = slice_get_read c.args.records.now (length c.args.records.now) c.loop-place.place
    c.index-records-place.result refl c.loop-place-test.true c.index-records-place.is in
    let few = own_few c.args.p.now c.args.records.now c.loop-place.place c.index-records-place.result there in
    omega (arith, few, c.requires.cases)

pub loop-place-preserved : goal.loop-place-preserved
loop-place-preserved c =
    let there = slice_get_read c.args.records.now (length c.args.records.now) c.loop-place.place
    c.index-records-place.result refl c.loop-place-test.true c.index-records-place.is in (
      c.in_ok-add_step.ensures.fits c.loop-place.invariant.0,
      c.in_ok-add_step.ensures.stands c.loop-place.invariant.1,
      watched_more c.args.p.now c.args.records.now c.loop-place.place c.index-records-place.result
          (map (watched_as c.args.p.now) c.loop-place.steps.items)
          (map (watched_as c.args.p.now) c.add_step.new.steps.items) (watched c.args.p.now c.args.records.now) there
          c.in_ok-add_step.ensures.watched c.loop-place.invariant.2,
    )
