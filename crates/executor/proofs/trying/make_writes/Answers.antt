use Rattle.std.proofs.Common.{◌≡◌, ◌-◌, ◌∙◌, ap, arith, drop, length, refl, slice_get, Some, sym}
use Rattle.std.proofs.lemmas.Option.{slice_get_read}
use Rattle.meaning_states.specs.Step.{is_inside, written}
use Rattle.core_terms.specs.Steps.{slot_ranges, inside_writes}
use Rattle.executor.specs.Preparing.{write_at}
use Rattle.executor.proofs.PreparingLaws.{writes_before}
use Rattle.executor.proofs.TryingLaws.{all_each, written_join}
use Rattle.executor.proofs.trying.make_writes.Goals as goal

pub make_write-requires-clause-fits : goal.make_write-requires-clause-fits
make_write-requires-clause-fits c =
    c.requires.fits (c.loop-place.place - 1) c.index-writes-place.result
    (slice_get_read c.args.writes.now (length c.args.writes.now)
    (c.loop-place.place - 1) c.index-writes-place.result refl
    (omega arith) c.index-writes-place.is)

pub make_write-requires-clause-inside : goal.make_write-requires-clause-inside
make_write-requires-clause-inside c =
    all_each (is_inside (slot_ranges c.args.slots.now)) c.args.state.now c.args.writes.now (c.loop-place.place - 1)
    c.index-writes-place.result
    (slice_get_read c.args.writes.now (length c.args.writes.now)
    (c.loop-place.place - 1) c.index-writes-place.result refl
    (omega arith) c.index-writes-place.is) c.requires.inside

pub loop-place-preserved : goal.loop-place-preserved
loop-place-preserved c =
    let there : slice_get c.args.writes.now (c.loop-place.place - 1) ≡ Some c.index-writes-place.result =
    slice_get_read c.args.writes.now (length c.args.writes.now)
    (c.loop-place.place - 1) c.index-writes-place.result refl
    (omega arith) c.index-writes-place.is in
    c.make_write.ensures
    ∙ ap (λ s. written s (write_at c.args.state.now c.index-writes-place.result)) c.loop-place.invariant
    ∙ sym (written_join c.args.into.now (write_at c.args.state.now c.index-writes-place.result)
    (inside_writes c.args.state.now (drop c.loop-place.place c.args.writes.now)))
    ∙ ap (written c.args.into.now)
    (writes_before c.args.state.now c.args.writes.now c.loop-place.place _ c.loop-place-test.true there)
