use Rattle.std.proofs.Common.{◌≡◌, ◌-◌, length, Some, slice_get, refl, sym, ap, ◌∙◌, subst, arith}
use Rattle.std.proofs.lemmas.Option.{slice_get_read}
use Rattle.meaning_states.specs.Step.{is_defined}
use Rattle.core_terms.specs.Steps.{slot_ranges}
use Rattle.executor.specs.Preparing.{IsStepPrepared}
use Rattle.executor.proofs.PreparingLaws.{writes_before, undefined_stays, prepared_still, touches}
use Rattle.executor.proofs.preparing.prepare.Goals as goal

pub add_write-requires-clause-fits : goal.add_write-requires-clause-fits
add_write-requires-clause-fits c =
    c.requires.fits (c.loop-place.place - 1) c.index-writes-place.result
    (slice_get_read c.args.writes.now (length c.args.writes.now)
    (c.loop-place.place - 1) c.index-writes-place.result refl
    (omega arith) c.index-writes-place.is)

pub returns-then-not-add_write-clause-defined : goal.returns-then-not-add_write-clause-defined
returns-then-not-add_write-clause-defined c =
    let ranges = slot_ranges c.args.slots.now in
    let there : slice_get c.args.writes.now (c.loop-place.place - 1) ≡ Some c.index-writes-place.result =
    slice_get_read c.args.writes.now (length c.args.writes.now)
    (c.loop-place.place - 1) c.index-writes-place.result refl
    (omega arith) c.index-writes-place.is in
    let undefined = c.add_write.ensures.refused c.if-not-add_write.true _ c.loop-place.invariant in
    sym (undefined_stays ranges c.args.state.now c.args.writes.now (c.loop-place.place - 1)
    (ap (is_defined ranges)
    (sym (writes_before c.args.state.now c.args.writes.now c.loop-place.place _ c.loop-place-test.true there))
    ∙ undefined))

pub returns-then-not-add_write-clause-touched : goal.returns-then-not-add_write-clause-touched
returns-then-not-add_write-clause-touched c =
    touches (slot_ranges c.args.slots.now) _ _ _ _ c.loop-place.place
    (prepared_still _ _ _ _ _ _ _ (c.add_write.ensures.next c.if-not-add_write.true)
    (c.add_write.ensures.marked c.if-not-add_write.true) c.loop-place.invariant)

pub loop-place-preserved : goal.loop-place-preserved
loop-place-preserved c =
    let there : slice_get c.args.writes.now (c.loop-place.place - 1) ≡ Some c.index-writes-place.result =
    slice_get_read c.args.writes.now (length c.args.writes.now)
    (c.loop-place.place - 1) c.index-writes-place.result refl
    (omega arith) c.index-writes-place.is in
    subst (λ xs. IsStepPrepared
    (slot_ranges c.args.slots.now) c.args.state.now c.add_write.new.next c.add_write.new.marked xs)
    (writes_before c.args.state.now c.args.writes.now c.loop-place.place _ c.loop-place-test.true there)
    (c.add_write.ensures.added c.if-not-add_write.false _ c.loop-place.invariant)

pub returns-clause-touched : goal.returns-clause-touched
returns-clause-touched c = touches (slot_ranges c.args.slots.now) _ _ _ _ c.loop-place.place c.loop-place.invariant
