use Rattle.std.proofs.Common.{◌+◌, ◌&&◌, ◌∙◌, ap, drop, refl, sym}
use Rattle.std.specs.List.{list_all}
use Rattle.std.proofs.lemmas.Option.{slice_get_read}
use Rattle.meaning_states.specs.Step.{is_inside}
use Rattle.core_terms.specs.Steps.{slot_ranges, inside_writes}
use Rattle.executor.proofs.TryingLaws.{all_from}
use Rattle.executor.proofs.trying.are_inside.Goals as goal

pub is_write_inside-requires-clause-fits : goal.is_write_inside-requires-clause-fits
is_write_inside-requires-clause-fits c =
    c.requires.fits _ _ (slice_get_read _ _ _ _ refl c.loop-write-test.true c.write-item.is)

pub returns-then-not-is_write_inside : goal.returns-then-not-is_write_inside
returns-then-not-is_write_inside c =
    let there = slice_get_read _ _ _ _ refl c.loop-write-test.true c.write-item.is in
    ap (λ b. b && list_all (is_inside (slot_ranges c.args.slots.now))
    (inside_writes c.args.state.now (drop (c.loop-write.write-index + 1) c.args.writes.now)))
    c.if-not-is_write_inside.ensures
    ∙ sym (all_from (is_inside (slot_ranges c.args.slots.now)) c.args.state.now c.args.writes.now
    c.loop-write.write-index _ there)
    ∙ c.loop-write.invariant

pub loop-write-preserved : goal.loop-write-preserved
loop-write-preserved c =
    let there = slice_get_read _ _ _ _ refl c.loop-write-test.true c.write-item.is in
    ap (λ b. b && list_all (is_inside (slot_ranges c.args.slots.now))
    (inside_writes c.args.state.now (drop (c.loop-write.write-index + 1) c.args.writes.now)))
    c.if-not-is_write_inside.ensures
    ∙ sym (all_from (is_inside (slot_ranges c.args.slots.now)) c.args.state.now c.args.writes.now
    c.loop-write.write-index _ there)
    ∙ c.loop-write.invariant
