use Rattle.core_terms.specs.declared.programs.CSlot.{CSlot}
use Rattle.std.proofs.Common.{Some, get_or, slice_get, subst}
use Rattle.std.proofs.Common.{◌≡◌, ◌∙◌, [], ap, arith, rules, slice_set, sym, to_z, of_z, true}
use Rattle.std.specs.Int.{w64, w128}
use Rattle.meaning_states.specs.Step.{put, written}
use Rattle.core_terms.specs.Values.{form_value, term_value}
use Rattle.core_terms.specs.Steps.{slot_ranges}
use Rattle.executor.proofs.StartLaws.{put-slice_set}
use Rattle.executor.proofs.PreparingLaws.{narrow_same, range_slot}
use Rattle.executor.proofs.TryingLaws.{made, not_outside}
use Rattle.executor.proofs.StateLaws.{state_length, form_runs, term_runs}
use Rattle.executor.proofs.trying.make_write.Goals as goal

pub holds-requires-clause-slots : goal.holds-requires-clause-slots
holds-requires-clause-slots c = (form_runs c.args.slots.now c.args.state.now _ c.requires.state c.requires.fits.1).0

pub holds-requires-clause-weight : goal.holds-requires-clause-weight
holds-requires-clause-weight c = (form_runs c.args.slots.now c.args.state.now _ c.requires.state c.requires.fits.1).2

pub value-requires-clause-slots : goal.value-requires-clause-slots
value-requires-clause-slots c = (term_runs c.args.slots.now c.args.state.now _ c.requires.state c.requires.fits.2).0

pub value-requires-clause-weight : goal.value-requires-clause-weight
value-requires-clause-weight c = (term_runs c.args.slots.now c.args.state.now _ c.requires.state c.requires.fits.2).2

pub bounds-into-place : goal.bounds-into-place
bounds-into-place c =
    omega (arith, c.requires.fits.0, c.requires.into, state_length c.args.slots.now c.args.state.now c.requires.state)

pub returns : goal.returns
returns c =
    let holds : form_value c.args.state.now [] c.args.write.now.when ≡ true = cc in
    let number : to_z w128 (of_z w128 c.value.result) ≡ c.value.result = search rules in
    let slot = c.index-slots-place.result in
    let found = get_or c.args.slots.now c.args.write.now.slot slot in
    let given : c.in-Some.number ≡ term_value c.args.state.now [] c.args.write.now.value =
    narrow_same (found.range.lo, found.range.hi) c.in-Some.number (to_z w128 (of_z w128 c.value.result))
    c.in-Some.ensures ∙ number ∙ c.value.ensures.value in
    let narrow : to_z w64 (of_z w64 c.in-Some.number) ≡ c.in-Some.number = search rules in
    ap (slice_set c.args.into.now c.args.write.now.slot) narrow
    ∙ put-slice_set c.args.into.now c.args.write.now.slot c.in-Some.number
    ∙ ap (put c.args.into.now c.args.write.now.slot) given
    ∙ ap (written c.args.into.now) (sym (made c.args.state.now c.args.write.now holds))

pub returns-in-None : goal.returns-in-None
returns-in-None c =
    let holds : form_value c.args.state.now [] c.args.write.now.when ≡ true = cc in
    let number : to_z w128 (of_z w128 c.value.result) ≡ c.value.result = search rules in
    let slot = c.index-slots-place.result in
    let found = get_or c.args.slots.now c.args.write.now.slot slot in
    absurd (not_outside (slot_ranges c.args.slots.now) c.args.state.now c.args.write.now
    (to_z w128 (of_z w128 c.value.result)) (found.range.lo, found.range.hi) holds (number ∙ c.value.ensures.value)
    (subst (λ (s : CSlot). slice_get (slot_ranges c.args.slots.now) c.args.write.now.slot
    ≡ Some (s.range.lo, s.range.hi)) c.index-slots-place.is
    (range_slot c.args.slots.now c.args.write.now.slot slot c.requires.fits.0 c.index-slots-place.is))
    c.in-None.ensures c.requires.inside)
