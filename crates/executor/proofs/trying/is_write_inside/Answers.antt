use Rattle.core_terms.specs.declared.programs.CSlot.{CSlot}
use Rattle.std.proofs.Common.{Some, get_or, slice_get, subst}
use Rattle.std.proofs.Common.{◌≡◌, ◌∙◌, [], true, rules, to_z, of_z}
use Rattle.std.specs.Int.{w128}
use Rattle.core_terms.specs.Values.{form_value}
use Rattle.core_terms.specs.Steps.{slot_ranges}
use Rattle.executor.proofs.PreparingLaws.{range_slot}
use Rattle.executor.proofs.TryingLaws.{inside_made}
use Rattle.executor.proofs.StateLaws.{form_runs, term_runs}
use Rattle.executor.proofs.trying.is_write_inside.Goals as goal

pub holds-requires-clause-slots : goal.holds-requires-clause-slots
holds-requires-clause-slots c = (form_runs c.args.slots.now c.args.state.now _ c.requires.state c.requires.fits.1).0

pub holds-requires-clause-weight : goal.holds-requires-clause-weight
holds-requires-clause-weight c = (form_runs c.args.slots.now c.args.state.now _ c.requires.state c.requires.fits.1).2

pub value-requires-clause-slots : goal.value-requires-clause-slots
value-requires-clause-slots c = (term_runs c.args.slots.now c.args.state.now _ c.requires.state c.requires.fits.2).0

pub value-requires-clause-weight : goal.value-requires-clause-weight
value-requires-clause-weight c = (term_runs c.args.slots.now c.args.state.now _ c.requires.state c.requires.fits.2).2

pub returns : goal.returns
returns c =
    let holds : form_value c.args.state.now [] c.args.write.now.when ≡ true = cc in
    let number : to_z w128 (of_z w128 c.value.result) ≡ c.value.result = search rules in
    let slot = c.index-slots-write.result in
    let found = get_or c.args.slots.now c.args.write.now.slot slot in
    inside_made (slot_ranges c.args.slots.now) c.args.state.now c.args.write.now c.lies_in.result
    (to_z w128 (of_z w128 c.value.result)) (found.range.lo, found.range.hi) holds (number ∙ c.value.ensures.value)
    (subst (λ (s : CSlot). slice_get (slot_ranges c.args.slots.now) c.args.write.now.slot
    ≡ Some (s.range.lo, s.range.hi)) c.index-slots-write.is
    (range_slot c.args.slots.now c.args.write.now.slot slot c.requires.fits.0 c.index-slots-write.is))
    c.lies_in.ensures
