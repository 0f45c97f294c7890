use Rattle.std.proofs.Common.{◌≡◌, ◌<◌, length, true, [], ◌∙◌, arith, rules, to_z, of_z}
use Rattle.std.specs.Int.{w128}
use Rattle.core_terms.specs.Values.{form_value}
use Rattle.core_terms.specs.Steps.{slot_ranges}
use Rattle.executor.proofs.StateLaws.{state_length, form_runs, term_runs}
use Rattle.executor.proofs.PreparingLaws.{added, refused}
use Rattle.executor.proofs.preparing.add_write.Goals as goal

pub holds-requires-clause-slots : goal.holds-requires-clause-slots
holds-requires-clause-slots c = (form_runs c.args.slots.now c.args.state.now _ c.requires.state c.requires.fits.1).0

pub holds-requires-clause-weight : goal.holds-requires-clause-weight
holds-requires-clause-weight c = (form_runs c.args.slots.now c.args.state.now _ c.requires.state c.requires.fits.1).2

pub value-number-requires-clause-slots : goal.value-number-requires-clause-slots
value-number-requires-clause-slots c =
    (term_runs c.args.slots.now c.args.state.now _ c.requires.state c.requires.fits.2).0

pub value-number-requires-clause-weight : goal.value-number-requires-clause-weight
value-number-requires-clause-weight c =
    (term_runs c.args.slots.now c.args.state.now _ c.requires.state c.requires.fits.2).2

pub give_number-requires-clause-next : goal.give_number-requires-clause-next
give_number-requires-clause-next c =
    c.requires.next ∙ state_length c.args.slots.now c.args.state.now c.requires.state

pub give_number-requires-clause-marked : goal.give_number-requires-clause-marked
give_number-requires-clause-marked c =
    c.requires.marked ∙ state_length c.args.slots.now c.args.state.now c.requires.state

pub returns-clause-added : goal.returns-clause-added
returns-clause-added c =
    let holds : form_value c.args.state.now [] c.args.write.now.when ≡ true = cc in
    let size = state_length c.args.slots.now c.args.state.now c.requires.state in
    let inside : c.args.write.now.slot < length c.args.state.now = omega (arith, size, c.requires.fits.0) in
    let number : to_z w128 (of_z w128 c.value-number.result) ≡ c.value-number.result = search rules in
    added (slot_ranges c.args.slots.now) c.args.state.now c.args.next.now c.give_number.new.next c.args.marked.now
    c.give_number.new.marked c.args.write.now _ c.give_number.result holds (number ∙ c.value-number.ensures.value)
    inside c.give_number.ensures.addable c.give_number.ensures.put c.give_number.ensures.mark

pub returns-clause-refused : goal.returns-clause-refused
returns-clause-refused c =
    let holds : form_value c.args.state.now [] c.args.write.now.when ≡ true = cc in
    let size = state_length c.args.slots.now c.args.state.now c.requires.state in
    let inside : c.args.write.now.slot < length c.args.state.now = omega (arith, size, c.requires.fits.0) in
    let number : to_z w128 (of_z w128 c.value-number.result) ≡ c.value-number.result = search rules in
    refused (slot_ranges c.args.slots.now) c.args.state.now c.args.next.now c.args.marked.now
    c.args.write.now _ c.give_number.result holds (number ∙ c.value-number.ensures.value)
    inside c.give_number.ensures.addable
