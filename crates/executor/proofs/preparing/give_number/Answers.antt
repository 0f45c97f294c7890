use Rattle.std.proofs.Common.{◌≡◌, ◌∙◌, ap, sym, subst, get_or, rules, slice_set, Some, None, cond, not, ◌||◌, true}
use Rattle.std.proofs.Common.{false, to_z, of_z}
use Rattle.std.specs.Int.{w64, w128}
use Rattle.meaning_states.specs.State.{in_range, int_eq}
use Rattle.meaning_states.specs.Step.{put}
use Rattle.core_terms.specs.declared.programs.CSlot.{CSlot}
use Rattle.core_terms.specs.Values.{number_at}
use Rattle.core_terms.specs.Steps.{slot_ranges}
use Rattle.executor.proofs.StartLaws.{put-slice_set}
use Rattle.executor.proofs.PreparingLaws.{narrow_same, range_slot, addable_now}
use Rattle.executor.proofs.preparing.give_number.Goals as goal

pub returns-clause-addable : goal.returns-clause-addable
returns-clause-addable c =
    let number : to_z w128 (of_z w128 c.args.number) ≡ c.args.number = search rules in
    let same : to_z w64 (of_z w64 c.in-Some.number) ≡ c.in-Some.number = search rules in
    let slot = c.index-slots-place.result in
    let found = get_or c.args.slots.now c.args.slot slot in
    let wide = subst (λ z. Some c.in-Some.number ≡ cond (in_range (Some (found.range.lo, found.range.hi)) z)
    (Some z) None)
    number c.in-Some.ensures in
    let narrow = subst (λ (s : CSlot). Some c.in-Some.number
    ≡ cond (in_range (Some (s.range.lo, s.range.hi)) c.args.number) (Some c.args.number) None)
    (sym c.index-slots-place.is) wide in
    addable_now (slot_ranges c.args.slots.now) c.args.next.now c.args.marked.now c.args.slot
    (slot.range.lo, slot.range.hi) c.in-Some.number c.args.number
    (range_slot c.args.slots.now c.args.slot slot c.requires.slot c.index-slots-place.is) narrow
    (subst (λ z. (not (get_or c.args.marked.now c.args.slot false) || int_eq z
    (number_at c.args.next.now c.args.slot)) ≡ true)
    same (sym c.if-not-agrees.ensures))

pub returns-clause-put : goal.returns-clause-put
returns-clause-put c =
    let number : to_z w128 (of_z w128 c.args.number) ≡ c.args.number = search rules in
    let found = get_or c.args.slots.now c.args.slot c.index-slots-place.result in
    let same : c.in-Some.number ≡ c.args.number =
    narrow_same (found.range.lo, found.range.hi) c.in-Some.number
    (to_z w128 (of_z w128 c.args.number)) c.in-Some.ensures
    ∙ number in
    let k : slice_set c.args.next.now c.args.slot c.in-Some.number ≡ put c.args.next.now c.args.slot c.args.number =
    put-slice_set c.args.next.now c.args.slot c.in-Some.number ∙ ap (put c.args.next.now c.args.slot) same in
    λ _. search (rules, k)
