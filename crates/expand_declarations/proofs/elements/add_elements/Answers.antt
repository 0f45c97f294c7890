use Rattle.std.proofs.Common.{ap, sym, ◌∙◌, ◌+◌, ◌-◌, [], ◌∷◌, ◌++◌, pos, ◌+ℤ◌, Some, append_assoc}
use Rattle.expand_declarations.specs.Slots.{slot_at, element_slots}
use Rattle.expand_declarations.proofs.LayoutLaws.{element_slots-step}
use Rattle.expand_declarations.proofs.elements.add_elements.Goals as goal

pub loop-k-preserved : goal.loop-k-preserved
loop-k-preserved c = let words = c.args.words.now in let v = c.args.v.now in let low = c.args.range.lo in
    let k = c.loop-k.k in let count = c.args.count in
    ap (λ slots. slots ++ element_slots words v (low +ℤ pos (k + 1)) (count - (k + 1)))
    (c.in_ok-add_slot.ensures ∙ ap (λ index. c.loop-k.slots ++ slot_at words v index ∷ []) c.index_in.ensures)
    ∙ append_assoc c.loop-k.slots (slot_at words v (Some (low +ℤ pos k)) ∷ [])
    (element_slots words v (low +ℤ pos (k + 1)) (count - (k + 1)))
    ∙ ap (λ slots. c.loop-k.slots ++ slots) (sym (element_slots-step words v low count k c.loop-k-test.true))
    ∙ c.loop-k.invariant
