use Rattle.std.proofs.Common.{subst, ap, ◌∙◌, ℕ, ◌+◌, ◌≤◌, length}
use Rattle.expand_expressions.specs.from_meaning_documents.Setting.{slots_for}
use Rattle.expand_declarations.specs.Slots.{most_slots}
use Rattle.expand_declarations.proofs.LayoutLaws.{laid_new, on_ok}
use Rattle.expand_declarations.proofs.layout.lay_new.Goals as goal

pub returns : goal.returns
returns c = on_ok c.add_slots.result
    (laid_new c.args.words.now c.args.layout.now
    (record { variables = c.enter.new.variables; slots = c.add_slots.new.slots }) c.args.v.now
    c.in_ok-placed.placed c.len-first.result c.requires.counted c.requires.new
    c.len-first.ensures c.in_ok-placed.ensures
    (subst (λ (n : ℕ). length c.args.layout.now.slots + n ≤ most_slots)
    (c.requires.count ∙ ap slots_for c.requires.indices) c.requires.fits)
    c.in_ok-enter.ensures) c.add_slots.ensures
