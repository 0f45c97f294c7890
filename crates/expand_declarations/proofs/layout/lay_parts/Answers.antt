use Rattle.std.proofs.Common.{subst, ◌+◌, drop, List, Bool}
use Rattle.unity_syntax.specs.declared.document.Part.{Part}
use Rattle.expand_declarations.specs.Slots.{Lays, part_declarations}
use Rattle.expand_declarations.proofs.LayoutLaws.{AheadParts, parts_more, drop_item}
use Rattle.expand_declarations.proofs.layout.lay_parts.Goals as goal

pub loop-i-preserved : goal.loop-i-preserved
loop-i-preserved c = let p = c.index-parts-i.result in
    parts_more c.args.words.now c.loop-i.layout c.lay_part.new.layout c.args.layout.now c.loop-i.i p
    (drop (c.loop-i.i + 1) c.args.parts.now) c.args.parts.now
    (subst (λ (ps : List Part).
    AheadParts c.args.words.now c.loop-i.layout c.loop-i.i ps c.args.layout.now c.args.parts.now)
    (drop_item c.args.parts.now c.loop-i.i p c.loop-i-test.true c.index-parts-i.is) c.loop-i.invariant)
    (subst (λ (b : Bool). Lays c.args.words.now b c.loop-i.layout c.lay_part.new.layout (part_declarations p))
    c.if-not-branch.false c.in_ok-lay_part.ensures)
