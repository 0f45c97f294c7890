use Rattle.schedule_replay.specs.Lines.{slot_text}
use Rattle.schedule_replay.proofs.BufferLaws.{put_then, put_same}
use Rattle.schedule_replay.proofs.LineLaws.{flat_map_more}
use Rattle.schedule_replay.proofs.pieces.put_slots.Goals as goal

pub loop-slot-preserved : goal.loop-slot-preserved
loop-slot-preserved g c =
    put_same (flat_map_more (slot_text c.args.doc.now c.args.state.now) c.args.shown.now c.loop-slot.slot-index 0
    c.loop-slot-test.true)
    (put_then c.loop-slot.invariant c.put_slot.ensures)
