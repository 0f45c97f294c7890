use Rattle.std.proofs.Common.{take}
use Rattle.std.specs.List.{flat_map}
use Rattle.schedule_replay.specs.Buffered.{IsPut}
use Rattle.schedule_replay.specs.Lines.{slot_text}
use Rattle.schedule_replay.proofs.pieces.put_slots.Given as goal

abbrev pub invariant-loop-slot : goal.invariant-loop-slot
invariant-loop-slot g l =
    IsPut (g.K.Sink.written l.initial.out) (g.K.Sink.written l.out) (g.K.Sink.faults l.initial.out)
    (g.K.Sink.faults l.out)
    l.initial.text l.text (flat_map (slot_text l.doc l.state) (take l.slot-index l.shown))
