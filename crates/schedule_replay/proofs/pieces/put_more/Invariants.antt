use Rattle.std.proofs.Common.{◌++◌, codes, take}
use Rattle.std.specs.List.{flat_map}
use Rattle.std.specs.Fmt.{signed_decimal}
use Rattle.schedule_replay.specs.Buffered.{IsPut}
use Rattle.schedule_replay.proofs.pieces.put_more.Given as goal

abbrev pub invariant-loop-index : goal.invariant-loop-index
invariant-loop-index g l =
    IsPut (g.K.Sink.written l.initial.out) (g.K.Sink.written l.out) (g.K.Sink.faults l.initial.out)
    (g.K.Sink.faults l.out)
    l.initial.text l.text (flat_map (λ z. codes "," ++ signed_decimal z) (take l.index-index l.indices))
