use Rattle.std.proofs.Common.{◌≡◌, ap, rules, to_z, of_z}
use Rattle.std.specs.Int.{w64}
use Rattle.schedule_replay.specs.Lines.{known_slot_text}
use Rattle.schedule_replay.proofs.BufferLaws.{put_then, put_same}
use Rattle.schedule_replay.proofs.pieces.put_known.Goals as goal

pub returns : goal.returns
returns g c =
    let number : to_z w64 (of_z w64 c.args.number) ≡ c.args.number = search rules in
    put_same (ap (known_slot_text c.args.words.now c.args.slot.now) number)
    (put_then (put_then (put_then (put_then c.put.ensures c.put_word.ensures) c.put_index.ensures) c.put-2.ensures)
    c.put_value.ensures)
