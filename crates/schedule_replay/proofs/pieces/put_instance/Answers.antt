use Rattle.std.proofs.Common.{◌++◌, ap}
use Rattle.schedule_replay.specs.Lines.{word_text, indices_text}
use Rattle.schedule_replay.proofs.BufferLaws.{put_then, put_same}
use Rattle.schedule_replay.proofs.pieces.put_instance.Goals as goal

pub returns : goal.returns
returns g c =
    put_same (ap (λ zs. word_text c.args.words.now c.args.statement.now.label ++ indices_text zs) c.as_slice.ensures)
    (put_then c.put_word.ensures c.put_indices.ensures)
