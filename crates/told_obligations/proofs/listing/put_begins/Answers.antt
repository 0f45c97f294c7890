use Rattle.schedule_replay.proofs.BufferLaws.{put_then}
use Rattle.told_obligations.proofs.listing.put_begins.Goals as goal

pub returns : goal.returns
returns g c =
    put_then (put_then (put_then c.put_word.ensures c.put.ensures) c.put_word-2.ensures) c.put-2.ensures
