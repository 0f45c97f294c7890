use Rattle.schedule_replay.proofs.BufferLaws.{put_then}
use Rattle.told_obligations.proofs.listing.put_bounded.Goals as goal

pub returns : goal.returns
returns g c =
    put_then c.put.ensures (put_then c.put_kind_name.ensures (put_then c.put-2.ensures
    (put_then c.put_number.ensures c.put-3.ensures)))
