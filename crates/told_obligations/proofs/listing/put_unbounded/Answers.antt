use Rattle.schedule_replay.proofs.BufferLaws.{put_then}
use Rattle.told_obligations.proofs.listing.put_unbounded.Goals as goal

pub returns : goal.returns
returns g c = put_then c.put.ensures (put_then c.put_kind_name.ensures c.put-2.ensures)
