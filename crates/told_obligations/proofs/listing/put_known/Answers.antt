use Rattle.schedule_replay.proofs.BufferLaws.{put_then}
use Rattle.told_obligations.proofs.listing.put_known.Goals as goal

pub returns : goal.returns
returns g c = put_then c.put_obligation_line.ensures c.put_script.ensures
