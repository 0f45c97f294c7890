use Rattle.schedule_replay.proofs.BufferLaws.{put_then}
use Rattle.solver_scripts.proofs.names.put_slot.Goals as goal

pub returns : goal.returns
returns g c = put_then c.put_word.ensures c.put_index.ensures
