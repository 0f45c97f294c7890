use Rattle.schedule_replay.proofs.BufferLaws.{put_then}
use Rattle.solver_scripts.proofs.scripts.put_declaration.Goals as goal

pub returns : goal.returns
returns g c = put_then (put_then c.put.ensures c.put_symbol.ensures) c.put-2.ensures
