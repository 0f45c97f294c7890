use Rattle.schedule_replay.proofs.BufferLaws.{put_then, put_same}
use Rattle.solver_scripts.specs.Naming.{symbols}
use Rattle.solver_scripts.proofs.ScriptTexts.{ranges_more}
use Rattle.solver_scripts.proofs.scripts.put_range_parts.Goals as goal

pub loop-variable-preserved : goal.loop-variable-preserved
loop-variable-preserved g c =
    put_same (ranges_more (symbols c.args.names.now) c.args.variables.now c.loop-variable.variable-index _
    c.loop-variable-test.true)
    (put_then c.loop-variable.invariant c.put_range.ensures)
