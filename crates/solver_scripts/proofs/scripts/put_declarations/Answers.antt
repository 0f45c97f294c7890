use Rattle.schedule_replay.proofs.BufferLaws.{put_then, put_same}
use Rattle.solver_scripts.specs.Naming.{symbols}
use Rattle.solver_scripts.specs.Scripts.{declaration_line}
use Rattle.solver_scripts.proofs.ScriptTexts.{flat_map_more}
use Rattle.solver_scripts.proofs.scripts.put_declarations.Goals as goal

pub loop-variable-preserved : goal.loop-variable-preserved
loop-variable-preserved g c =
    put_same (flat_map_more (declaration_line (symbols c.args.names.now)) c.args.variables.now
    c.loop-variable.variable-index _ c.loop-variable-test.true)
    (put_then c.loop-variable.invariant c.put_declaration.ensures)
