use Rattle.std.proofs.Common.{sym, ◌∙◌}
use Rattle.schedule_replay.proofs.BufferLaws.{put_then, put_same}
use Rattle.solver_scripts.specs.Naming.{symbols}
use Rattle.solver_scripts.proofs.ScriptTexts.{some_parts}
use Rattle.solver_scripts.proofs.scripts.put_ranges.Goals as goal

pub returns-else-is_empty : goal.returns-else-is_empty
returns-else-is_empty g c =
    put_same (some_parts (symbols c.args.names.now) c.args.variables.now
    (sym c.is_empty.ensures ∙ c.if-is_empty.false))
    (put_then (put_then c.put-else-is_empty.ensures c.put_range_parts.ensures) c.put-else-is_empty-2.ensures)
