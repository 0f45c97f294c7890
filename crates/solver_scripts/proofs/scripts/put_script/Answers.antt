use Rattle.std.proofs.Common.{List, ap}
use Rattle.obligations.specs.declared.branches.Variable.{Variable}
use Rattle.schedule_replay.proofs.BufferLaws.{put_then, put_same}
use Rattle.solver_scripts.specs.Scripts.{script_text}
use Rattle.solver_scripts.proofs.scripts.put_script.Goals as goal

pub returns : goal.returns
returns g c =
    put_same (ap (λ (vs : List Variable). script_text c.args.words.now c.args.slots.now c.args.params.now
    (record { form = c.args.obligation.now.form; variables = vs })) c.as_slice-variables.ensures)
    (put_then (put_then (put_then (put_then (put_then (put_then c.put.ensures c.put_declarations.ensures)
    c.put-2.ensures) c.put_ranges.ensures) c.put-3.ensures) c.put_negation.ensures) c.put-4.ensures)
