use Rattle.std.proofs.Common.{take}
use Rattle.std.specs.List.{flat_map}
use Rattle.schedule_replay.specs.Buffered.{IsPut}
use Rattle.solver_scripts.specs.Naming.{symbols}
use Rattle.solver_scripts.specs.Scripts.{declaration_line}
use Rattle.solver_scripts.proofs.scripts.put_declarations.Given as goal

abbrev pub invariant-loop-variable : goal.invariant-loop-variable
invariant-loop-variable g l =
    IsPut (g.K.Sink.written l.initial.out) (g.K.Sink.written l.out) (g.K.Sink.faults l.initial.out)
    (g.K.Sink.faults l.out)
    l.initial.text l.text (flat_map (declaration_line (symbols l.names)) (take l.variable-index l.variables))
