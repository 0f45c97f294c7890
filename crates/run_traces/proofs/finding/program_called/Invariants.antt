use Rattle.std.proofs.Common.{◌≡◌, drop, find}
use Rattle.run_traces.specs.Programs.{is_called, program_called}
use Rattle.run_traces.proofs.finding.program_called.Given as goal

abbrev pub invariant-loop-p : goal.invariant-loop-p
invariant-loop-p l = program_called l.doc l.name ≡ find (is_called l.doc l.name) (drop l.p-index l.p-items)
