use Rattle.std.proofs.Common.{◌≡◌, nat_eq, drop, find}
use Rattle.core_terms.specs.declared.programs.CProgram.{CProgram}
use Rattle.run_traces.specs.Programs.{program_of}
use Rattle.run_traces.proofs.finding.program_of.Given as goal

abbrev pub invariant-loop-p : goal.invariant-loop-p
invariant-loop-p l = program_of l.doc l.schedule
    ≡ find (λ (p : CProgram). nat_eq p.name l.schedule.program) (drop l.p-index l.p-items)
