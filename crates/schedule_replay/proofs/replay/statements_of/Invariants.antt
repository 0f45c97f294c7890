use Rattle.std.proofs.Common.{◌≡◌, nat_eq, [], drop}
use Rattle.std.specs.Prelude.{find}
use Rattle.std.specs.Option.{option_map_or}
use Rattle.core_terms.specs.declared.programs.CProgram.{CProgram}
use Rattle.schedule_replay.specs.Schedules.{statements_of}
use Rattle.schedule_replay.proofs.replay.statements_of.Given as goal

abbrev pub invariant-loop-p : goal.invariant-loop-p
invariant-loop-p l = statements_of l.doc l.name
    ≡ option_map_or (λ (p : CProgram). p.statements)
    (find (λ (p : CProgram). nat_eq p.name l.name) (drop l.p-index l.p-items)) []
