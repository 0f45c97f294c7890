use Rattle.std.proofs.Common.{◌≡◌, drop}
use Rattle.safety_rules.specs.from_rules_table.Walk.{program_of}
use Rattle.step_plans.proofs.programs.find_program.Given as goal

abbrev pub invariant-loop-program : goal.invariant-loop-program
invariant-loop-program l = program_of (drop l.program-index l.programs) l.name ≡ program_of l.programs l.name
