use Rattle.std.proofs.Common.{◌≡◌, drop}
use Rattle.expand_documents.specs.Cores.{core_named}
use Rattle.quantified_assign.proofs.unions.find_program.Given as goal

abbrev pub invariant-loop-program : goal.invariant-loop-program
invariant-loop-program l = core_named l.name (drop l.program-index l.programs) ≡ core_named l.name l.programs
