use Rattle.std.proofs.Common.{sym}
use Rattle.proof_plans.proofs.LoopLaws.{named_program}
use Rattle.proof_plans.proofs.planning.plan_proof.Goals as goal

pub plan_program-requires-clause-program : goal.plan_program-requires-clause-program
plan_program-requires-clause-program c =
    named_program c.args.around.now.slots.now c.args.around.now.programs.now c.args.proof.now.program
    c.in-Some.program.now
    c.requires.around.programs (sym c.in-Some.ensures)
