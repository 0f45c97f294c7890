use Rattle.std.proofs.Common.{arith}
use Rattle.certificate_machine.proofs.ScopedLaws.{cut-back}
use Rattle.certificate_machine.proofs.frames.cut_variables.Goals as goal

pub returns : goal.returns
returns c =
    cut-back c.args.vs.now c.args.variables.now _ c.requires.scope.0 c.args.added _ c.requires.scope.1
    c.requires.scope.2 (grind arith) c.truncate.ensures
