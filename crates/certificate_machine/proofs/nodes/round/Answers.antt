use Rattle.std.proofs.Common.{refl}
use Rattle.certificate_machine.specs.Sums.{sum_line}
use Rattle.certificate_machine.proofs.ScopedLaws.{line-count}
use Rattle.certificate_machine.proofs.nodes.round.Goals as goal

pub rounded-requires-clause-count : goal.rounded-requires-clause-count
rounded-requires-clause-count c =
    line-count c.args.vs.now _ c.args.machine.now (sum_line c.args.sum.now) c.requires.own c.requires.scoped refl
    c.requires.size
