use Rattle.std.proofs.Common.{arith}
use Rattle.examples_events.proofs.TextLaws.{core_meets}
use Rattle.examples_events.proofs.whole.read_whole.Goals as goal

pub returns-clause-document : goal.returns-clause-document
returns-clause-document c =
    let few = c.if-bytes-gt-GREATEST_SIZE.false in
    core_meets c.args.bytes.now c.in_ok-document.document c.in_ok-core.core (omega (arith, few))
    c.in_ok-document.ensures.document c.in_ok-core.ensures.named c.in_ok-core.ensures.expands c.in_ok-core.ensures.core
