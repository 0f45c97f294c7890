use Rattle.std.proofs.Common.{◌+◌, take, ap, ◌∙◌, arith}
use Rattle.told_obligations.specs.Places.{line_ends}
use Rattle.told_obligations.proofs.PlaceLaws.{ends_on}
use Rattle.told_obligations.proofs.places.ends_before.Goals as goal

pub returns-else-next-at-clause-ends : goal.returns-else-next-at-clause-ends
returns-else-next-at-clause-ends c =
    ap (λ n. n + c.line_ends-else-next-at.result) c.requires.ends
    ∙ ap (λ n. line_ends (take c.args.at c.args.bytes.now) + n) c.line_ends-else-next-at.ensures.count
    ∙ ends_on c.args.bytes.now c.args.at c.args.next (omega (arith, c.if-next-at.false))
