use Rattle.std.proofs.Common.{subst, take_all, arith}
use Rattle.linear_prover.specs.Tables.{AreBounds}
use Rattle.linear_prover.proofs.BoundLaws.{bounds-more, numbered}
use Rattle.linear_prover.proofs.bounds.bounds_from.Goals as goal

pub loop-place-preserved : goal.loop-place-preserved
loop-place-preserved c =
    bounds-more c.args.facts.now c.loop-place.place c.args.count c.args.side.now c.index-facts-place.result
    c.loop-place.table
    c.tighten.new.table (omega arith) c.index-facts-place.is c.loop-place.invariant c.tighten.ensures.long
    c.tighten.ensures.tells

pub returns-clause-numbers : goal.returns-clause-numbers
returns-clause-numbers c =
    numbered c.args.count c.args.side.now c.args.facts.now c.loop-place.table
    (subst (λ fs. AreBounds c.args.count c.args.side.now fs c.loop-place.table)
    (take_all c.loop-place.place c.args.facts.now (omega arith)) c.loop-place.invariant) c.requires
