use Rattle.std.proofs.Common.{rules}
use Rattle.expand_declarations.proofs.StartLaws.{distance_below}
use Rattle.expand_declarations.proofs.start.distance.Goals as goal

pub returns-clause-value : goal.returns-clause-value
returns-clause-value c = search rules

pub returns-clause-within : goal.returns-clause-within
returns-clause-within c = rw (returns-clause-value c)
    (distance_below c.args.low c.args.high c.args.index c.requires.above c.requires.below)
