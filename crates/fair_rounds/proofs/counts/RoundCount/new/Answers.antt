use Rattle.std.proofs.Common.{sym, refl}
use Rattle.fair_rounds.proofs.CountLaws.{missing_none}
use Rattle.fair_rounds.proofs.counts.RoundCount.new.Goals as goal

pub returns-clause-empty : goal.returns-clause-empty
returns-clause-empty c =
    record { ended = refl; chosen = c.none.ensures; left = sym (missing_none c.args.instances) }
