use Rattle.certificate_rules.proofs.SumLaws.{pairs-stopped}
use Rattle.certificate_rules.proofs.sums.add_pairs.Goals as goal

pub returns-in-Err : goal.returns-in-Err
returns-in-Err c = pairs-stopped _ _ _ _ _ _ _ c.loop-pair-test.true c.in-Err.ensures c.loop-pair.invariant
