use Rattle.conflict_tables.proofs.lists.common_divisor.Given as goal

abbrev pub decreases-steps : goal.decreases-steps
decreases-steps l = l.other
