use Rattle.search_simplex.proofs.rows.greatest_divisor.Given as goal

abbrev pub decreases-steps : goal.decreases-steps
decreases-steps l = l.other
