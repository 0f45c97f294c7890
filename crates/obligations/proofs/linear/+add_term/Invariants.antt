use Rattle.core_terms.specs.Sizes.{term_nodes}
use Rattle.obligations.proofs.linear.+add_term.Given as goal

abbrev pub decreases-add_term : goal.decreases-add_term
decreases-add_term l = term_nodes l.t.now
