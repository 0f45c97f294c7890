use Rattle.superposition.proofs.TermLaws.{same_term_told}
use Rattle.superposition.proofs.extending.is_same_term.Goals as goal

pub returns : goal.returns
returns c = same_term_told c.same_term.result c.args.t.now c.args.u.now c.same_term.ensures
