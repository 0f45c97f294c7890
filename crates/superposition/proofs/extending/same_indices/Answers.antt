use Rattle.std.proofs.Common.{◌∙◌}
use Rattle.superposition.proofs.TermLaws.{numbers_told}
use Rattle.superposition.proofs.extending.same_indices.Goals as goal

pub returns : goal.returns
returns c = c.eq.ensures ∙ numbers_told c.args.s.now c.args.t.now
