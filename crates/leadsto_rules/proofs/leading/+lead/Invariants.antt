use Rattle.leadsto_rules.proofs.TermSizes.{size}
use Rattle.leadsto_rules.proofs.leading.+lead.Given as goal

abbrev pub decreases-lead : goal.decreases-lead
decreases-lead l = size l.t.now
