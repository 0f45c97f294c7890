use Rattle.std.proofs.Common.{length}
use Rattle.expand_statements.proofs.visiting.+effect_at.Given as goal

abbrev pub decreases-effect_at : goal.decreases-effect_at
decreases-effect_at l = length l.names.now
