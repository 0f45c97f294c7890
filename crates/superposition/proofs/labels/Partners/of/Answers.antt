use Rattle.std.proofs.Common.{None}
use Rattle.superposition.proofs.TableLaws.{past_end}
use Rattle.superposition.proofs.labels.Partners.of.Goals as goal

pub returns-in-None : goal.returns-in-None
returns-in-None c = past_end c.args.self.now.by_label c.args.label None c.in-None.ensures
