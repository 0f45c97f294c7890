use Rattle.certificate_reading.proofs.Whole.{are_whole_trees}
use Rattle.certificate_reading.proofs.laws.whole_trees.Goals as goal

pub returns : goal.returns
returns c = are_whole_trees
