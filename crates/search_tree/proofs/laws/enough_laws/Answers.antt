use Rattle.search_tree.proofs.EnoughLaws.{enough-below}
use Rattle.search_tree.proofs.laws.enough_laws.Goals as goal

pub returns : goal.returns
returns c = enough-below
