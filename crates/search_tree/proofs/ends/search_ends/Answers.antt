use Rattle.search_tree.proofs.EndsLaws.{search-ends}
use Rattle.search_tree.proofs.ends.search_ends.Goals as goal

pub returns : goal.returns
returns c = search-ends
