use Rattle.fair_rounds.proofs.MarkLaws.{none_marked}
use Rattle.fair_rounds.proofs.marks.Marks.none.Goals as goal

pub returns : goal.returns
returns c = none_marked 64
