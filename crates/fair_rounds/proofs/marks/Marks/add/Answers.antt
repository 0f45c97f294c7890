use Rattle.std.proofs.Common.{arith}
use Rattle.fair_rounds.proofs.MarkLaws.{marked_with}
use Rattle.fair_rounds.proofs.marks.Marks.add.Goals as goal

pub returns : goal.returns
returns c m = marked_with c.args.self.now.words c.args.n m (omega arith)
