use Rattle.std.proofs.Common.{◌∙◌, false}
use Rattle.superposition.proofs.TableLaws.{past_end}
use Rattle.superposition.proofs.shown.Shown.has.Goals as goal

pub returns-in-None : goal.returns-in-None
returns-in-None c =
    past_end c.args.self.now.marks c.args.slot false c.in-None.ensures ∙ c.args.self.now.exact c.args.slot
