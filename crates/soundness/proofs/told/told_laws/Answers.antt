use Rattle.soundness.proofs.Lines.{accepted_tells}
use Rattle.soundness.proofs.told.told_laws.Goals as goal

pub returns : goal.returns
returns c = accepted_tells
