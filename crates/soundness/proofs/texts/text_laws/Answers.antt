use Rattle.soundness.proofs.Words.{claims_are_written}
use Rattle.soundness.proofs.texts.text_laws.Goals as goal

pub returns : goal.returns
returns c = claims_are_written
