use Rattle.run_correct.proofs.Texts.{traces_say}
use Rattle.run_correct.proofs.trace_laws.Goals as goal

pub returns : goal.returns
returns c = traces_say
