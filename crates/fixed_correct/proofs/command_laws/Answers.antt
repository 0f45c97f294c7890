use Rattle.fixed_correct.proofs.Runs.{fixed_runs_say}
use Rattle.fixed_correct.proofs.command_laws.Goals as goal

pub returns : goal.returns
returns c = fixed_runs_say
