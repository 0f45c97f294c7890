use Rattle.run_correct.proofs.Runs.{runs_say}
use Rattle.run_correct.proofs.Replays.{replays_say}
use Rattle.run_correct.proofs.command_laws.Goals as goal

pub returns-clause-runs : goal.returns-clause-runs
returns-clause-runs c = runs_say

pub returns-clause-replays : goal.returns-clause-replays
returns-clause-replays c = replays_say
