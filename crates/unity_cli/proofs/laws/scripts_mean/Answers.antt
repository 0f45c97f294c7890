use Rattle.unity_cli.proofs.Refuted.{refuted_is_met}
use Rattle.unity_cli.proofs.laws.scripts_mean.Goals as goal

pub returns-clause-refuted : goal.returns-clause-refuted
returns-clause-refuted c = refuted_is_met
