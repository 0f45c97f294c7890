use Rattle.soundness.proofs.LayerRuns.{superposed_project}
use Rattle.soundness.proofs.projections.superposed_laws.Goals as goal

pub returns : goal.returns
returns c = superposed_project
