use Rattle.soundness.proofs.LayerRuns.{layers_project}
use Rattle.soundness.proofs.projections.projection_laws.Goals as goal

pub returns : goal.returns
returns c = layers_project
