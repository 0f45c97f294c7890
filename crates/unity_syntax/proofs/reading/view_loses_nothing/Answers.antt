use Rattle.unity_syntax.proofs.BackDocuments.{view_injective}
use Rattle.unity_syntax.proofs.reading.view_loses_nothing.Goals as goal

pub returns : goal.returns
returns c = view_injective
