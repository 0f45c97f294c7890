use Rattle.layer_laws.proofs.ResetTheorems.{reset_itself, written_reset, written_beside}
use Rattle.layer_laws.proofs.ResetTheorems.{old_are_defined, reset_is_state}
use Rattle.layer_laws.proofs.WritingTheorems.{writing_layer}
use Rattle.layer_laws.proofs.reset_laws.Goals as goal

pub returns-clause-itself : goal.returns-clause-itself
returns-clause-itself c = reset_itself

pub returns-clause-below : goal.returns-clause-below
returns-clause-below c = written_reset

pub returns-clause-beside : goal.returns-clause-beside
returns-clause-beside c = written_beside

pub returns-clause-defined : goal.returns-clause-defined
returns-clause-defined c = old_are_defined

pub returns-clause-state : goal.returns-clause-state
returns-clause-state c = reset_is_state

pub returns-clause-layer : goal.returns-clause-layer
returns-clause-layer c = writing_layer
