use Rattle.rules_table.proofs.LayerOver.{layer_is_over}
use Rattle.rules_table.proofs.LayerSound.{superpose_sound, superpose_begins, superpose_shows}
use Rattle.rules_table.proofs.WalkTheorems.{layers_stand}
use Rattle.rules_table.proofs.laws.layers_sound.Goals as goal

pub returns-clause-over : goal.returns-clause-over
returns-clause-over c = layer_is_over

pub returns-clause-stands : goal.returns-clause-stands
returns-clause-stands c = superpose_sound

pub returns-clause-begins : goal.returns-clause-begins
returns-clause-begins c = superpose_begins

pub returns-clause-shows : goal.returns-clause-shows
returns-clause-shows c = superpose_shows

pub returns-clause-walked : goal.returns-clause-walked
returns-clause-walked c = layers_stand
