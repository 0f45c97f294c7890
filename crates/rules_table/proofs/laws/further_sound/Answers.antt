use Rattle.rules_table.proofs.FurtherSound.{complete_sound, lead_cancel_sound, until_sound, detects_sound}
use Rattle.rules_table.proofs.FurtherSound.{constant_sound}
use Rattle.rules_table.proofs.laws.further_sound.Goals as goal

pub returns-clause-complete : goal.returns-clause-complete
returns-clause-complete c = complete_sound

pub returns-clause-cancel : goal.returns-clause-cancel
returns-clause-cancel c = lead_cancel_sound

pub returns-clause-until : goal.returns-clause-until
returns-clause-until c = until_sound

pub returns-clause-detects : goal.returns-clause-detects
returns-clause-detects c = detects_sound

pub returns-clause-constant : goal.returns-clause-constant
returns-clause-constant c = constant_sound
