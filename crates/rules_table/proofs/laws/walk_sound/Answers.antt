use Rattle.rules_table.proofs.WalkTheorems.{walk_sound}
use Rattle.rules_table.proofs.laws.walk_sound.Goals as goal

pub returns : goal.returns
returns c = walk_sound
