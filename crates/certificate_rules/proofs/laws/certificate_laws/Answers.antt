use Rattle.certificate_rules.proofs.RefutationLaws.{walk-appends}
use Rattle.certificate_rules.proofs.SoundLaws.{keeps, sound}
use Rattle.certificate_rules.proofs.WholeLaws.{walk-is-tree, more-levels}
use Rattle.certificate_rules.proofs.laws.certificate_laws.Goals as goal

pub returns-clause-appends : goal.returns-clause-appends
returns-clause-appends c = walk-appends

pub returns-clause-keeps : goal.returns-clause-keeps
returns-clause-keeps c = keeps

pub returns-clause-sound : goal.returns-clause-sound
returns-clause-sound c = sound

pub returns-clause-tree : goal.returns-clause-tree
returns-clause-tree c = walk-is-tree

pub returns-clause-more : goal.returns-clause-more
returns-clause-more c = more-levels
