use Rattle.rules_table.proofs.TermSound.{term_sound}
use Rattle.rules_table.proofs.DeriveSound.{derive_sound}
use Rattle.rules_table.proofs.laws.terms_sound.Goals as goal

pub returns-clause-term : goal.returns-clause-term
returns-clause-term c = term_sound

pub returns-clause-derive : goal.returns-clause-derive
returns-clause-derive c = derive_sound
