use Rattle.rules_table.proofs.TextSound.{defined_sound, invariant_sound, unless_sound, fixed_sound}
use Rattle.rules_table.proofs.EnsuresSound.{ensures_sound}
use Rattle.rules_table.proofs.CalcSound.{weaken_sound, pair_sound, instance_sound}
use Rattle.rules_table.proofs.UnionSound.{under_holds}
use Rattle.rules_table.proofs.laws.rules_sound.Goals as goal

pub returns-clause-always_defined : goal.returns-clause-always_defined
returns-clause-always_defined c = defined_sound

pub returns-clause-invariant : goal.returns-clause-invariant
returns-clause-invariant c = invariant_sound

pub returns-clause-unless : goal.returns-clause-unless
returns-clause-unless c = unless_sound

pub returns-clause-fixed : goal.returns-clause-fixed
returns-clause-fixed c = fixed_sound

pub returns-clause-ensured : goal.returns-clause-ensured
returns-clause-ensured c = ensures_sound

pub returns-clause-weaken : goal.returns-clause-weaken
returns-clause-weaken c = weaken_sound

pub returns-clause-pair : goal.returns-clause-pair
returns-clause-pair c = pair_sound

pub returns-clause-instance : goal.returns-clause-instance
returns-clause-instance c = instance_sound

pub returns-clause-under : goal.returns-clause-under
returns-clause-under c = under_holds
