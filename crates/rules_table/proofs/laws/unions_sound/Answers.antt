use Rattle.rules_table.proofs.UnionSound.{union_defined_sound, union_invariant_sound, union_unless_sound}
use Rattle.rules_table.proofs.UnionSound.{union_ensures_sound, union_shows}
use Rattle.rules_table.proofs.laws.unions_sound.Goals as goal

pub returns-clause-unless : goal.returns-clause-unless
returns-clause-unless c = union_unless_sound

pub returns-clause-ensured : goal.returns-clause-ensured
returns-clause-ensured c = union_ensures_sound

pub returns-clause-shows : goal.returns-clause-shows
returns-clause-shows c = union_shows

pub returns-clause-always_defined : goal.returns-clause-always_defined
returns-clause-always_defined c = union_defined_sound

pub returns-clause-invariant : goal.returns-clause-invariant
returns-clause-invariant c = union_invariant_sound
