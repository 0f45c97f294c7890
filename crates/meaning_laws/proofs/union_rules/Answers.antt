use Rattle.meaning_laws.proofs.UnionTheorems.{union_defined, union_unless, union_invariant}
use Rattle.meaning_laws.proofs.UnionTheorems.{union_invariant_second, union_ensures, union_ensures_second}
use Rattle.meaning_laws.proofs.union_rules.Goals as goal

pub returns-clause-defined : goal.returns-clause-defined
returns-clause-defined c = union_defined

pub returns-clause-unless : goal.returns-clause-unless
returns-clause-unless c = union_unless

pub returns-clause-invariant : goal.returns-clause-invariant
returns-clause-invariant c = union_invariant

pub returns-clause-invariant_second : goal.returns-clause-invariant_second
returns-clause-invariant_second c = union_invariant_second

pub returns-clause-ensured : goal.returns-clause-ensured
returns-clause-ensured c = union_ensures

pub returns-clause-ensured_second : goal.returns-clause-ensured_second
returns-clause-ensured_second c = union_ensures_second
