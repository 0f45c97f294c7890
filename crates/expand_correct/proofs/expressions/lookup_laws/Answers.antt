use Rattle.expand_correct.proofs.Values.SameSight.{formed_by_sight, assigned_by_sight}
use Rattle.expand_correct.proofs.expressions.lookup_laws.Goals as goal

pub returns-clause-formed : goal.returns-clause-formed
returns-clause-formed c = formed_by_sight

pub returns-clause-assigned : goal.returns-clause-assigned
returns-clause-assigned c = assigned_by_sight
