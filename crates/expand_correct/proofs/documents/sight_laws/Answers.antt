use Rattle.expand_correct.proofs.Preserved.Sights.{sees_alike, sees_alike_among}
use Rattle.expand_correct.proofs.documents.sight_laws.Goals as goal

pub returns-clause-outside : goal.returns-clause-outside
returns-clause-outside c = sees_alike

pub returns-clause-among : goal.returns-clause-among
returns-clause-among c = sees_alike_among
