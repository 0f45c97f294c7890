use Rattle.event_checker.proofs.NodeLaws.{events-tell-nodes}
use Rattle.event_checker.proofs.laws.event_laws.Goals as goal

pub returns : goal.returns
returns c = events-tell-nodes
