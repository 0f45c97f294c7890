use Rattle.event_checker.proofs.NodeLaws.{events-tell-nodes}
use Rattle.event_judge.proofs.ToldLaws.{events-tell-certificates}
use Rattle.event_judge.proofs.laws.judge_laws.Goals as goal

pub returns : goal.returns
returns c = events-tell-certificates events-tell-nodes
