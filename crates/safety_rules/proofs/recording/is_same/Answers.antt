use Rattle.core_terms.proofs.SameLaws.{same_is}
use Rattle.safety_rules.proofs.recording.is_same.Goals as goal

pub returns : goal.returns
returns c = same_is c.same.result c.args.f.now c.args.g.now c.same.ensures
