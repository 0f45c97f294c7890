use Rattle.unity_syntax.proofs.ClassLaws.{one_kind_}
use Rattle.unity_syntax.proofs.reading.one_kind.Goals as goal

pub returns : goal.returns
returns c = one_kind_
