use Rattle.unity_syntax.proofs.EachTree.{each_tree_}
use Rattle.unity_syntax.proofs.reading.each_tree.Goals as goal

pub returns : goal.returns
returns c = λ x ts derives. let v = each_tree_ x ts derives in (v.of, v.same)
