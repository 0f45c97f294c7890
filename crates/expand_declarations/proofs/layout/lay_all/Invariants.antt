use Rattle.std.proofs.Common.{drop}
use Rattle.expand_declarations.proofs.LayoutLaws.{Ahead}
use Rattle.expand_declarations.proofs.layout.lay_all.Given as goal

abbrev pub invariant-loop-v : goal.invariant-loop-v
invariant-loop-v l = Ahead l.words l.layout (drop l.v-index l.vs) l.initial.layout l.vs
