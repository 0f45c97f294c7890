use Rattle.superposition.proofs.LabelLaws.{PatternSoFar}
use Rattle.superposition.proofs.labels.pattern.Given as goal

abbrev pub invariant-loop-place : goal.invariant-loop-place
invariant-loop-place l = PatternSoFar l.fs l.hs l.place l.pairs.over.by_label l.pairs.below.by_label
