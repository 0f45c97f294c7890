use Rattle.std.proofs.Common.{◌≡◌, None, drop}
use Rattle.safety_rules.specs.Foldable.{AreFoldable, gathered_all}
use Rattle.safety_rules.proofs.gathering.gathered.Given as goal

abbrev pub invariant-loop-f : goal.invariant-loop-f
invariant-loop-f l = record {
  whole : gathered_all l.joining l.whole (drop l.f-index l.forms) ≡ gathered_all l.joining None l.forms;
  foldable : AreFoldable l.whole;
}
