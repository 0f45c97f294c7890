use Rattle.std.proofs.Common.{◌≡◌, ◌-◌}
use Rattle.unity_lexer.specs.Windows.{HasRun}
use Rattle.unity_lexer.proofs.stretches.skip_run.Given as goal

abbrev pub invariant-stretches : goal.invariant-stretches
invariant-stretches g l = record {
  so_far : HasRun l.run l.fn.w l.w (g.S.Source.left l.fn.src) (g.S.Source.left l.src);
  same : g.S.Source.faults l.src ≡ g.S.Source.faults l.fn.src;
}

abbrev pub decreases-stretches : goal.decreases-stretches
decreases-stretches g l = l.w.limit - l.w.at
