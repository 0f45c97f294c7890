use Rattle.std.proofs.Common.{◌≡◌, ◌-◌}
use Rattle.unity_lexer.specs.Windows.{HasKept}
use Rattle.unity_lexer.proofs.stretches.keep_run.Given as goal

abbrev pub invariant-stretches : goal.invariant-stretches
invariant-stretches g l = record {
  so_far : HasKept l.run l.fn.w l.w (g.S.Source.left l.fn.src) (g.S.Source.left l.src) l.fn.kept.items l.kept.items;
  same : g.S.Source.faults l.src ≡ g.S.Source.faults l.fn.src;
}

abbrev pub decreases-stretches : goal.decreases-stretches
decreases-stretches g l = l.w.limit - l.w.at
