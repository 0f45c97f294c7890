use Rattle.std.proofs.Common.{◌≡◌, ◌-◌}
use Rattle.unity_base.specs.Window.{HasPassed}
use Rattle.streamed_documents.proofs.Skimming.{Reading}
use Rattle.streamed_documents.proofs.rests.skimmed.Given as goal

abbrev pub invariant-tokens : goal.invariant-tokens
invariant-tokens g l = record {
  passed : HasPassed l.fn.w l.w (g.S.Source.left l.fn.src) (g.S.Source.left l.src);
  same : g.S.Source.faults l.src ≡ g.S.Source.faults l.fn.src;
  reads : Reading l.fn.w (g.S.Source.left l.fn.src) l.w (g.S.Source.left l.src);
}

abbrev pub decreases-tokens : goal.decreases-tokens
decreases-tokens g l = l.w.limit - l.w.at
