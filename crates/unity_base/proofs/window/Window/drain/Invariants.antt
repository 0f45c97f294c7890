use Rattle.std.proofs.Common.{◌≡◌, ◌+◌, ◌-◌}
use Rattle.unity_base.specs.Window.{HasPassed}
use Rattle.unity_base.proofs.window.Window.drain.Given as goal

abbrev pub invariant-reads : goal.invariant-reads
invariant-reads g l = record {
  passed : HasPassed l.fn.self l.self (g.S.Source.left l.fn.src) (g.S.Source.left l.src);
  same : g.S.Source.faults l.src ≡ g.S.Source.faults l.fn.src;
}

abbrev pub decreases-reads : goal.decreases-reads
decreases-reads g l = l.self.limit - l.self.at + (1 - (l.self.to - l.self.from))
