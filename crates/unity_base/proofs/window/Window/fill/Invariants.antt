use Rattle.std.proofs.Common.{◌≡◌, ◌-◌}
use Rattle.unity_base.specs.Window.{HasRead}
use Rattle.unity_base.proofs.window.Window.fill.Given as goal

abbrev pub invariant-reads : goal.invariant-reads
invariant-reads g l = record {
  read : HasRead l.fn.self l.self (g.S.Source.left l.fn.src) (g.S.Source.left l.src);
  same : g.S.Source.faults l.src ≡ g.S.Source.faults l.fn.src;
}

abbrev pub decreases-reads : goal.decreases-reads
decreases-reads g l = 65536 - (l.self.to - l.self.from)
