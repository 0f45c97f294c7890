use Rattle.std.proofs.Common.{◌≡◌, ℕ, ◌-◌, List, [], Some}
use Rattle.unity_base.specs.Window.{coming, HasPassed}
use Rattle.unity_lexer.specs.Scans.{ReadsTo}
use Rattle.unity_lexer.proofs.scan.passing_token.Given as goal

abbrev pub invariant-gaps : goal.invariant-gaps
invariant-gaps g l = record {
  passed : HasPassed l.fn.w l.w (g.S.Source.left l.fn.src) (g.S.Source.left l.src);
  same : g.S.Source.faults l.src ≡ g.S.Source.faults l.fn.src;
  reads : (bytes : List ℕ) → coming l.fn.w (g.S.Source.left l.fn.src) ≡ Some bytes →
      ReadsTo l.fn.w.at bytes [] l.w.at (coming l.w (g.S.Source.left l.src));
}

abbrev pub decreases-gaps : goal.decreases-gaps
decreases-gaps g l = l.w.limit - l.w.at
