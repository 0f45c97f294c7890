use Rattle.std.proofs.Common.{◌≡◌, ℕ, ◌-◌, List, Some}
use Rattle.std.specs.Prelude.{All}
use Rattle.unity_base.specs.Window.{coming}
use Rattle.unity_lexer.specs.Windows.{HasTaken}
use Rattle.unity_lexer.specs.Tokens.{AreInOrder}
use Rattle.unity_lexer.specs.Scans.{ReadsTo, IsNoSection, IsSmall}
use Rattle.unity_lexer.proofs.front.read_front.Given as goal

abbrev pub invariant-pieces : goal.invariant-pieces
invariant-pieces g l = record {
  taken : HasTaken l.fn.w l.w (g.S.Source.left l.fn.src) (g.S.Source.left l.src) l.bytes.items;
  same : g.S.Source.faults l.src ≡ g.S.Source.faults l.fn.src;
  reads : (bytes : List ℕ) → coming l.fn.w (g.S.Source.left l.fn.src) ≡ Some bytes →
      ReadsTo l.fn.w.at bytes l.tokens l.w.at (coming l.w (g.S.Source.left l.src));
  none : All IsNoSection l.tokens;
  order : AreInOrder l.fn.w.at l.w.at l.tokens;
  small : All IsSmall l.tokens;
}

abbrev pub decreases-pieces : goal.decreases-pieces
decreases-pieces g l = l.w.limit - l.w.at
