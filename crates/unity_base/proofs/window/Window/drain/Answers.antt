use Rattle.std.proofs.Common.{ℕ, ◌-◌, ◌≤◌, length, arith, ◌∙◌, refl}
use Rattle.std.proofs.lemmas.List.{length-take, length-drop}
use Rattle.unity_base.specs.declared.window.Window.{Window}
use Rattle.unity_base.specs.Window.{held}
use Rattle.unity_base.proofs.Windows.{HasPassed-turn}
use Rattle.unity_base.proofs.window.Window.drain.Goals as goal

all_held : (w : Window) → w.to - w.from ≤ length (held w)
all_held w = omega (arith, w.in_buffer, length-take {A = ℕ}, length-drop {A = ℕ})

pub returns-in_err-read_more-clause-passed : goal.returns-in_err-read_more-clause-passed
returns-in_err-read_more-clause-passed g c =
    HasPassed-turn _ _ _ _ _ _ _ _ (all_held c.reads.self) c.reads.invariant.passed c.skip.ensures.dropped
    c.read_more.ensures.read

pub returns-then-branch-eq0-clause-passed : goal.returns-then-branch-eq0-clause-passed
returns-then-branch-eq0-clause-passed g c =
    HasPassed-turn _ _ _ _ _ _ _ _ (all_held c.reads.self) c.reads.invariant.passed c.skip.ensures.dropped
    c.read_more.ensures.read

pub reads-preserved : goal.reads-preserved
reads-preserved g c = record {
  passed = HasPassed-turn _ _ _ _ _ _ _ _ (all_held c.reads.self) c.reads.invariant.passed c.skip.ensures.dropped
      c.read_more.ensures.read;
  same = c.in_ok-read_more.ensures.cause.same refl ∙ c.reads.invariant.same;
}
