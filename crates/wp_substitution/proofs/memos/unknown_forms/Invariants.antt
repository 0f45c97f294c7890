use Rattle.std.proofs.Common.{◌≡◌, ◌+◌, length, All, None}
use Rattle.wp_substitution.proofs.memos.unknown_forms.Given as goal

abbrev pub invariant-loop-left : goal.invariant-loop-left
invariant-loop-left l = (length l.forms + l.left ≡ l.fn.count) × All (λ k. k ≡ None) l.forms

abbrev pub decreases-loop-left : goal.decreases-loop-left
decreases-loop-left l = l.left
