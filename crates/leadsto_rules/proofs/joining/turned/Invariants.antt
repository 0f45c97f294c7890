use Rattle.std.proofs.Common.{◌≡◌, ◌++◌, length, reverse}
use Rattle.leadsto_rules.proofs.joining.turned.Given as goal

abbrev pub invariant-forms : goal.invariant-forms
invariant-forms l = l.left ++ reverse l.all ≡ l.initial.left

abbrev pub decreases-forms : goal.decreases-forms
decreases-forms l = length l.left
