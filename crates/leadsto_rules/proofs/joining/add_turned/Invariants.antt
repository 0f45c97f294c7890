use Rattle.std.proofs.Common.{◌≡◌, ◌++◌, length, reverse}
use Rattle.leadsto_rules.proofs.joining.add_turned.Given as goal

abbrev pub invariant-forms : goal.invariant-forms
invariant-forms l = l.all ++ reverse l.left ≡ l.initial.all ++ reverse l.initial.left

abbrev pub decreases-forms : goal.decreases-forms
decreases-forms l = length l.left
