use Rattle.std.proofs.Common.{◌≡◌, ◌++◌, take}
use Rattle.derived_rules.proofs.completing.add_copies.Given as goal

abbrev pub invariant-loop-f : goal.invariant-loop-f
invariant-loop-f l = l.all ≡ l.initial.all ++ take l.f-index l.forms
