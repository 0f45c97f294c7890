use Rattle.std.proofs.Common.{◌≡◌, drop}
use Rattle.rules_table.specs.Table.{with_each}
use Rattle.safety_rules.proofs.recording.add_each.Given as goal

abbrev pub invariant-loop-f : goal.invariant-loop-f
invariant-loop-f l = with_each l.under (drop l.f-index l.forms) ≡ with_each l.initial.under l.forms
