use Rattle.std.proofs.Common.{◌≡◌, drop}
use Rattle.safety_rules.specs.from_rules_table.Walk.{used}
use Rattle.rules_steps.proofs.UsingLaws.{after_these}
use Rattle.rules_steps.proofs.using.used.Given as goal

abbrev pub invariant-loop-r : goal.invariant-loop-r
invariant-loop-r l = after_these l.forms (used l.program l.book (drop l.r-index l.refs)) ≡ used l.program l.book l.refs
