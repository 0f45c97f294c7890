use Rattle.std.proofs.Common.{◌≡◌, drop}
use Rattle.std.specs.List.{find}
use Rattle.leadsto_rules.specs.References.{names_step}
use Rattle.leadsto_rules.proofs.references.found.Given as goal

abbrev pub invariant-loop-a : goal.invariant-loop-a
invariant-loop-a l = find (names_step l.r) (drop l.a-index l.book) ≡ find (names_step l.r) l.book
