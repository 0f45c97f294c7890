use Rattle.std.proofs.Common.{◌≡◌, ℕ, nat_eq, take}
use Rattle.std.specs.List.{list_any}
use Rattle.core_terms.specs.Unions.{gives}
use Rattle.core_terms.proofs.merging.note_slots.Given as goal

abbrev pub invariant-loop-entry : goal.invariant-loop-entry
invariant-loop-entry l = (slot : ℕ) → list_any (nat_eq slot) l.given.keys ≡ gives (take l.entry-index l.start) slot
