use Rattle.std.proofs.Common.{◌≡◌, ◌++◌, drop}
use Rattle.expand_declarations.specs.Shown.{is_slot_of, places_from}
use Rattle.expand_declarations.proofs.shown.slots_named.Given as goal

abbrev pub invariant-loop-i : goal.invariant-loop-i
invariant-loop-i l = l.shown ++ places_from (is_slot_of l.names.keys) l.i (drop l.i l.slots)
    ≡ places_from (is_slot_of l.names.keys) 0 l.slots
