use Rattle.std.proofs.Common.{◌≡◌, drop}
use Rattle.std.specs.List.{list_all}
use Rattle.superposition.proofs.NameLaws.{old_alone}
use Rattle.superposition.proofs.naming.all_are_old.Given as goal

abbrev pub invariant-loop-f : goal.invariant-loop-f
invariant-loop-f l =
    list_all (old_alone l.above.slots.now l.below.slots.now) (drop l.f-index l.forms)
    ≡ list_all (old_alone l.above.slots.now l.below.slots.now) l.forms
