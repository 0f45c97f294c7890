use Rattle.std.proofs.Common.{◌≡◌, ℕ, nat_eq, take}
use Rattle.std.specs.List.{list_any}
use Rattle.expand_declarations.specs.Shown.{declared_names}
use Rattle.expand_declarations.proofs.shown.note_names.Given as goal

abbrev pub invariant-loop-v : goal.invariant-loop-v
invariant-loop-v l = (q : ℕ) →
    list_any (nat_eq q) l.names.keys ≡ list_any (nat_eq q) (declared_names l.words (take l.v-index l.vs))
