use Rattle.std.proofs.Common.{◌≡◌, map, drop, length, ◌-◌}
use Rattle.std.specs.List.{list_any}
use Rattle.std.specs.Str.{bytes_eq}
use Rattle.names_rules.proofs.known.missing.Given as goal

abbrev pub invariant-loop-i : goal.invariant-loop-i
invariant-loop-i l =
    list_any (bytes_eq l.name.text) (map (λ d. d.name.text) (drop l.i l.known.definitions.now)) ≡
    list_any (bytes_eq l.name.text) (map (λ d. d.name.text) (drop l.known.defined l.known.definitions.now))

abbrev pub decreases-loop-i : goal.decreases-loop-i
decreases-loop-i l = length l.known.definitions.now - l.i
