use Rattle.std.proofs.Common.{◌≡◌, drop}
use Rattle.std.specs.List.{list_any}
use Rattle.core_terms.specs.Trees.{same_form}
use Rattle.safety_rules.proofs.recording.has.Given as goal

abbrev pub invariant-loop-g : goal.invariant-loop-g
invariant-loop-g l = list_any (same_form l.f) (drop l.g-index l.forms) ≡ list_any (same_form l.f) l.forms
