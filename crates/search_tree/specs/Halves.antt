-- The two halves of a variable's range.
use Rattle.std.specs.Prelude.{pos, ◌+ℤ◌, List}
use Rattle.core_terms.specs.declared.trees.Range.{Range}
use Rattle.obligations.specs.declared.branches.Fact.{Fact}
use Rattle.obligations.specs.Opening.{at_most, at_least}
use Rattle.obligations.specs.Plain.{with_high, with_low}
use Rattle.search_tree.specs.declared.halves.Half.{Half}
use Rattle.search_tree.specs.declared.halves.Halves.{Halves}

abbrev pub half_range : Half → Halves → Range → Range
half_range Half.Low h r = record { lo = r.lo; hi = h.at }
half_range Half.High h r = record { lo = h.at +ℤ pos 1; hi = r.hi }

-- all ranges, that of the variable only by its half
abbrev pub half_ranges : Half → Halves → List Range → List Range
half_ranges Half.Low h rs = with_high rs h.place h.at
half_ranges Half.High h rs = with_low rs h.place (h.at +ℤ pos 1)

-- the fact that the variable is in the half
abbrev pub half_fact : Half → Halves → Fact
half_fact Half.Low h = at_most h.place h.at
half_fact Half.High h = at_least h.place (h.at +ℤ pos 1)
