-- How a branch is got back from one that was made of it.
use Rattle.std.specs.Prelude.{length, take}
use Rattle.obligations.specs.declared.branches.Branch.{Branch}
use Rattle.search_tree.specs.declared.marks.Mark.{Mark}

abbrev pub mark_at : Branch → Mark
mark_at b = record { facts = length b.facts; waits = length b.waiting; added = b.added }

abbrev pub cut_to : Mark → Branch → Branch
cut_to mark b = record { facts = take mark.facts b.facts; waiting = take mark.waits b.waiting; added = mark.added }
