use Rattle.std.proofs.Common.{◌≡◌, take}
use Rattle.search_tree.proofs.fixing.copy_facts.Given as goal

abbrev pub invariant-loop-fact : goal.invariant-loop-fact
invariant-loop-fact l = l.copy ≡ take l.fact-index l.facts
