-- How large the parts of an assignment are.
use Rattle.std.specs.Prelude.{ℕ, ◌+◌, max, Option}
use Rattle.expand_rules.specs.declared.cores.Flaws.{Flaws}
use Rattle.expand_rules.specs.declared.cores.Measure.{Measure}
use Rattle.expand_rules.specs.declared.effects.Count.{Count}
use Rattle.expand_rules.specs.Measures.{counted, no_flaws, both_flaws, range_flaws}

abbrev pub no_count : Count
no_count = record { size = 0; most = 0; flaws = no_flaws }

abbrev pub both_counts : Count → Count → Count
both_counts a b = record {
  size = counted (a.size + b.size);
  most = max a.most b.most;
  flaws = both_flaws a.flaws b.flaws;
}

-- the nodes of a part, and no fewer than its quantifiers count
abbrev pub whole : Measure → ℕ
whole m = max m.size m.quantified

-- an index that is no part of the core: its quantifiers count
abbrev pub index_count : Measure → Count
index_count i = record { size = counted i.quantified; most = i.most; flaws = i.flaws }

-- an index where there is no array
abbrev pub stray_count : Measure → Count
stray_count i = record { size = counted (whole i); most = i.most; flaws = i.flaws }

-- with what fails beside it
abbrev pub flawed_count : Flaws → Count → Count
flawed_count flaws n = record n { flaws = both_flaws flaws n.flaws }

-- with an end of a range that is too large, where there is one
abbrev pub ranged_count : Option ℕ → Count → Count
ranged_count place n = flawed_count (range_flaws place) n

-- one node more
abbrev pub one_node_more : Count → Count
one_node_more n = record n { size = counted (1 + n.size) }
