-- How large expressions are before they are folded: their nodes with all quantifiers unfolded, and how far from 0 their
-- numbers can lie.
use Rattle.std.specs.Prelude.{ℕ, ◌+◌, ◌*◌, min, max, ℤ, Bool, cond, ◌&&◌, Option, Some, None, nat_le}
use Rattle.std.specs.Int.RustNames.{unsigned_abs}
use Rattle.names_rules.specs.from_unity_syntax.declared.name.End.{End}
use Rattle.names_rules.specs.from_unity_syntax.declared.name.Range.{Range}
use Rattle.meaning_documents.specs.Names.{Bindings}
use Rattle.meaning_documents.specs.Value.{end_value}
use Rattle.expand_rules.specs.declared.cores.Flaws.{Flaws}
use Rattle.expand_rules.specs.declared.cores.Measure.{Measure}

-- sizes are counted up to one past their limit
abbrev pub counted : ℕ → ℕ
counted n = min n 65537

-- the lesser of two places, where there is any
abbrev pub nearer : Option ℕ → Option ℕ → Option ℕ
nearer None b = b
nearer (Some x) None = Some x
nearer (Some x) (Some y) = Some (min x y)

-- what fails in expansion: the first end of a range that is too large, and the first divisor below 1
abbrev pub no_flaws : Flaws
no_flaws = record { range = None; divisor = None }

abbrev pub both_flaws : Flaws → Flaws → Flaws
both_flaws a b = record { range = nearer a.range b.range; divisor = nearer a.divisor b.divisor }

abbrev pub range_flaws : Option ℕ → Flaws
range_flaws place = record { range = place; divisor = None }

abbrev pub divisor_flaws : Option ℕ → Flaws
divisor_flaws place = record { range = None; divisor = place }

-- how far from 0 the numbers of a range can lie, and at least 1
abbrev pub ends_weight : ℤ × ℤ → ℕ
ends_weight r = max 1 (max (unsigned_abs r.0) (unsigned_abs r.1))

-- one node: a number, a slot or a parameter of such a weight; a truth has none
abbrev pub leaf : ℕ → Measure
leaf weight = record { size = 1; quantified = 0; own = weight; most = weight; flaws = no_flaws }

-- a sum or a difference of two
abbrev pub sum_measure : Measure → Measure → Measure
sum_measure a b = record {
  size = counted (1 + a.size + b.size);
  quantified = counted (a.quantified + b.quantified);
  own = a.own + b.own;
  most = max (a.own + b.own) (max a.most b.most);
  flaws = both_flaws a.flaws b.flaws;
}

-- a number so many times; the factor counts too
abbrev pub multiple_measure : ℤ → Measure → Measure → Measure
multiple_measure k factor a = record {
  size = counted (1 + factor.size + a.size);
  quantified = counted (factor.quantified + a.quantified);
  own = unsigned_abs k * a.own;
  most = max (unsigned_abs k * a.own) (max factor.most a.most);
  flaws = both_flaws factor.flaws a.flaws;
}

-- a quotient or a remainder that lies so far from 0, by a divisor that counts too and that lies so far from 0, with
-- what fails of the divisor itself
abbrev pub divided_measure : ℕ → ℕ → Flaws → Measure → Measure → Measure
divided_measure own k flaws a b = record {
  size = counted (1 + a.size + b.size);
  quantified = counted (a.quantified + b.quantified);
  own = own;
  most = max own (max a.most (max b.most k));
  flaws = both_flaws a.flaws (both_flaws b.flaws flaws);
}

-- a number taken from 0
abbrev pub negation_measure : Measure → Measure
negation_measure a = record a { size = counted (1 + a.size) }

-- a formula over one part
abbrev pub over_measure : Measure → Measure
over_measure a = record a { size = counted (1 + a.size); own = 0 }

-- a formula over two
abbrev pub pair_measure : Measure → Measure → Measure
pair_measure a b = record {
  size = counted (1 + a.size + b.size);
  quantified = counted (a.quantified + b.quantified);
  own = 0;
  most = max a.most b.most;
  flaws = both_flaws a.flaws b.flaws;
}

-- a truth as a number: the choice of 1 and 0
abbrev pub choice_measure : Measure → Measure
choice_measure a = record a { size = counted (3 + a.size); own = 1; most = max 1 a.most }

-- what is read at an index, constant or not, of an array with so many indices, from one to another, whose numbers have
-- this weight: a choice for each index, in which the index and an element's slot stand; an array has at least one
abbrev pub element_measure : Bool → ℕ → ℤ × ℤ → ℕ → Measure → Measure
element_measure constant count ends weight index = record {
  size = cond constant (counted (1 + index.quantified)) (counted (max 1 count * (index.size + 5) + 1));
  quantified = index.quantified;
  own = weight;
  most = max (index.own + max (unsigned_abs ends.0) (unsigned_abs ends.1)) (max index.most weight);
  flaws = index.flaws;
}

-- a quantifier with its instances, and one more for itself; its instances count no less than the quantifiers in them
abbrev pub quantifier_measure : Option ℕ → Measure → Measure
quantifier_measure fault a = record a {
  size = counted (1 + a.size);
  quantified = counted (1 + max a.size a.quantified);
  flaws = both_flaws (range_flaws fault) a.flaws;
}

-- range ends go up to this, on both sides of 0
abbrev pub is_fit : ℤ → Bool
is_fit z = nat_le (unsigned_abs z) 1000000000

-- both ends do
abbrev pub is_fit_range : Bindings → Range → Bool
is_fit_range b r = is_fit (end_value b r.low) && is_fit (end_value b r.high)

abbrev pub place_of : End → ℕ
place_of (End.Number at minus number) = at
place_of (End.Word at name offset) = at

-- the place of an end that is too large
abbrev pub misfit : Bindings → End → Option ℕ
misfit b e = cond (is_fit (end_value b e)) None (Some (place_of e))

-- the first place of an end that is too large
abbrev pub range_misfit : Bindings → Range → Option ℕ
range_misfit b r = nearer (misfit b r.low) (misfit b r.high)
