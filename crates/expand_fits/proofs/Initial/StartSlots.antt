-- The slot that a start value is given to: no two variables have one, and of an array each index has another.
use Rattle.std.proofs.Common.{◌≡◌, ℕ, ◌+◌, ◌<◌, ◌≤◌, ℤ, pos, negsuc, ◌+ℤ◌, ◌-ℤ◌, List, [], ◌∷◌, ◌++◌, map}
use Rattle.std.proofs.Common.{Bool, true, false, cond, ◌&&◌, Option, Some, None, option_map, refl, sym, ap, ◌∙◌, subst}
use Rattle.std.proofs.Common.{arith}
use Rattle.std.specs.Prelude.{fold}
use Rattle.std.proofs.lemmas.Int.{ints}
use borrow.Author.Differences.{le-true}
use lib.Signed.{◌≤ℤ◌}
use Rattle.std.specs.Int.RustNames.{int_le}
use Rattle.std.specs.List.{list_any}
use Rattle.std.specs.Str.{bytes_eq}
use Rattle.unity_syntax.specs.declared.declaration.Var.{Var}
use Rattle.meaning_documents.specs.Names.{Variable, slot_at}
use Rattle.meaning_executions.specs.Counting.{natural}
use Rattle.meaning_documents.specs.Setting.{slots_for, slot_count, variable_from, with_declaration, with_declarations}
use Rattle.names_rules.specs.declared.named.Span.{Span}
use Rattle.names_rules.specs.Reading.{signed}
use Rattle.names_rules.specs.Declarations.{is_index, index_number}
use Rattle.meaning_documents.specs.Names.{variable_named}
use Rattle.names_laws.specs.VariableLaws.{span_ends}
use Rattle.names_laws.proofs.AttributeTheorems.{and_first, and_second}
use Rattle.names_laws.proofs.Inserts.{same_bytes, taken}
use Rattle.expand_declarations.specs.Start.{index_of}
use Rattle.expand_declarations.proofs.StartLaws.{distance_below}

-- variables whose slots follow each other, from this one on
abbrev pub Follow : ℕ → List Variable → Type 0
Follow at [] = Unit {0}
Follow at (v ∷ vs) = (v.first ≡ at) × Follow (at + slots_for v.indices) vs

follow_more : (at : ℕ) (vs : List Variable) (w : Variable) → Follow at vs →
    w.first ≡ fold (λ a x. a + x) at (map (λ v. slots_for v.indices) vs) → Follow at (vs ++ w ∷ [])
follow_more at [] w h e = (e, tt)
follow_more at (v ∷ vs) w h e = (h.0, follow_more (at + slots_for v.indices) vs w h.1 e)

follow_one : (vs : List Variable) (v : Var) → Follow 0 vs → Follow 0 (with_declaration vs v)
follow_one vs v h = by (list_any (λ known. bytes_eq known.name v.name.text) vs)
  where
    by : (b : Bool) → Follow 0 (cond b vs (vs ++ (variable_from (slot_count vs) v ∷ [])))
    by true = h
    by false = follow_more 0 vs (variable_from (slot_count vs) v) h refl

pub follow_all : (vs : List Variable) (ds : List Var) → Follow 0 vs → Follow 0 (with_declarations vs ds)
follow_all vs [] h = h
follow_all vs (d ∷ ds) h = follow_all (with_declaration vs d) ds (follow_one vs d h)

not_before : (at : ℕ) (vs : List Variable) (name : List ℕ) (v : Variable) → Follow at vs →
    variable_named name vs ≡ Some v → at ≤ v.first
not_before at [] name v l e = cc e
not_before at (w ∷ vs) name v l e =
    by (bytes_eq name w.name) e (not_before (at + slots_for w.indices) vs name v l.1)
  where
    by : (b : Bool) → cond b (Some w) (variable_named name vs) ≡ Some v →
        (variable_named name vs ≡ Some v → at + slots_for w.indices ≤ v.first) → at ≤ v.first
    by true f rest = let same : w ≡ v = cc f in subst (λ x. at ≤ x.first) same (let q = l.0 in omega (arith, q))
    by false f rest = let q = rest f in omega (arith, q)

-- a slot of the first of these variables is no slot of another
first_apart : (at i j : ℕ) (w v u : Variable) → w.first ≡ at → w ≡ v → i < slots_for v.indices →
    at + slots_for w.indices ≤ u.first → v.first + i ≡ u.first + j → ⊥
first_apart at i j w v u e same h k f =
    let first : v.first ≡ at = subst (λ x. x.first ≡ at) same e in
    let below : i < slots_for w.indices = subst (λ x. i < slots_for x.indices) (sym same) h in
    absurd (omega (arith, first, below, k, f))

-- two names of one slot are equal
pub one_named : (at : ℕ) (vs : List Variable) (name other : List ℕ) (v u : Variable) (i j : ℕ) → Follow at vs →
    variable_named name vs ≡ Some v → variable_named other vs ≡ Some u → i < slots_for v.indices →
    j < slots_for u.indices → v.first + i ≡ u.first + j → name ≡ other
one_named at [] name other v u i j l e f h k same = cc e
one_named at (w ∷ vs) name other v u i j l e f h k same =
    by (bytes_eq name w.name) (bytes_eq other w.name) (same_bytes name w.name) (same_bytes other w.name) e f
    (λ p q. one_named (at + slots_for w.indices) vs name other v u i j l.1 p q h k same)
  where
    by : (b c : Bool) → (b ≡ true → name ≡ w.name) → (c ≡ true → other ≡ w.name) →
        cond b (Some w) (variable_named name vs) ≡ Some v → cond c (Some w) (variable_named other vs) ≡ Some u →
        (variable_named name vs ≡ Some v → variable_named other vs ≡ Some u → name ≡ other) → name ≡ other
    by true true p q e f rest = p refl ∙ sym (q refl)
    by true false p q e f rest = absurd (first_apart at i j w v u l.0 (cc e) h
        (not_before (at + slots_for w.indices) vs other u l.1 f) same)
    by false true p q e f rest = absurd (first_apart at j i w u v l.0 (cc f) k
        (not_before (at + slots_for w.indices) vs name v l.1 e) (sym same))
    by false false p q e f rest = rest e f

-- indices

abbrev pub low_of : Option (ℤ × ℤ) → ℤ
low_of None = pos 0
low_of (Some r) = r.0

-- the slot at an index, by its distance from the first
pub record PlacedAt (first : ℕ) (indices : Option (ℤ × ℤ)) (index : Option (Bool × ℕ)) : Type 0 where
  pub distance : ℕ
  pub found : slot_at first indices (index_of index) ≡ Some (first + distance)
  pub within : distance < slots_for indices
  pub number : index_number index ≡ low_of indices +ℤ pos distance

natural_of : (a : ℤ) → pos 0 ≤ℤ a → a ≡ pos (natural a)
natural_of (pos n) h = refl
natural_of (negsuc n) h = absurd (omega (arith, ints))

pub at_most : (a b : ℤ) → int_le a b ≡ true → a ≤ℤ b
at_most a b e = let h = le-true a b e in omega (arith, ints)

further : (z low : ℤ) → low ≤ℤ z → z ≡ low +ℤ pos (natural (z -ℤ low))
further z low h = let n = natural_of (z -ℤ low) (omega (arith, ints)) in omega (arith, ints)

pub placed_at : (first : ℕ) (spans : Option Span) (index : Option (Bool × ℕ)) → is_index spans index ≡ true →
    PlacedAt first (option_map span_ends spans) index
placed_at first None None h = record {
  distance = 0;
  found = (let e : first ≡ first + 0 = omega arith in ap (λ n. Some n) e);
  within = (let e : 0 < 1 = omega arith in e);
  number = refl;
}
placed_at first None (Some i) h = cc h
placed_at first (Some r) None h = cc h
placed_at first (Some r) (Some i) h =
    let z = signed i.0 i.1 in
    let low = at_most r.low z (and_first (int_le r.low z) (int_le z r.high) h) in
    let high = at_most z r.high (and_second (int_le r.low z) (int_le z r.high) h) in
    record {
      distance = natural (z -ℤ r.low);
      found = taken (int_le r.low z && int_le z r.high) (first + natural (z -ℤ r.low)) None h;
      within = distance_below r.low r.high z low high;
      number = further z r.low low;
    }
