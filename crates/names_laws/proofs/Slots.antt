-- The slots of variables follow each other, and each has its variable's range.
use Rattle.std.proofs.Common.{◌≡◌, ℕ, zero, suc, ◌+◌, ◌<◌, List, [], ◌∷◌, ◌++◌, map, Bool, true, false, cond, ◌&&◌}
use Rattle.std.proofs.Common.{Option, Some, None, ◌⊎◌, inl, inr, refl, sym, ap, ◌∙◌, subst, slice_get, slice_index_or}
use Rattle.std.proofs.Common.{arith}
use Rattle.std.specs.Prelude.{ℤ, pos, negsuc, ◌+ℤ◌, ◌-ℤ◌, replicate, fold}
use Rattle.std.proofs.lemmas.Int.{ints}
use borrow.Author.Differences.{le-true}
use lib.Signed.{◌≤ℤ◌}
use Rattle.std.specs.Int.RustNames.{int_le}
use Rattle.std.specs.List.{flat_map, list_any}
use Rattle.std.specs.Str.{bytes_eq}
use Rattle.unity_syntax.specs.declared.declaration.Plain.{Plain}
use Rattle.unity_syntax.specs.declared.declaration.Var.{Var}
use Rattle.unity_syntax.specs.declared.program.Program.{Program}
use Rattle.meaning_states.specs.State.{State, Ranges, is_state, in_range}
use Rattle.meaning_documents.specs.Names.{Variable, slot_at, slot_named}
use Rattle.meaning_executions.specs.Counting.{natural}
use Rattle.meaning_executions.specs.Counting.{range_size}
use Rattle.meaning_documents.specs.Setting.{declarations, plain_range, is_boolean, element_type, slots_for, slot_count}
use Rattle.meaning_documents.specs.Setting.{slot_ranges, variable_from, with_declaration, with_declarations}
use Rattle.names_laws.proofs.AttributeTheorems.{and_first, and_second}
use Rattle.names_laws.specs.SlotLaws.{SlotsAsDeclared, NumbersAsDeclared, TruthsAreBits}
use Rattle.meaning_documents.specs.Setting.{variables_of}
use Rattle.meaning_documents.specs.Names.{variable_named}
use Rattle.names_laws.specs.SlotLaws.{TruthSlotsAreBits}

-- boolean variables have the range of truths
abbrev pub HasBits : Variable → Type 0
HasBits v = v.is_truth ≡ true → v.range ≡ (pos 0, pos 1)

-- variables whose slots follow each other, from this one on
abbrev pub Laid : ℕ → List Variable → Type 0
Laid at [] = Unit {0}
Laid at (v ∷ vs) = (v.first ≡ at) × HasBits v × Laid (at + slots_for v.indices) vs

boolean_bits : (of : Plain) → is_boolean of ≡ true → plain_range of ≡ (pos 0, pos 1)
boolean_bits (Plain.Boolean at) h = refl
boolean_bits (Plain.Range at range) h = cc h
boolean_bits (Plain.Words at first rest) h = cc h

laid_more : (at : ℕ) (vs : List Variable) (w : Variable) → Laid at vs → HasBits w →
    w.first ≡ fold (λ a x. a + x) at (map (λ v. slots_for v.indices) vs) → Laid at (vs ++ w ∷ [])
laid_more at [] w laid bits e = (e, bits, tt)
laid_more at (v ∷ vs) w laid bits e = (laid.0, laid.1, laid_more (at + slots_for v.indices) vs w laid.2 bits e)

laid_one : (vs : List Variable) (v : Var) → Laid 0 vs → Laid 0 (with_declaration vs v)
laid_one vs v laid = by (list_any (λ known. bytes_eq known.name v.name.text) vs)
  where
    by : (b : Bool) → Laid 0 (cond b vs (vs ++ (variable_from (slot_count vs) v ∷ [])))
    by true = laid
    by false = laid_more 0 vs (variable_from (slot_count vs) v) laid (boolean_bits (element_type v.kind)) refl

laid_all : (vs : List Variable) (ds : List Var) → Laid 0 vs → Laid 0 (with_declarations vs ds)
laid_all vs [] laid = laid
laid_all vs (d ∷ ds) laid = laid_all (with_declaration vs d) ds (laid_one vs d laid)

laid_setting : (programs : List Program) → Laid 0 (variables_of programs)
laid_setting programs = laid_all [] (flat_map declarations programs) tt

-- the slot of a name is that of the variable of that name
pub slot_of_named : (name : List ℕ) (index : Option ℤ) (vs : List Variable) (v : Variable) →
    variable_named name vs ≡ Some v → slot_named name index vs ≡ slot_at v.first v.indices index
slot_of_named name index [] v e = cc e
slot_of_named name index (w ∷ vs) v e = by (bytes_eq name w.name) e (slot_of_named name index vs v)
  where
    by : (b : Bool) → cond b (Some w) (variable_named name vs) ≡ Some v →
        (variable_named name vs ≡ Some v → slot_named name index vs ≡ slot_at v.first v.indices index) →
        cond b (slot_at w.first w.indices index) (slot_named name index vs) ≡ slot_at v.first v.indices index
    by true e rest = let same : w ≡ v = cc in ap (λ x. slot_at x.first x.indices index) same
    by false e rest = rest e

natural_of : (a : ℤ) → pos 0 ≤ℤ a → a ≡ pos (natural a)
natural_of (pos n) h = refl
natural_of (negsuc n) h = absurd (omega (arith, ints))

at_most : (a b : ℤ) → int_le a b ≡ true → a ≤ℤ b
at_most a b e = let h = le-true a b e in omega (arith, ints)

-- a slot of a variable, by its distance from the first
abbrev At : ℕ → Option (ℤ × ℤ) → ℕ → Type 0
At first indices slot = (j : ℕ) × (slot ≡ first + j) × (j < slots_for indices)

at_slot : (first : ℕ) (indices : Option (ℤ × ℤ)) (index : Option ℤ) (slot : ℕ) →
    slot_at first indices index ≡ Some slot → At first indices slot
at_slot first None None slot e = let s : first ≡ slot = cc in (0, omega arith, omega arith)
at_slot first None (Some i) slot e = cc e
at_slot first (Some r) None slot e = cc e
at_slot first (Some r) (Some i) slot e = by (int_le r.0 i) (int_le i r.1) (at_most r.0 i) (at_most i r.1) e
  where
    by : (b c : Bool) → (b ≡ true → r.0 ≤ℤ i) → (c ≡ true → i ≤ℤ r.1) →
        cond (b && c) (Some (first + natural (i -ℤ r.0))) None ≡ Some slot → At first (Some r) slot
    by false c low high e = cc e
    by true false low high e = cc e
    by true true low high e =
        let l = low refl in
        let h = high refl in
        let n : i -ℤ r.0 ≡ pos (natural (i -ℤ r.0)) = natural_of (i -ℤ r.0) (omega (arith, ints)) in
        let m : r.1 +ℤ pos 1 -ℤ r.0 ≡ pos (range_size r) = natural_of (r.1 +ℤ pos 1 -ℤ r.0) (omega (arith, ints)) in
        let s : first + natural (i -ℤ r.0) ≡ slot = cc in
        (natural (i -ℤ r.0), sym s, omega (arith, ints))

get_first : (r : ℤ × ℤ) (n j : ℕ) (rs : Ranges) → j < n → slice_get (replicate n r ++ rs) j ≡ Some r
get_first r zero j rs h = absurd (omega arith)
get_first r (suc n) zero rs h = refl
get_first r (suc n) (suc j) rs h = get_first r n j rs (omega arith)

get_after : (r : ℤ × ℤ) (n j : ℕ) (rs : Ranges) → slice_get (replicate n r ++ rs) (n + j) ≡ slice_get rs j
get_after r zero j rs = let e : 0 + j ≡ j = omega arith in ap (slice_get rs) e
get_after r (suc n) j rs = let e : suc n + j ≡ suc (n + j) = omega arith in
    ap (slice_get (replicate (suc n) r ++ rs)) e ∙ get_after r n j rs

abbrev Place : ℕ → List Variable → Variable → ℕ → Type 0
Place at vs v j = (i : ℕ) × (v.first + j ≡ at + i) × (slice_get (slot_ranges vs) i ≡ Some v.range)

placed : (at : ℕ) (vs : List Variable) (name : List ℕ) (v : Variable) (j : ℕ) → Laid at vs →
    variable_named name vs ≡ Some v → j < slots_for v.indices → Place at vs v j
placed at [] name v j laid e h = cc e
placed at (w ∷ vs) name v j laid e h = by (bytes_eq name w.name) e
    (λ f. placed (at + slots_for w.indices) vs name v j laid.2 f h)
  where
    here : w ≡ v → Place at (w ∷ vs) v j
    here same = subst (λ x. j < slots_for x.indices → Place at (w ∷ vs) x j) same
        (λ k. (j, ap (λ first. first + j) laid.0, get_first w.range (slots_for w.indices) j (slot_ranges vs) k)) h

    after : Place (at + slots_for w.indices) vs v j → Place at (w ∷ vs) v j
    after p = (
      slots_for w.indices + p.0,
      (let q = p.1 in omega (arith, q)),
      get_after w.range (slots_for w.indices) p.0 (slot_ranges vs) ∙ p.2,
    )

    by : (b : Bool) → cond b (Some w) (variable_named name vs) ≡ Some v →
        (variable_named name vs ≡ Some v → Place (at + slots_for w.indices) vs v j) → Place at (w ∷ vs) v j
    by true f rest = here (cc)
    by false f rest = after (rest f)

-- the number of a slot is in the slot's range
number_in : (rs : Ranges) (state : State) (slot : ℕ) (r : ℤ × ℤ) → is_state rs state ≡ true →
    slice_get rs slot ≡ Some r → in_range (Some r) (slice_index_or state slot (pos 0)) ≡ true
number_in [] zs slot r s e = cc e
number_in (q ∷ rs) [] slot r s e = cc s
number_in (q ∷ rs) (z ∷ zs) zero r s e = let same : q ≡ r = cc in
    subst (λ x. in_range (Some x) z ≡ true) same (and_first (in_range (Some q) z) (is_state rs zs) s)
number_in (q ∷ rs) (z ∷ zs) (suc slot) r s e =
    number_in rs zs slot r (and_second (in_range (Some q) z) (is_state rs zs) s) e

pub slots_as_declared : SlotsAsDeclared
slots_as_declared programs name index v slot e f =
    let vs = variables_of programs in
    let a = at_slot v.first v.indices index slot (sym (slot_of_named name index vs v e) ∙ f) in
    let p = placed 0 vs name v a.0 (laid_setting programs) e a.2 in
    let same : slot ≡ p.0 = (let g = a.1 in let h = p.1 in omega (arith, g, h)) in
    ap (slice_get (slot_ranges vs)) same ∙ p.2

pub numbers_as_declared : NumbersAsDeclared
numbers_as_declared programs name index v slot state s e f =
    number_in (slot_ranges (variables_of programs)) state slot v.range s
    (slots_as_declared programs name index v slot e f)

bits_named : (at : ℕ) (vs : List Variable) (name : List ℕ) (v : Variable) → Laid at vs →
    variable_named name vs ≡ Some v → HasBits v
bits_named at [] name v laid e = cc e
bits_named at (w ∷ vs) name v laid e = by (bytes_eq name w.name) e
    (bits_named (at + slots_for w.indices) vs name v laid.2)
  where
    by : (b : Bool) → cond b (Some w) (variable_named name vs) ≡ Some v →
        (variable_named name vs ≡ Some v → HasBits v) → HasBits v
    by true f rest = let same : w ≡ v = cc in subst HasBits same laid.1
    by false f rest = rest f

pub truths_are_bits : TruthsAreBits
truths_are_bits programs name v e = bits_named 0 (variables_of programs) name v (laid_setting programs) e

bit_in : (z : ℤ) → in_range (Some (pos 0, pos 1)) z ≡ true → (z ≡ pos 0) ⊎ (z ≡ pos 1)
bit_in (pos zero) h = inl refl
bit_in (pos (suc zero)) h = inr refl
bit_in (pos (suc (suc n))) h =
    let z : ℤ = pos (suc (suc n)) in
    let high = le-true z (pos 1) (and_second (int_le (pos 0) z) (int_le z (pos 1)) h) in
    absurd (omega (arith, ints))
bit_in (negsuc n) h =
    let low = le-true (pos 0) (negsuc n) (and_first (int_le (pos 0) (negsuc n)) (int_le (negsuc n) (pos 1)) h) in
    absurd (omega (arith, ints))

pub truth_slots_are_bits : TruthSlotsAreBits
truth_slots_are_bits programs name index v slot state s e f truth =
    bit_in (slice_index_or state slot (pos 0))
    (subst (λ r. in_range (Some r) (slice_index_or state slot (pos 0)) ≡ true) (truths_are_bits programs name v e truth)
    (numbers_as_declared programs name index v slot state s e f))
