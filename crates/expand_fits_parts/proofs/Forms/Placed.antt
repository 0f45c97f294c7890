-- The slots of a document's variables stand where the variables say.
use Rattle.std.proofs.Common.{◌≡◌, ℕ, zero, suc, ◌+◌, ◌<◌, ◌≤◌, ℤ, pos, ◌+ℤ◌, List, [], ◌∷◌, ◌++◌, map, length, Bool}
use Rattle.std.proofs.Common.{true, false, cond, ◌||◌, Option, Some, None, option_map, ◌⊎◌, inl, inr, refl, sym, ap}
use Rattle.std.proofs.Common.{◌∙◌, subst, arith}
use Rattle.std.proofs.Common.{slice_get, nat_eq, append_assoc}
use Rattle.std.proofs.lemmas.List.{append-nil, length-append}
use Rattle.std.proofs.lemmas.Option.{slice_get_within}
use Rattle.std.proofs.lemmas.Bool.{lt-ltb, eq-eqb}
use Rattle.std.specs.List.{list_any}
use Rattle.std.specs.Str.{bytes_eq}
use Rattle.unity_syntax.specs.declared.declaration.Var.{Var}
use Rattle.meaning_documents.specs.Names.{Variable}
use Rattle.meaning_executions.specs.Counting.{range_size, count_up}
use Rattle.meaning_documents.specs.Setting.{element_type, type_indices, plain_range, slots_for, slot_count}
use Rattle.meaning_documents.specs.Setting.{variable_from}
use Rattle.meaning_documents.specs.Setting.{with_declaration, with_declarations}
use Rattle.meaning_documents.specs.Names.{variable_named}
use Rattle.names_laws.proofs.Inserts.{same_bytes, chosen}
use Rattle.core_terms.specs.declared.programs.CSlot.{CSlot}
use Rattle.core_terms.specs.Weights.{range_weight, slot_weight}
use Rattle.core_terms.specs.Conditions.{is_below, is_shown}
use Rattle.expand_rules.specs.Measures.{ends_weight}
use Rattle.expand_correct.specs.Values.WeightLaws.{SlotsWithin}
use Rattle.expand_declarations.specs.Texts.{Texts}
use Rattle.expand_declarations.specs.WordNumbers.{word_number}
use Rattle.expand_declarations.specs.Numbers.{core_range}
use Rattle.expand_declarations.specs.Slots.{index_values, slot_at, slots_of, is_known, new_slots}
use Rattle.expand_declarations.specs.Shown.{places_from, declared_names, is_slot_of, shown_slots}
use Rattle.expand_declarations.proofs.LayoutLaws.{slot_count-more, length-slots_of}
use Rattle.expand_fits_parts.specs.Forms.Naming.{SlotsPass}
use Rattle.expand_fits_parts.specs.Forms.Placing.{declares, SlotsExist, SlotsWeigh, SlotsShown}

-- lists

pub get_left : {X : Type 0} (xs ys : List X) (n : ℕ) (x : X) → slice_get xs n ≡ Some x → slice_get (xs ++ ys) n ≡ Some x
get_left [] ys n x e = cc e
get_left (y ∷ xs) ys zero x e = e
get_left (y ∷ xs) ys (suc n) x e = get_left xs ys n x e

pub get_right : {X : Type 0} (xs ys : List X) (n : ℕ) → slice_get (xs ++ ys) (length xs + n) ≡ slice_get ys n
get_right [] ys n = let e : 0 + n ≡ n = omega arith in ap (slice_get ys) e
get_right (x ∷ xs) ys n = let e : suc (length xs) + n ≡ suc (length xs + n) = omega arith in
    ap (slice_get (x ∷ (xs ++ ys))) e ∙ get_right xs ys n

or_left : (a b : Bool) → a ≡ true → (a || b) ≡ true
or_left true b h = refl
or_left false b h = cc h

or_right : (a b : Bool) → b ≡ true → (a || b) ≡ true
or_right true b h = refl
or_right false b h = h

-- slots

-- a slot of a variable of this name
pub record IsSlotOf (words : Texts) (name : List ℕ) (range : ℤ × ℤ) (s : CSlot) : Type 0 where
  pub named : s.name ≡ word_number words name
  pub ends : s.range ≡ core_range range

-- the slot at a place of slots is one of a variable of this name
pub record Stands (words : Texts) (name : List ℕ) (range : ℤ × ℤ) (slots : List CSlot) (place : ℕ) : Type 0 where
  pub slot : CSlot
  pub found : slice_get slots place ≡ Some slot
  pub right : IsSlotOf words name range slot

module _ (words : Texts) where
  -- each slot of these variables stands
  abbrev pub AllStand : List Variable → List CSlot → Type 0
  AllStand vs slots = (name : List ℕ) (v : Variable) (j : ℕ) → variable_named name vs ≡ Some v →
      j < slots_for v.indices → Stands words name v.range slots (v.first + j)

  -- the slots of one declaration

  at_index : (d : Var) (is : List (Option ℤ)) (j : ℕ) → j < length is →
      Stands words d.name.text (plain_range (element_type d.kind)) (map (slot_at words d) is) j
  at_index d [] j h = absurd (omega (arith, h))
  at_index d (i ∷ is) zero h = record {
    slot = slot_at words d i;
    found = refl;
    right = record { named = refl; ends = refl };
  }
  at_index d (i ∷ is) (suc j) h =
      let rest = at_index d is j (omega (arith, h)) in
      record { slot = rest.slot; found = rest.found; right = rest.right }

  length_up : (low : ℤ) (n : ℕ) → length (map (λ (z : ℤ). Some z) (count_up low n)) ≡ n
  length_up low zero = refl
  length_up low (suc n) = ap suc (length_up (low +ℤ pos 1) n)

  length_indices : (m : Option (ℤ × ℤ)) → length (index_values m) ≡ slots_for m
  length_indices None = refl
  length_indices (Some r) = length_up r.0 (range_size r)

  -- the variable of a name, where one more is declared
  named_more : (name : List ℕ) (vs : List Variable) (w v : Variable) → variable_named name (vs ++ w ∷ []) ≡ Some v →
      (variable_named name vs ≡ Some v) ⊎ ((bytes_eq name w.name ≡ true) × (v ≡ w))
  named_more name [] w v e = elim (chosen (bytes_eq name w.name) w v None e)
      as (λ x. (variable_named name [] ≡ Some v) ⊎ ((bytes_eq name w.name ≡ true) × (v ≡ w))) [
        | inl new ↦ inr new
        | inr old ↦ inl old.1
      ]
  named_more name (u ∷ vs) w v e = by (bytes_eq name u.name) (named_more name vs w v) e
    where
      by : (b : Bool) → (variable_named name (vs ++ w ∷ []) ≡ Some v →
          (variable_named name vs ≡ Some v) ⊎ ((bytes_eq name w.name ≡ true) × (v ≡ w))) →
          cond b (Some u) (variable_named name (vs ++ w ∷ [])) ≡ Some v →
          (cond b (Some u) (variable_named name vs) ≡ Some v) ⊎ ((bytes_eq name w.name ≡ true) × (v ≡ w))
      by true rest f = inl f
      by false rest f = rest f

  moved : (name : List ℕ) (range : ℤ × ℤ) (slots more : List CSlot) (place : ℕ) →
      Stands words name range slots place → Stands words name range (slots ++ more) place
  moved name range slots more place s =
      record { slot = s.slot; found = get_left slots more place s.slot s.found; right = s.right }

  new_stands : (slots : List CSlot) (d : Var) (first : ℕ) → length slots ≡ first → (name : List ℕ) →
      bytes_eq name d.name.text ≡ true → (j : ℕ) → j < slots_for (type_indices d.kind) →
      Stands words name (plain_range (element_type d.kind)) (slots ++ slots_of words d) (first + j)
  new_stands slots d first l name b j h =
      let same = same_bytes name d.name.text b in
      let long = length_indices (type_indices d.kind) in
      let s = at_index d (index_values (type_indices d.kind)) j (omega (arith, h, long)) in
      record {
        slot = s.slot;
        found = ap (λ n. slice_get (slots ++ slots_of words d) (n + j)) (sym l) ∙ get_right slots (slots_of words d) j
            ∙ s.found;
        right = record { named = s.right.named ∙ ap (word_number words) (sym same); ends = s.right.ends };
      }

  one_stands : (vs : List Variable) (slots : List CSlot) (d : Var) (b : Bool) → AllStand vs slots →
      length slots ≡ slot_count vs →
      AllStand (cond b vs (vs ++ variable_from (slot_count vs) d ∷ [])) (slots ++ cond b [] (slots_of words d))
  one_stands vs slots d true all l name v j e h = moved name v.range slots [] (v.first + j) (all name v j e h)
  one_stands vs slots d false all l name v j e h =
      let w = variable_from (slot_count vs) d in
      elim (named_more name vs w v e) as (λ x. Stands words name v.range (slots ++ slots_of words d) (v.first + j)) [
        | inl old ↦ moved name v.range slots (slots_of words d) (v.first + j) (all name v j old h)
        | inr new ↦ subst (λ (x : Variable). j < slots_for x.indices → Stands words name x.range
            (slots ++ slots_of words d) (x.first + j)) (sym new.1)
            (λ k. new_stands slots d (slot_count vs) l name new.0 j k) h
      ]

  one_long : (vs : List Variable) (slots : List CSlot) (d : Var) (b : Bool) → length slots ≡ slot_count vs →
      length (slots ++ cond b [] (slots_of words d)) ≡
      slot_count (cond b vs (vs ++ variable_from (slot_count vs) d ∷ []))
  one_long vs slots d true l = length-append slots [] ∙ (let z = l in omega (arith, z))
  one_long vs slots d false l =
      let a = length-append slots (slots_of words d) in
      let m = slot_count-more vs (variable_from (slot_count vs) d) in
      let n = length-slots_of words d in
      omega (arith, a, m, n, l)

  stand_all : (vs : List Variable) (slots : List CSlot) (ds : List Var) → AllStand vs slots →
      length slots ≡ slot_count vs → AllStand (with_declarations vs ds) (slots ++ new_slots words vs ds)
  stand_all vs slots [] all l = subst (AllStand vs) (sym (append-nil slots)) all
  stand_all vs slots (d ∷ ds) all l =
      let b = is_known vs d.name.text in
      let here = cond b [] (slots_of words d) in
      subst (AllStand (with_declarations (with_declaration vs d) ds))
      (append_assoc slots here (new_slots words (with_declaration vs d) ds))
      (stand_all (with_declaration vs d) (slots ++ here) ds (one_stands vs slots d b all l) (one_long vs slots d b l))

  pub declared_stand : (ds : List Var) → AllStand (with_declarations [] ds) (new_slots words [] ds)
  declared_stand ds = stand_all [] [] ds (λ name v j e h. cc e) refl

-- what is said of each slot of a variable is said of its slots
pub slots_pass : (test : ℕ → Bool) (v : Variable) (m : Option (ℤ × ℤ)) →
    ((j : ℕ) → j < slots_for m → test (v.first + j) ≡ true) → SlotsPass test v m
slots_pass test v None h = let e : v.first + 0 ≡ v.first = omega arith in ap test (sym e) ∙ h 0 (omega arith)
slots_pass test v (Some r) h = h

pub slots_within : (slots : ℕ → ℕ) (v : Variable) (m : Option (ℤ × ℤ)) →
    ((j : ℕ) → j < slots_for m → slots (v.first + j) ≤ ends_weight v.range) → SlotsWithin slots v m
slots_within slots v None h = let e : v.first + 0 ≡ v.first = omega arith in
    subst (λ n. slots n ≤ ends_weight v.range) e (h 0 (omega arith))
slots_within slots v (Some r) h = h

module _ (words : Texts) (slots : List CSlot) (vs : List Variable) (all : AllStand words vs slots) where
  pub below : (name : List ℕ) (v : Variable) → variable_named name vs ≡ Some v →
      SlotsPass (is_below (length slots)) v v.indices
  below name v e = slots_pass (is_below (length slots)) v v.indices
      (λ j h. let s = all name v j e h in lt-ltb (v.first + j) (length slots)
      (slice_get_within slots (v.first + j) s.slot s.found))

  weight_of : (place : ℕ) (s : CSlot) (range : ℤ × ℤ) → slice_get slots place ≡ Some s → s.range ≡ core_range range →
      slot_weight slots place ≤ ends_weight range
  weight_of place s range e f =
      let one : slot_weight slots place ≡ range_weight (Some s.range) =
      ap (λ (m : Option CSlot). range_weight (option_map (λ x. x.range) m)) e in
      let two : range_weight (Some s.range) ≡ ends_weight range = ap (λ r. range_weight (Some r)) f in
      omega (arith, one, two)

  pub within : (name : List ℕ) (v : Variable) → variable_named name vs ≡ Some v →
      SlotsWithin (slot_weight slots) v v.indices
  within name v e = slots_within (slot_weight slots) v v.indices
      (λ j h. let s = all name v j e h in weight_of (v.first + j) s.slot v.range s.found s.right.ends)

-- shown slots

-- a place whose item passes is among the places
place_shown : {X : Type 0} (test : X → Bool) (first : ℕ) (xs : List X) (k : ℕ) (x : X) → slice_get xs k ≡ Some x →
    test x ≡ true → list_any (λ m. nat_eq m (first + k)) (places_from test first xs) ≡ true
place_shown test first [] k x e h = cc e
place_shown test first (y ∷ xs) zero x e h =
    let same : y ≡ x = cc e in
    let f : first + 0 ≡ first = omega arith in
    subst (λ n. list_any (λ m. nat_eq m n) (places_from test first (y ∷ xs)) ≡ true) (sym f)
    (here (test y) (ap test same ∙ h))
  where
    here : (b : Bool) → b ≡ true → list_any (λ m. nat_eq m first)
        (cond b (first ∷ places_from test (first + 1) xs) (places_from test (first + 1) xs)) ≡ true
    here true k = or_left (nat_eq first first) _ (eq-eqb first first refl)
    here false k = cc k
place_shown test first (y ∷ xs) (suc k) x e h =
    let f : (first + 1) + k ≡ first + suc k = omega arith in
    there (test y) (subst (λ n. list_any (λ m. nat_eq m n) (places_from test (first + 1) xs) ≡ true) f
    (place_shown test (first + 1) xs k x e h))
  where
    there : (b : Bool) → list_any (λ m. nat_eq m (first + suc k)) (places_from test (first + 1) xs) ≡ true →
        list_any (λ m. nat_eq m (first + suc k))
        (cond b (first ∷ places_from test (first + 1) xs) (places_from test (first + 1) xs)) ≡ true
    there true p = or_right (nat_eq first (first + suc k)) _ p
    there false p = p

named_among : (words : Texts) (ds : List Var) (name : List ℕ) → declares ds name ≡ true →
    list_any (nat_eq (word_number words name)) (declared_names words ds) ≡ true
named_among words [] name h = cc h
named_among words (d ∷ ds) name h = by (bytes_eq name d.name.text) (same_bytes name d.name.text) h
    (named_among words ds name)
  where
    by : (b : Bool) → (b ≡ true → name ≡ d.name.text) → (b || declares ds name) ≡ true →
        (declares ds name ≡ true → list_any (nat_eq (word_number words name)) (declared_names words ds) ≡ true) →
        (nat_eq (word_number words name) (word_number words d.name.text) ||
        list_any (nat_eq (word_number words name)) (declared_names words ds)) ≡ true
    by true same h rest = or_left (nat_eq (word_number words name) (word_number words d.name.text)) _
        (eq-eqb (word_number words name) (word_number words d.name.text) (ap (word_number words) (same refl)))
    by false same h rest = or_right (nat_eq (word_number words name) (word_number words d.name.text)) _ (rest h)

-- a declared variable's slots are shown
pub shown_pass : (words : Texts) (slots : List CSlot) (vs : List Variable) → AllStand words vs slots →
    (ds : List Var) (name : List ℕ) (v : Variable) → variable_named name vs ≡ Some v → declares ds name ≡ true →
    SlotsPass (is_shown (shown_slots words ds slots)) v v.indices
shown_pass words slots vs all ds name v e h = slots_pass (is_shown (shown_slots words ds slots)) v v.indices
    (λ j k. let s = all name v j e k in
    let f : 0 + (v.first + j) ≡ v.first + j = omega arith in
    subst (λ n. is_shown (shown_slots words ds slots) n ≡ true) f
    (place_shown (is_slot_of (declared_names words ds)) 0 slots (v.first + j) s.slot s.found
    (ap (λ n. list_any (nat_eq n) (declared_names words ds)) s.right.named ∙ named_among words ds name h)))

pub slots_exist : SlotsExist
slots_exist words ds = below words (new_slots words [] ds) (with_declarations [] ds) (declared_stand words ds)

pub slots_weigh : SlotsWeigh
slots_weigh words ds = within words (new_slots words [] ds) (with_declarations [] ds) (declared_stand words ds)

pub slots_shown : SlotsShown
slots_shown words ds own = shown_pass words (new_slots words [] ds) (with_declarations [] ds) (declared_stand words ds)
    own
