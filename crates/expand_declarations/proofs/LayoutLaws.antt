-- The layout of variables, as the code keeps it.
use Rattle.std.proofs.Common.{◌≡◌, ℕ, zero, suc, ◌+◌, ◌-◌, ◌<◌, ◌≤◌, List, [], ◌∷◌, ◌++◌, map, length, Bool, true}
use Rattle.std.proofs.Common.{false, cond, Option, Some, None, refl, sym, ap, ◌∙◌, arith, Bor, get_or, drop}
use Rattle.std.proofs.Common.{subst, take, All, drop-cons, add-one, Result, Ok, Err, OnOk, append_assoc}
use Rattle.std.proofs.Common.{length-append, zero-add}
use Rattle.std.specs.Prelude.{ℤ, pos, ◌+ℤ◌, ◌||◌, is_some, sum, nat_lt, option_map, unwrap_or}
use Rattle.std.specs.List.{flat_map}
use Rattle.std.proofs.lemmas.List.Elements.{All-nil, All-cons, All-head, All-tail, All-append, All-weaker}
use Rattle.core_terms.specs.declared.trees.Range.{Range}
use Rattle.std.specs.Map.{lookup}
use Rattle.std.specs.Str.{bytes_eq}
use Rattle.std.proofs.lemmas.Int.{ints}
use Rattle.std.proofs.lemmas.List.{map-append, append-nil}
use Rattle.std.proofs.lemmas.List.Sums.{sum_by-append}
use borrow.Author.Tests.{ltb-true}
use Rattle.indexmap.specs.IndexMap.{insert_entry}
use Rattle.unity_syntax.specs.declared.declaration.Var.{Var}
use Rattle.unity_syntax.specs.declared.document.Part.{Part}
use Rattle.expand_expressions.specs.from_meaning_documents.Names.{Variable}
use Rattle.meaning_executions.specs.Counting.{range_size}
use Rattle.expand_expressions.specs.from_meaning_documents.Setting.{slots_for, slot_count, type_indices, variable_from}
use Rattle.expand_expressions.specs.from_meaning_documents.Setting.{with_declaration}
use Rattle.expand_expressions.specs.from_meaning_documents.Setting.{with_declarations, declarations, programs_among}
use Rattle.names_rules.specs.Scope.{entries, seen_entries}
use Rattle.names_rules.proofs.Lookups.{inserted}
use Rattle.expand_declarations.proofs.TableLaws.{bytes_eq-sym, insert_absent}
use Rattle.expand_expressions.specs.declared.places.VariableSlots.{VariableSlots}
use Rattle.expand_expressions.specs.Places.{HasSlots, ends_of, variable_of, variables_of, AreNear}
use Rattle.expand_declarations.specs.declared.layout.Layout.{Layout}
use Rattle.expand_declarations.specs.Texts.{Texts}
use Rattle.expand_declarations.specs.Slots.{slot_at, index_values, slots_of, element_slots, is_known, new_slots}
use Rattle.expand_declarations.specs.Slots.{part_declarations, declared_by, most_slots, past_from, variables_in}
use Rattle.expand_declarations.specs.Slots.{IsCounted, Laid, AreNearEnds, HasNearIndices, DeclaredNear, HaveSlots}
use Rattle.expand_declarations.specs.Slots.{IsWholeLayout, PartsBeforeAreFew, PartsBeforeAreNear}

found_or : (b c d : Bool) (p : VariableSlots) (rest : Option VariableSlots) → b ≡ c → is_some rest ≡ d →
    is_some (cond b (Some p) rest) ≡ (c || d)
found_or true true d p rest s h = refl
found_or true false d p rest s h = cc s
found_or false true d p rest s h = cc s
found_or false false d p rest s h = h

-- a name that is found is that of a variable
pub known_found : (es : List (List ℕ × VariableSlots)) (name : List ℕ) →
    is_some (lookup (bytes_eq name) es) ≡ is_known (variables_of es) name
known_found [] name = refl
known_found (e ∷ es) name = found_or (bytes_eq name e.0) (bytes_eq e.0 name) (is_known (variables_of es) name) e.1
    (lookup (bytes_eq name) es) (bytes_eq-sym name e.0) (known_found es name)

-- a name that is new stands last
pub entered : (es : List (Bor (List ℕ) × VariableSlots)) (k : Bor (List ℕ)) (name : List ℕ) (p : VariableSlots) →
    k.now ≡ name → is_known (variables_of (seen_entries es)) name ≡ false →
    variables_of (seen_entries (insert_entry (λ (j k : Bor (List ℕ)). bytes_eq j.now k.now) es k p)) ≡
    variables_of (seen_entries es) ++ variable_of name p ∷ []
entered es k name p same new = ap variables_of (inserted es k p
    ∙ ap (λ (n : List ℕ). insert_entry bytes_eq (seen_entries es) n p) same
    ∙ insert_absent (seen_entries es) name p (known_found (seen_entries es) name ∙ new))
    ∙ map-append (λ (e : List ℕ × VariableSlots). variable_of e.0 e.1) (seen_entries es) ((name, p) ∷ [])

-- counts

length-elements : (words : Texts) (v : Var) (low : ℤ) (n : ℕ) → length (element_slots words v low n) ≡ n
length-elements words v low zero = refl
length-elements words v low (suc n) = ap suc (length-elements words v (low +ℤ pos 1) n)

length-indexed : (words : Texts) (v : Var) (indices : Option (ℤ × ℤ)) →
    length (map (slot_at words v) (index_values indices)) ≡ slots_for indices
length-indexed words v None = refl
length-indexed words v (Some r) = length-elements words v r.0 (range_size r)

pub length-slots_of : (words : Texts) (v : Var) → length (slots_of words v) ≡ slots_for (type_indices v.kind)
length-slots_of words v = length-indexed words v (type_indices v.kind)

pub slot_count-more : (vs : List Variable) (v : Variable) →
    slot_count (vs ++ v ∷ []) ≡ slot_count vs + slots_for v.indices
slot_count-more vs v = ap sum (map-append (λ (w : Variable). slots_for w.indices) vs (v ∷ []))
    ∙ sum_by-append (λ x. x) (map (λ (w : Variable). slots_for w.indices) vs) (slots_for v.indices ∷ [])
    ∙ ap (λ n. slot_count vs + n) (zero-add (slots_for v.indices))

grows_one : (vs : List Variable) (v : Var) → slot_count vs ≤ slot_count (with_declaration vs v)
grows_one vs v = by (is_known vs v.name.text)
  where
    by : (b : Bool) → slot_count vs ≤ slot_count (cond b vs (vs ++ (variable_from (slot_count vs) v ∷ [])))
    by true = omega arith
    by false = rw (slot_count-more vs (variable_from (slot_count vs) v)) (omega arith)

-- more declarations, more slots
pub slot_count-grows : (vs : List Variable) (ds : List Var) → slot_count vs ≤ slot_count (with_declarations vs ds)
slot_count-grows vs [] = omega arith
slot_count-grows vs (d ∷ ds) =
    let one = grows_one vs d in let others = slot_count-grows (with_declaration vs d) ds in omega arith

-- declarations one after the other

pub with_declarations-append : (vs : List Variable) (ds es : List Var) →
    with_declarations vs (ds ++ es) ≡ with_declarations (with_declarations vs ds) es
with_declarations-append vs [] es = refl
with_declarations-append vs (d ∷ ds) es = with_declarations-append (with_declaration vs d) ds es

pub new_slots-append : (words : Texts) (vs : List Variable) (ds es : List Var) →
    new_slots words vs (ds ++ es) ≡ new_slots words vs ds ++ new_slots words (with_declarations vs ds) es
new_slots-append words vs [] es = refl
new_slots-append words vs (d ∷ ds) es =
    ap (λ slots. cond (is_known vs d.name.text) [] (slots_of words d) ++ slots)
    (new_slots-append words (with_declaration vs d) ds es)
    ∙ sym (append_assoc (cond (is_known vs d.name.text) [] (slots_of words d))
    (new_slots words (with_declaration vs d) ds)
    (new_slots words (with_declarations (with_declaration vs d) ds) es))

-- from the layout now, these declarations lead to what all lead to from the old one
pub record Ahead (words : Texts) (now : Layout) (ds : List Var) (old : Layout) (all : List Var) : Type 0 where
  pub variables : with_declarations (variables_in now) ds ≡ with_declarations (variables_in old) all
  pub slots : now.slots ++ new_slots words (variables_in now) ds ≡ old.slots ++ new_slots words (variables_in old) all
  pub counted : IsCounted now

pub ahead_more : (words : Texts) (now next old : Layout) (ds rest all : List Var) →
    Ahead words now (ds ++ rest) old all → Laid words now next ds → Ahead words next rest old all
ahead_more words now next old ds rest all a laid = record {
  variables = ap (λ vs. with_declarations vs rest) laid.variables
      ∙ sym (with_declarations-append (variables_in now) ds rest) ∙ a.variables;
  slots = ap (λ slots. slots ++ new_slots words (variables_in next) rest) laid.slots
      ∙ append_assoc now.slots (new_slots words (variables_in now) ds) (new_slots words (variables_in next) rest)
      ∙ ap (λ vs. now.slots ++ (new_slots words (variables_in now) ds ++ new_slots words vs rest)) laid.variables
      ∙ ap (λ slots. now.slots ++ slots) (sym (new_slots-append words (variables_in now) ds rest)) ∙ a.slots;
  counted = laid.counted;
}

pub ahead_past : (words : Texts) (now old : Layout) (ds rest all : List Var) →
    Ahead words now (ds ++ rest) old all →
    most_slots < slot_count (with_declarations (variables_in now) ds) →
    most_slots < slot_count (with_declarations (variables_in old) all)
ahead_past words now old ds rest all a past =
    let whole = ap slot_count (sym (with_declarations-append (variables_in now) ds rest) ∙ a.variables) in
    let more = slot_count-grows (with_declarations (variables_in now) ds) rest in omega arith

-- a name that is new
pub laid_new : (words : Texts) (old new : Layout) (v : Var) (p : VariableSlots) (first : ℕ) → IsCounted old →
    is_known (variables_in old) v.name.text ≡ false → first ≡ length old.slots →
    variable_of v.name.text p ≡ variable_from first v →
    length old.slots + slots_for (type_indices v.kind) ≤ most_slots →
    variables_in new ≡ variables_in old ++ variable_of v.name.text p ∷ [] →
    new.slots ≡ old.slots ++ slots_of words v → Laid words old new (v ∷ [])
laid_new words old new v p first counted known at placed fits vs slots =
    let here : variables_in new ≡ variables_in old ++ (variable_from (slot_count (variables_in old)) v ∷ []) =
    vs ∙ ap (λ x. variables_in old ++ x ∷ []) (placed ∙ ap (λ n. variable_from n v) (at ∙ counted.same)) in
    let long : length new.slots ≡ length old.slots + slots_for (type_indices v.kind) =
    ap length slots ∙ length-append old.slots (slots_of words v)
    ∙ ap (λ n. length old.slots + n) (length-slots_of words v) in
    record {
      variables = here ∙ sym (ap (λ b. cond b (variables_in old) (variables_in old
          ++ (variable_from (slot_count (variables_in old)) v ∷ []))) known);
      slots = slots ∙ sym (ap (λ b. old.slots ++ (cond b [] (slots_of words v) ++ [])) known
          ∙ ap (λ xs. old.slots ++ xs) (append-nil (slots_of words v)));
      counted = record {
        same = long ∙ ap (λ n. n + slots_for (type_indices v.kind)) counted.same
            ∙ sym (ap slot_count here
            ∙ slot_count-more (variables_in old) (variable_from (slot_count (variables_in old)) v));
        few = rw long fits;
      };
    }

-- parts one after the other
pub record AheadParts (words : Texts) (now : Layout) (place : ℕ) (parts : List Part) (old : Layout) (all : List Part)
    :
    Type 0 where
  pub laid : Ahead words now (declared_by parts) old (declared_by all)
  pub past : past_from place (variables_in now) parts ≡ past_from 0 (variables_in old) all

past_at : (b : Bool) (n place : ℕ) (rest : Option ℕ) → nat_lt most_slots n ≡ b → n ≤ most_slots →
    cond b (Some place) rest ≡ rest
past_at true n place rest h le = absurd (omega (arith, ltb-true most_slots n h))
past_at false n place rest h le = refl

pub parts_more : (words : Texts) (now next old : Layout) (place : ℕ) (p : Part) (rest all : List Part) →
    AheadParts words now place (p ∷ rest) old all → Laid words now next (part_declarations p) →
    AheadParts words next (place + 1) rest old all
parts_more words now next old place p rest all a laid =
    let few : slot_count (with_declarations (variables_in now) (part_declarations p)) ≤ most_slots =
    let same = ap slot_count laid.variables in let counted = laid.counted in omega arith in
    record {
      laid = ahead_more words now next old (part_declarations p) (declared_by rest) (declared_by all) a.laid laid;
      past = ap (λ vs. past_from (place + 1) vs rest) laid.variables
          ∙ sym (past_at _ (slot_count (with_declarations (variables_in now) (part_declarations p))) place
          (past_from (place + 1) (with_declarations (variables_in now) (part_declarations p)) rest) refl few) ∙
          a.past;
    }

-- the elements of an array from its k-th on
pub element_slots-step : (words : Texts) (v : Var) (low : ℤ) (count k : ℕ) → k < count →
    element_slots words v (low +ℤ pos k) (count - k) ≡
    slot_at words v (Some (low +ℤ pos k)) ∷ element_slots words v (low +ℤ pos (k + 1)) (count - (k + 1))
element_slots-step words v low count k h =
    let n : count - k ≡ suc (count - (k + 1)) = omega arith in
    let z : (low +ℤ pos k) +ℤ pos 1 ≡ low +ℤ pos (k + 1) = omega (arith, ints) in
    ap (element_slots words v (low +ℤ pos k)) n ∙
    ap (λ y. slot_at words v (Some (low +ℤ pos k)) ∷ element_slots words v y (count - (k + 1))) z

-- an item of a list, and those after it
pub drop_item : {X : Type 0} (xs : List X) (i : ℕ) (x : X) → i < length xs → x ≡ get_or xs i x →
    drop i xs ≡ x ∷ drop (i + 1) xs
drop_item xs i x h e = drop-cons xs i x h ∙ ap (λ y. y ∷ drop (suc i) xs) (sym e)
    ∙ ap (λ j. x ∷ drop j xs) (sym (add-one i))

-- where the slots of variables are

-- a variable whose slots are among the first ones, and whose indices are not too large
record Lies (count : ℕ) (v : Variable) : Type 0 where
  pub within : v.first + slots_for v.indices ≤ count
  pub near : AreNearEnds v.indices

lies_one : (vs : List Variable) (d : Var) → HasNearIndices d → All (Lies (slot_count vs)) vs →
    All (Lies (slot_count (with_declaration vs d))) (with_declaration vs d)
lies_one vs d near h = by (is_known vs d.name.text)
  where
    v : Variable
    v = variable_from (slot_count vs) d

    more : slot_count (vs ++ v ∷ []) ≡ slot_count vs + slots_for (type_indices d.kind)
    more = slot_count-more vs v

    by : (b : Bool) → All (Lies (slot_count (cond b vs (vs ++ v ∷ [])))) (cond b vs (vs ++ v ∷ []))
    by true = h
    by false = let P = Lies (slot_count (vs ++ v ∷ [])) in All-append P vs (v ∷ [])
        (All-weaker (Lies (slot_count vs)) P
        (λ u l. let w = l.within in let m = more in record { within = omega arith; near = l.near }) vs h)
        (All-cons P v [] (let m = more in record { within = omega arith; near = near }) (All-nil P))

lies_all : (vs : List Variable) (ds : List Var) → All HasNearIndices ds → All (Lies (slot_count vs)) vs →
    All (Lies (slot_count (with_declarations vs ds))) (with_declarations vs ds)
lies_all vs [] near h = h
lies_all vs (d ∷ ds) near h = lies_all (with_declaration vs d) ds (All-tail HasNearIndices d ds near)
    (lies_one vs d (All-head HasNearIndices d ds near) h)

-- what holds of each variable holds of the one that a name finds
of_found : (P : Variable → Type 0) (es : List (List ℕ × VariableSlots)) → All P (variables_of es) → (name : List ℕ)
    (v : VariableSlots) → lookup (bytes_eq name) es ≡ Some v → (word : List ℕ) × P (variable_of word v)
of_found P [] h name v found = cc found
of_found P (e ∷ es) h name v found = by (bytes_eq name e.0) found
    (λ k. of_found P es (All-tail P (variable_of e.0 e.1) (variables_of es) h) name v k)
  where
    by : (b : Bool) → cond b (Some e.1) (lookup (bytes_eq name) es) ≡ Some v →
        (lookup (bytes_eq name) es ≡ Some v → (word : List ℕ) × P (variable_of word v)) →
        (word : List ℕ) × P (variable_of word v)
    by true same further = (
      e.0,
      subst (λ (w : VariableSlots). P (variable_of e.0 w))
          (ap (λ (o : Option VariableSlots). unwrap_or o e.1) same)
          (All-head P (variable_of e.0 e.1) (variables_of es) h),
    )
    by false found further = further found

near_indices : (indices : Option Range) → AreNearEnds (option_map ends_of indices) → AreNear indices
near_indices None h = tt
near_indices (Some r) h = let low = h.0 in let high = h.1 in (omega arith, omega arith)

has_slots : (count : ℕ) (word : List ℕ) (v : VariableSlots) → count ≤ most_slots → Lies count (variable_of word v) →
    HasSlots v
has_slots count word v few lies = let within = lies.within in
    record { slots = omega arith; indices = near_indices v.indices lies.near }

pub have_slots : (es : List (List ℕ × VariableSlots)) (ds : List Var) → variables_of es ≡ with_declarations [] ds →
    slot_count (variables_of es) ≤ most_slots → All HasNearIndices ds → HaveSlots es
have_slots es ds same few near = record {
  each = λ name v found. let vs = with_declarations [] ds in
      let lies = of_found (Lies (slot_count vs)) es
      (subst (λ (us : List Variable). All (Lies (slot_count vs)) us) (sym same)
      (lies_all [] ds near (All-nil (Lies 0)))) name v found in
      has_slots (slot_count vs) lies.0 v (subst (λ (us : List Variable). slot_count us ≤ most_slots) same few) lies.1;
}

-- parts declare what the programs among them declare
pub declared-among : (parts : List Part) → declared_by parts ≡ flat_map declarations (programs_among parts)
declared-among [] = refl
declared-among (Part.Program at program ∷ rest) = ap (λ ds. declarations program ++ ds) (declared-among rest)
declared-among (Part.Proof at proof ∷ rest) = declared-among rest

-- a layout of all parts that begins with nothing
pub whole : (words : Texts) (old l : Layout) (parts : List Part) → DeclaredNear parts → variables_in old ≡ [] →
    old.slots ≡ [] → Laid words old l (declared_by parts) → past_from 0 (variables_in old) parts ≡ None →
    IsWholeLayout words l parts
whole words old l parts near none empty laid past =
    let same : variables_of (entries l.variables) ≡ with_declarations [] (declared_by parts) =
    laid.variables ∙ ap (λ vs. with_declarations vs (declared_by parts)) none in
    record {
      variables = same;
      setting = same ∙ ap (with_declarations []) (declared-among parts);
      have = have_slots (entries l.variables) (declared_by parts) same
          (subst (λ (n : ℕ). n ≤ most_slots) laid.counted.same laid.counted.few) near.each;
      slots = laid.slots ∙ ap (λ slots. slots ++ new_slots words (variables_in old) (declared_by parts)) empty
          ∙ ap (λ vs. new_slots words vs (declared_by parts)) none;
      few = laid.counted.few;
      past = sym (ap (λ vs. past_from 0 vs parts) none) ∙ past;
    }

-- the part by which there are too many slots

record Split (place : ℕ) (vs : List Variable) (parts : List Part) (past : ℕ) : Type 0 where
  pub before : ℕ
  pub at : past ≡ place + before
  pub within : before < length parts
  pub few : past_from place vs (take before parts) ≡ None

split_at : (place : ℕ) (vs : List Variable) (parts : List Part) (past : ℕ) → past_from place vs parts ≡ Some past →
    Split place vs parts past
split_at place vs [] past h = cc h
split_at place vs (p ∷ rest) past h =
    by (nat_lt most_slots (slot_count (with_declarations vs (part_declarations p)))) refl h
    (split_at (place + 1) (with_declarations vs (part_declarations p)) rest past)
  where
    next : List Variable
    next = with_declarations vs (part_declarations p)

    by : (b : Bool) → nat_lt most_slots (slot_count next) ≡ b →
        cond b (Some place) (past_from (place + 1) next rest) ≡ Some past →
        (past_from (place + 1) next rest ≡ Some past → Split (place + 1) next rest past) →
        Split place vs (p ∷ rest) past
    by true e h further = let same : place ≡ past = ap (λ (o : Option ℕ). unwrap_or o place) h in record {
      before = 0;
      at = omega arith;
      within = omega arith;
      few = refl;
    }
    by false e h further = let s = further h in let at = s.at in let within = s.within in record {
      before = suc s.before;
      at = omega arith;
      within = omega arith;
      few = ap (λ b. cond b (Some place) (past_from (place + 1) next (take s.before rest))) e ∙ s.few;
    }

pub parts_before_are_few : PartsBeforeAreFew
parts_before_are_few place parts h = let s = split_at 0 [] parts place h in let at = s.at in let within = s.within in
    let same : s.before ≡ place = omega arith in record {
      within = omega arith;
      few = subst (λ (n : ℕ). past_from 0 [] (take n parts) ≡ None) same s.few;
    }

-- the first parts

all_first : (P : Var → Type 0) (xs ys : List Var) → All P (xs ++ ys) → All P xs
all_first P [] ys h = All-nil P
all_first P (x ∷ xs) ys h =
    All-cons P x xs (All-head P x (xs ++ ys) h) (all_first P xs ys (All-tail P x (xs ++ ys) h))

all_further : (P : Var → Type 0) (xs ys : List Var) → All P (xs ++ ys) → All P ys
all_further P [] ys h = h
all_further P (x ∷ xs) ys h = all_further P xs ys (All-tail P x (xs ++ ys) h)

near_before : (place : ℕ) (parts : List Part) → All HasNearIndices (declared_by parts) →
    All HasNearIndices (declared_by (take place parts))
near_before zero [] h = All-nil HasNearIndices
near_before zero (p ∷ rest) h = All-nil HasNearIndices
near_before (suc n) [] h = All-nil HasNearIndices
near_before (suc n) (p ∷ rest) h = let ds = part_declarations p in
    All-append HasNearIndices ds (declared_by (take n rest)) (all_first HasNearIndices ds (declared_by rest) h)
    (near_before n rest (all_further HasNearIndices ds (declared_by rest) h))

pub parts_before_are_near : PartsBeforeAreNear
parts_before_are_near place parts near = record { each = near_before place parts near.each }

pub on_ok : {X E P Q : Type 0} (r : Result X E) → (P → Q) → OnOk r P → OnOk r Q
on_ok (Ok x) f p = f p
on_ok (Err e) f p = tt
