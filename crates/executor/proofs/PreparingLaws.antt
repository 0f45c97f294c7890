-- Writes that are added one by one make the step of all of them.
use Rattle.std.proofs.Common.{◌≡◌, ℕ, zero, suc, ◌+◌, ◌-◌, ◌<◌, ◌≢◌, nat_eq, ℤ, pos, List, [], ◌∷◌, ◌++◌, length}
use Rattle.std.proofs.Common.{drop, Bool, true, false, cond, not, ◌&&◌, ◌||◌, IsTrue, Some, None, refl, sym, ap, ◌∙◌}
use Rattle.std.proofs.Common.{subst, slice_get, slice_set, get_or, arith, inl, inr, get_or-set_same, get_or-set_other}
use Rattle.std.proofs.lemmas.List.{length-set, length-map}
use Rattle.std.specs.List.{list_all, list_any}
use Rattle.std.specs.Option.{option_map}
use Rattle.std.proofs.lemmas.Option.{slice_get-map, slice_get_read}
use Rattle.std.proofs.lemmas.Bool.Decides.{eqb_tells}
use Rattle.meaning_states.specs.State.{State, Ranges, int_eq, in_range}
use Rattle.meaning_states.specs.Step.{Write, is_inside, agrees, all_agree, is_defined, put, written, step}
use Rattle.meaning_states.proofs.StepTheorems.{and_left, and_right, same_number}
use Rattle.core_terms.specs.declared.trees.CForm.{CForm}
use Rattle.core_terms.specs.declared.programs.CSlot.{CSlot}
use Rattle.core_terms.specs.declared.programs.CStmt.{CStmt}
use Rattle.core_terms.specs.declared.programs.CWrite.{CWrite}
use Rattle.core_terms.specs.Values.{number_at, term_value, form_value}
use Rattle.core_terms.specs.Steps.{slot_ranges, outside_writes, inside_writes, core_writes, core_step}
use Rattle.executor.specs.Preparing.{unmarked, marks, IsStepPrepared, write_at, is_addable, is_target, TouchesOnly}
use Rattle.executor.proofs.StartLaws.{put-slice_set}

-- one of the writes is for the slot
is_written : ℕ → List Write → Bool
is_written n [] = false
is_written n ((None, z) ∷ ws) = is_written n ws
is_written n ((Some m, z) ∷ ws) = nat_eq n m || is_written n ws

length-put : (state : State) (n : ℕ) (z : ℤ) → length (put state n z) ≡ length state
length-put state n z = ap length (sym (put-slice_set state n z)) ∙ length-set state n z

length-written : (state : State) (ws : List Write) → length (written state ws) ≡ length state
length-written state [] = refl
length-written state ((None, z) ∷ ws) = length-written state ws
length-written state ((Some n, z) ∷ ws) = length-put (written state ws) n z ∙ length-written state ws

length-marks : (clear : List Bool) (ws : List Write) → length (marks clear ws) ≡ length clear
length-marks clear [] = refl
length-marks clear ((None, z) ∷ ws) = length-marks clear ws
length-marks clear ((Some n, z) ∷ ws) = length-set (marks clear ws) n true ∙ length-marks clear ws

none_marked : (state : State) (n : ℕ) → get_or (unmarked state) n false ≡ false
none_marked [] n = refl
none_marked (z ∷ zs) zero = refl
none_marked (z ∷ zs) (suc n) = none_marked zs n

-- a slot is marked where one of the writes is for it
marked_at : (state : State) (ws : List Write) (n : ℕ) → n < length state →
    get_or (marks (unmarked state) ws) n false ≡ is_written n ws
unfolding is_written
marked_at state [] n h = none_marked state n
marked_at state ((None, z) ∷ ws) n h = marked_at state ws n h
marked_at state ((Some m, z) ∷ ws) n h =
    let size = length-marks (unmarked state) ws ∙ length-map state (λ _. false) in
    elim (eqb_tells n m) [
      | inl w ↦
          let same : m ≡ n = sym w.1 in
          let inside : n < length (marks (unmarked state) ws) = omega (arith, size) in
          rw w.0 (subst (λ k. get_or (slice_set (marks (unmarked state) ws) k true) n false ≡ true) w.1
          (get_or-set_same (marks (unmarked state) ws) n true false inside))
      | inr w ↦
          rw w.0 (get_or-set_other (marks (unmarked state) ws) m n true false w.1 ∙ marked_at state ws n h)
    ]

number_put : (state : State) (n : ℕ) (z : ℤ) → n < length state → number_at (put state n z) n ≡ z
number_put [] n z h = absurd (omega arith)
number_put (y ∷ ys) zero z h = refl
number_put (y ∷ ys) (suc n) z h = number_put ys n z (omega arith)

number_put_other : (state : State) (m n : ℕ) (z : ℤ) → n ≢ m → number_at (put state m z) n ≡ number_at state n
number_put_other [] m n z d = refl
number_put_other (y ∷ ys) zero zero z d = absurd (d refl)
number_put_other (y ∷ ys) zero (suc n) z d = refl
number_put_other (y ∷ ys) (suc m) zero z d = refl
number_put_other (y ∷ ys) (suc m) (suc n) z d = number_put_other ys m n z (λ e. d (ap suc e))

first_decides : (b r : Bool) → (IsTrue b → IsTrue r) → (b && r) ≡ b
first_decides true r h = h refl
first_decides false r h = refl

-- writes that agree give a slot the number that another write for it must have
agrees_next : (state : State) (ws : List Write) (n : ℕ) (z : ℤ) → n < length state → IsTrue (all_agree ws) →
    list_all (agrees (Some n, z)) ws ≡ (not (is_written n ws) || int_eq z (number_at (written state ws) n))
unfolding is_written
agrees_next state [] n z h a = refl
agrees_next state ((None, y) ∷ ws) n z h a =
    agrees_next state ws n z h (and_right (list_all (agrees (None, y)) ws) (all_agree ws) a)
agrees_next state ((Some m, y) ∷ ws) n z h a =
    let first = and_left (list_all (agrees (Some m, y)) ws) (all_agree ws) a in
    let rest = and_right (list_all (agrees (Some m, y)) ws) (all_agree ws) a in
    elim (eqb_tells n m) [
      | inl w ↦
          let inside : m < length (written state ws) = omega (arith, length-written state ws) in
          let there : number_at (put (written state ws) m y) n ≡ y =
          subst (λ k. number_at (put (written state ws) m y) k ≡ y) (sym w.1)
          (number_put (written state ws) m y inside) in
          let others : IsTrue (int_eq z y) → IsTrue (list_all (agrees (Some n, z)) ws) = λ e.
          subst (λ k. IsTrue (list_all (agrees (Some k, z)) ws)) (sym w.1)
          (subst (λ x. IsTrue (list_all (agrees (Some m, x)) ws)) (sym (same_number z y e)) first) in
          rw w.0 (first_decides (int_eq z y) (list_all (agrees (Some n, z)) ws) others ∙ ap (int_eq z) (sym there))
      | inr w ↦
          rw w.0 (agrees_next state ws n z h rest
          ∙ ap (λ x. not (is_written n ws) || int_eq z x) (sym (number_put_other (written state ws) m n y w.1)))
    ]

both_more : (i all a agree : Bool) → IsTrue (all && agree) → ((i && all) && (a && agree)) ≡ (i && a)
both_more true true true true h = refl
both_more true true false agree h = refl
both_more false all a agree h = refl
both_more i false a agree h = cc
both_more i all a false h = cc

-- one write more is defined where it may be added
pub defined_more : (ranges : Ranges) (state next : State) (marked : List Bool) (ws : List Write) (n : ℕ) (z : ℤ) →
    n < length state → IsStepPrepared ranges state next marked ws →
    is_defined ranges ((Some n, z) ∷ ws) ≡ is_addable ranges next marked n z
defined_more ranges state next marked ws n z h p =
    both_more (in_range (slice_get ranges n) z) (list_all (is_inside ranges) ws) (list_all (agrees (Some n, z)) ws)
    (all_agree ws) p.defined
    ∙ ap (λ b. in_range (slice_get ranges n) z && b)
    (agrees_next state ws n z h (and_right (list_all (is_inside ranges) ws) (all_agree ws) p.defined)
    ∙ ap (λ b. not b || int_eq z (number_at (written state ws) n))
    (sym (ap (λ k. get_or k n false) p.marked_is ∙ marked_at state ws n h))
    ∙ ap (λ s. not (get_or marked n false) || int_eq z (number_at s n)) (sym p.next_is))

-- a write that was added
pub added : (ranges : Ranges) (state next after : State) (marked more : List Bool) (w : CWrite) (z : ℤ) (r : Bool) →
    form_value state [] w.when ≡ true → z ≡ term_value state [] w.value → w.slot < length state →
    r ≡ is_addable ranges next marked w.slot z → (IsTrue r → after ≡ put next w.slot z) →
    (IsTrue r → more ≡ slice_set marked w.slot true) → IsTrue r → (ws : List Write) →
    IsStepPrepared ranges state next marked ws → IsStepPrepared ranges state after more (write_at state w ++ ws)
added ranges state next after marked more w z r holds number h test moves marks_it passed ws p =
    let one : write_at state w ≡ (Some w.slot, z) ∷ [] =
    ap (λ b. cond b ((Some w.slot, term_value state [] w.value) ∷ []) []) holds
    ∙ ap (λ x. (Some w.slot, x) ∷ []) (sym number) in
    subst (λ xs. IsStepPrepared ranges state after more (xs ++ ws)) (sym one) (record {
      next_is = moves passed ∙ ap (λ s. put s w.slot z) p.next_is;
      marked_is = marks_it passed ∙ ap (λ s. slice_set s w.slot true) p.marked_is;
      defined = defined_more ranges state next marked ws w.slot z h p ∙ sym test ∙ passed;
    })

-- a write that was refused
pub refused : (ranges : Ranges) (state next : State) (marked : List Bool) (w : CWrite) (z : ℤ) (r : Bool) →
    form_value state [] w.when ≡ true → z ≡ term_value state [] w.value → w.slot < length state →
    r ≡ is_addable ranges next marked w.slot z → r ≡ false → (ws : List Write) →
    IsStepPrepared ranges state next marked ws → is_defined ranges (write_at state w ++ ws) ≡ false
refused ranges state next marked w z r holds number h test failed ws p =
    let one : write_at state w ≡ (Some w.slot, z) ∷ [] =
    ap (λ b. cond b ((Some w.slot, term_value state [] w.value) ∷ []) []) holds
    ∙ ap (λ x. (Some w.slot, x) ∷ []) (sym number) in
    ap (λ xs. is_defined ranges (xs ++ ws)) one ∙ defined_more ranges state next marked ws w.slot z h p ∙ sym test
    ∙ failed

both_fail : (i all a agree : Bool) → (all && agree) ≡ false → ((i && all) && (a && agree)) ≡ false
both_fail i true a true h = cc
both_fail i false true agree h = go i
  where
    go : (i : Bool) → ((i && false) && (true && agree)) ≡ false
    go true = refl
    go false = refl
both_fail i false false agree h = go i
  where
    go : (i : Bool) → ((i && false) && false) ≡ false
    go true = refl
    go false = refl
both_fail i true a false h = go i a
  where
    go : (i a : Bool) → ((i && true) && (a && false)) ≡ false
    go true true = refl
    go true false = refl
    go false a = refl

-- writes added to undefined ones leave them undefined
undefined_more : (ranges : Ranges) (state : State) (w : CWrite) (ws : List Write) → is_defined ranges ws ≡ false →
    is_defined ranges (write_at state w ++ ws) ≡ false
undefined_more ranges state w ws h = go (form_value state [] w.when)
  where
    go : (b : Bool) →
        is_defined ranges (cond b ((Some w.slot, term_value state [] w.value) ∷ []) [] ++ ws) ≡ false
    go false = h
    go true =
        both_fail (in_range (slice_get ranges w.slot) (term_value state [] w.value)) (list_all (is_inside ranges) ws)
        (list_all (agrees (Some w.slot, term_value state [] w.value)) ws) (all_agree ws) h

pub undefined_stays : (ranges : Ranges) (state : State) (ws : List CWrite) (place : ℕ) →
    is_defined ranges (inside_writes state (drop place ws)) ≡ false →
    is_defined ranges (inside_writes state ws) ≡ false
undefined_stays ranges state ws zero h = h
undefined_stays ranges state [] (suc place) h = h
undefined_stays ranges state (w ∷ ws) (suc place) h =
    undefined_more ranges state w (inside_writes state ws) (undefined_stays ranges state ws place h)

writes_from : (state : State) (ws : List CWrite) (place : ℕ) (w : CWrite) → slice_get ws place ≡ Some w →
    write_at state w ++ inside_writes state (drop (suc place) ws) ≡ inside_writes state (drop place ws)
writes_from state [] place w e = cc
writes_from state (v ∷ ws) zero w e =
    let same : v ≡ w = cc in ap (λ x. write_at state x ++ inside_writes state ws) (sym same)
writes_from state (v ∷ ws) (suc place) w e = writes_from state ws place w e

-- the writes from the place before a place on
pub writes_before : (state : State) (ws : List CWrite) (place : ℕ) (w : CWrite) → 0 < place →
    slice_get ws (place - 1) ≡ Some w →
    write_at state w ++ inside_writes state (drop place ws) ≡ inside_writes state (drop (place - 1) ws)
writes_before state ws zero w h e = absurd (omega arith)
writes_before state ws (suc place) w h e =
    let one : place ≡ suc place - 1 = omega arith in
    subst (λ k. slice_get ws k ≡ Some w →
    write_at state w ++ inside_writes state (drop (suc place) ws) ≡ inside_writes state (drop k ws)) one
    (writes_from state ws place w) e

-- a write that was refused changed nothing
pub prepared_still : (ranges : Ranges) (state next after : State) (marked more : List Bool) (ws : List Write) →
    after ≡ next → more ≡ marked → IsStepPrepared ranges state next marked ws → IsStepPrepared ranges state after more
    ws
prepared_still ranges state next after marked more ws e f p =
    record { next_is = e ∙ p.next_is; marked_is = f ∙ p.marked_is; defined = p.defined }

set_other : {X : Type 0} (xs : List X) (m n : ℕ) (x : X) → n ≢ m → slice_get (slice_set xs m x) n ≡ slice_get xs n
set_other [] m n x d = refl
set_other (y ∷ ys) zero zero x d = absurd (d refl)
set_other (y ∷ ys) zero (suc n) x d = refl
set_other (y ∷ ys) (suc m) zero x d = refl
set_other (y ∷ ys) (suc m) (suc n) x d = set_other ys m n x (λ e. d (ap suc e))

untouched : (state : State) (ws : List CWrite) (n : ℕ) → is_target ws n ≡ false →
    (slice_get (written state (inside_writes state ws)) n ≡ slice_get state n)
    × (slice_get (marks (unmarked state) (inside_writes state ws)) n ≡ slice_get (unmarked state) n)
untouched state [] n h = (refl, refl)
untouched state (w ∷ ws) n h = elim (eqb_tells w.slot n) [
  | inl t ↦ let never : true ≡ false = (rw t.0 at h) in cc
  | inr t ↦
      let rest = untouched state ws n (rw t.0 at h) in
      go (form_value state [] w.when) (λ e. t.1 (sym e)) rest
]
  where
    go : (b : Bool) → n ≢ w.slot →
        (slice_get (written state (inside_writes state ws)) n ≡ slice_get state n)
        × (slice_get (marks (unmarked state) (inside_writes state ws)) n ≡ slice_get (unmarked state) n) →
        (slice_get (written state (cond b ((Some w.slot, term_value state [] w.value) ∷ []) []
        ++ inside_writes state ws)) n
        ≡ slice_get state n)
        × (slice_get (marks (unmarked state) (cond b ((Some w.slot, term_value state [] w.value) ∷ []) []
        ++ inside_writes state ws)) n
        ≡ slice_get (unmarked state) n)
    go false d rest = rest
    go true d rest = (
      ap (λ s. slice_get s n) (sym (put-slice_set (written state (inside_writes state ws)) w.slot
          (term_value state [] w.value)))
          ∙ set_other (written state (inside_writes state ws)) w.slot n (term_value state [] w.value) d ∙ rest.0,
      set_other (marks (unmarked state) (inside_writes state ws)) w.slot n true d ∙ rest.1,
    )

is_target_later : (ws : List CWrite) (place n : ℕ) → is_target ws n ≡ false → is_target (drop place ws) n ≡ false
is_target_later ws zero n h = h
is_target_later [] (suc place) n h = h
is_target_later (w ∷ ws) (suc place) n h = is_target_later ws place n (later (nat_eq w.slot n) h)
  where
    later : (b : Bool) → (b || is_target ws n) ≡ false → is_target ws n ≡ false
    later true t = cc
    later false t = t

-- what is prepared of the writes from a place on changes targets alone
pub touches : (ranges : Ranges) (state next : State) (marked : List Bool) (ws : List CWrite) (place : ℕ) →
    IsStepPrepared ranges state next marked (inside_writes state (drop place ws)) → TouchesOnly ws state next marked
touches ranges state next marked ws place p n h =
    let same = untouched state (drop place ws) n (is_target_later ws place n h) in
    (ap (λ s. slice_get s n) p.next_is ∙ same.0, ap (λ s. slice_get s n) p.marked_is ∙ same.1)

-- lists with the same item at each place
pub same_items : {X : Type 0} (xs ys : List X) → ((n : ℕ) → slice_get xs n ≡ slice_get ys n) → xs ≡ ys
same_items [] [] h = refl
same_items [] (y ∷ ys) h = let e = h 0 in cc
same_items (x ∷ xs) [] h = let e = h 0 in cc
same_items (x ∷ xs) (y ∷ ys) h =
    let e = h 0 in
    let same : x ≡ y = cc in
    ap (λ v. v ∷ xs) same ∙ ap (λ vs. y ∷ vs) (same_items xs ys (λ n. h (suc n)))

get_set_same : {X : Type 0} (xs : List X) (n : ℕ) (x : X) → n < length xs → slice_get (slice_set xs n x) n ≡ Some x
get_set_same [] n x h = absurd (omega arith)
get_set_same (y ∷ ys) zero x h = refl
get_set_same (y ∷ ys) (suc n) x h = get_set_same ys n x (omega arith)

get_number : (state : State) (n : ℕ) → n < length state → slice_get state n ≡ Some (number_at state n)
get_number [] n h = absurd (omega arith)
get_number (y ∷ ys) zero h = refl
get_number (y ∷ ys) (suc n) h = get_number ys n (omega arith)

get_unmarked : (state : State) (n : ℕ) → n < length state → slice_get (unmarked state) n ≡ Some false
get_unmarked [] n h = absurd (omega arith)
get_unmarked (y ∷ ys) zero h = refl
get_unmarked (y ∷ ys) (suc n) h = get_unmarked ys n (omega arith)

is_target_from : (ws : List CWrite) (place n : ℕ) (w : CWrite) → slice_get ws place ≡ Some w → n ≢ w.slot →
    is_target (drop (suc place) ws) n ≡ false → is_target (drop place ws) n ≡ false
is_target_from [] place n w e d h = cc
is_target_from (v ∷ ws) zero n w e d h = elim (eqb_tells v.slot n) [
  | inl t ↦ let same : v ≡ w = cc in absurd (d (sym t.1 ∙ ap (λ (x : CWrite). x.slot) same))
  | inr t ↦ rw t.0 h
]
is_target_from (v ∷ ws) (suc place) n w e d h = is_target_from ws place n w e d h

-- one target less at which states may differ
pub levelled : (state next after : State) (marked less : List Bool) (ws : List CWrite) (place : ℕ) (w : CWrite) →
    slice_get ws place ≡ Some w → w.slot < length state → length next ≡ length state → length marked ≡ length state →
    after ≡ slice_set next w.slot (number_at state w.slot) → less ≡ slice_set marked w.slot false →
    TouchesOnly (drop place ws) state next marked → TouchesOnly (drop (place + 1) ws) state after less
levelled state next after marked less ws place w e h same same_marks f g touched n k = elim (eqb_tells n w.slot) [
  | inl t ↦
      let there : w.slot < length next = omega arith in
      let mark : w.slot < length marked = omega arith in
      subst (λ m. (slice_get after m ≡ slice_get state m) × (slice_get less m ≡ slice_get (unmarked state) m))
      (sym t.1) (
        ap (λ s. slice_get s w.slot) f ∙ get_set_same next w.slot (number_at state w.slot) there
            ∙ sym (get_number state w.slot h),
        ap (λ s. slice_get s w.slot) g ∙ get_set_same marked w.slot false mark ∙ sym (get_unmarked state w.slot h),
      )
  | inr t ↦
      let one : place + 1 ≡ suc place = omega arith in
      let before = touched n (is_target_from ws place n w e t.1
      (subst (λ p. is_target (drop p ws) n ≡ false) one k)) in (
        ap (λ s. slice_get s n) f ∙ set_other next w.slot n (number_at state w.slot) t.1 ∙ before.0,
        ap (λ s. slice_get s n) g ∙ set_other marked w.slot n false t.1 ∙ before.1,
      )
]

-- a number that lies in a range, narrowed
narrow_inside : (b : Bool) (y z : ℤ) → Some y ≡ cond b (Some z) None → (b ≡ true) × (y ≡ z)
narrow_inside true y z e = (refl, cc)
narrow_inside false y z e = cc

pub narrow_same : (r : ℤ × ℤ) (y z : ℤ) → Some y ≡ cond (in_range (Some r) z) (Some z) None → y ≡ z
narrow_same r y z e = (narrow_inside (in_range (Some r) z) y z e).1

-- the range of a slot
pub range_slot : (slots : List CSlot) (n : ℕ) (s : CSlot) → n < length slots → s ≡ get_or slots n s →
    slice_get (slot_ranges slots) n ≡ Some (s.range.lo, s.range.hi)
range_slot slots n s h e =
    slice_get-map (λ (t : CSlot). (t.range.lo, t.range.hi)) slots n
    ∙ ap (option_map (λ (t : CSlot). (t.range.lo, t.range.hi))) (slice_get_read slots (length slots) n s refl h e)

-- a number in range with which the others agree may be added
pub addable_now : (ranges : Ranges) (next : State) (marked : List Bool) (n : ℕ) (r : ℤ × ℤ) (y z : ℤ) →
    slice_get ranges n ≡ Some r → Some y ≡ cond (in_range (Some r) z) (Some z) None →
    (not (get_or marked n false) || int_eq y (number_at next n)) ≡ true → true ≡ is_addable ranges next marked n z
addable_now ranges next marked n r y z e narrow agree =
    let inside = narrow_inside (in_range (Some r) z) y z narrow in
    sym (ap (λ o. in_range o z && (not (get_or marked n false) || int_eq z (number_at next n))) e
    ∙ ap (λ b. b && (not (get_or marked n false) || int_eq z (number_at next n))) inside.0
    ∙ ap (λ x. not (get_or marked n false) || int_eq x (number_at next n)) (sym inside.1) ∙ agree)

-- one of the conditions of writes outside holds
pub outside_fails : (ranges : Ranges) (state : State) (forms : List CForm) (ws : List Write) →
    list_any (form_value state []) forms ≡ true → list_all (is_inside ranges) (outside_writes state forms ++ ws) ≡
    false
outside_fails ranges state [] ws h = cc
outside_fails ranges state (f ∷ forms) ws h =
    go (form_value state [] f) h (λ t. outside_fails ranges state forms ws t)
  where
    go : (b : Bool) → (b || list_any (form_value state []) forms) ≡ true →
        (list_any (form_value state []) forms ≡ true → list_all (is_inside ranges)
        (outside_writes state forms ++ ws) ≡ false) →
        list_all (is_inside ranges) ((cond b ((None, pos 0) ∷ []) [] ++ outside_writes state forms) ++ ws) ≡ false
    go true t rest = refl
    go false t rest = rest t

-- none of them does
pub none_outside : (state : State) (forms : List CForm) → list_any (form_value state []) forms ≡ false →
    outside_writes state forms ≡ []
none_outside state [] h = refl
none_outside state (f ∷ forms) h = go (form_value state [] f) h (λ t. none_outside state forms t)
  where
    go : (b : Bool) → (b || list_any (form_value state []) forms) ≡ false →
        (list_any (form_value state []) forms ≡ false → outside_writes state forms ≡ []) →
        cond b ((None, pos 0) ∷ []) [] ++ outside_writes state forms ≡ []
    go true t rest = cc
    go false t rest = rest t

pub step_outside : (slots : List CSlot) (s : CStmt) (state : State) →
    list_any (form_value state []) s.outside ≡ true → core_step slots s state ≡ None
step_outside slots s state h =
    let ws = core_writes state s in
    ap (λ b. cond (b && all_agree ws) (Some (written state ws)) None)
    (outside_fails (slot_ranges slots) state s.outside (inside_writes state s.writes) h)

-- without writes outside, the step is that of the other writes
step_inside : (slots : List CSlot) (s : CStmt) (state : State) → list_any (form_value state []) s.outside ≡ false →
    core_step slots s state ≡ step (slot_ranges slots) (inside_writes state s.writes) state
step_inside slots s state h =
    ap (λ xs. step (slot_ranges slots) (xs ++ inside_writes state s.writes) state) (none_outside state s.outside h)

pub step_done : (slots : List CSlot) (s : CStmt) (state next : State) → list_any (form_value state []) s.outside
    ≡ false →
    true ≡ is_defined (slot_ranges slots) (inside_writes state s.writes) →
    next ≡ written state (inside_writes state s.writes) → core_step slots s state ≡ Some next
step_done slots s state next h d e =
    step_inside slots s state h
    ∙ ap (λ b. cond b (Some (written state (inside_writes state s.writes))) None) (sym d) ∙ ap Some (sym e)

pub step_undefined : (slots : List CSlot) (s : CStmt) (state : State) → list_any (form_value state []) s.outside
    ≡ false →
    false ≡ is_defined (slot_ranges slots) (inside_writes state s.writes) → core_step slots s state ≡ None
step_undefined slots s state h d =
    step_inside slots s state h
    ∙ ap (λ b. cond b (Some (written state (inside_writes state s.writes))) None) (sym d)

-- the marks of two states of one length
unmarked_alike : (xs ys : State) → length xs ≡ length ys → unmarked xs ≡ unmarked ys
unmarked_alike [] [] e = refl
unmarked_alike [] (y ∷ ys) e = absurd (omega arith)
unmarked_alike (x ∷ xs) [] e = absurd (omega arith)
unmarked_alike (x ∷ xs) (y ∷ ys) e = ap (λ bs. false ∷ bs) (unmarked_alike xs ys (omega arith))

-- seen from the next state
pub touches_back : (state next : State) (marked : List Bool) (ws : List CWrite) → length next ≡ length state →
    TouchesOnly ws state next marked → TouchesOnly ws next state marked
touches_back state next marked ws e touched n k =
    (sym (touched n k).0, (touched n k).1 ∙ ap (λ bs. slice_get bs n) (sym (unmarked_alike next state e)))
