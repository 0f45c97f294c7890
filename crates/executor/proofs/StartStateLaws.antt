-- The start state is a state: each of its numbers lies in the range of its slot.
use Rattle.std.proofs.Common.{◌≡◌, ℕ, suc, ◌+◌, nat_eq, ℤ, pos, ◌≤ℤ◌, List, [], ◌∷◌, ◌++◌, map, Bool, true, false}
use Rattle.std.proofs.Common.{cond, ◌&&◌, IsTrue, Option, Some, None, option_and_then, refl, sym, ap, ◌∙◌, subst}
use Rattle.std.proofs.Common.{slice_get, arith}
use Rattle.std.specs.Prelude.{All, unwrap_or}
use Rattle.std.specs.Option.{option_map}
use Rattle.std.specs.List.{enumerate_from, filter_map, cons_option}
use Rattle.std.specs.Int.RustNames.{int_le}
use Rattle.std.proofs.lemmas.Int.{ints}
use Rattle.std.proofs.lemmas.Bool.Decides.{Decides-eqb}
use Rattle.meaning_states.specs.State.{int_eq, in_range, is_state}
use Rattle.meaning_states.proofs.StepTheorems.{and_right, both_true}
use Rattle.core_terms.specs.declared.trees.CTerm.{CTerm}
use Rattle.core_terms.specs.declared.trees.CForm.{CForm, out-CForm}
use Rattle.core_terms.specs.declared.trees.CForm.TheOpen.{CForm-F}
use Rattle.core_terms.specs.declared.programs.Print.{Print}
use Rattle.core_terms.specs.declared.programs.CSlot.{CSlot}
use Rattle.core_terms.specs.declared.programs.CProgram.{CProgram}
use Rattle.core_terms.specs.Conditions.{IsSlot, IsProgram, PrintFits, StartFits}
use Rattle.core_terms.specs.Steps.{slot_ranges}
use Rattle.core_terms.proofs.BoolLaws.{le_passes}
use Rattle.executor.specs.StartState.{conjuncts, difference, range_at, within_range, is_truth, is_truth_slot, truth_of}
use Rattle.executor.specs.StartState.{boolean_in, fixed_in, fixed, given, start_entries, start_state}
use Rattle.executor.proofs.StateLaws.{all_at}

-- the entry's number lies in the range of its slot
IsInside : List CSlot → ℕ × ℤ → Type 0
IsInside slots e = IsTrue (in_range (range_at slots e.0) e.1)

AreInside : List CSlot → List (ℕ × ℤ) → Type 0
AreInside slots [] = Unit {0}
AreInside slots (e ∷ rest) = IsInside slots e × AreInside slots rest

inside_append : (slots : List CSlot) (xs ys : List (ℕ × ℤ)) → AreInside slots xs → AreInside slots ys →
    AreInside slots (xs ++ ys)
unfolding AreInside
inside_append slots [] ys h k = k
inside_append slots (e ∷ xs) ys h k = (h.0, inside_append slots xs ys h.1 k)

-- what is given lies in its slot's range
given_inside : (slots : List CSlot) (entries : List (ℕ × ℤ)) (n : ℕ) (z : ℤ) → AreInside slots entries →
    given entries n ≡ Some z → IsTrue (in_range (range_at slots n) z)
unfolding AreInside IsInside
given_inside slots [] n z h e = cc
given_inside slots ((m, y) ∷ rest) n z h e =
    go (nat_eq m n) refl e (λ f. given_inside slots rest n z h.1 f)
  where
    go : (b : Bool) → nat_eq m n ≡ b → cond b (Some y) (given rest n) ≡ Some z →
        (given rest n ≡ Some z → IsTrue (in_range (range_at slots n) z)) → IsTrue (in_range (range_at slots n) z)
    go true t f later =
        let slot : m ≡ n = (Decides-eqb m n).0 t in
        let number : y ≡ z = cc in
        subst (λ x. IsTrue (in_range (range_at slots n) x)) number
        (subst (λ k. IsTrue (in_range (range_at slots k) y)) slot h.0)
    go false t f later = later f

-- a truth's range is 0..1
truth_range : (s : CSlot) (print : Print) → is_truth print ≡ true → PrintFits s.range print →
    (s.range.lo ≡ pos 0) × (s.range.hi ≡ pos 1)
truth_range s Print.Number t h = cc
truth_range s Print.Truth t h = h
truth_range s (Print.Words words) t h = cc

boolean_inside : (slots : List CSlot) (n : ℕ) (z : ℤ) → All IsSlot slots → is_truth_slot (slice_get slots n) ≡ true →
    IsTrue (in_range (Some (pos 0, pos 1)) z) → IsTrue (in_range (range_at slots n) z)
boolean_inside slots n z all b inside = go (slice_get slots n) refl b
  where
    go : (o : Option CSlot) → slice_get slots n ≡ o → is_truth_slot o ≡ true →
        IsTrue (in_range (option_map (λ s. (s.range.lo, s.range.hi)) o) z)
    go None e t = cc
    go (Some s) e t =
        let ends = truth_range s s.print t (all_at IsSlot slots all n s e).print in
        subst (λ lo. IsTrue (in_range (Some (lo, s.range.hi)) z)) (sym ends.0)
        (subst (λ hi. IsTrue (in_range (Some (pos 0, hi)) z)) (sym ends.1) inside)

truth_boolean : (slots : List CSlot) (o : Option (ℕ × ℤ)) (n : ℕ) → option_and_then (truth_of slots) o ≡ Some n →
    is_truth_slot (slice_get slots n) ≡ true
truth_boolean slots None n e = cc
truth_boolean slots (Some d) n e = go (int_eq d.1 (pos 1) && is_truth_slot (slice_get slots d.0)) refl e
  where
    go : (b : Bool) → (int_eq d.1 (pos 1) && is_truth_slot (slice_get slots d.0)) ≡ b → cond b (Some d.0) None ≡
        Some n →
        is_truth_slot (slice_get slots n) ≡ true
    go true t f =
        let same : d.0 ≡ n = cc in
        subst (λ k. is_truth_slot (slice_get slots k) ≡ true) same
        (and_right (int_eq d.1 (pos 1)) (is_truth_slot (slice_get slots d.0)) t)
    go false t f = cc

range_inside : (slots : List CSlot) (o : Option (ℕ × ℤ)) (e : ℕ × ℤ) →
    option_and_then (within_range slots) o ≡ Some e → IsInside slots e
unfolding IsInside
range_inside slots None e f = cc
range_inside slots (Some d) e f = go (in_range (range_at slots d.0) d.1) refl f
  where
    go : (b : Bool) → in_range (range_at slots d.0) d.1 ≡ b → cond b (Some d) None ≡ Some e →
        IsTrue (in_range (range_at slots e.0) e.1)
    go true t g = let same : d ≡ e = cc in subst (λ (x : ℕ × ℤ). IsTrue (in_range (range_at slots x.0) x.1)) same t
    go false t g = cc

-- the number of a boolean slot
number_inside : (slots : List CSlot) (z : ℤ) (o : Option ℕ) (e : ℕ × ℤ) → All IsSlot slots →
    ((n : ℕ) → o ≡ Some n → is_truth_slot (slice_get slots n) ≡ true) → IsTrue (in_range (Some (pos 0, pos 1)) z) →
    option_map (λ n. (n, z)) o ≡ Some e → IsInside slots e
unfolding IsInside
number_inside slots z None e all known inside f = cc
number_inside slots z (Some n) e all known inside f =
    let same : (n, z) ≡ e = cc in
    subst (λ (x : ℕ × ℤ). IsTrue (in_range (range_at slots x.0) x.1)) same
    (boolean_inside slots n z all (known n refl) inside)

boolean_form : (slots : List CSlot) (x : CForm-F CForm CTerm) (n : ℕ) → boolean_in slots x ≡ Some n →
    is_truth_slot (slice_get slots n) ≡ true
boolean_form slots (CForm-F.AtLeast t) n e = truth_boolean slots (difference t) n e
boolean_form slots CForm-F.Top n e = cc
boolean_form slots CForm-F.Bottom n e = cc
boolean_form slots (CForm-F.Zero t) n e = cc
boolean_form slots (CForm-F.Not f) n e = cc
boolean_form slots (CForm-F.And f g) n e = cc
boolean_form slots (CForm-F.Or f g) n e = cc

fixed_inside : (slots : List CSlot) (x : CForm-F CForm CTerm) (e : ℕ × ℤ) → All IsSlot slots →
    fixed_in slots x ≡ Some e → IsInside slots e
fixed_inside slots (CForm-F.Zero t) e all f = range_inside slots (difference t) e f
fixed_inside slots (CForm-F.AtLeast t) e all f =
    number_inside slots (pos 1) (option_and_then (truth_of slots) (difference t)) e all
    (truth_boolean slots (difference t)) refl f
fixed_inside slots (CForm-F.Not g) e all f =
    number_inside slots (pos 0) (boolean_in slots (out-CForm g)) e all (boolean_form slots (out-CForm g)) refl f
fixed_inside slots CForm-F.Top e all f = cc
fixed_inside slots CForm-F.Bottom e all f = cc
fixed_inside slots (CForm-F.And g h) e all f = cc
fixed_inside slots (CForm-F.Or g h) e all f = cc

cons_inside : (slots : List CSlot) (o : Option (ℕ × ℤ)) (rest : List (ℕ × ℤ)) →
    ((d : ℕ × ℤ) → o ≡ Some d → IsInside slots d) → AreInside slots rest → AreInside slots (cons_option o rest)
unfolding AreInside
cons_inside slots None rest h k = k
cons_inside slots (Some d) rest h k = (h d refl, k)

all_fixed_inside : (slots : List CSlot) (fs : List CForm) → All IsSlot slots →
    AreInside slots (filter_map (fixed slots) fs)
unfolding AreInside
all_fixed_inside slots [] all = tt
all_fixed_inside slots (f ∷ fs) all =
    cons_inside slots (fixed slots f) (filter_map (fixed slots) fs)
    (λ d e. fixed_inside slots (out-CForm f) d all e) (all_fixed_inside slots fs all)

start_inside : (slots : List CSlot) (start : List (ℕ × ℤ)) → All (StartFits slots) start → AreInside slots start
unfolding AreInside IsInside
start_inside slots [] all = tt
start_inside slots (e ∷ rest) all =
    let fits = all 0 e (omega arith) in
    let s = fits.0 in
    let inside : IsTrue (in_range (Some (s.range.lo, s.range.hi)) e.1) =
    both_true (int_le s.range.lo e.1) (int_le e.1 s.range.hi) (le_passes s.range.lo e.1 fits.2)
    (le_passes e.1 s.range.hi fits.3) in (
      subst (λ o. IsTrue (in_range (option_map (λ (t : CSlot). (t.range.lo, t.range.hi)) o) e.1)) (sym fits.1)
          inside,
      start_inside slots rest (λ k d less. all (suc k) d (omega arith)),
    )

le_self : (z : ℤ) → z ≤ℤ z
le_self z = omega (arith, ints)

-- the numbers of the slots from a number on
numbers_inside : (all : List CSlot) (entries : List (ℕ × ℤ)) (k : ℕ) (slots : List CSlot) → All IsSlot all →
    AreInside all entries → ((i : ℕ) → slice_get all (k + i) ≡ slice_get slots i) →
    IsTrue (is_state (slot_ranges slots) (map (λ e. unwrap_or (given entries e.0) e.1.range.lo)
    (enumerate_from k slots)))
numbers_inside all entries k [] are inside same = refl
numbers_inside all entries k (s ∷ slots) are inside same =
    both_true _ _ (here (given entries k) refl) (numbers_inside all entries (k + 1) slots are inside
    (λ i. ap (slice_get all) (let e : k + 1 + i ≡ k + suc i = omega arith in e) ∙ same (suc i)))
  where
    there : slice_get all k ≡ Some s
    there = ap (slice_get all) (let e : k ≡ k + 0 = omega arith in e) ∙ same 0

    here : (o : Option ℤ) → given entries k ≡ o → IsTrue (in_range (Some (s.range.lo, s.range.hi))
        (unwrap_or o s.range.lo))
    here None e =
        let range = (all_at IsSlot all are k s there).range in
        both_true (int_le s.range.lo s.range.lo) (int_le s.range.lo s.range.hi)
        (le_passes s.range.lo s.range.lo (le_self s.range.lo)) (le_passes s.range.lo s.range.hi range.some)
    here (Some z) e =
        subst (λ o. IsTrue (in_range (option_map (λ (t : CSlot). (t.range.lo, t.range.hi)) o) z)) there
        (given_inside all entries k z inside e)

-- the start state of a program is a state
pub start_is_state : (slots : List CSlot) (p : CProgram) → All IsSlot slots → IsProgram slots p →
    IsTrue (is_state (slot_ranges slots) (start_state slots p))
start_is_state slots p all fits =
    numbers_inside slots (start_entries slots p) 0 slots all
    (inside_append slots p.start (filter_map (fixed slots) (conjuncts p.initially)) (start_inside slots p.start
    fits.start)
    (all_fixed_inside slots (conjuncts p.initially) all))
    (λ i. ap (slice_get slots) (let e : 0 + i ≡ i = omega arith in e))
