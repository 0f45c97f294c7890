-- Lists of numbers that are states.
use Rattle.std.proofs.Common.{◌≡◌, ℕ, suc, ◌≤◌, ℤ, List, [], ◌∷◌, ◌++◌, length, Some, IsTrue, Bool}
use Rattle.std.proofs.Common.{true, false, ◌&&◌, slice_get, refl, sym, ap, subst, ◌∙◌, arith}
use Rattle.std.proofs.Common.{append-nil}
use Rattle.std.specs.Prelude.{◌↔◌, ◌≤ℤ◌, ◌<ℤ◌, ◌+ℤ◌, pos}
use Rattle.std.specs.Int.RustNames.{int_le}
use Rattle.std.proofs.lemmas.Int.{ints, by_lt_z}
use borrow.Author.Differences.{le-true}
use Rattle.meaning_states.specs.State.{State, is_state, in_range}
use Rattle.meaning_states.proofs.StepTheorems.{and_left, and_right}
use Rattle.core_terms.specs.declared.programs.CSlot.{CSlot}
use Rattle.core_terms.specs.Steps.{slot_ranges}
use Rattle.meaning_executions.specs.Execution.{System}
use Rattle.meaning_executions.specs.Properties.{Test}
use Rattle.examples_bounds.specs.Walking.{LeadsWithin, LeadsOn}

and_no : (b c : Bool) → false ≡ c → false ≡ (b && c)
and_no true c h = h
and_no false c h = refl

-- what has another number of numbers is no state
pub wrong_count : (slots : List CSlot) (state : State) → (length slots ≡ length state → ⊥) →
    false ≡ is_state (slot_ranges slots) state
wrong_count [] [] h = absurd (h refl)
wrong_count [] (z ∷ zs) h = refl
wrong_count (s ∷ slots) [] h = refl
wrong_count (s ∷ slots) (z ∷ zs) h =
    and_no (in_range (Some (s.range.lo, s.range.hi)) z) (is_state (slot_ranges slots) zs)
    (wrong_count slots zs (λ e. h (ap suc e)))

-- the number that a state has after those that it begins with
pub record Next (slots : List CSlot) (begun rest : State) (s : CSlot) : Type 0 where
  pub number : ℤ
  pub others : State
  pub parts : rest ≡ number ∷ others
  pub low : s.range.lo ≤ℤ number
  pub high : number ≤ℤ s.range.hi

inside : (lo hi z : ℤ) → IsTrue (in_range (Some (lo, hi)) z) → (lo ≤ℤ z) × (z ≤ℤ hi)
inside lo hi z h =
    let low = le-true lo z (and_left (int_le lo z) (int_le z hi) h) in
    let high = le-true z hi (and_right (int_le lo z) (int_le z hi) h) in
    (omega (arith, ints, low), omega (arith, ints, high))

pub next_number : (slots : List CSlot) (begun rest : State) (s : CSlot) → slice_get slots (length begun) ≡ Some s →
    IsTrue (is_state (slot_ranges slots) (begun ++ rest)) → Next slots begun rest s
next_number [] begun rest s e h = cc
next_number (t ∷ slots) [] [] s e h = cc
next_number (t ∷ slots) [] (z ∷ zs) s e h =
    let one : t ≡ s = cc e in
    let within = inside s.range.lo s.range.hi z (and_left (in_range (Some (s.range.lo, s.range.hi)) z)
    (is_state (slot_ranges slots) zs) (subst (λ (u : CSlot). IsTrue (in_range (Some (u.range.lo, u.range.hi)) z &&
    is_state (slot_ranges slots) zs)) one h)) in
    record { number = z; others = zs; parts = refl; low = within.0; high = within.1 }
next_number (t ∷ slots) (y ∷ begun) rest s e h =
    let more = next_number slots begun rest s e (and_right (in_range (Some (t.range.lo, t.range.hi)) y)
    (is_state (slot_ranges slots) (begun ++ rest)) h) in
    record { number = more.number; others = more.others; parts = more.parts; low = more.low; high = more.high }

-- begun with as many numbers as there are slots, a state has no more
state_ends : (slots : List CSlot) (begun rest : State) → length slots ≤ length begun →
    IsTrue (is_state (slot_ranges slots) (begun ++ rest)) → begun ++ rest ≡ begun
state_ends [] [] [] few h = refl
state_ends [] [] (z ∷ rest) few h = cc
state_ends [] (y ∷ begun) rest few h = cc
state_ends (s ∷ slots) [] rest few h = absurd (omega arith)
state_ends (s ∷ slots) (y ∷ begun) rest few h =
    let inner : length slots ≤ length begun = omega arith in
    ap (λ zs. y ∷ zs) (state_ends slots begun rest inner (and_right (in_range (Some (s.range.lo, s.range.hi)) y)
    (is_state (slot_ranges slots) (begun ++ rest)) h))

put_last : (begun rest : State) (n : ℤ) → (begun ++ n ∷ []) ++ rest ≡ begun ++ n ∷ rest
put_last [] rest n = refl
put_last (y ∷ begun) rest n = ap (λ zs. y ∷ zs) (put_last begun rest n)

module _ (slots : List CSlot) (most : ℕ) (x : System) (p q : Test) (bound : ℕ) where
  abbrev On : State → Type 0
  On begun = LeadsOn (slot_ranges slots) most x p q bound begun

  -- what is no state begins none
  pub on_none : (begun : State) → length slots ≤ length begun → false ≡ is_state (slot_ranges slots) begun → On begun
  on_none begun few none rest h = absurd (go (subst (λ (zs : State). IsTrue (is_state (slot_ranges slots) zs))
      (state_ends slots begun rest few h) h))
    where
      go : IsTrue (is_state (slot_ranges slots) begun) → ⊥
      go e = cc

  -- a whole state begins itself alone
  pub on_whole : (begun : State) (b : Bool) → length slots ≤ length begun →
      true ≡ is_state (slot_ranges slots) begun → (IsTrue b ↔ LeadsWithin x p q bound most begun) →
      (IsTrue b ↔ On begun)
  on_whole begun b few is same = (
    λ t rest h. subst (λ (zs : State). LeadsWithin x p q bound most zs) (sym (state_ends slots begun rest few h))
        (same.0 t),
    λ on. same.1 (subst (λ (zs : State). LeadsWithin x p q bound most zs) (append-nil begun)
        (on [] (subst (λ (zs : State).
        IsTrue (is_state (slot_ranges slots) zs)) (sym (append-nil begun)) (sym is)))),
  )

  -- one number more
  pub on_more : (begun : State) (n : ℤ) → On begun → On (begun ++ n ∷ [])
  on_more begun n on rest h =
      subst (λ (zs : State). LeadsWithin x p q bound most zs) (sym (put_last begun rest n))
      (on (n ∷ rest) (subst (λ (zs : State). IsTrue (is_state (slot_ranges slots) zs)) (put_last begun rest n) h))

  -- each number that the next slot can have
  pub on_each : (begun : State) (s : CSlot) → slice_get slots (length begun) ≡ Some s →
      ((n : ℤ) → s.range.lo ≤ℤ n → n ≤ℤ s.range.hi → On (begun ++ n ∷ [])) → On begun
  on_each begun s there each rest h =
      let next = next_number slots begun rest s there h in
      let same = ap (λ (zs : State). begun ++ zs) next.parts ∙ sym (put_last begun next.others next.number) in
      subst (λ (zs : State). LeadsWithin x p q bound most zs) (sym same)
      (each next.number next.low next.high next.others
      (subst (λ (zs : State). IsTrue (is_state (slot_ranges slots) zs)) same h))

  -- the numbers below the next one are those below a number, and it
  pub on_split : (begun : State) (m n : ℤ) → n <ℤ (m +ℤ pos 1) → (n <ℤ m → On (begun ++ n ∷ [])) →
      On (begun ++ m ∷ []) → On (begun ++ n ∷ [])
  on_split begun m n high below here = by_lt_z n m below (λ least.
      let same : n ≡ m = omega (arith, ints, least, high) in
      subst (λ z. On (begun ++ z ∷ [])) (sym same) here)
