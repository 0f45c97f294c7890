-- A defined step makes its writes and leads to a state.
use Rattle.std.proofs.Common.{◌≡◌, ℕ, zero, suc, ℤ, List, [], ◌∷◌, Bool, true, false, ◌&&◌, Some, None, IsTrue, refl}
use Rattle.std.proofs.Common.{subst, ap, ◌∙◌, slice_get, arith, cond, inl, inr}
use Rattle.std.specs.Prelude.{◌≢◌}
use Rattle.std.specs.List.{list_all}
use Rattle.std.proofs.lemmas.Bool.Decides.{eqb_tells}
use Rattle.std.proofs.lemmas.Int.{ints}
use borrow.Author.Differences.{le-true}
use Rattle.std.specs.Int.RustNames.{int_le}
use Rattle.meaning_states.specs.State.{State, Ranges, int_eq, in_range, is_state}
use Rattle.meaning_states.specs.Step.{Write, is_inside, agrees, all_agree, is_defined, put, written, step}
use Rattle.meaning_states.specs.StepLaws.{IsWrite, StepKeepsRanges, WrittenHasValue, OthersKeepNumbers}

pub and_left : (a b : Bool) → IsTrue (a && b) → IsTrue a
and_left true b t = refl
and_left false b t = cc

pub and_right : (a b : Bool) → IsTrue (a && b) → IsTrue b
and_right true b t = t
and_right false b t = cc

pub both_true : (a b : Bool) → IsTrue a → IsTrue b → IsTrue (a && b)
both_true true b t u = u
both_true false b t u = cc

-- a step that gives a state is defined, and gives the state with the writes made
pub step_defined : (ranges : Ranges) (ws : List Write) (state next : State) → step ranges ws state ≡ Some next →
    IsTrue (is_defined ranges ws) × (written state ws ≡ next)
step_defined ranges ws state next e = go (is_defined ranges ws) refl e
  where
    go : (b : Bool) → is_defined ranges ws ≡ b → cond b (Some (written state ws)) None ≡ Some next →
        IsTrue (is_defined ranges ws) × (written state ws ≡ next)
    go true d same = (d, cc same)
    go false d same = cc same

-- a number in the slot's range keeps a state a state
put_keeps : (ranges : Ranges) (state : State) (n : ℕ) (z : ℤ) →
    IsTrue (is_state ranges state) → IsTrue (in_range (slice_get ranges n) z) → IsTrue (is_state ranges (put state n z))
put_keeps [] [] n z s i = s
put_keeps [] (y ∷ ys) n z s i = cc
put_keeps (r ∷ rs) [] n z s i = cc
put_keeps (r ∷ rs) (y ∷ ys) zero z s i =
    both_true (in_range (Some r) z) (is_state rs ys) i (and_right (in_range (Some r) y) (is_state rs ys) s)
put_keeps (r ∷ rs) (y ∷ ys) (suc n) z s i =
    both_true (in_range (Some r) y) (is_state rs (put ys n z)) (and_left (in_range (Some r) y) (is_state rs ys) s)
    (put_keeps rs ys n z (and_right (in_range (Some r) y) (is_state rs ys) s) i)

pub written_keeps : (ranges : Ranges) (state : State) (ws : List Write) →
    IsTrue (is_state ranges state) → IsTrue (list_all (is_inside ranges) ws) →
    IsTrue (is_state ranges (written state ws))
written_keeps ranges state [] s i = s
written_keeps ranges state ((None, z) ∷ ws) s i = cc
written_keeps ranges state ((Some n, z) ∷ ws) s i =
    put_keeps ranges (written state ws) n z
    (written_keeps ranges state ws s (and_right (in_range (slice_get ranges n) z) (list_all (is_inside ranges) ws) i))
    (and_left (in_range (slice_get ranges n) z) (list_all (is_inside ranges) ws) i)

pub step_keeps_ranges : StepKeepsRanges
step_keeps_ranges ranges ws state next s e =
    let d = step_defined ranges ws state next e in
    subst (λ t. IsTrue (is_state ranges t)) d.1
    (written_keeps ranges state ws s (and_left (list_all (is_inside ranges) ws) (all_agree ws) d.0))

-- numbers that the test finds equal are equal
pub same_number : (a b : ℤ) → IsTrue (int_eq a b) → a ≡ b
same_number a b t =
    let up = le-true a b (and_left (int_le a b) (int_le b a) t) in
    let down = le-true b a (and_right (int_le a b) (int_le b a) t) in
    omega (arith, ints)

put_there : (ranges : Ranges) (state : State) (n : ℕ) (z y : ℤ) →
    IsTrue (is_state ranges state) → IsTrue (in_range (slice_get ranges n) y) → slice_get (put state n z) n ≡ Some z
put_there [] state n z y s i = cc
put_there (r ∷ rs) [] n z y s i = cc
put_there (r ∷ rs) (x ∷ xs) zero z y s i = refl
put_there (r ∷ rs) (x ∷ xs) (suc n) z y s i =
    put_there rs xs n z y (and_right (in_range (Some r) x) (is_state rs xs) s) i

put_elsewhere : (state : State) (m n : ℕ) (z : ℤ) → m ≢ n → slice_get (put state m z) n ≡ slice_get state n
put_elsewhere [] m n z d = refl
put_elsewhere (x ∷ xs) zero zero z d = absurd (d refl)
put_elsewhere (x ∷ xs) zero (suc n) z d = refl
put_elsewhere (x ∷ xs) (suc m) zero z d = refl
put_elsewhere (x ∷ xs) (suc m) (suc n) z d = put_elsewhere xs m n z (λ e. d (ap suc e))

-- what agrees with all writes agrees with each
agrees_with_each : (w v : Write) (ws : List Write) (place : ℕ) →
    IsTrue (list_all (agrees w) ws) → slice_get ws place ≡ Some v → IsTrue (agrees w v)
agrees_with_each w v [] place t e = cc
agrees_with_each w v (u ∷ ws) zero t e =
    let same : u ≡ v = cc in subst (λ x. IsTrue (agrees w x)) same (and_left (agrees w u) (list_all (agrees w) ws) t)
agrees_with_each w v (u ∷ ws) (suc place) t e =
    agrees_with_each w v ws place (and_right (agrees w u) (list_all (agrees w) ws) t) e

-- writes that agree give one slot one value
one_value : (n : ℕ) (y z : ℤ) → IsTrue (agrees (Some n, y) (Some n, z)) → y ≡ z
one_value n y z t = elim (eqb_tells n n) [
  | inl w ↦ same_number y z (rw w.0 at t)
  | inr w ↦ absurd (w.1 refl)
]

same_write : (v w : Write) → Some v ≡ Some w → v ≡ w
same_write v w e = cc

same_slot : (m n : ℕ) → Some m ≡ Some n → m ≡ n
same_slot m n e = cc

written_value : (ranges : Ranges) (state : State) (ws : List Write) (place n : ℕ) (z : ℤ) →
    IsTrue (is_state ranges state) → IsTrue (list_all (is_inside ranges) ws) → IsTrue (all_agree ws) →
    slice_get ws place ≡ Some (Some n, z) → slice_get (written state ws) n ≡ Some z
written_value ranges state [] place n z s i a e = cc
written_value ranges state ((None, y) ∷ ws) place n z s i a e = cc
written_value ranges state ((Some m, y) ∷ ws) zero n z s i a e =
    let write = same_write (Some m, y) (Some n, z) e in
    let slot : m ≡ n = same_slot m n (ap (λ w. w.0) write) in
    let number : y ≡ z = ap (λ w. w.1) write in
    let inside = and_left (in_range (slice_get ranges m) y) (list_all (is_inside ranges) ws) i in
    let rest = and_right (in_range (slice_get ranges m) y) (list_all (is_inside ranges) ws) i in
    let there = put_there ranges (written state ws) m y y (written_keeps ranges state ws s rest) inside in
    subst (λ x. slice_get (put (written state ws) m y) n ≡ Some x) number
    (subst (λ k. slice_get (put (written state ws) m y) k ≡ Some y) slot there)
written_value ranges state ((Some m, y) ∷ ws) (suc place) n z s i a e =
    let inside = and_left (in_range (slice_get ranges m) y) (list_all (is_inside ranges) ws) i in
    let rest = and_right (in_range (slice_get ranges m) y) (list_all (is_inside ranges) ws) i in
    let before = written_value ranges state ws place n z s rest
    (and_right (list_all (agrees (Some m, y)) ws) (all_agree ws) a) e in
    elim (eqb_tells m n) [
      | inl w ↦
          let agree = agrees_with_each (Some m, y) (Some n, z) ws place
          (and_left (list_all (agrees (Some m, y)) ws) (all_agree ws) a) e in
          let number : y ≡ z = one_value n y z (subst (λ k. IsTrue (agrees (Some k, y) (Some n, z))) w.1 agree) in
          let there = put_there ranges (written state ws) m y y (written_keeps ranges state ws s rest) inside in
          subst (λ x. slice_get (put (written state ws) m y) n ≡ Some x) number
          (subst (λ k. slice_get (put (written state ws) m y) k ≡ Some y) w.1 there)
      | inr w ↦ put_elsewhere (written state ws) m n y w.1 ∙ before
    ]

pub written_has_value : WrittenHasValue
written_has_value ranges ws state next s e n z w =
    let d = step_defined ranges ws state next e in
    let inside = and_left (list_all (is_inside ranges) ws) (all_agree ws) d.0 in
    let agree = and_right (list_all (is_inside ranges) ws) (all_agree ws) d.0 in
    subst (λ t. slice_get t n ≡ Some z) d.1 (written_value ranges state ws w.0 n z s inside agree w.1)

unwritten : (state : State) (ws : List Write) (n : ℕ) → ((z : ℤ) → IsWrite ws (Some n, z) → ⊥) →
    slice_get (written state ws) n ≡ slice_get state n
unwritten state [] n none = refl
unwritten state ((None, y) ∷ ws) n none = unwritten state ws n (λ z w. none z (suc w.0, w.1))
unwritten state ((Some m, y) ∷ ws) n none =
    let rest = unwritten state ws n (λ z w. none z (suc w.0, w.1)) in
    put_elsewhere (written state ws) m n y (λ e. none y (zero, ap (λ k. Some (Some k, y)) e)) ∙ rest

pub others_keep_numbers : OthersKeepNumbers
others_keep_numbers ranges ws state next s e n none =
    let d = step_defined ranges ws state next e in
    subst (λ t. slice_get t n ≡ slice_get state n) d.1 (unwritten state ws n none)
