-- The rounds of a layer, and those of the system under it.
use Rattle.std.proofs.Common.{◌≡◌, ℕ, zero, suc, ◌<◌, ◌≤◌, List, [], ◌∷◌, Bool, true, false, cond, IsTrue, refl}
use Rattle.std.proofs.Common.{nat_eq, nat_lt, sym, subst, arith, inl, inr}
use Rattle.std.specs.List.{list_any}
use Rattle.std.proofs.lemmas.Bool.{ltb-false, eqb-true}
use Rattle.std.proofs.lemmas.Bool.Decides.{leb_tells}
use Rattle.meaning_laws.specs.from_meaning_executions.Rounds.{has_all, rounds_since}
use Rattle.layer_laws.specs.Layers.{choices_below, RoundsOfBelow}
use Rattle.meaning_states.proofs.StepTheorems.{and_left, and_right, both_true}
use Rattle.meaning_laws.proofs.TruthLaws.{cases, or_left, or_right}

-- each number below k of the first list occurs in the second
abbrev OccurBelow : ℕ → List ℕ → List ℕ → Type 0
OccurBelow k S T = (c : ℕ) → c < k → IsTrue (list_any (nat_eq c) S) → IsTrue (list_any (nat_eq c) T)

none_below : (k : ℕ) (T : List ℕ) → OccurBelow k [] T
none_below k T c h t = cc

one_below : (k : ℕ) (S T : List ℕ) (d : ℕ) → OccurBelow k S T → OccurBelow k (d ∷ S) (d ∷ T)
one_below k S T d sub c h t = cases (nat_eq c d) (list_any (nat_eq c) S) (IsTrue (list_any (nat_eq c) (d ∷ T))) t
    (λ same. or_left (nat_eq c d) (list_any (nat_eq c) T) same)
    (λ more. or_right (nat_eq c d) (list_any (nat_eq c) T) (sub c h more))

-- a number from k on changes nothing below it
one_beside : (k : ℕ) (S T : List ℕ) (d : ℕ) → k ≤ d → OccurBelow k S T → OccurBelow k (d ∷ S) T
one_beside k S T d far sub c h t = cases (nat_eq c d) (list_any (nat_eq c) S) (IsTrue (list_any (nat_eq c) T)) t
    (λ same. let equal = eqb-true c d same in absurd (omega (arith, equal)))
    (λ more. sub c h more)

all_below : (k : ℕ) (S T : List ℕ) → OccurBelow k S T → IsTrue (has_all k S) → IsTrue (has_all k T)
all_below zero S T sub t = t
all_below (suc k) S T sub t =
    both_true (list_any (nat_eq k) T) (has_all k T)
    (sub k (omega arith) (and_left (list_any (nat_eq k) S) (has_all k S) t))
    (all_below k S T (λ c h. sub c (omega arith)) (and_right (list_any (nat_eq k) S) (has_all k S) t))

-- with all of more numbers there are all of fewer
has_fewer : (m k : ℕ) (S : List ℕ) → k ≤ m → IsTrue (has_all m S) → IsTrue (has_all k S)
has_fewer zero zero S h t = t
has_fewer zero (suc k) S h t = absurd (omega arith)
has_fewer (suc m) k S h t = elim (leb_tells k m) [
  | inl w ↦ has_fewer m k S w.1 (and_right (list_any (nat_eq m) S) (has_all m S) t)
  | inr w ↦ let same : k ≡ suc m = omega (arith, h, w.1) in rw same t
]

none_full : (k : ℕ) → 0 < k → has_all k [] ≡ false
none_full zero h = absurd (omega arith)
none_full (suc k) h = refl

-- of choices made since a round of m ended, and others since one of k did, which is not full
pub record Both (k m : ℕ) (cs : List ℕ) : Type 0 where
  pub behind : (S T : List ℕ) → has_all k T ≡ false →
      rounds_since m S cs ≤ suc (rounds_since k T (choices_below k cs))
  pub even : (S T : List ℕ) → has_all k T ≡ false → OccurBelow k S T →
      rounds_since m S cs ≤ rounds_since k T (choices_below k cs)

module _ (k m c : ℕ) (cs : List ℕ) (some : 0 < k) (few : k ≤ m) (rest : Both k m cs) (S T : List ℕ)
    (room : has_all k T ≡ false) where
  behind_low : (a b : Bool) → has_all m (c ∷ S) ≡ a → has_all k (c ∷ T) ≡ b →
      rounds_since m S (c ∷ cs) ≤ suc (rounds_since k T (c ∷ choices_below k cs))
  behind_low true true e f =
      let part = rest.even [] [] (none_full k some) (none_below k []) in rw (e, f) (omega (arith, part))
  behind_low true false e f =
      let part = rest.even [] (c ∷ T) f (none_below k (c ∷ T)) in rw (e, f) (omega (arith, part))
  behind_low false true e f =
      let part = rest.behind (c ∷ S) [] (none_full k some) in rw (e, f) (omega (arith, part))
  behind_low false false e f = rw (e, f) (rest.behind (c ∷ S) (c ∷ T) f)

  even_low : OccurBelow k S T → (a b : Bool) → has_all m (c ∷ S) ≡ a → has_all k (c ∷ T) ≡ b →
      rounds_since m S (c ∷ cs) ≤ rounds_since k T (c ∷ choices_below k cs)
  even_low sub true true e f =
      let part = rest.even [] [] (none_full k some) (none_below k []) in rw (e, f) (omega (arith, part))
  even_low sub true false e f =
      let t = all_below k (c ∷ S) (c ∷ T) (one_below k S T c sub) (has_fewer m k (c ∷ S) few e) in cc
  even_low sub false true e f = rw (e, f) (rest.behind (c ∷ S) [] (none_full k some))
  even_low sub false false e f = rw (e, f) (rest.even (c ∷ S) (c ∷ T) f (one_below k S T c sub))

  behind_high : (a : Bool) → has_all m (c ∷ S) ≡ a →
      rounds_since m S (c ∷ cs) ≤ suc (rounds_since k T (choices_below k cs))
  behind_high true e = let part = rest.even [] T room (none_below k T) in rw e (omega (arith, part))
  behind_high false e = rw e (rest.behind (c ∷ S) T room)

  even_high : k ≤ c → OccurBelow k S T → (a : Bool) → has_all m (c ∷ S) ≡ a →
      rounds_since m S (c ∷ cs) ≤ rounds_since k T (choices_below k cs)
  even_high far sub true e =
      let t = all_below k (c ∷ S) T (one_beside k S T c far sub) (has_fewer m k (c ∷ S) few e) in cc
  even_high far sub false e = rw e (rest.even (c ∷ S) T room (one_beside k S T c far sub))

one_choice : (k m c : ℕ) (cs : List ℕ) → 0 < k → k ≤ m → Both k m cs → (b : Bool) → nat_lt c k ≡ b →
    Both k m (c ∷ cs)
one_choice k m c cs some few rest true e = record {
  behind = λ S T room. subst (λ b. rounds_since m S (c ∷ cs) ≤ suc (rounds_since k T
      (cond b (c ∷ choices_below k cs) (choices_below k cs)))) (sym e)
      (behind_low k m c cs some few rest S T room (has_all m (c ∷ S)) (has_all k (c ∷ T)) refl refl);
  even = λ S T room sub. subst (λ b. rounds_since m S (c ∷ cs) ≤ rounds_since k T
      (cond b (c ∷ choices_below k cs) (choices_below k cs))) (sym e)
      (even_low k m c cs some few rest S T room sub (has_all m (c ∷ S)) (has_all k (c ∷ T)) refl refl);
}
one_choice k m c cs some few rest false e = record {
  behind = λ S T room. subst (λ b. rounds_since m S (c ∷ cs) ≤ suc (rounds_since k T
      (cond b (c ∷ choices_below k cs) (choices_below k cs)))) (sym e)
      (behind_high k m c cs some few rest S T room (has_all m (c ∷ S)) refl);
  even = λ S T room sub. subst (λ b. rounds_since m S (c ∷ cs) ≤ rounds_since k T
      (cond b (c ∷ choices_below k cs) (choices_below k cs))) (sym e)
      (even_high k m c cs some few rest S T room (ltb-false c k e) sub (has_all m (c ∷ S)) refl);
}

both : (k m : ℕ) → 0 < k → k ≤ m → (cs : List ℕ) → Both k m cs
both k m some few [] = record { behind = λ S T room. omega arith; even = λ S T room sub. omega arith }
both k m some few (c ∷ cs) = one_choice k m c cs some few (both k m some few cs) (nat_lt c k) refl

pub rounds_of_below : RoundsOfBelow
rounds_of_below k m cs some few = (both k m some few cs).even [] [] (none_full k some) (none_below k [])
