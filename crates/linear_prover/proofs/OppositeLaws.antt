-- Opposite factors, and what their divisors are.
use Rattle.std.proofs.Common.{◌≡◌, rules, IsTrue, ℕ, zero, suc, ◌+◌, ◌^◌, ◌<◌, ◌≤◌, nat_eq, nat_le, ℤ, pos, negsuc}
use Rattle.std.proofs.Common.{◌+ℤ◌, Bool, true, false, not, ◌&&◌, ◌||◌, List, [], ◌∷◌, drop, length, get_or, arith}
use Rattle.std.proofs.Common.{refl, sym, ap, ◌∙◌}
use Rattle.std.specs.List.{list_any}
use Rattle.std.specs.Int.{IsGcd, int_div_euclid}
use Rattle.std.specs.Int.RustNames.{int_le, unsigned_abs}
use Rattle.std.proofs.lemmas.Bool.{and_parts}
use Rattle.obligations.specs.declared.branches.Fact.{Fact}
use Rattle.meaning_states.specs.State.{int_eq}
use Rattle.obligations.specs.Reach.{is_exact, are_opposite, gcd, divisor_of, is_moderate_fact, is_some_factor, clash}
use Rattle.std.proofs.lemmas.Nat.Gcd.{dvd_antisymm, dvd-zero}
use Rattle.linear_prover.proofs.GcdLaws.{gcd-is}
use Rattle.linear_prover.specs.Clashes.{can_clash, Rounds, is_turned}
use Rattle.linear_prover.specs.declared.clash.Rounding.{Rounding}
use Rattle.std.proofs.lemmas.Int.{ints}

pub opposite-none : (fs gs : List (ℕ × ℤ)) → (length fs ≡ length gs → ⊥) → are_opposite fs gs ≡ false
opposite-none [] [] h = absurd (h refl)
opposite-none [] (g ∷ gs) h = refl
opposite-none (f ∷ fs) [] h = refl
opposite-none (f ∷ fs) (g ∷ gs) h = ends (nat_eq f.0 g.0 && int_eq (f.1 +ℤ g.1) (pos 0))
    (opposite-none fs gs (λ e. h (ap suc e)))
  where
    ends : {a : Bool} (b : Bool) → a ≡ false → (b && a) ≡ false
    ends true e = e
    ends false e = refl

pub opposite-more : (fs gs : List (ℕ × ℤ)) (i : ℕ) (d e : ℕ × ℤ) → i < length fs → i < length gs →
    is_turned (get_or fs i d) (get_or gs i e) ≡ true →
    are_opposite (drop (i + 1) fs) (drop (i + 1) gs) ≡ are_opposite (drop i fs) (drop i gs)
opposite-more [] gs i d e h k t = absurd (omega arith)
opposite-more (f ∷ fs) [] i d e h k t = absurd (omega arith)
opposite-more (f ∷ fs) (g ∷ gs) zero d e h k t = sym (ap (λ b. b && are_opposite fs gs) t)
opposite-more (f ∷ fs) (g ∷ gs) (suc i) d e h k t =
    let one : suc i + 1 ≡ suc (i + 1) = omega arith in
    ap (λ n. are_opposite (drop n (f ∷ fs)) (drop n (g ∷ gs))) one ∙ opposite-more fs gs i d e (omega arith)
    (omega arith) t

pub opposite-stops : (fs gs : List (ℕ × ℤ)) (i : ℕ) (d e : ℕ × ℤ) → i < length fs → i < length gs →
    is_turned (get_or fs i d) (get_or gs i e) ≡ false → are_opposite fs gs ≡ false
opposite-stops [] gs i d e h k t = absurd (omega arith)
opposite-stops (f ∷ fs) [] i d e h k t = absurd (omega arith)
opposite-stops (f ∷ fs) (g ∷ gs) zero d e h k t = ap (λ b. b && are_opposite fs gs) t
opposite-stops (f ∷ fs) (g ∷ gs) (suc i) d e h k t = ends (is_turned f g)
    (opposite-stops fs gs i d e (omega arith) (omega arith) t)
  where
    ends : {a : Bool} (b : Bool) → a ≡ false → (b && a) ≡ false
    ends true e = e
    ends false e = refl

pub ruleset opposite_laws = (opposite-none, opposite-more, opposite-stops)

-- no fact clashes with one that can't
pub clash-none : (f g : Fact) → can_clash f ≡ false → clash f g ≡ false
clash-none f g e =
    by_parts (are_opposite f.factors g.factors) (is_some_factor f.factors) (is_moderate_fact f) (is_moderate_fact g)
    (nat_le (divisor_of f.factors) (2 ^ 62))
    (not (int_le (pos 0) (int_div_euclid f.constant (pos (divisor_of f.factors)) +ℤ int_div_euclid g.constant
    (pos (divisor_of f.factors))))) e
  where
    by_parts : (a s m n d z : Bool) → ((s && m) && d) ≡ false → (((a && s) && ((m && n) && d)) && z) ≡ false
    by_parts false s m n d z e = refl
    by_parts true false m n d z e = refl
    by_parts true true false n d z e = refl
    by_parts true true true false d z e = refl
    by_parts true true true true false z e = refl
    by_parts true true true true true z e = cc

pub clash_nowhere : (f : Fact) (facts : List Fact) → can_clash f ≡ false → list_any (clash f) facts ≡ false
clash_nowhere f [] e = refl
clash_nowhere f (g ∷ facts) e = ap (λ b. b || list_any (clash f) facts) (clash-none f g e) ∙ clash_nowhere f facts e

-- whether a fact that can clash does
pub clash-is : (f g : Fact) → can_clash f ≡ true →
    ((are_opposite f.factors g.factors && is_moderate_fact g)
    && not (int_le (pos 0) (int_div_euclid f.constant (pos (divisor_of f.factors)) +ℤ int_div_euclid g.constant
    (pos (divisor_of f.factors))))) ≡ clash f g
clash-is f g e =
    by_parts (are_opposite f.factors g.factors) (is_some_factor f.factors) (is_moderate_fact f) (is_moderate_fact g)
    (nat_le (divisor_of f.factors) (2 ^ 62))
    (not (int_le (pos 0) (int_div_euclid f.constant (pos (divisor_of f.factors)) +ℤ int_div_euclid g.constant
    (pos (divisor_of f.factors))))) e
  where
    by_parts : (a s m n d z : Bool) → ((s && m) && d) ≡ true → ((a && n) && z) ≡ (((a && s) && ((m && n) && d)) && z)
    by_parts a false m n d z e = cc
    by_parts a true false n d z e = cc
    by_parts a true true n false z e = cc
    by_parts false true true n true z e = refl
    by_parts true true true false true z e = refl
    by_parts true true true true true z e = refl

-- a divisor of exact factors is not 0
divisor-positive : (f : ℕ × ℤ) (fs : List (ℕ × ℤ)) → not (int_eq f.1 (pos 0)) ≡ true → 0 < divisor_of (f ∷ fs)
divisor-positive f fs h = positive (unsigned_abs f.1) (divisor_of fs) (divisor_of (f ∷ fs))
    (gcd-is (unsigned_abs f.1) (divisor_of fs)) (nonzero f.1 h)
  where
    nonzero : (z : ℤ) → not (int_eq z (pos 0)) ≡ true → 0 < unsigned_abs z
    nonzero (pos zero) h = cc
    nonzero (pos (suc n)) h = omega arith
    nonzero (negsuc n) h = omega arith

    positive : (a b g : ℕ) → IsGcd a b g → 0 < a → 0 < g
    positive a b zero d h = let e : 0 ≡ a = dvd_antisymm d.0 (dvd-zero a) in absurd (omega (arith, e, h))
    positive a b (suc g) d h = omega arith

pub exact-divisor : (n : ℕ) (fs : List (ℕ × ℤ)) → is_exact n fs ≡ true → is_some_factor fs ≡ true → 0 < divisor_of fs
exact-divisor n [] e s = cc
exact-divisor n (f ∷ fs) e s =
    let a = and_parts (nat_le n f.0 && not (int_eq f.1 (pos 0))) (is_exact (suc f.0) fs) e in
    divisor-positive f fs (and_parts (nat_le n f.0) (not (int_eq f.1 (pos 0))) a.0).1

pub some-factor : (fs : List (ℕ × ℤ)) → (fs ≡ [] → ⊥) → is_some_factor fs ≡ true
some-factor [] h = absurd (h refl)
some-factor (f ∷ fs) h = refl

pub rounds-is : (f : Fact) (d : ℕ) (r : Rounding) → d ≡ divisor_of f.factors → is_exact 0 f.factors ≡ true →
    (f.factors ≡ [] → ⊥) →
    d ≤ 2 ^ 62 → is_moderate_fact f ≡ true → r.divisor ≡ pos d → r.constant ≡ int_div_euclid f.constant (pos d) →
    unsigned_abs r.constant ≤ 2 ^ 124 → Rounds f r
rounds-is f d r e x s l m p q z =
    let some : is_some_factor f.factors ≡ true = some-factor f.factors s in
    let positive = exact-divisor 0 f.factors x some in
    record {
      can = ap (λ b. (b && is_moderate_fact f) && nat_le (divisor_of f.factors) (2 ^ 62)) some
          ∙ ap (λ b. b && nat_le (divisor_of f.factors) (2 ^ 62)) m ∙ le-true (divisor_of f.factors) (2 ^ 62)
          (omega (arith, e, l));
      positive = omega (arith, ints, p, e, positive);
      divisor = p ∙ ap pos e;
      constant = q ∙ ap (λ n. int_div_euclid f.constant (pos n)) e;
      size = z;
    }
  where
    le-true : (a b : ℕ) → a ≤ b → nat_le a b ≡ true
    le-true a b h = grind arith

pub not-empty : (P : Type 0) (b : Bool) → (P → IsTrue b) → b ≡ false → P → ⊥
not-empty P true f e p = cc
not-empty P false f e p = search (rules, f p)
