-- The laws of rounds.
use Rattle.std.proofs.Common.{◌≡◌, ℕ, zero, suc, ◌+◌, ◌<◌, ◌≤◌, List, [], ◌∷◌, ◌++◌, Bool, true, false, ◌&&◌, ◌||◌}
use Rattle.std.proofs.Common.{IsTrue, refl, sym, subst, ap, ◌∙◌, nat_eq, take, drop, length, arith, inl, inr}
use Rattle.std.specs.Prelude.{◌≢◌, IsFalse}
use Rattle.std.specs.List.{list_any}
use Rattle.std.proofs.lemmas.Bool.Decides.{eqb_tells}
use Rattle.std.proofs.Math.Decide.{dec_lt}
use Rattle.std.proofs.lemmas.List.{take_all}
use Rattle.meaning_executions.specs.Rounds.{has_all, unfinished, one_more, rounds_since, rounds, IsShortest}
use Rattle.meaning_executions.specs.RoundLaws.{NoRound, OneMoreRound, OneShortest, ShortestExists}
use Rattle.meaning_states.proofs.StepTheorems.{and_left, and_right}

-- what holds of all the numbers below k holds of one
pub occurs : (k c : ℕ) (cs : List ℕ) → c < k → IsTrue (has_all k cs) → IsTrue (list_any (nat_eq c) cs)
occurs zero c cs h t = absurd (omega arith)
occurs (suc k) c cs h t = elim (eqb_tells c k) [
  | inl w ↦ subst (λ n. IsTrue (list_any (nat_eq n) cs)) (sym w.1) (and_left (list_any (nat_eq k) cs) (has_all k cs) t)
  | inr w ↦
      let other : c ≢ k = w.1 in
      let below : c < k = omega arith in occurs k c cs below (and_right (list_any (nat_eq k) cs) (has_all k cs) t)
]

-- where one does not occur, not all do
missing_one : (k c : ℕ) (cs : List ℕ) → c < k → IsFalse (list_any (nat_eq c) cs) → (b : Bool) → has_all k cs ≡ b →
    b ≡ false
missing_one k c cs h f false e = refl
missing_one k c cs h f true e = let t = occurs k c cs h e in cc

or_false : (a b : Bool) → IsFalse (a || b) → IsFalse a × IsFalse b
or_false false b e = (refl, e)
or_false true b e = cc

false_or : (a b : Bool) → IsFalse a → IsFalse b → IsFalse (a || b)
false_or false b e f = f
false_or true b e f = cc

no_round : (k c : ℕ) → c < k → (since cs : List ℕ) → IsFalse (list_any (nat_eq c) since) →
    IsFalse (list_any (nat_eq c) cs) → rounds_since k since cs ≡ 0
no_round k c h since [] f g = refl
no_round k c h since (d ∷ cs) f g =
    let parts = or_false (nat_eq c d) (list_any (nat_eq c) cs) g in
    let none : IsFalse (list_any (nat_eq c) (d ∷ since)) =
    false_or (nat_eq c d) (list_any (nat_eq c) since) parts.0 f in
    rw (missing_one k c (d ∷ since) h none (has_all k (d ∷ since)) refl) (no_round k c h (d ∷ since) cs none parts.1)

pub no_rounds : NoRound
no_rounds choices k c h f = no_round k c h [] choices refl f

-- lists in which the same numbers occur have all numbers together
same_all : (k : ℕ) (cs ds : List ℕ) → ((c : ℕ) → list_any (nat_eq c) cs ≡ list_any (nat_eq c) ds) →
    has_all k cs ≡ has_all k ds
same_all zero cs ds same = refl
same_all (suc k) cs ds same = ap (λ b. b && has_all k cs) (same k) ∙
    ap (λ b. list_any (nat_eq k) ds && b) (same_all k cs ds same)

or_swap : (a b c : Bool) → (a || (b || c)) ≡ (b || (a || c))
or_swap true true c = refl
or_swap true false c = refl
or_swap false true c = refl
or_swap false false c = refl

-- a number in the middle occurs as one in front does
any_middle : (c d : ℕ) (cs ds : List ℕ) → list_any (nat_eq c) (cs ++ (d ∷ ds)) ≡ list_any (nat_eq c) (d ∷ (cs ++ ds))
any_middle c d [] ds = refl
any_middle c d (e ∷ cs) ds =
    ap (λ b. nat_eq c e || b) (any_middle c d cs ds) ∙
    or_swap (nat_eq c e) (nat_eq c d) (list_any (nat_eq c) (cs ++ ds))

all_middle : (k d : ℕ) (cs ds : List ℕ) → has_all k (cs ++ (d ∷ ds)) ≡ has_all k (d ∷ (cs ++ ds))
all_middle k d cs ds = same_all k (cs ++ (d ∷ ds)) (d ∷ (cs ++ ds)) (λ c. any_middle c d cs ds)

-- the round ends with the n-th of the choices
ends : (k n : ℕ) (since cs : List ℕ) → suc n ≤ length cs → IsTrue (has_all k (take (suc n) cs ++ since)) →
    ((fewer : ℕ) → fewer < n → IsFalse (has_all k (take (suc fewer) cs ++ since))) →
    rounds_since k since cs ≡ suc (rounds_since k [] (drop (suc n) cs))
ends k n since [] h full least = absurd (omega arith)
ends k zero since (c ∷ cs) h full least = rw full refl
ends k (suc n) since (c ∷ cs) h full least =
    let inner : suc n ≤ length cs = omega arith in
    rw (least zero (omega arith))
    (ends k n (c ∷ since) cs inner (all_middle k c (take (suc n) cs) since ∙ full)
    (λ fewer less. all_middle k c (take (suc fewer) cs) since ∙ least (suc fewer) (omega arith)))

append-nil : (xs : List ℕ) → xs ++ [] ≡ xs
append-nil [] = refl
append-nil (x ∷ xs) = ap (λ rest. x ∷ rest) (append-nil xs)

-- something is in a list with all numbers
all_of_none : (k : ℕ) → 0 < k → IsFalse (has_all k [])
all_of_none zero h = absurd (omega arith)
all_of_none (suc k) h = refl

pub one_more_round : OneMoreRound
one_more_round choices k zero h round = let none = all_of_none k h in let full = round.full in cc
one_more_round choices k (suc n) h round =
    ends k n [] choices round.within (rw append-nil round.full)
    (λ fewer less. rw append-nil (round.least (suc fewer) (omega arith)))

-- each round takes a choice
rounds_since_most : (k : ℕ) (since cs : List ℕ) → rounds_since k since cs ≤ length cs
rounds_since_most k since [] = omega arith
rounds_since_most k since (c ∷ cs) = go (has_all k (c ∷ since)) (rounds_since_most k (unfinished k (c ∷ since)) cs)
  where
    go : (b : Bool) → rounds_since k (unfinished k (c ∷ since)) cs ≤ length cs →
        one_more b (rounds_since k (unfinished k (c ∷ since)) cs) ≤ suc (length cs)
    go true h = omega arith
    go false h = omega arith

pub rounds_most : (cs : List ℕ) (k : ℕ) → rounds cs k ≤ length cs
rounds_most cs k = rounds_since_most k [] cs

pub one_shortest : OneShortest
one_shortest choices k bound m n a b = elim (dec_lt m n) [
  | yes h ↦ let few = b.least m h in absurd (omega (arith, a.enough, few))
  | no h ↦ elim (dec_lt n m) [
    | yes g ↦ let few = a.least n g in absurd (omega (arith, b.enough, few))
    | no g ↦ omega arith
  ]
]

-- the least number that has enough, from this one on
module _ (choices : List ℕ) (k bound : ℕ) where
  shortest_from : (left n : ℕ) → left + n ≡ length choices → bound ≤ rounds choices k →
      ((fewer : ℕ) → fewer < n → rounds (take fewer choices) k < bound) → (m : ℕ) × IsShortest choices k bound m
  shortest_from zero n e h few =
      let all : take n choices ≡ choices = take_all n choices (omega arith) in
      (n, record { within = omega arith; enough = rw all h; least = few })
  shortest_from (suc left) n e h few = elim (dec_lt (rounds (take n choices) k) bound) [
    | yes less ↦ shortest_from left (suc n) (omega arith) h (below n few less)
    | no not_less ↦ (n, record { within = omega arith; enough = omega arith; least = few })
  ]
    where
      below : (n : ℕ) → ((fewer : ℕ) → fewer < n → rounds (take fewer choices) k < bound) →
          rounds (take n choices) k < bound →
          (fewer : ℕ) → fewer < suc n → rounds (take fewer choices) k < bound
      below n few less fewer h = elim (eqb_tells fewer n) [
        | inl w ↦ subst (λ m. rounds (take m choices) k < bound) (sym w.1) less
        | inr w ↦ let other : fewer ≢ n = w.1 in few fewer (omega arith)
      ]

pub shortest_exists : ShortestExists
shortest_exists choices k bound h =
    shortest_from choices k bound (length choices) 0 (omega arith) h (λ fewer less. absurd (omega arith))
