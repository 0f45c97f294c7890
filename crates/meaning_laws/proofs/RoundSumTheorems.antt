-- How the rounds of parts of a list of choices add up.
use Rattle.std.proofs.Common.{◌≡◌, ℕ, zero, suc, ◌+◌, ◌<◌, ◌≤◌, List, [], ◌∷◌, Bool, true, false, ◌||◌, IsTrue, refl}
use Rattle.std.proofs.Common.{nat_eq, take, drop, arith, sym, ap, ◌∙◌}
use Rattle.std.specs.List.{list_any}
use Rattle.meaning_executions.specs.Rounds.{has_all, unfinished, one_more, rounds_since, rounds}
use Rattle.meaning_laws.specs.RoundSums.{unfinished_after, RoundsAreLeft, LaterHaveFewer, RoundsOfJoined}
use Rattle.meaning_laws.specs.RoundSums.{MarksSuffice}
use Rattle.meaning_states.proofs.StepTheorems.{and_left, and_right, both_true}

-- each number of the first list occurs in the second
abbrev Occur : List ℕ → List ℕ → Type 0
Occur S T = (c : ℕ) → IsTrue (list_any (nat_eq c) S) → IsTrue (list_any (nat_eq c) T)

or_under : (a b d : Bool) → (IsTrue b → IsTrue d) → IsTrue (a || b) → IsTrue (a || d)
or_under true b d h t = refl
or_under false b d h t = h t

with_one : (S T : List ℕ) (d : ℕ) → Occur S T → Occur (d ∷ S) (d ∷ T)
with_one S T d sub c t = or_under (nat_eq c d) (list_any (nat_eq c) S) (list_any (nat_eq c) T) (sub c) t

all_there : (k : ℕ) (S T : List ℕ) → Occur S T → IsTrue (has_all k S) → IsTrue (has_all k T)
all_there zero S T sub t = t
all_there (suc k) S T sub t =
    both_true (list_any (nat_eq k) T) (has_all k T) (sub k (and_left (list_any (nat_eq k) S) (has_all k S) t))
    (all_there k S T sub (and_right (list_any (nat_eq k) S) (has_all k S) t))

-- with more choices made before, there are as many rounds, or one more
abbrev Ahead : ℕ → List ℕ → List ℕ → List ℕ → Type 0
Ahead k S T cs = (rounds_since k S cs ≤ rounds_since k T cs) × (rounds_since k T cs ≤ suc (rounds_since k S cs))

none_occur : (T : List ℕ) → Occur [] T
none_occur T c t = cc

one_choice : (k : ℕ) (S T : List ℕ) (c : ℕ) (cs : List ℕ) → Occur S T →
    ((S' T' : List ℕ) → Occur S' T' → Ahead k S' T' cs) →
    (a b : Bool) → has_all k (c ∷ S) ≡ a → has_all k (c ∷ T) ≡ b → Ahead k S T (c ∷ cs)
one_choice k S T c cs sub rest true true e f = rw (e, f) (omega arith, omega arith)
one_choice k S T c cs sub rest true false e f = let t = all_there k (c ∷ S) (c ∷ T) (with_one S T c sub) e in cc
one_choice k S T c cs sub rest false true e f =
    let part = rest [] (c ∷ S) (none_occur (c ∷ S)) in
    rw (e, f) (omega (arith, part.1), omega (arith, part.0))
one_choice k S T c cs sub rest false false e f = rw (e, f) (rest (c ∷ S) (c ∷ T) (with_one S T c sub))

ahead : (k : ℕ) (S T cs : List ℕ) → Occur S T → Ahead k S T cs
ahead k S T [] sub = (omega arith, omega arith)
ahead k S T (c ∷ cs) sub =
    one_choice k S T c cs sub (λ S' T' sub'. ahead k S' T' cs sub') (has_all k (c ∷ S)) (has_all k (c ∷ T)) refl refl

one_less : (k c : ℕ) (cs : List ℕ) (b : Bool) → has_all k (c ∷ []) ≡ b → rounds cs k ≤ rounds (c ∷ cs) k
one_less k c cs true e = rw e (omega arith)
one_less k c cs false e = let part = ahead k [] (c ∷ []) cs (none_occur (c ∷ [])) in rw e part.0

pub later_have_fewer : LaterHaveFewer
later_have_fewer choices k zero = omega arith
later_have_fewer [] k (suc n) = omega arith
later_have_fewer (c ∷ choices) k (suc n) =
    let rest = later_have_fewer choices k n in
    let here = one_less k c choices (has_all k (c ∷ [])) refl in
    omega (arith, rest, here)

-- a round begins anew after the last of the choices that have so many rounds
abbrev Left : ℕ → List ℕ → Type 0
Left k cs = (a n : ℕ) (S : List ℕ) → 0 < a → a ≤ rounds_since k S (take (suc n) cs) →
    ((fewer : ℕ) → fewer < suc n → rounds_since k S (take fewer cs) < a) →
    rounds_since k S cs ≡ a + rounds_since k [] (drop (suc n) cs)

one_taken : (k c : ℕ) (cs : List ℕ) → Left k cs → (a n : ℕ) (S : List ℕ) → 0 < a →
    a ≤ rounds_since k S (take (suc n) (c ∷ cs)) →
    ((fewer : ℕ) → fewer < suc n → rounds_since k S (take fewer (c ∷ cs)) < a) →
    (b : Bool) → has_all k (c ∷ S) ≡ b → rounds_since k S (c ∷ cs) ≡ a + rounds_since k [] (drop n cs)
one_taken k c cs rest zero n S pos enough least b e = absurd (omega arith)
one_taken k c cs rest (suc a) zero S pos enough least true e =
    let few : suc a ≤ 1 = rw e at enough in
    rw e (omega arith)
one_taken k c cs rest (suc a) (suc n) S pos enough least true e =
    let more : suc a ≤ suc (rounds_since k [] (take (suc n) cs)) = rw e at enough in
    let two : 1 < suc a = rw e at (least 1 (omega arith)) in
    let further = rest a n [] (omega arith) (omega arith) (λ fewer less.
    let one : suc (rounds_since k [] (take fewer cs)) < suc a = rw e at (least (suc fewer) (omega arith)) in
    omega arith) in
    rw e (omega (arith, further))
one_taken k c cs rest (suc a) zero S pos enough least false e =
    let few : suc a ≤ 0 = rw e at enough in absurd (omega arith)
one_taken k c cs rest (suc a) (suc n) S pos enough least false e =
    let more : suc a ≤ rounds_since k (c ∷ S) (take (suc n) cs) = rw e at enough in
    let further = rest (suc a) n (c ∷ S) pos more (λ fewer less.
    let one : rounds_since k (c ∷ S) (take fewer cs) < suc a = rw e at (least (suc fewer) (omega arith)) in one) in
    rw e further

left : (k : ℕ) (cs : List ℕ) → Left k cs
left k [] a n S pos enough least = absurd (omega arith)
left k (c ∷ cs) a n S pos enough least =
    one_taken k c cs (λ a' n' S'. left k cs a' n' S') a n S pos enough least (has_all k (c ∷ S)) refl

pub rounds_are_left : RoundsAreLeft
rounds_are_left choices k bound zero short = let none = short.enough in omega arith
rounds_are_left choices k bound (suc n) short =
    let some : rounds (take 0 choices) k < bound = short.least 0 (omega arith) in
    left k choices bound n [] (omega arith) short.enough short.least

one_more_sum : (b : Bool) (m n : ℕ) → one_more b (m + n) ≡ one_more b m + n
one_more_sum true m n = omega arith
one_more_sum false m n = refl

pub rounds_of_joined : RoundsOfJoined
rounds_of_joined k since [] more = omega arith
rounds_of_joined k since (c ∷ choices) more =
    let next : List ℕ = unfinished k (c ∷ since) in
    ap (one_more (has_all k (c ∷ since))) (rounds_of_joined k next choices more) ∙
    one_more_sum (has_all k (c ∷ since)) (rounds_since k next choices)
    (rounds_since k (unfinished_after k next choices) more)

pub marks_suffice : MarksSuffice
marks_suffice k since other choices same =
    let there = ahead k since other choices (λ c t. sym (same c) ∙ t) in
    let back = ahead k other since choices (λ c t. same c ∙ t) in
    omega (arith, there.0, back.0)
