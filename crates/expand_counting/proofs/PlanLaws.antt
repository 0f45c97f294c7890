-- What is necessary for an instance, and the sums over the numbers of a range.
use Rattle.std.proofs.Common.{◌≡◌, ℕ, zero, suc, ◌+◌, ◌-◌, ◌<◌, ◌≤◌, ℤ, pos, negsuc, ◌+ℤ◌, ◌-ℤ◌, neg_ℤ, ◌≤ℤ◌, ◌<ℤ◌}
use Rattle.std.proofs.Common.{min, List, [], ◌∷◌, ◌++◌, true, false, cond, Option, Some, length, eq-eqb, get_or, take}
use Rattle.std.proofs.Common.{drop, refl, sym, ap, ◌∙◌, subst, arith}
use Rattle.std.proofs.lemmas.Int.{ints}
use Rattle.std.proofs.lemmas.List.{take_rest}
use borrow.Author.Differences.{le-true, le-false, true_is_le}
use Rattle.std.specs.Int.RustNames.{int_le}
use Rattle.expand_counting.specs.declared.ranges.NestEnd.{NestEnd}
use Rattle.expand_counting.specs.declared.ranges.NestRange.{NestRange}
use Rattle.expand_counting.specs.declared.ranges.Condition.{Condition}
use Rattle.expand_counting.specs.declared.ranges.Interval.{Interval}
use Rattle.expand_counting.specs.Nests.{LeavesRoom, TakesTurns, most_turns, number_at, end_number, natural, count_up}
use Rattle.expand_counting.specs.Nests.{between, end_fits, are_fit, offset}
use Rattle.expand_counting.specs.Conditions.{condition_holds, all_hold, sum_over, meeting, is_level, above_end}
use Rattle.expand_counting.specs.Conditions.{below_end}
use Rattle.expand_counting.specs.Conditions.{at_least, at_most, fit_conditions, low_conditions, high_conditions, own}
use Rattle.expand_counting.specs.Conditions.{Entails}
use Rattle.expand_counting.specs.Conditions.{FollowsOut, Necessary, Plans, Narrows, Spans}
use Rattle.expand_counting.proofs.FollowLaws.{and_left, and_right, both_true, all_joined, one_holds, number_outer}
use Rattle.expand_counting.proofs.FollowLaws.{number_inner}
use Rattle.expand_counting.proofs.CountLaws.{natural_of, natural_none}
use Rattle.expand_counting.proofs.NarrowLaws.{length_more, fit_bounds, same_meeting}

-- where a range has an instance, it has one at a number of the range
some_summand : (f : ℤ → ℕ) (low : ℤ) (n : ℕ) → 0 < sum_over f (count_up low n) →
    (z : ℤ) × (low ≤ℤ z) × (z <ℤ (low +ℤ pos n)) × (0 < f z)
some_summand f low zero h = absurd (omega arith)
some_summand f low (suc n) h = either (f low) refl (λ g. some_summand f (low +ℤ pos 1) n g)
  where
    either : (m : ℕ) → f low ≡ m → (0 < sum_over f (count_up (low +ℤ pos 1) n) →
        (z : ℤ) × ((low +ℤ pos 1) ≤ℤ z) × (z <ℤ ((low +ℤ pos 1) +ℤ pos n)) × (0 < f z)) →
        (z : ℤ) × (low ≤ℤ z) × (z <ℤ (low +ℤ pos (suc n))) × (0 < f z)
    either zero e rest =
        let r = rest (omega (arith, e, h)) in
        let a : (low +ℤ pos 1) ≤ℤ r.0 = r.1 in
        let b : r.0 <ℤ ((low +ℤ pos 1) +ℤ pos n) = r.2 in
        (r.0, omega (arith, ints), omega (arith, ints), r.3)
    either (suc m) e rest = (low, omega (arith, ints), omega (arith, ints), omega (arith, e))

le_yes : (a b : ℤ) → a ≤ℤ b → int_le a b ≡ true
le_yes a b h = sym (true_is_le a b (omega (arith, ints)))

inside : (low high z : ℤ) → low ≤ℤ z → z <ℤ (low +ℤ pos (natural (high +ℤ pos 1 -ℤ low))) → z ≤ℤ high
inside low high z a b = elim (int_le low high) as (λ v. int_le low high ≡ v → z ≤ℤ high) [
  | true ↦ λ g.
      let l = le-true low high g in
      let n : high +ℤ pos 1 -ℤ low ≡ pos (natural (high +ℤ pos 1 -ℤ low)) =
      natural_of (high +ℤ pos 1 -ℤ low) (omega (arith, ints)) in omega (arith, ints)
  | false ↦ λ g.
      let l = le-false low high g in
      let n : natural (high +ℤ pos 1 -ℤ low) ≡ 0 = natural_none (high +ℤ pos 1 -ℤ low) (omega (arith, ints)) in
      absurd (omega (arith, ints))
] refl

level_own : (vs : List ℤ) (k : ℕ) → length vs ≡ k → is_level (Some k) (length vs) ≡ true
level_own vs k e = eq-eqb k (length vs) (sym e)

-- an end within the limit meets its two conditions
pub fit_holds : (vs : List ℤ) (e : NestEnd) → end_fits (end_number vs e) ≡ true → all_hold vs (fit_conditions e) ≡ true
fit_holds vs e h =
    let b = fit_bounds (end_number vs e) h in
    let low : negsuc 999999999 ≤ℤ (number_at vs e.level +ℤ offset e) = b.0 in
    let high : (number_at vs e.level +ℤ offset e) ≤ℤ pos 1000000000 = b.1 in
    both_true (condition_holds vs (at_least e)) (all_hold vs (at_most e ∷ []))
    (le_yes (pos 0 +ℤ (negsuc 999999999 -ℤ offset e)) (number_at vs e.level) (omega (arith, ints)))
    (one_holds vs (at_most e)
    (le_yes (number_at vs e.level +ℤ (offset e -ℤ pos 1000000000)) (pos 0) (omega (arith, ints))))

-- and so it does among inner numbers, unless it means one of them
fit_outer : (vs : List ℤ) (z : ℤ) (e : NestEnd) → is_level e.level (length vs) ≡ false →
    end_fits (end_number vs e) ≡ true → all_hold (vs ++ z ∷ []) (fit_conditions e) ≡ true
fit_outer vs z e o h = fit_holds (vs ++ z ∷ []) e (ap (λ n. end_fits (n +ℤ offset e)) (number_outer vs z e.level o) ∙ h)

low_holds : (e : NestEnd) (vs : List ℤ) (z : ℤ) → end_fits (end_number vs e) ≡ true → end_number vs e ≤ℤ z →
    all_hold (vs ++ z ∷ []) (low_conditions e (length vs)) ≡ true
low_holds e vs z f a = elim (is_level e.level (length vs)) as (λ b. is_level e.level (length vs) ≡ b →
    all_hold (vs ++ z ∷ []) (cond b [] (above_end e (length vs) ∷ fit_conditions e)) ≡ true) [
      | true ↦ λ o. refl
      | false ↦ λ o.
          let x = number_outer vs z e.level o in
          let y = number_inner vs z (Some (length vs)) (level_own vs (length vs) refl) in
          let p : int_le (number_at vs e.level +ℤ offset e) z ≡ true = le_yes (number_at vs e.level +ℤ offset e) z a
          in
          both_true (condition_holds (vs ++ z ∷ []) (above_end e (length vs)))
          (all_hold (vs ++ z ∷ []) (fit_conditions e))
          (ap (λ v. int_le (v +ℤ offset e) (number_at (vs ++ z ∷ []) (Some (length vs)))) x
          ∙ ap (λ v. int_le (number_at vs e.level +ℤ offset e) v) y ∙ p)
          (fit_outer vs z e o f)
    ] refl

high_holds : (e : NestEnd) (vs : List ℤ) (z : ℤ) → end_fits (end_number vs e) ≡ true → z ≤ℤ end_number vs e →
    all_hold (vs ++ z ∷ []) (high_conditions e (length vs)) ≡ true
high_holds e vs z f a = elim (is_level e.level (length vs)) as (λ b. is_level e.level (length vs) ≡ b →
    all_hold (vs ++ z ∷ []) (cond b [] (below_end e (length vs) ∷ fit_conditions e)) ≡ true) [
      | true ↦ λ o. refl
      | false ↦ λ o.
          let x = number_outer vs z e.level o in
          let y = number_inner vs z (Some (length vs)) (level_own vs (length vs) refl) in
          let at : z ≤ℤ (number_at vs e.level +ℤ offset e) = a in
          let p : int_le (z +ℤ neg_ℤ (offset e)) (number_at vs e.level) ≡ true =
          le_yes (z +ℤ neg_ℤ (offset e)) (number_at vs e.level) (omega (arith, ints)) in
          both_true (condition_holds (vs ++ z ∷ []) (below_end e (length vs)))
          (all_hold (vs ++ z ∷ []) (fit_conditions e))
          (ap (λ v. int_le (v +ℤ neg_ℤ (offset e)) (number_at (vs ++ z ∷ []) e.level)) y
          ∙ ap (λ v. int_le (z +ℤ neg_ℤ (offset e)) v) x ∙ p)
          (fit_outer vs z e o f)
    ] refl

own_holds : (r : NestRange) (vs : List ℤ) (z : ℤ) → are_fit vs r ≡ true → end_number vs r.low ≤ℤ z →
    z ≤ℤ end_number vs r.high → all_hold (vs ++ z ∷ []) (own r (length vs)) ≡ true
own_holds r vs z f a b =
    all_joined (vs ++ z ∷ []) (low_conditions r.low (length vs)) (high_conditions r.high (length vs))
    (low_holds r.low vs z (and_left (end_fits (end_number vs r.low)) (end_fits (end_number vs r.high)) f) a)
    (high_holds r.high vs z (and_right (end_fits (end_number vs r.low)) (end_fits (end_number vs r.high)) f) b)

-- what is necessary for a range, by what is necessary inside it
pub necessary_outside : (r : NestRange) (rs : List NestRange) (leaf : List Condition) (k : ℕ)
    (inner out : List Condition) →
    Necessary rs leaf (suc k) inner → FollowsOut k (own r k ++ inner) out → Necessary (r ∷ rs) leaf k out
necessary_outside r rs leaf k inner out n f = record {
  holds = λ vs e c. elim (are_fit vs r) as (λ b. are_fit vs r ≡ b →
      0 < sum_over (λ z. meeting rs leaf (vs ++ z ∷ []))
      (cond b (between (end_number vs r.low) (end_number vs r.high)) []) →
      all_hold vs out ≡ true) [
        | false ↦ λ fit g. absurd (let h : 0 < 0 = g in omega arith)
        | true ↦ λ fit g.
            let s = some_summand (λ z. meeting rs leaf (vs ++ z ∷ [])) (end_number vs r.low)
            (natural (end_number vs r.high +ℤ pos 1 -ℤ end_number vs r.low)) g in
            f.holds vs s.0 e (all_joined (vs ++ s.0 ∷ []) (own r k) inner
            (subst (λ m. all_hold (vs ++ s.0 ∷ []) (own r m) ≡ true) e
            (own_holds r vs s.0 fit s.1 (inside (end_number vs r.low) (end_number vs r.high) s.0 s.1 s.2)))
            (n.holds (vs ++ s.0 ∷ []) (length_more vs s.0 ∙ ap suc e) s.3))
      ] refl c;
}

-- at the innermost place what is asked is necessary
pub necessary_leaf : (leaf out : List Condition) (k : ℕ) → Entails leaf out → Necessary [] leaf k out
necessary_leaf leaf out k p = record {
  holds = λ vs e c. p.holds vs (elim (all_hold vs leaf) as (λ b. all_hold vs leaf ≡ b → 0 < cond b 1 0 → b ≡ true) [
    | true ↦ λ h g. refl
    | false ↦ λ h g. absurd (let z : 0 < 0 = g in omega arith)
  ] refl c);
}

-- where what is necessary doesn't hold, no instance is there
pub none_meets : (rs : List NestRange) (leaf cs : List Condition) → Necessary rs leaf 0 cs → all_hold [] cs ≡ false →
    meeting rs leaf [] ≡ 0
none_meets rs leaf cs n h = none (meeting rs leaf []) (λ g. let t : all_hold [] cs ≡ true = n.holds [] refl g in cc)
  where
    none : (m : ℕ) → (0 < m → ⊥) → m ≡ 0
    none zero f = refl
    none (suc m) f = absurd (f (omega arith))

-- one more number of a range is counted

sum_more : (f : ℤ → ℕ) (low : ℤ) (i n : ℕ) → i < n →
    sum_over f (count_up (low +ℤ pos i) (n - i)) ≡ f (low +ℤ pos i) + sum_over f
    (count_up (low +ℤ pos (i + 1)) (n - (i + 1)))
sum_more f low i n h =
    let e : n - i ≡ suc (n - (i + 1)) = omega arith in
    let d : (low +ℤ pos i) +ℤ pos 1 ≡ low +ℤ pos (i + 1) = omega (arith, ints) in
    ap (λ m. sum_over f (count_up (low +ℤ pos i) m)) e
    ∙ ap (λ z. f (low +ℤ pos i) + sum_over f (count_up z (n - (i + 1)))) d

pub sum_first : (f : ℤ → ℕ) (low : ℤ) (n : ℕ) →
    sum_over f (count_up (low +ℤ pos 0) (n - 0)) ≡ sum_over f (count_up low n)
sum_first f low n =
    let e : low +ℤ pos 0 ≡ low = omega (arith, ints) in
    let d : n - 0 ≡ n = omega arith in
    ap (λ z. sum_over f (count_up z (n - 0))) e ∙ ap (λ m. sum_over f (count_up low m)) d

sum_last : (f : ℤ → ℕ) (low : ℤ) (i n : ℕ) → n ≤ i → sum_over f (count_up (low +ℤ pos i) (n - i)) ≡ 0
sum_last f low i n h = let e : n - i ≡ 0 = omega arith in ap (λ m. sum_over f (count_up (low +ℤ pos i) m)) e

-- the room that is left and what is still to be counted, at each number
pub each_more : (f : ℤ → ℕ) (low : ℤ) (i n room left whole all : ℕ) → i < n →
    all + sum_over f (count_up (low +ℤ pos i) (n - i)) ≡ room + whole → LeavesRoom (Some left) room
    (f (low +ℤ pos i)) →
    all + sum_over f (count_up (low +ℤ pos (i + 1)) (n - (i + 1))) ≡ left + whole
each_more f low i n room left whole all h e m =
    let s = sum_more f low i n h in let p : left + f (low +ℤ pos i) ≡ room = m in omega arith

pub each_past : (f : ℤ → ℕ) (low : ℤ) (i n room whole all : ℕ) → i < n →
    all + sum_over f (count_up (low +ℤ pos i) (n - i)) ≡ room + whole → room < f (low +ℤ pos i) → all < whole
each_past f low i n room whole all h e m = let s = sum_more f low i n h in omega arith

pub each_end : (f : ℤ → ℕ) (low : ℤ) (i n room whole all : ℕ) → n ≤ i →
    all + sum_over f (count_up (low +ℤ pos i) (n - i)) ≡ room + whole → LeavesRoom (Some room) all whole
each_end f low i n room whole all h e = let s = sum_last f low i n h in let r : room + whole ≡ all = omega arith in r

-- turns after turns
pub turns_more : (first room turns left more : ℕ) (r : ℕ) → min most_turns (first + room) ≤ turns + left →
    TakesTurns (Some r) left turns more → min most_turns (first + room) ≤ more + r
turns_more first room turns left more r h k =
    let l : min 18446744073709551615 (first + room) ≤ turns + left = h in
    let m : min 18446744073709551615 (turns + left) ≤ more + r = k in
    omega (arith, l, m)

-- the first of nested ranges, and the rest

pub plan_holds : (rs : List NestRange) (leaf : List Condition) (k : ℕ) (inner out : List Condition)
    (plans new : List (List Condition)) (d : NestRange) → 1 ≤ length rs →
    Plans (take (length rs - 1) (drop 1 rs)) leaf (k + 1) plans × Necessary (take (length rs - 1) (drop 1 rs)) leaf
    (k + 1) inner →
    FollowsOut k (own (get_or rs 0 d) k ++ inner) out → new ≡ inner ∷ plans → Plans rs leaf k new × Necessary rs leaf k
    out
plan_holds [] leaf k inner out plans new d h p f e = absurd (let i : 1 ≤ 0 = h in omega arith)
plan_holds (r ∷ rs) leaf k inner out plans new d h p f e =
    let same : take (length (r ∷ rs) - 1) (drop 1 (r ∷ rs)) ≡ rs = take_rest (r ∷ rs) 1 in
    let next : k + 1 ≡ suc k = omega arith in
    let q = subst (λ n. Plans rs leaf n plans × Necessary rs leaf n inner) next
    (subst (λ xs. Plans xs leaf (k + 1) plans × Necessary xs leaf (k + 1) inner) same p) in
    (subst (λ ps. Plans (r ∷ rs) leaf k ps) (sym e) (q.1, q.0), necessary_outside r rs leaf k inner out q.1 f)

pub count_holds : (rs : List NestRange) (plans : List (List Condition)) (leaf : List Condition) (vs : List ℤ)
    (room : ℕ)
    (old new : Interval) (dr : NestRange) (dc : List Condition) (r : Option ℕ) → 1 ≤ length rs → 1 ≤ length plans →
    Plans rs leaf (length vs) plans → Spans vs (get_or rs 0 dr) old → Narrows vs (get_or plans 0 dc) old new →
    LeavesRoom r room (sum_over (λ z. meeting (take (length rs - 1) (drop 1 rs)) leaf (vs ++ z ∷ []))
    (between new.low new.high)) →
    LeavesRoom r room (meeting rs leaf vs)
count_holds [] plans leaf vs room old new dr dc r h g p s n m = absurd (let i : 1 ≤ 0 = h in omega arith)
count_holds (x ∷ rs) [] leaf vs room old new dr dc r h g p s n m = absurd p
count_holds (x ∷ rs) (c ∷ cs) leaf vs room old new dr dc r h g p s n m =
    let same : take (length (x ∷ rs) - 1) (drop 1 (x ∷ rs)) ≡ rs = take_rest (x ∷ rs) 1 in
    subst (λ n. LeavesRoom r room n) (sym (same_meeting vs x rs leaf c old new s p.0 n))
    (subst (λ xs. LeavesRoom r room (sum_over (λ z. meeting xs leaf (vs ++ z ∷ [])) (between new.low new.high)))
    same m)

-- the plans of the ranges inside the first
pub plans_inside : (rs : List NestRange) (leaf : List Condition) (k : ℕ) (plans : List (List Condition)) →
    1 ≤ length rs → 1 ≤ length plans → Plans rs leaf k plans →
    Plans (take (length rs - 1) (drop 1 rs)) leaf (suc k) (take (length plans - 1) (drop 1 plans))
plans_inside [] leaf k plans h g p = absurd (let i : 1 ≤ 0 = h in omega arith)
plans_inside (r ∷ rs) leaf k [] h g p = absurd p
plans_inside (r ∷ rs) leaf k (c ∷ cs) h g p =
    subst (λ xs. Plans xs leaf (suc k) (take (length (c ∷ cs) - 1) (drop 1 (c ∷ cs)))) (sym (take_rest (r ∷ rs) 1))
    (subst (λ xs. Plans rs leaf (suc k) xs) (sym (take_rest (c ∷ cs) 1)) p.1)
