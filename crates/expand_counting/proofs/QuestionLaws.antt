-- What is asked of the instances of nested ranges, by how many meet it.
use Rattle.std.proofs.Common.{◌≡◌, ℕ, zero, suc, ◌+◌, ◌<◌, ℤ, pos, negsuc, ◌+ℤ◌, ◌-ℤ◌, ◌≤ℤ◌, ◌<ℤ◌, List, [], ◌∷◌}
use Rattle.std.proofs.Common.{◌++◌, Bool, true, false, cond, not, ◌||◌, Option, Some, None, is_none, length, refl}
use Rattle.std.proofs.Common.{sym, ap, ◌∙◌, arith}
use Rattle.std.proofs.lemmas.Int.{ints}
use Rattle.std.proofs.lemmas.List.{length-append}
use Rattle.std.proofs.lemmas.List.Folds.{list_any-append}
use Rattle.std.proofs.lemmas.Bool.{leb-false, le-leb}
use borrow.Author.Differences.{le-true, le-false, lt-true, lt-false, true_is_le, abs_is}
use Rattle.std.specs.Int.RustNames.{int_le, int_lt, unsigned_abs}
use Rattle.std.specs.List.{flat_map, list_any}
use Rattle.expand_counting.specs.declared.ranges.NestEnd.{NestEnd}
use Rattle.expand_counting.specs.declared.ranges.NestRange.{NestRange}
use Rattle.expand_counting.specs.declared.ranges.Condition.{Condition}
use Rattle.expand_counting.specs.Nests.{LeavesRoom, number_at, offset, end_number, range_numbers, instances}
use Rattle.expand_counting.specs.Nests.{is_nest_empty}
use Rattle.expand_counting.specs.Nests.{end_fits}
use Rattle.expand_counting.specs.Nests.{are_fit}
use Rattle.expand_counting.specs.Conditions.{condition_holds, all_hold, sum_over, meeting, at_least, at_most}
use Rattle.expand_counting.specs.Conditions.{fit_conditions}
use Rattle.expand_counting.specs.Conditions.{over, above_limit, below_limit, empty_conditions}
use Rattle.expand_counting.proofs.FollowLaws.{and_left, and_right, both_true, all_joined, all_front, all_back}
use Rattle.expand_counting.proofs.FollowLaws.{one_holds}
use Rattle.expand_counting.proofs.FollowLaws.{one_held}
use Rattle.expand_counting.proofs.NarrowLaws.{fit_bounds}
use Rattle.expand_counting.proofs.PlanLaws.{fit_holds}

all_counted : (rs : List NestRange) (vs : List ℤ) →
    ((us : List ℤ) → meeting rs [] us ≡ length (instances rs us)) → (zs : List ℤ) →
    sum_over (λ z. meeting rs [] (vs ++ z ∷ [])) zs ≡ length (flat_map (λ z. instances rs (vs ++ z ∷ [])) zs)
all_counted rs vs h [] = refl
all_counted rs vs h (z ∷ zs) =
    ap (λ n. n + sum_over (λ y. meeting rs [] (vs ++ y ∷ [])) zs) (h (vs ++ z ∷ []))
    ∙ ap (λ n. length (instances rs (vs ++ z ∷ [])) + n) (all_counted rs vs h zs)
    ∙ sym (length-append (instances rs (vs ++ z ∷ [])) (flat_map (λ y. instances rs (vs ++ y ∷ [])) zs))

-- all instances are counted where nothing is asked
pub meeting_all : (rs : List NestRange) (vs : List ℤ) → meeting rs [] vs ≡ length (instances rs vs)
meeting_all [] vs = refl
meeting_all (r ∷ rs) vs = all_counted rs vs (λ us. meeting_all rs us) (range_numbers vs r)

-- whether a count is not 0
abbrev is_positive : ℕ → Bool
is_positive zero = false
is_positive (suc n) = true

some_of : (m n : ℕ) → is_positive (m + n) ≡ (is_positive m || is_positive n)
some_of zero n = let e : 0 + n ≡ n = omega arith in ap is_positive e
some_of (suc m) n = let e : suc m + n ≡ suc (m + n) = omega arith in ap is_positive e

one_met : (b : Bool) → (b || false) ≡ is_positive (cond b 1 0)
one_met true = refl
one_met false = refl

any_met : (rs : List NestRange) (leaf : List Condition) (vs : List ℤ) →
    ((us : List ℤ) → list_any (λ ws. all_hold ws leaf) (instances rs us) ≡ is_positive (meeting rs leaf us)) →
    (zs : List ℤ) → list_any (λ ws. all_hold ws leaf) (flat_map (λ z. instances rs (vs ++ z ∷ [])) zs)
    ≡ is_positive (sum_over (λ z. meeting rs leaf (vs ++ z ∷ [])) zs)
any_met rs leaf vs h [] = refl
any_met rs leaf vs h (z ∷ zs) =
    list_any-append (λ us. all_hold us leaf) (instances rs (vs ++ z ∷ []))
    (flat_map (λ y. instances rs (vs ++ y ∷ [])) zs)
    ∙ ap (λ b. b || list_any (λ us. all_hold us leaf) (flat_map (λ y. instances rs (vs ++ y ∷ [])) zs))
    (h (vs ++ z ∷ []))
    ∙ ap (λ b. is_positive (meeting rs leaf (vs ++ z ∷ [])) || b) (any_met rs leaf vs h zs)
    ∙ sym (some_of (meeting rs leaf (vs ++ z ∷ [])) (sum_over (λ y. meeting rs leaf (vs ++ y ∷ [])) zs))

-- an instance meets conditions where the count of those that do is not 0
any_meets : (rs : List NestRange) (leaf : List Condition) (vs : List ℤ) →
    list_any (λ us. all_hold us leaf) (instances rs vs) ≡ is_positive (meeting rs leaf vs)
any_meets [] leaf vs = one_met (all_hold vs leaf)
any_meets (r ∷ rs) leaf vs = any_met rs leaf vs (λ us. any_meets rs leaf us) (range_numbers vs r)

no_room : (r : Option ℕ) (n : ℕ) → LeavesRoom r 0 n → is_none r ≡ is_positive n
no_room None zero h = absurd (let e : 0 < 0 = h in omega arith)
no_room None (suc n) h = refl
no_room (Some left) zero h = refl
no_room (Some left) (suc n) h = absurd (let e : left + suc n ≡ 0 = h in omega arith)

-- no room is left of none where an instance meets the conditions
pub met_without_room : (rs : List NestRange) (leaf : List Condition) (r : Option ℕ) →
    LeavesRoom r 0 (meeting rs leaf []) → is_none r ≡ list_any (λ vs. all_hold vs leaf) (instances rs [])
met_without_room rs leaf r h = no_room r (meeting rs leaf []) h ∙ sym (any_meets rs leaf [])

-- all conditions of an empty range hold exactly where it is empty, and one of two where an end is too large

same_any : (p q : List ℤ → Bool) → ((vs : List ℤ) → p vs ≡ q vs) → (xs : List (List ℤ)) → list_any p xs ≡ list_any q
    xs
same_any p q h [] = refl
same_any p q h (x ∷ xs) = ap (λ b. b || list_any p xs) (h x) ∙ ap (λ b. q x || b) (same_any p q h xs)

any_either : (p q : List ℤ → Bool) (xs : List (List ℤ)) → (list_any p xs || list_any q xs) ≡ list_any
    (λ x. p x || q x) xs
any_either p q [] = refl
any_either p q (x ∷ xs) = four (p x) (q x) (list_any p xs) (list_any q xs) ∙ ap (λ b. (p x || q x) || b)
    (any_either p q xs)
  where
    four : (a b c d : Bool) → ((a || c) || (b || d)) ≡ ((a || b) || (c || d))
    four true b c d = refl
    four false true true d = refl
    four false true false d = refl
    four false false c d = refl

same_truth : (a b : Bool) → (a ≡ true → b ≡ true) → (b ≡ true → a ≡ true) → a ≡ b
same_truth true b f g = sym (f refl)
same_truth false true f g = g refl
same_truth false false f g = refl

le_yes : (a b : ℤ) → a ≤ℤ b → int_le a b ≡ true
le_yes a b h = sym (true_is_le a b (omega (arith, ints)))

lt_yes : (a b : ℤ) → a <ℤ b → int_lt a b ≡ true
lt_yes a b h = elim (int_lt a b) as (λ v. int_lt a b ≡ v → v ≡ true) [
  | true ↦ λ e. refl
  | false ↦ λ e. let n = lt-false a b e in absurd (omega (arith, ints))
] refl

fit_within : (z : ℤ) → negsuc 999999999 ≤ℤ z → z ≤ℤ pos 1000000000 → end_fits z ≡ true
fit_within z a b = le-leb (unsigned_abs z) 1000000000 (omega (arith, ints, abs_is z))

fit_found : (vs : List ℤ) (e : NestEnd) → all_hold vs (fit_conditions e) ≡ true → end_fits (end_number vs e) ≡ true
fit_found vs e h =
    let a = le-true (pos 0 +ℤ (negsuc 999999999 -ℤ offset e)) (number_at vs e.level)
    (and_left (condition_holds vs (at_least e)) (all_hold vs (at_most e ∷ [])) h) in
    let b = le-true (number_at vs e.level +ℤ (offset e -ℤ pos 1000000000)) (pos 0)
    (one_held vs (at_most e) (and_right (condition_holds vs (at_least e)) (all_hold vs (at_most e ∷ [])) h)) in
    fit_within (number_at vs e.level +ℤ offset e) (omega (arith, ints)) (omega (arith, ints))

empty_holds : (vs : List ℤ) (r : NestRange) → is_nest_empty vs r ≡ true → all_hold vs (empty_conditions r) ≡ true
empty_holds vs r h =
    let fit = and_left (are_fit vs r) (int_lt (end_number vs r.high) (end_number vs r.low)) h in
    let l = lt-true (number_at vs r.high.level +ℤ offset r.high) (number_at vs r.low.level +ℤ offset r.low)
    (and_right (are_fit vs r) (int_lt (end_number vs r.high) (end_number vs r.low)) h) in
    both_true (condition_holds vs (over r)) (all_hold vs (fit_conditions r.low ++ fit_conditions r.high))
    (le_yes (number_at vs r.high.level +ℤ (offset r.high +ℤ pos 1 -ℤ offset r.low)) (number_at vs r.low.level)
    (omega (arith, ints)))
    (all_joined vs (fit_conditions r.low) (fit_conditions r.high)
    (fit_holds vs r.low (and_left (end_fits (end_number vs r.low)) (end_fits (end_number vs r.high)) fit))
    (fit_holds vs r.high (and_right (end_fits (end_number vs r.low)) (end_fits (end_number vs r.high)) fit)))

empty_found : (vs : List ℤ) (r : NestRange) → all_hold vs (empty_conditions r) ≡ true → is_nest_empty vs r ≡ true
empty_found vs r h =
    let l = le-true (number_at vs r.high.level +ℤ (offset r.high +ℤ pos 1 -ℤ offset r.low)) (number_at vs r.low.level)
    (and_left (condition_holds vs (over r)) (all_hold vs (fit_conditions r.low ++ fit_conditions r.high)) h) in
    let fits = and_right (condition_holds vs (over r)) (all_hold vs (fit_conditions r.low ++ fit_conditions r.high)) h
    in
    both_true (are_fit vs r) (int_lt (end_number vs r.high) (end_number vs r.low))
    (both_true (end_fits (end_number vs r.low)) (end_fits (end_number vs r.high))
    (fit_found vs r.low (all_front vs (fit_conditions r.low) (fit_conditions r.high) fits))
    (fit_found vs r.high (all_back vs (fit_conditions r.low) (fit_conditions r.high) fits)))
    (lt_yes (number_at vs r.high.level +ℤ offset r.high) (number_at vs r.low.level +ℤ offset r.low)
    (omega (arith, ints)))

-- a range is empty in an instance where that meets the conditions for it
pub empty_any : (r : NestRange) (xs : List (List ℤ)) →
    list_any (λ vs. all_hold vs (empty_conditions r)) xs ≡ list_any (λ vs. is_nest_empty vs r) xs
empty_any r xs = same_any (λ vs. all_hold vs (empty_conditions r)) (λ vs. is_nest_empty vs r)
    (λ vs. same_truth (all_hold vs (empty_conditions r)) (is_nest_empty vs r) (empty_found vs r) (empty_holds vs r)) xs

large_orders : (z : ℤ) → (int_le (pos 1000000001) z || int_le z (negsuc 1000000000)) ≡ not (end_fits z)
large_orders z = elim (end_fits z) as (λ b. end_fits z ≡ b →
    (int_le (pos 1000000001) z || int_le z (negsuc 1000000000)) ≡
    not b) [
      | true ↦ λ e. let b = fit_bounds z e in
          let low : negsuc 999999999 ≤ℤ z = b.0 in
          let high : z ≤ℤ pos 1000000000 = b.1 in
          neither (int_le (pos 1000000001) z) (int_le z (negsuc 1000000000))
          (λ h. let l = le-true (pos 1000000001) z h in omega (arith, ints))
          (λ h. let l = le-true z (negsuc 1000000000) h in omega (arith, ints))
      | false ↦ λ e. elim (int_le (pos 1000000001) z) as (λ b. int_le (pos 1000000001) z ≡ b →
          (b || int_le z (negsuc 1000000000)) ≡ true) [
            | true ↦ λ h. refl
            | false ↦ λ h.
                let l = le-false (pos 1000000001) z h in
                let n : 1000000000 < unsigned_abs z = leb-false (unsigned_abs z) 1000000000 e in
                le_yes z (negsuc 1000000000) (omega (arith, ints, abs_is z))
          ] refl
    ] refl
  where
    neither : (a b : Bool) → (a ≡ true → ⊥) → (b ≡ true → ⊥) → (a || b) ≡ false
    neither true b f g = absurd (f refl)
    neither false true f g = absurd (g refl)
    neither false false f g = refl

above_order : (vs : List ℤ) (e : NestEnd) →
    all_hold vs (above_limit e ∷ []) ≡ int_le (pos 1000000001) (end_number vs e)
above_order vs e = same_truth (all_hold vs (above_limit e ∷ [])) (int_le (pos 1000000001) (end_number vs e))
    (λ h. let l = le-true (pos 0 +ℤ (pos 1000000001 -ℤ offset e)) (number_at vs e.level)
    (one_held vs (above_limit e) h) in
    le_yes (pos 1000000001) (number_at vs e.level +ℤ offset e) (omega (arith, ints)))
    (λ h. let l = le-true (pos 1000000001) (number_at vs e.level +ℤ offset e) h in
    one_holds vs (above_limit e)
    (le_yes (pos 0 +ℤ (pos 1000000001 -ℤ offset e)) (number_at vs e.level) (omega (arith, ints))))

below_order : (vs : List ℤ) (e : NestEnd) →
    all_hold vs (below_limit e ∷ []) ≡ int_le (end_number vs e) (negsuc 1000000000)
below_order vs e = same_truth (all_hold vs (below_limit e ∷ [])) (int_le (end_number vs e) (negsuc 1000000000))
    (λ h. let l = le-true (number_at vs e.level +ℤ (offset e +ℤ pos 1000000001)) (pos 0)
    (one_held vs (below_limit e) h) in
    le_yes (number_at vs e.level +ℤ offset e) (negsuc 1000000000) (omega (arith, ints)))
    (λ h. let l = le-true (number_at vs e.level +ℤ offset e) (negsuc 1000000000) h in
    one_holds vs (below_limit e)
    (le_yes (number_at vs e.level +ℤ (offset e +ℤ pos 1000000001)) (pos 0) (omega (arith, ints))))

large_any : (e : NestEnd) (xs : List (List ℤ)) →
    (list_any (λ vs. all_hold vs (above_limit e ∷ [])) xs || list_any (λ vs. all_hold vs (below_limit e ∷ [])) xs)
    ≡ list_any (λ vs. not (end_fits (end_number vs e))) xs
large_any e xs =
    any_either (λ vs. all_hold vs (above_limit e ∷ [])) (λ vs. all_hold vs (below_limit e ∷ [])) xs
    ∙ same_any (λ vs. all_hold vs (above_limit e ∷ []) || all_hold vs (below_limit e ∷ []))
    (λ vs. not (end_fits (end_number vs e)))
    (λ vs. ap (λ b. b || all_hold vs (below_limit e ∷ [])) (above_order vs e)
    ∙ ap (λ b. int_le (pos 1000000001) (end_number vs e) || b) (below_order vs e) ∙ large_orders (end_number vs e)) xs

-- an end is too large in an instance where that meets the one or the other condition
pub large_first : (e : NestEnd) (xs : List (List ℤ)) (a : Bool) → a ≡ list_any
    (λ vs. all_hold vs (above_limit e ∷ [])) xs →
    a ≡ true → a ≡ list_any (λ vs. not (end_fits (end_number vs e))) xs
large_first e xs a h t =
    t ∙ ap (λ b. b || list_any (λ vs. all_hold vs (below_limit e ∷ [])) xs) (sym t ∙ h) ∙ large_any e xs

pub large_second : (e : NestEnd) (xs : List (List ℤ)) (a b : Bool) →
    a ≡ list_any (λ vs. all_hold vs (above_limit e ∷ [])) xs → a ≡ false →
    b ≡ list_any (λ vs. all_hold vs (below_limit e ∷ [])) xs → b ≡ list_any (λ vs. not (end_fits (end_number vs e))) xs
large_second e xs a b h f k =
    k ∙ ap (λ c. c || list_any (λ vs. all_hold vs (below_limit e ∷ [])) xs) (sym f ∙ h) ∙ large_any e xs
