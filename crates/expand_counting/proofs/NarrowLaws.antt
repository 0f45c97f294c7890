-- What a condition leaves of a range's numbers, and that no instance is lost.
use Rattle.std.proofs.Common.{◌≡◌, ℕ, suc, ◌≤◌, ℤ, pos, negsuc, ◌+ℤ◌, ◌-ℤ◌, ◌≤ℤ◌, List, [], ◌∷◌, ◌++◌, true, false}
use Rattle.std.proofs.Common.{cond, Option, Some, None, length, refl, sym, ap, ◌∙◌, subst, arith}
use Rattle.std.proofs.lemmas.Int.{ints}
use Rattle.std.proofs.lemmas.Bool.{leb-true}
use borrow.Author.Differences.{le-true, lt-true, abs_is}
use Rattle.std.specs.Int.RustNames.{int_le, int_lt, unsigned_abs}
use Rattle.expand_counting.specs.declared.ranges.NestRange.{NestRange}
use Rattle.expand_counting.specs.declared.ranges.Condition.{Condition}
use Rattle.expand_counting.specs.declared.ranges.Interval.{Interval}
use Rattle.expand_counting.specs.Nests.{number_at, end_number, natural, between, end_fits, are_fit}
use Rattle.expand_counting.specs.Conditions.{is_level, sum_over, meeting, Necessary, Narrows, Spans, lowered, raised}
use Rattle.expand_counting.specs.Conditions.{left_by}
use Rattle.expand_counting.specs.Conditions.{interval_of}
use Rattle.expand_counting.proofs.FollowLaws.{and_left, and_right, all_front, all_back, one_held, number_outer}
use Rattle.expand_counting.proofs.FollowLaws.{number_inner}
use Rattle.expand_counting.proofs.CountLaws.{sum_kept}

pub length_more : (us : List ℤ) (z : ℤ) → length (us ++ z ∷ []) ≡ suc (length us)
length_more [] z = refl
length_more (u ∷ us) z = ap suc (length_more us z)

pub narrows_none : (vs : List ℤ) (old : Interval) (cs : List Condition) → Narrows vs cs old old
narrows_none vs old cs = record { low = omega (arith, ints); high = omega (arith, ints); kept = λ z l h a. (l, h) }

pub narrows_more : (vs : List ℤ) (cs : List Condition) (c : Condition) (old mid new : Interval) → Narrows vs cs old
    mid →
    Narrows vs (c ∷ []) mid new → Narrows vs (cs ++ c ∷ []) old new
narrows_more vs cs c old mid new p q = record {
  low = let a : old.low ≤ℤ mid.low = p.low in let b : mid.low ≤ℤ new.low = q.low in omega (arith, ints);
  high = let a : mid.high ≤ℤ old.high = p.high in let b : new.high ≤ℤ mid.high = q.high in omega (arith, ints);
  kept = λ z l h a.
      let k = p.kept z l h (all_front (vs ++ z ∷ []) cs (c ∷ []) a) in
      q.kept z k.0 k.1 (all_back (vs ++ z ∷ []) cs (c ∷ []) a);
}

narrows_below : (vs : List ℤ) (c : Condition) (old : Interval) (most : Option ℤ) → is_level c.low (length vs) ≡ true →
    is_level c.high (length vs) ≡ false → ((m : ℤ) → most ≡ Some m → m ≡ number_at vs c.high -ℤ c.gap) →
    Narrows vs (c ∷ []) old (lowered old most)
narrows_below vs c old None i j e = narrows_none vs old (c ∷ [])
narrows_below vs c old (Some m) i j e = elim (int_lt m old.high) as (λ b. int_lt m old.high ≡ b →
    Narrows vs (c ∷ []) old (cond b (record { low = old.low; high = m }) old)) [
      | false ↦ λ f. narrows_none vs old (c ∷ [])
      | true ↦ λ f. let g = lt-true m old.high f in record {
        low = omega (arith, ints);
        high = omega (arith, ints);
        kept = λ z l h a.
            let d : m ≡ number_at vs c.high -ℤ c.gap = e m refl in
            let s : int_le (z +ℤ c.gap) (number_at vs c.high) ≡ true =
            ap (λ x. int_le (x +ℤ c.gap) (number_at vs c.high)) (sym (number_inner vs z c.low i))
            ∙ ap (λ x. int_le (number_at (vs ++ z ∷ []) c.low +ℤ c.gap) x) (sym (number_outer vs z c.high j))
            ∙ one_held (vs ++ z ∷ []) c a in
            let t = le-true (z +ℤ c.gap) (number_at vs c.high) s in
            (l, omega (arith, ints));
      }
    ] refl

narrows_above : (vs : List ℤ) (c : Condition) (old : Interval) (least : Option ℤ) → is_level c.low (length vs) ≡
    false →
    is_level c.high (length vs) ≡ true → ((m : ℤ) → least ≡ Some m → m ≡ number_at vs c.low +ℤ c.gap) →
    Narrows vs (c ∷ []) old (raised old least)
narrows_above vs c old None i j e = narrows_none vs old (c ∷ [])
narrows_above vs c old (Some m) i j e = elim (int_lt old.low m) as (λ b. int_lt old.low m ≡ b →
    Narrows vs (c ∷ []) old (cond b (record { low = m; high = old.high }) old)) [
      | false ↦ λ f. narrows_none vs old (c ∷ [])
      | true ↦ λ f. let g = lt-true old.low m f in record {
        low = omega (arith, ints);
        high = omega (arith, ints);
        kept = λ z l h a.
            let d : m ≡ number_at vs c.low +ℤ c.gap = e m refl in
            let s : int_le (number_at vs c.low +ℤ c.gap) z ≡ true =
            ap (λ x. int_le (x +ℤ c.gap) z) (sym (number_outer vs z c.low i))
            ∙ ap (λ x. int_le (number_at (vs ++ z ∷ []) c.low +ℤ c.gap) x) (sym (number_inner vs z c.high j))
            ∙ one_held (vs ++ z ∷ []) c a in
            let t = le-true (number_at vs c.low +ℤ c.gap) z s in
            (omega (arith, ints), h);
      }
    ] refl

pub narrows_left : (vs : List ℤ) (c : Condition) (k : ℕ) (old : Interval) (most least : Option ℤ) → length vs ≡ k →
    ((m : ℤ) → most ≡ Some m → m ≡ number_at vs c.high -ℤ c.gap) →
    ((m : ℤ) → least ≡ Some m → m ≡ number_at vs c.low +ℤ c.gap) →
    Narrows vs (c ∷ []) old (left_by c k old most least)
narrows_left vs c k old most least h e f = subst (λ n. Narrows vs (c ∷ []) old (left_by c n old most least)) h
    (elim (is_level c.low (length vs)) as (λ a. is_level c.low (length vs) ≡ a → Narrows vs (c ∷ []) old
    (cond a (cond (is_level c.high (length vs)) old (lowered old most))
    (cond (is_level c.high (length vs)) (raised old least) old))) [
      | true ↦ λ i. elim (is_level c.high (length vs)) as (λ b. is_level c.high (length vs) ≡ b →
          Narrows vs (c ∷ []) old (cond b old (lowered old most))) [
            | true ↦ λ j. narrows_none vs old (c ∷ [])
            | false ↦ λ j. narrows_below vs c old most i j e
          ] refl
      | false ↦ λ i. elim (is_level c.high (length vs)) as (λ b. is_level c.high (length vs) ≡ b →
          Narrows vs (c ∷ []) old (cond b (raised old least) old)) [
            | true ↦ λ j. narrows_above vs c old least i j f
            | false ↦ λ j. narrows_none vs old (c ∷ [])
          ] refl
    ] refl)

pub fit_bounds : (z : ℤ) → end_fits z ≡ true → (negsuc 999999999 ≤ℤ z) × (z ≤ℤ pos 1000000000)
fit_bounds z h =
    let n : unsigned_abs z ≤ 1000000000 = leb-true (unsigned_abs z) 1000000000 h in
    (omega (arith, ints, abs_is z), omega (arith, ints, abs_is z))

abbrev whole : List ℤ → NestRange → Interval
whole vs r = record { low = end_number vs r.low; high = end_number vs r.high }

abbrev none : Interval
none = record { low = pos 0; high = negsuc 0 }

pub spans_interval : (vs : List ℤ) (r : NestRange) → Spans vs r
    (interval_of (end_number vs r.low) (end_number vs r.high))
spans_interval vs r = elim (are_fit vs r) as (λ b. are_fit vs r ≡ b →
    (cond b (between (end_number vs r.low) (end_number vs r.high)) []
    ≡ between (cond b (whole vs r) none).low (cond b (whole vs r) none).high)
    × (negsuc 999999999 ≤ℤ (cond b (whole vs r) none).low) × ((cond b (whole vs r) none).high ≤ℤ pos 1000000000)) [
      | true ↦ λ e. (
        refl,
        (fit_bounds (end_number vs r.low) (and_left (end_fits (end_number vs r.low)) (end_fits (end_number vs r.high))
            e)).0,
        (fit_bounds (end_number vs r.high) (and_right (end_fits (end_number vs r.low)) (end_fits (end_number vs r.high))
            e)).1,
      )
      | false ↦ λ e. (refl, omega (arith, ints), omega (arith, ints))
    ] refl

-- no instance is lost
pub same_meeting : (vs : List ℤ) (r : NestRange) (rs : List NestRange) (leaf cs : List Condition)
    (old new : Interval) →
    Spans vs r old → Necessary rs leaf (suc (length vs)) cs → Narrows vs cs old new →
    meeting (r ∷ rs) leaf vs ≡ sum_over (λ z. meeting rs leaf (vs ++ z ∷ [])) (between new.low new.high)
same_meeting vs r rs leaf cs old new s n w =
    ap (sum_over (λ z. meeting rs leaf (vs ++ z ∷ []))) s.0
    ∙ sum_kept (λ z. meeting rs leaf (vs ++ z ∷ [])) (natural (old.high +ℤ pos 1 -ℤ old.low)) old.low old.high
    new.low new.high (size (old.high +ℤ pos 1 -ℤ old.low)) w.low w.high
    (λ z i j c. w.kept z i j (n.holds (vs ++ z ∷ []) (length_more vs z) c))
  where
    size : (a : ℤ) → a ≤ℤ pos (natural a)
    size (pos m) = omega (arith, ints)
    size (negsuc m) = omega (arith, ints)
