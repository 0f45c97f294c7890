-- Slots of two rising lists, merged: the lower of the two that are next comes first.
use Rattle.std.proofs.Common.{◌≡◌, ℕ, suc, ◌+◌, ◌-◌, ◌<◌, ◌≤◌, nat_le, nat_lt, List, [], ◌∷◌, ◌++◌, filter}
use Rattle.std.proofs.Common.{IsTrue, refl, sym, ap, ◌∙◌, subst, arith, length, take, drop, get_or, ◌⊎◌, inl, inr}
use Rattle.std.proofs.Common.{append_assoc, append-nil}
use Rattle.std.proofs.Math.Seq.{drop-cons}
use Rattle.std.proofs.lemmas.List.{drop_all, take_all, length-drop}
use Rattle.std.proofs.lemmas.Bool.{leb-true, le-leb, lt-ltb, le-ltb}
use Rattle.core_terms.proofs.BoolLaws.{and_left, and_right}
use Rattle.core_terms.specs.Unions.{with_slot, merged, is_rising}

pub next_rises : (least n : ℕ) (ns : List ℕ) → IsTrue (is_rising least (n ∷ ns)) → IsTrue (is_rising (n + 1) ns)
next_rises least n ns r = and_right (nat_le least n) (is_rising (n + 1) ns) r

above_least : (least n : ℕ) (ns : List ℕ) → IsTrue (is_rising least (n ∷ ns)) → least ≤ n
above_least least n ns r = leb-true least n (and_left (nat_le least n) (is_rising (n + 1) ns) r)

pub rises_lower : (least lower : ℕ) (ns : List ℕ) → lower ≤ least → IsTrue (is_rising least ns) →
    IsTrue (is_rising lower ns)
rises_lower least lower [] h r = refl
rises_lower least lower (n ∷ ns) h r =
    let low = above_least least n ns r in
    let passes = le-leb lower n (omega (arith, h, low)) in rw passes (next_rises least n ns r)

-- what a number leaves of those that rise above it
all_higher : (k least : ℕ) (ns : List ℕ) → k < least → IsTrue (is_rising least ns) → filter (λ x. nat_lt k x) ns ≡ ns
all_higher k least [] h r = refl
all_higher k least (n ∷ ns) h r =
    let low = above_least least n ns r in
    let passes = lt-ltb k n (omega (arith, h, low)) in
    rw passes (ap (λ rest. n ∷ rest) (all_higher k (n + 1) ns (omega (arith, h, low)) (next_rises least n ns r)))

none_lower : (k least : ℕ) (ns : List ℕ) → k ≤ least → IsTrue (is_rising least ns) → filter (λ x. nat_lt x k) ns ≡ []
none_lower k least [] h r = refl
none_lower k least (n ∷ ns) h r =
    let low = above_least least n ns r in
    let fails = le-ltb n k (omega (arith, h, low)) in
    rw fails (none_lower k (n + 1) ns (omega (arith, h, low)) (next_rises least n ns r))

-- the first of all stays the first
first_leads : (k least : ℕ) (ns more : List ℕ) → k < least → IsTrue (is_rising least more) →
    merged (k ∷ ns) more ≡ k ∷ merged ns more
first_leads k least ns [] h r = refl
first_leads k least ns (n ∷ more) h r =
    let low = above_least least n more r in
    let passes = lt-ltb k n (omega (arith, h, low)) in
    let fails = le-ltb n k (omega (arith, h, low)) in
    rw (passes, fails) (first_leads k (n + 1) (with_slot ns n) more (omega (arith, h, low)) (next_rises least n more r))

put_first : (n : ℕ) (ns : List ℕ) → IsTrue (is_rising (n + 1) ns) → with_slot ns n ≡ n ∷ ns
put_first n ns r =
    let none = none_lower n (n + 1) ns (omega arith) r in
    let all = all_higher n (n + 1) ns (omega arith) r in rw (none, all) refl

put_again : (n : ℕ) (ns : List ℕ) → IsTrue (is_rising (n + 1) ns) → with_slot (n ∷ ns) n ≡ n ∷ ns
put_again n ns r = let fails = le-ltb n n (omega arith) in rw fails (put_first n ns r)

-- the lower of the two that are next comes first
pub next_of_first : (m n : ℕ) (ms ns : List ℕ) → m < n → IsTrue (is_rising (n + 1) ns) →
    merged (m ∷ ms) (n ∷ ns) ≡ m ∷ merged ms (n ∷ ns)
next_of_first m n ms ns h r =
    let passes = le-leb n n (omega arith) in first_leads m n ms (n ∷ ns) h (rw passes r)

pub next_of_both : (n : ℕ) (ms ns : List ℕ) → IsTrue (is_rising (n + 1) ms) → IsTrue (is_rising (n + 1) ns) →
    merged (n ∷ ms) (n ∷ ns) ≡ n ∷ merged ms ns
next_of_both n ms ns q r =
    ap (λ all. merged all ns) (put_again n ms q) ∙ first_leads n (n + 1) ms ns (omega arith) r

pub next_of_second : (n : ℕ) (ms ns : List ℕ) → IsTrue (is_rising (n + 1) ms) → IsTrue (is_rising (n + 1) ns) →
    merged ms (n ∷ ns) ≡ n ∷ merged ms ns
next_of_second n ms ns q r =
    ap (λ all. merged all ns) (put_first n ms q) ∙ first_leads n (n + 1) ms ns (omega arith) r

-- one list alone
pub second_alone : (least : ℕ) (ns : List ℕ) → IsTrue (is_rising least ns) → merged [] ns ≡ ns
second_alone least [] r = refl
second_alone least (n ∷ ns) r =
    let rest = next_rises least n ns r in
    next_of_second n [] ns refl rest ∙ ap (λ all. n ∷ all) (second_alone (n + 1) ns rest)

-- what is left of both lists, where one is used up
leftover : (ms ns : List ℕ) → IsTrue (is_rising 0 ns) → (ms ≡ []) ⊎ (ns ≡ []) → merged ms ns ≡ ms ++ ns
leftover ms ns r (inl e) = subst (λ l. merged l ns ≡ l ++ ns) (sym e) (second_alone 0 ns r)
leftover ms ns r (inr e) = subst (λ l. merged ms l ≡ ms ++ l) (sym e) (sym (append-nil ms))

drop_next : (ns : List ℕ) (i d : ℕ) → i < length ns → drop i ns ≡ get_or ns i d ∷ drop (i + 1) ns
drop_next ns i d h =
    let next : suc i ≡ i + 1 = omega arith in drop-cons ns i d h ∙ ap (λ k. get_or ns i d ∷ drop k ns) next

module _ (first second : List ℕ) where
  -- what is done, followed by what the rest of both lists gives, is the whole, and the rests rise
  abbrev pub IsWoven : List ℕ → ℕ → ℕ → Type 0
  IsWoven done i j = (done ++ merged (drop i first) (drop j second) ≡ merged first second)
      × IsTrue (is_rising 0 (drop i first)) × IsTrue (is_rising 0 (drop j second))
      × (i ≤ length first) × (j ≤ length second)

  module _ (done new : List ℕ) (i j d e : ℕ) (w : IsWoven done i j) (low : i < length first)
      (high : j < length second) where
    abbrev pub m : ℕ
    m = get_or first i d

    abbrev pub n : ℕ
    n = get_or second j e

    one : drop i first ≡ m ∷ drop (i + 1) first
    one = drop_next first i d low

    other : drop j second ≡ n ∷ drop (j + 1) second
    other = drop_next second j e high

    one_rises : IsTrue (is_rising 0 (m ∷ drop (i + 1) first))
    one_rises = subst (λ l. IsTrue (is_rising 0 l)) one w.1

    other_rises : IsTrue (is_rising 0 (n ∷ drop (j + 1) second))
    other_rises = subst (λ l. IsTrue (is_rising 0 l)) other w.2

    rest_of_one : IsTrue (is_rising (m + 1) (drop (i + 1) first))
    rest_of_one = next_rises 0 m (drop (i + 1) first) one_rises

    rest_of_other : IsTrue (is_rising (n + 1) (drop (j + 1) second))
    rest_of_other = next_rises 0 n (drop (j + 1) second) other_rises

    moved : (k : ℕ) (rest : List ℕ) → new ≡ done ++ k ∷ [] → merged (drop i first) (drop j second) ≡ k ∷ rest →
        new ++ rest ≡ merged first second
    moved k rest p q = ap (λ l. l ++ rest) p ∙ append_assoc done (k ∷ []) rest ∙ ap (λ l. done ++ l) (sym q) ∙ w.0

    pub step_of_first : m < n → new ≡ done ++ m ∷ [] → IsWoven new (i + 1) j
    step_of_first h p = (
      moved m (merged (drop (i + 1) first) (drop j second)) p
          (ap (λ l. merged l (drop j second)) one ∙ ap (λ l. merged (m ∷ drop (i + 1) first) l) other
          ∙ next_of_first m n (drop (i + 1) first) (drop (j + 1) second) h rest_of_other
          ∙ ap (λ l. m ∷ merged (drop (i + 1) first) l) (sym other)),
      rises_lower (m + 1) 0 (drop (i + 1) first) (omega arith) rest_of_one,
      w.2,
      omega (arith, low),
      w.4,
    )

    pub step_of_second : n < m → new ≡ done ++ n ∷ [] → IsWoven new i (j + 1)
    step_of_second h p = (
      moved n (merged (drop i first) (drop (j + 1) second)) p
          (ap (λ l. merged (drop i first) l) other
          ∙ next_of_second n (drop i first) (drop (j + 1) second)
          (subst (λ l. IsTrue (is_rising (n + 1) l)) (sym one) (rises_from n h)) rest_of_other),
      w.1,
      rises_lower (n + 1) 0 (drop (j + 1) second) (omega arith) rest_of_other,
      w.3,
      omega (arith, high),
    )
      where
        rises_from : (k : ℕ) → k < m → IsTrue (is_rising (k + 1) (m ∷ drop (i + 1) first))
        rises_from k l = let passes = le-leb (k + 1) m (omega (arith, l)) in rw passes rest_of_one

    pub step_of_both : m ≡ n → new ≡ done ++ m ∷ [] → IsWoven new (i + 1) (j + 1)
    step_of_both h p = (
      moved m (merged (drop (i + 1) first) (drop (j + 1) second)) p
          (ap (λ l. merged l (drop j second)) one ∙ ap (λ l. merged (m ∷ drop (i + 1) first) l) other
          ∙ ap (λ k. merged (m ∷ drop (i + 1) first) (k ∷ drop (j + 1) second)) (sym h)
          ∙ next_of_both m (drop (i + 1) first) (drop (j + 1) second) rest_of_one
          (subst (λ k. IsTrue (is_rising (k + 1) (drop (j + 1) second))) (sym h) rest_of_other)),
      rises_lower (m + 1) 0 (drop (i + 1) first) (omega arith) rest_of_one,
      rises_lower (n + 1) 0 (drop (j + 1) second) (omega arith) rest_of_other,
      omega (arith, low),
      omega (arith, high),
    )

  pub woven_whole : (done more all : List ℕ) (i j : ℕ) → IsWoven done i j → (length first ≤ i) ⊎ (length second ≤ j) →
      more ≡ done ++ take (length first - i) (drop i first) → all ≡ more ++ take (length second - j) (drop j second) →
      all ≡ merged first second
  woven_whole done more all i j w end p q =
      q ∙ ap (λ l. more ++ l) (whole second j) ∙ ap (λ l. l ++ drop j second) (p ∙ ap (λ l. done ++ l) (whole first i))
      ∙ append_assoc done (drop i first) (drop j second)
      ∙ ap (λ l. done ++ l) (sym (leftover (drop i first) (drop j second) w.2 (by end))) ∙ w.0
    where
      whole : (ns : List ℕ) (k : ℕ) → take (length ns - k) (drop k ns) ≡ drop k ns
      whole ns k = take_all (length ns - k) (drop k ns) (omega (arith, length-drop k ns))

      by : (length first ≤ i) ⊎ (length second ≤ j) → (drop i first ≡ []) ⊎ (drop j second ≡ [])
      by (inl h) = inl (drop_all i first h)
      by (inr h) = inr (drop_all j second h)
