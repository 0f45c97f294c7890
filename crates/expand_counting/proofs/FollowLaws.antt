-- What follows for the outer numbers from conditions on an inner one, and what is kept where lists are merged.
use Rattle.std.proofs.Common.{◌≡◌, ℕ, zero, suc, ◌+◌, ◌<◌, ℤ, pos, ◌+ℤ◌, List, [], ◌∷◌, ◌++◌, Bool, true, false, cond}
use Rattle.std.proofs.Common.{◌&&◌, Option, Some, None, nat_eq, length, slice_set, slice_index_or, take, get_or}
use Rattle.std.proofs.Common.{append_assoc, eqb-true, eq-eqb, refl, sym, ap, ◌∙◌, subst, arith}
use Rattle.std.proofs.lemmas.Int.{ints}
use Rattle.std.proofs.lemmas.List.{take_more}
use Rattle.std.proofs.lemmas.List.Folds.{list_all-append}
use borrow.Author.Differences.{le-true, true_is_le}
use Rattle.std.specs.Int.RustNames.{int_le}
use Rattle.expand_counting.specs.declared.ranges.Condition.{Condition}
use Rattle.expand_counting.specs.Nests.{number_at}
use Rattle.expand_counting.specs.Conditions.{condition_holds, all_hold, is_level, are_same, plain, Entails, FollowsOut}
use Rattle.expand_counting.specs.Conditions.{Pair}

pub and_left : (a b : Bool) → (a && b) ≡ true → a ≡ true
and_left true b h = refl
and_left false b h = cc

pub and_right : (a b : Bool) → (a && b) ≡ true → b ≡ true
and_right true b h = h
and_right false b h = cc

pub both_true : (a b : Bool) → a ≡ true → b ≡ true → (a && b) ≡ true
both_true true b h k = k
both_true false b h k = cc

pub all_joined : (vs : List ℤ) (cs ds : List Condition) → all_hold vs cs ≡ true → all_hold vs ds ≡ true →
    all_hold vs (cs ++ ds) ≡ true
all_joined vs cs ds h k =
    list_all-append (condition_holds vs) cs ds ∙ both_true (all_hold vs cs) (all_hold vs ds) h k

pub all_front : (vs : List ℤ) (cs ds : List Condition) → all_hold vs (cs ++ ds) ≡ true → all_hold vs cs ≡ true
all_front vs cs ds h = and_left (all_hold vs cs) (all_hold vs ds)
    (sym (list_all-append (condition_holds vs) cs ds) ∙ h)

pub all_back : (vs : List ℤ) (cs ds : List Condition) → all_hold vs (cs ++ ds) ≡ true → all_hold vs ds ≡ true
all_back vs cs ds h = and_right (all_hold vs cs) (all_hold vs ds)
    (sym (list_all-append (condition_holds vs) cs ds) ∙ h)

-- a list with one condition

pub one_holds : (vs : List ℤ) (c : Condition) → condition_holds vs c ≡ true → all_hold vs (c ∷ []) ≡ true
one_holds vs c h = both_true (condition_holds vs c) true h refl

pub one_held : (vs : List ℤ) (c : Condition) → all_hold vs (c ∷ []) ≡ true → condition_holds vs c ≡ true
one_held vs c h = and_left (condition_holds vs c) true h

-- merging

pub entails_same : (cs : List Condition) → Entails cs cs
entails_same cs = record { holds = λ vs h. h }

pub entails_old : (old : List Condition) (c : Condition) → Entails (old ++ c ∷ []) old
entails_old old c = record { holds = λ vs h. all_front vs old (c ∷ []) h }

holds_set : (vs : List ℤ) (old : List Condition) (place : ℕ) (c : Condition) → all_hold vs old ≡ true →
    condition_holds vs c ≡ true → all_hold vs (slice_set old place c) ≡ true
holds_set vs [] place c h k = h
holds_set vs (x ∷ xs) zero c h k =
    both_true (condition_holds vs c) (all_hold vs xs) k (and_right (condition_holds vs x) (all_hold vs xs) h)
holds_set vs (x ∷ xs) (suc n) c h k =
    both_true (condition_holds vs x) (all_hold vs (slice_set xs n c))
    (and_left (condition_holds vs x) (all_hold vs xs) h)
    (holds_set vs xs n c (and_right (condition_holds vs x) (all_hold vs xs) h) k)

pub entails_set : (old : List Condition) (place : ℕ) (c : Condition) → Entails (old ++ c ∷ []) (slice_set old place c)
entails_set old place c = record {
  holds = λ vs h. holds_set vs old place c (all_front vs old (c ∷ []) h) (one_held vs c (all_back vs old (c ∷ []) h));
}

same_levels : (a b : Option ℕ) → are_same a b ≡ true → a ≡ b
same_levels None None h = refl
same_levels None (Some m) h = cc
same_levels (Some n) None h = cc
same_levels (Some n) (Some m) h = ap Some (eqb-true n m h)

constant_gap : (x g : ℤ) → int_le (x +ℤ g) x ≡ true → int_le (pos 0 +ℤ g) (pos 0) ≡ true
constant_gap x g h = let l = le-true (x +ℤ g) x h in sym (true_is_le (pos 0 +ℤ g) (pos 0) (omega (arith, ints)))

pub plain_holds : (vs : List ℤ) (c : Condition) → condition_holds vs c ≡ true → condition_holds vs (plain c) ≡ true
plain_holds vs c h =
    elim (are_same c.low c.high) as (λ b. are_same c.low c.high ≡ b →
    condition_holds vs (cond b (record { low = None; high = None; gap = c.gap }) c) ≡ true) [
      | true ↦ λ e. constant_gap (number_at vs c.low) c.gap
          (ap (λ l. int_le (number_at vs c.low +ℤ c.gap) (number_at vs l)) (same_levels c.low c.high e) ∙ h)
      | false ↦ λ e. h
    ] refl

-- one more of the conditions of a list is added
pub entails_added : (start cs : List Condition) (i : ℕ) (d : Condition) (old new : List Condition) → i < length cs →
    Entails (start ++ take i cs) old → Entails (old ++ plain (get_or cs i d) ∷ []) new →
    Entails (start ++ take (i + 1) cs) new
entails_added start cs i d old new h p q = record {
  holds = λ vs a.
      let c = get_or cs i d in
      let more : all_hold vs ((start ++ take i cs) ++ c ∷ []) ≡ true =
      ap (all_hold vs) (append_assoc start (take i cs) (c ∷ []) ∙ ap (λ xs. start ++ xs) (sym (take_more cs i d h))) ∙
      a in
      q.holds vs (all_joined vs old (plain c ∷ []) (p.holds vs (all_front vs (start ++ take i cs) (c ∷ []) more))
      (one_holds vs (plain c) (plain_holds vs c (one_held vs c (all_back vs (start ++ take i cs) (c ∷ []) more)))));
}

-- numbers of outer ranges stay, and the last is the inner one's
index_outer : (vs : List ℤ) (z : ℤ) (n : ℕ) → (n ≡ length vs → ⊥) →
    slice_index_or (vs ++ z ∷ []) n (pos 0) ≡ slice_index_or vs n (pos 0)
index_outer [] z zero h = absurd (h refl)
index_outer [] z (suc n) h = refl
index_outer (v ∷ vs) z zero h = refl
index_outer (v ∷ vs) z (suc n) h = index_outer vs z n (λ e. h (ap suc e))

index_inner : (vs : List ℤ) (z : ℤ) (n : ℕ) → n ≡ length vs → slice_index_or (vs ++ z ∷ []) n (pos 0) ≡ z
index_inner [] z zero h = refl
index_inner [] z (suc n) h = absurd (omega arith)
index_inner (v ∷ vs) z zero h = absurd (let l : 0 ≡ suc (length vs) = h in omega arith)
index_inner (v ∷ vs) z (suc n) h = index_inner vs z n (let l : suc n ≡ suc (length vs) = h in omega arith)

pub number_outer : (vs : List ℤ) (z : ℤ) (o : Option ℕ) → is_level o (length vs) ≡ false →
    number_at (vs ++ z ∷ []) o ≡ number_at vs o
number_outer vs z None h = refl
number_outer vs z (Some n) h =
    index_outer vs z n (λ e. let t : nat_eq n (length vs) ≡ true = eq-eqb n (length vs) e in cc)

pub number_inner : (vs : List ℤ) (z : ℤ) (o : Option ℕ) → is_level o (length vs) ≡ true → number_at (vs ++ z ∷ []) o
    ≡ z
number_inner vs z None h = cc
number_inner vs z (Some n) h = index_inner vs z n (eqb-true n (length vs) h)

-- what follows

-- a condition on outer numbers that holds whichever the number of the range k is
One : ℕ → List Condition → Condition → Type 0
One k all c = (vs : List ℤ) (z : ℤ) → length vs ≡ k → all_hold (vs ++ z ∷ []) all ≡ true → condition_holds vs c ≡ true

abbrev Among : List Condition → Condition → Type 0
Among all a = (vs : List ℤ) → all_hold vs all ≡ true → condition_holds vs a ≡ true

pub follows_none : (k : ℕ) (all : List Condition) → FollowsOut k all []
follows_none k all = record { holds = λ vs z e h. refl }

pub follows_entailed : (k : ℕ) (cs all out : List Condition) → Entails cs all → FollowsOut k all out → FollowsOut k cs
    out
follows_entailed k cs all out p f = record { holds = λ vs z e h. f.holds vs z e (p.holds (vs ++ z ∷ []) h) }

pub follows_outer : (k : ℕ) (all old new : List Condition) (a : Condition) → FollowsOut k all old → Among all a →
    (is_level a.low k ≡ false) × (is_level a.high k ≡ false) → Entails (old ++ a ∷ []) new → FollowsOut k all new
follows_outer k all old new a f among o p = record {
  holds = λ vs z e h.
      let l = number_outer vs z a.low (subst (λ n. is_level a.low n ≡ false) (sym e) o.0) in
      let r = number_outer vs z a.high (subst (λ n. is_level a.high n ≡ false) (sym e) o.1) in
      p.holds vs (all_joined vs old (a ∷ []) (f.holds vs z e h) (one_holds vs a
      (ap (λ x. int_le (x +ℤ a.gap) (number_at vs a.high)) (sym l)
      ∙ ap (λ x. int_le (number_at (vs ++ z ∷ []) a.low +ℤ a.gap) x) (sym r) ∙ among (vs ++ z ∷ []) h)));
}

joined_order : (x y z g h : ℤ) → int_le (z +ℤ g) y ≡ true → int_le (x +ℤ h) z ≡ true → int_le (x +ℤ (g +ℤ h)) y ≡ true
joined_order x y z g h p q =
    let a = le-true (z +ℤ g) y p in let b = le-true (x +ℤ h) z q in
    sym (true_is_le (x +ℤ (g +ℤ h)) y (omega (arith, ints)))

pub follows_pair : (k : ℕ) (all old new : List Condition) (a b c : Condition) → FollowsOut k all old → Among all a →
    Among all b → Pair k a b c → Entails (old ++ plain c ∷ []) new → FollowsOut k all new
follows_pair k all old new a b c f among also p q = record {
  holds = λ vs z e h.
      let al = number_inner vs z a.low (subst (λ n. is_level a.low n ≡ true) (sym e) p.0) in
      let ah = number_outer vs z a.high (subst (λ n. is_level a.high n ≡ false) (sym e) p.1) in
      let bh = number_inner vs z b.high (subst (λ n. is_level b.high n ≡ true) (sym e) p.2) in
      let bl = number_outer vs z b.low (subst (λ n. is_level b.low n ≡ false) (sym e) p.3) in
      let x : int_le (z +ℤ a.gap) (number_at vs a.high) ≡ true =
      ap (λ v. int_le (v +ℤ a.gap) (number_at vs a.high)) (sym al)
      ∙ ap (λ v. int_le (number_at (vs ++ z ∷ []) a.low +ℤ a.gap) v) (sym ah) ∙ among (vs ++ z ∷ []) h in
      let y : int_le (number_at vs b.low +ℤ b.gap) z ≡ true =
      ap (λ v. int_le (v +ℤ b.gap) z) (sym bl)
      ∙ ap (λ v. int_le (number_at (vs ++ z ∷ []) b.low +ℤ b.gap) v) (sym bh) ∙ also (vs ++ z ∷ []) h in
      let here : condition_holds vs c ≡ true =
      ap (λ v. int_le (number_at vs v +ℤ c.gap) (number_at vs c.high)) p.4
      ∙ ap (λ v. int_le (number_at vs b.low +ℤ c.gap) (number_at vs v)) p.5
      ∙ ap (λ v. int_le (number_at vs b.low +ℤ v) (number_at vs a.high)) p.6
      ∙ joined_order (number_at vs b.low) (number_at vs a.high) z a.gap b.gap x y in
      q.holds vs (all_joined vs old (plain c ∷ []) (f.holds vs z e h)
      (one_holds vs (plain c) (plain_holds vs c here)));
}
