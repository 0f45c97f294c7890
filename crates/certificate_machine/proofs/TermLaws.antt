-- Sums as terms.
use Rattle.std.proofs.Common.{◌≡◌, ℕ, zero, suc, ◌+◌, ◌<◌, ◌≤◌, nat_eq, nat_lt, ℤ, pos, ◌+ℤ◌, ◌*ℤ◌, Bool, true, false}
use Rattle.std.proofs.Common.{◌&&◌, cond, Some, None, Result, Ok, Err, IsOk, OnOk, List, [], ◌∷◌, ◌++◌, length, take}
use Rattle.std.proofs.Common.{map, slice_set, slice_get, slice_index_or, insert, refl, sym, ap, ◌∙◌, subst, arith}
use Rattle.std.specs.Int.{int_div_euclid}
use Rattle.std.specs.List.{list_all}
use Rattle.std.proofs.lemmas.Int.{ints}
use Rattle.std.proofs.lemmas.Bool.{and_parts}
use Rattle.core_terms.specs.Values.{number_at}
use Rattle.obligations.specs.LinearForms.{add_at, zeros, sparse}
use Rattle.obligations.proofs.LineLaws.{int_eq-true, length-add_at}
use Rattle.obligations.proofs.LinearLaws.{set-add}
use Rattle.meaning_states.specs.State.{int_eq}
use Rattle.certificate_rules.specs.Additions.{fits_added}
use Rattle.certificate_machine.specs.Spans.{equals_zero, are_zero}
use Rattle.certificate_machine.proofs.SpanLaws.{zero-first, first-kept, to-zero, no-terms}
use Rattle.certificate_machine.specs.Terms.{lies_below, is_above, rises, lie_within, add_terms, number_in, with_term}
use Rattle.certificate_machine.specs.Terms.{made_terms, sign}

pub from-zero : (z : ℤ) → pos 0 +ℤ z ≡ z
from-zero z = omega (arith, ints)

-- numbers added at two places, or at one

swap-add : (zs : List ℤ) (p q : ℕ) (a b : ℤ) → add_at (add_at zs p a) q b ≡ add_at (add_at zs q b) p a
swap-add [] p q a b = refl
swap-add (x ∷ zs) zero zero a b =
    let e : x +ℤ a +ℤ b ≡ x +ℤ b +ℤ a = omega (arith, ints) in ap (λ y. y ∷ zs) e
swap-add (x ∷ zs) zero (suc q) a b = refl
swap-add (x ∷ zs) (suc p) zero a b = refl
swap-add (x ∷ zs) (suc p) (suc q) a b = ap (λ ys. x ∷ ys) (swap-add zs p q a b)

merge-add : (zs : List ℤ) (p : ℕ) (a b : ℤ) → add_at (add_at zs p a) p b ≡ add_at zs p (a +ℤ b)
merge-add [] p a b = refl
merge-add (x ∷ zs) zero a b =
    let e : x +ℤ a +ℤ b ≡ x +ℤ (a +ℤ b) = omega (arith, ints) in ap (λ y. y ∷ zs) e
merge-add (x ∷ zs) (suc p) a b = ap (λ ys. x ∷ ys) (merge-add zs p a b)

terms-add : (ts : List (ℕ × ℤ)) (zs : List ℤ) (p : ℕ) (d : ℤ) →
    add_terms ts (add_at zs p d) ≡ add_at (add_terms ts zs) p d
terms-add [] zs p d = refl
terms-add (t ∷ ts) zs p d = ap (add_terms ts) (swap-add zs p t.0 d t.1) ∙ terms-add ts (add_at zs t.0 t.1) p d

-- a term more adds its number

pub term-added : (ts : List (ℕ × ℤ)) (p : ℕ) (d : ℤ) (zs : List ℤ) →
    add_terms (with_term ts p d) zs ≡ add_at (add_terms ts zs) p d
term-added [] p d zs = refl
term-added (t ∷ ts) p d zs =
    by_place (nat_lt t.0 p) (nat_eq t.0 p) refl (term-added ts p d (add_at zs t.0 t.1))
  where
    by_place : (lt eq : Bool) → nat_eq t.0 p ≡ eq →
        add_terms (with_term ts p d) (add_at zs t.0 t.1) ≡ add_at (add_terms (t ∷ ts) zs) p d →
        add_terms (cond lt (t ∷ with_term ts p d) (cond eq ((p, t.1 +ℤ d) ∷ ts) ((p, d) ∷ t ∷ ts))) zs
        ≡ add_at (add_terms (t ∷ ts) zs) p d
    by_place true eq e ih = ih
    by_place false true e ih =
        let same : p ≡ t.0 = grind arith in
        ap (λ q. add_terms ts (add_at zs q (t.1 +ℤ d))) same ∙ ap (add_terms ts) (sym (merge-add zs t.0 t.1 d))
        ∙ terms-add ts (add_at zs t.0 t.1) t.0 d ∙ ap (λ q. add_at (add_terms (t ∷ ts) zs) q d) (sym same)
    by_place false false e ih = terms-add (t ∷ ts) zs p d

-- the places rise still, and lie where they lay

above-with : (q : ℕ) (ts : List (ℕ × ℤ)) (p : ℕ) (d : ℤ) → q < p → list_all (is_above q) ts ≡ true →
    list_all (is_above q) (with_term ts p d) ≡ true
above-with q [] p d h a = grind arith
above-with q (t ∷ ts) p d h a =
    by_place (nat_lt t.0 p) (nat_eq t.0 p)
    (above-with q ts p d h (and_parts (nat_lt q t.0) (list_all (is_above q) ts) a).1)
  where
    parts : (nat_lt q t.0 ≡ true) × (list_all (is_above q) ts ≡ true)
    parts = and_parts (nat_lt q t.0) (list_all (is_above q) ts) a

    there : nat_lt q p ≡ true
    there = grind arith

    by_place : (lt eq : Bool) → list_all (is_above q) (with_term ts p d) ≡ true → list_all (is_above q)
        (cond lt (t ∷ with_term ts p d) (cond eq ((p, t.1 +ℤ d) ∷ ts) ((p, d) ∷ t ∷ ts))) ≡ true
    by_place true eq ih = ap (λ b. b && list_all (is_above q) (with_term ts p d)) parts.0 ∙ ih
    by_place false true ih = ap (λ b. b && list_all (is_above q) ts) there ∙ parts.1
    by_place false false ih = ap (λ b. b && list_all (is_above q) (t ∷ ts)) there ∙ a

above-more : (q p : ℕ) (ts : List (ℕ × ℤ)) → q ≤ p → list_all (is_above p) ts ≡ true → list_all (is_above q) ts ≡ true
above-more q p [] h a = refl
above-more q p (t ∷ ts) h a =
    let parts = and_parts (nat_lt p t.0) (list_all (is_above p) ts) a in
    let there : nat_lt q t.0 ≡ true = less q p t.0 h parts.0 in
    ap (λ b. b && list_all (is_above q) ts) there ∙ above-more q p ts h parts.1
  where
    less : (q p n : ℕ) → q ≤ p → nat_lt p n ≡ true → nat_lt q n ≡ true
    less q p n h e = grind arith

pub term-rises : (ts : List (ℕ × ℤ)) (p : ℕ) (d : ℤ) → rises ts ≡ true → rises (with_term ts p d) ≡ true
term-rises [] p d r = refl
term-rises (t ∷ ts) p d r =
    by_place (nat_lt t.0 p) (nat_eq t.0 p) refl refl
    (term-rises ts p d (and_parts (list_all (is_above t.0) ts) (rises ts) r).1)
  where
    parts : (list_all (is_above t.0) ts ≡ true) × (rises ts ≡ true)
    parts = and_parts (list_all (is_above t.0) ts) (rises ts) r

    by_place : (lt eq : Bool) → nat_lt t.0 p ≡ lt → nat_eq t.0 p ≡ eq → rises (with_term ts p d) ≡ true →
        rises (cond lt (t ∷ with_term ts p d) (cond eq ((p, t.1 +ℤ d) ∷ ts) ((p, d) ∷ t ∷ ts))) ≡ true
    by_place true eq l e ih =
        let h : t.0 < p = grind arith in
        ap (λ b. b && rises (with_term ts p d)) (above-with t.0 ts p d h parts.0) ∙ ih
    by_place false true l e ih =
        let same : p ≡ t.0 = grind arith in
        ap (λ q. list_all (is_above q) ts && rises ts) same ∙ r
    by_place false false l e ih =
        let first : nat_lt p t.0 ≡ true = grind arith in
        let h : p ≤ t.0 = grind arith in
        ap (λ b. (b && list_all (is_above p) ts) && rises (t ∷ ts)) first
        ∙ ap (λ b. b && rises (t ∷ ts)) (above-more p t.0 ts h parts.0) ∙ r

pub term-inside : (n : ℕ) (ts : List (ℕ × ℤ)) (p : ℕ) (d : ℤ) → p < n → lie_within n ts ≡ true →
    lie_within n (with_term ts p d) ≡ true
term-inside n [] p d h a = grind arith
term-inside n (t ∷ ts) p d h a =
    by_place (nat_lt t.0 p) (nat_eq t.0 p)
    (term-inside n ts p d h (and_parts (nat_lt t.0 n) (lie_within n ts) a).1)
  where
    parts : (nat_lt t.0 n ≡ true) × (lie_within n ts ≡ true)
    parts = and_parts (nat_lt t.0 n) (lie_within n ts) a

    there : nat_lt p n ≡ true
    there = grind arith

    by_place : (lt eq : Bool) → lie_within n (with_term ts p d) ≡ true → lie_within n
        (cond lt (t ∷ with_term ts p d) (cond eq ((p, t.1 +ℤ d) ∷ ts) ((p, d) ∷ t ∷ ts))) ≡ true
    by_place true eq ih = ap (λ b. b && lie_within n (with_term ts p d)) parts.0 ∙ ih
    by_place false true ih = ap (λ b. b && lie_within n ts) there ∙ parts.1
    by_place false false ih = ap (λ b. b && lie_within n (t ∷ ts)) there ∙ a

-- how a term comes into a list, or its number is changed there

pub term-last : (ts : List (ℕ × ℤ)) (p : ℕ) (d : ℤ) → list_all (lies_below p) ts ≡ true →
    ts ++ (p, d) ∷ [] ≡ with_term ts p d
term-last [] p d a = refl
term-last (t ∷ ts) p d a =
    let parts = and_parts (nat_lt t.0 p) (list_all (lies_below p) ts) a in
    ap (λ us. t ∷ us) (term-last ts p d parts.1)
    ∙ ap (λ b. cond b (t ∷ with_term ts p d) (cond (nat_eq t.0 p) ((p, t.1 +ℤ d) ∷ ts) ((p, d) ∷ t ∷ ts))) (sym parts.0)

pub term-before : (ts : List (ℕ × ℤ)) (i p : ℕ) (d : ℤ) → list_all (lies_below p) (take i ts) ≡ true → i < length ts →
    ((t : ℕ × ℤ) → slice_get ts i ≡ Some t → p < t.0) → insert ts i (p, d) ≡ with_term ts p d
term-before [] i p d a h n = absurd (omega arith)
term-before (t ∷ ts) zero p d a h n =
    let least = n t refl in
    let lt : nat_lt t.0 p ≡ false = grind arith in
    let eq : nat_eq t.0 p ≡ false = grind arith in
    sym (ap (λ b. cond b (t ∷ with_term ts p d) (cond (nat_eq t.0 p) ((p, t.1 +ℤ d) ∷ ts) ((p, d) ∷ t ∷ ts))) lt
    ∙ ap (λ b. cond b ((p, t.1 +ℤ d) ∷ ts) ((p, d) ∷ t ∷ ts)) eq)
term-before (t ∷ ts) (suc i) p d a h n =
    let parts = and_parts (nat_lt t.0 p) (list_all (lies_below p) (take i ts)) a in
    ap (λ us. t ∷ us) (term-before ts i p d parts.1 (omega (arith, h)) n)
    ∙ ap (λ b. cond b (t ∷ with_term ts p d) (cond (nat_eq t.0 p) ((p, t.1 +ℤ d) ∷ ts) ((p, d) ∷ t ∷ ts))) (sym parts.0)

pub term-changed : (ts : List (ℕ × ℤ)) (i p : ℕ) (v d : ℤ) → list_all (lies_below p) (take i ts) ≡ true →
    slice_get ts i ≡ Some (p, v) → slice_set ts i (p, v +ℤ d) ≡ with_term ts p d
term-changed [] i p v d a e = absurd (cc)
term-changed (t ∷ ts) zero p v d a e =
    let same : t ≡ (p, v) = cc in
    let lt : nat_lt t.0 p ≡ false = let f : t.0 ≡ p = ap (λ (u : ℕ × ℤ). u.0) same in grind arith in
    let eq : nat_eq t.0 p ≡ true = let f : t.0 ≡ p = ap (λ (u : ℕ × ℤ). u.0) same in grind arith in
    ap (λ w. (p, w +ℤ d) ∷ ts) (sym (ap (λ (u : ℕ × ℤ). u.1) same))
    ∙ sym (ap (λ b. cond b (t ∷ with_term ts p d) (cond (nat_eq t.0 p) ((p, t.1 +ℤ d) ∷ ts) ((p, d) ∷ t ∷ ts))) lt
    ∙ ap (λ b. cond b ((p, t.1 +ℤ d) ∷ ts) ((p, d) ∷ t ∷ ts)) eq)
term-changed (t ∷ ts) (suc i) p v d a e =
    let parts = and_parts (nat_lt t.0 p) (list_all (lies_below p) (take i ts)) a in
    ap (λ us. t ∷ us) (term-changed ts i p v d parts.1 e)
    ∙ ap (λ b. cond b (t ∷ with_term ts p d) (cond (nat_eq t.0 p) ((p, t.1 +ℤ d) ∷ ts) ((p, d) ∷ t ∷ ts))) (sym parts.0)

-- a sum and its limit, where the numbers are others that are the same

pub plain-sum : (m n z y s t : ℤ) → n ≡ m → y ≡ z → s ≡ t +ℤ n *ℤ y → s ≡ t +ℤ m *ℤ z
plain-sum m n z y s t em ez e = e ∙ ap (λ n. t +ℤ n *ℤ y) em ∙ ap (λ y. t +ℤ m *ℤ y) ez

pub plain-fits : (m n z y t : ℤ) → n ≡ m → y ≡ z → fits_added n y t ≡ true → fits_added m z t ≡ true
plain-fits m n z y t em ez f = sym (ap (λ n. fits_added n y t) em ∙ ap (λ y. fits_added m y t) ez) ∙ f

-- what holds where it succeeds, which it does
pub on-ok : {A E P : Type 0} (r : Result A E) → IsOk r → OnOk r P → P
on-ok (Ok x) i p = p
on-ok (Err x) i p = absurd (cc)

-- the first terms, one by one

pub below-more : (p : ℕ) (ts : List (ℕ × ℤ)) (i : ℕ) (d : ℕ × ℤ) → i < length ts →
    list_all (lies_below p) (take i ts) ≡ true → (slice_index_or ts i d).0 < p →
    list_all (lies_below p) (take (i + 1) ts) ≡ true
below-more p [] i d h a l = absurd (omega arith)
below-more p (t ∷ ts) zero d h a l = grind arith
below-more p (t ∷ ts) (suc i) d h a l =
    let n : suc i + 1 ≡ suc (i + 1) = omega arith in
    let parts = and_parts (nat_lt t.0 p) (list_all (lies_below p) (take i ts)) a in
    ap (λ k. list_all (lies_below p) (take k (t ∷ ts))) n
    ∙ ap (λ b. b && list_all (lies_below p) (take (i + 1) ts)) parts.0 ∙ below-more p ts i d (omega arith) parts.1 l

pub item-before : (p : ℕ) (ts : List (ℕ × ℤ)) (i : ℕ) (d t : ℕ × ℤ) → p < (slice_index_or ts i d).0 →
    slice_get ts i ≡ Some t → p < t.0
item-before p [] i d t h e = absurd (cc)
item-before p (u ∷ ts) zero d t h e =
    let same : u ≡ t = cc in subst (λ (v : ℕ × ℤ). p < v.0) same h
item-before p (u ∷ ts) (suc i) d t h e = item-before p ts i d t h e

pub item-there : (p : ℕ) (v : ℤ) (ts : List (ℕ × ℤ)) (i : ℕ) (d : ℕ × ℤ) → i < length ts →
    p ≡ (slice_index_or ts i d).0 → v ≡ (slice_index_or ts i d).1 → slice_get ts i ≡ Some (p, v)
item-there p v [] i d h e f = absurd (omega arith)
item-there p v (u ∷ ts) zero d h e f = ap (λ q. Some (q, u.1)) (sym e) ∙ ap (λ w. Some (p, w)) (sym f)
item-there p v (u ∷ ts) (suc i) d h e f = item-there p v ts i d (omega arith) e f

pub ruleset spot_laws = (below-more, item-before, item-there)

made-more : (g : ℤ → ℤ) (ts : List (ℕ × ℤ)) (i : ℕ) (d : ℕ × ℤ) → i < length ts →
    made_terms g (take i ts) ++ made_terms g (slice_index_or ts i d ∷ []) ≡ made_terms g (take (i + 1) ts)
made-more g [] i d h = absurd (omega arith)
made-more g (t ∷ ts) zero d h = refl
made-more g (t ∷ ts) (suc i) d h =
    let n : suc i + 1 ≡ suc (i + 1) = omega arith in
    shifted (int_eq (g t.1) (pos 0)) (made_terms g (take i ts)) (made_terms g (slice_index_or ts i d ∷ []))
    ∙ ap (λ us. cond (int_eq (g t.1) (pos 0)) us ((t.0, g t.1) ∷ us)) (made-more g ts i d (omega arith))
    ∙ ap (λ k. made_terms g (take k (t ∷ ts))) (sym n)
  where
    shifted : (b : Bool) (us vs : List (ℕ × ℤ)) →
        cond b us ((t.0, g t.1) ∷ us) ++ vs ≡ cond b (us ++ vs) ((t.0, g t.1) ∷ (us ++ vs))
    shifted true us vs = refl
    shifted false us vs = refl

made-next : (g : ℤ → ℤ) (ts : List (ℕ × ℤ)) (i : ℕ) (d : ℕ × ℤ) (old new : List (ℕ × ℤ)) → i < length ts →
    new ≡ old ++ made_terms g (slice_index_or ts i d ∷ []) → old ≡ made_terms g (take i ts) →
    new ≡ made_terms g (take (i + 1) ts)
made-next g ts i d old new h e k =
    e ∙ ap (λ us. us ++ made_terms g (slice_index_or ts i d ∷ [])) k ∙ made-more g ts i d h

pub part-next : (d : ℤ) (ts : List (ℕ × ℤ)) (i : ℕ) (e : ℕ × ℤ) (old new : List (ℕ × ℤ)) → i < length ts →
    new ≡ old ++ made_terms (λ z. int_div_euclid z d) (slice_index_or ts i e ∷ []) →
    old ≡ made_terms (λ z. int_div_euclid z d) (take i ts) →
    new ≡ made_terms (λ z. int_div_euclid z d) (take (i + 1) ts)
part-next d = made-next (λ z. int_div_euclid z d)

pub sign-next : (b : Bool) (ts : List (ℕ × ℤ)) (i : ℕ) (e : ℕ × ℤ) (old new : List (ℕ × ℤ)) → i < length ts →
    new ≡ old ++ made_terms (sign b) (slice_index_or ts i e ∷ []) → old ≡ made_terms (sign b) (take i ts) →
    new ≡ made_terms (sign b) (take (i + 1) ts)
sign-next b = made-next (sign b)

pub ruleset made_laws = (part-next, sign-next)

-- the number that a place had

skipped : (t : ℕ × ℤ) (ts : List (ℕ × ℤ)) (p : ℕ) → nat_eq t.0 p ≡ false → number_in (t ∷ ts) p ≡ number_in ts p
skipped t ts p e = ap (λ b. cond b t.1 (number_in ts p)) e

pub number-above : (ts : List (ℕ × ℤ)) (p : ℕ) → list_all (is_above p) ts ≡ true → number_in ts p ≡ pos 0
number-above [] p a = refl
number-above (t ∷ ts) p a =
    let parts = and_parts (nat_lt p t.0) (list_all (is_above p) ts) a in
    let eq : nat_eq t.0 p ≡ false = differ t.0 p parts.0 in skipped t ts p eq ∙ number-above ts p parts.1
  where
    differ : (n p : ℕ) → nat_lt p n ≡ true → nat_eq n p ≡ false
    differ n p h = grind arith

-- no number at a place is 0 at it
pub number-zero : (m z : ℤ) (ts : List (ℕ × ℤ)) (p : ℕ) → number_in ts p ≡ pos 0 → fits_added m z (pos 0) ≡ true →
    fits_added m z (number_in ts p) ≡ true
number-zero m z ts p e f = ap (fits_added m z) e ∙ f

pub number-last : (ts : List (ℕ × ℤ)) (p : ℕ) → list_all (lies_below p) ts ≡ true → number_in ts p ≡ pos 0
number-last [] p a = refl
number-last (t ∷ ts) p a =
    let parts = and_parts (nat_lt t.0 p) (list_all (lies_below p) ts) a in
    let eq : nat_eq t.0 p ≡ false = differ t.0 p parts.0 in skipped t ts p eq ∙ number-last ts p parts.1
  where
    differ : (n p : ℕ) → nat_lt n p ≡ true → nat_eq n p ≡ false
    differ n p h = grind arith

pub number-before : (ts : List (ℕ × ℤ)) (i p : ℕ) → rises ts ≡ true → list_all (lies_below p) (take i ts) ≡ true →
    ((t : ℕ × ℤ) → slice_get ts i ≡ Some t → p < t.0) → number_in ts p ≡ pos 0
number-before [] i p r a n = refl
number-before (t ∷ ts) zero p r a n =
    let least = n t refl in
    let parts = and_parts (list_all (is_above t.0) ts) (rises ts) r in
    let eq : nat_eq t.0 p ≡ false = grind arith in
    skipped t ts p eq ∙ number-above ts p (above-more p t.0 ts (omega (arith, least)) parts.0)
number-before (t ∷ ts) (suc i) p r a n =
    let parts = and_parts (nat_lt t.0 p) (list_all (lies_below p) (take i ts)) a in
    let eq : nat_eq t.0 p ≡ false = differ t.0 p parts.0 in
    skipped t ts p eq ∙ number-before ts i p (and_parts (list_all (is_above t.0) ts) (rises ts) r).1 parts.1 n
  where
    differ : (n p : ℕ) → nat_lt n p ≡ true → nat_eq n p ≡ false
    differ n p h = grind arith

pub number-there : (ts : List (ℕ × ℤ)) (i p : ℕ) (v : ℤ) → list_all (lies_below p) (take i ts) ≡ true →
    slice_get ts i ≡ Some (p, v) → number_in ts p ≡ v
number-there [] i p v a e = absurd (cc)
number-there (t ∷ ts) zero p v a e =
    let same : t ≡ (p, v) = cc in
    let eq : nat_eq t.0 p ≡ true = let f : t.0 ≡ p = ap (λ (u : ℕ × ℤ). u.0) same in grind arith in
    ap (λ b. cond b t.1 (number_in ts p)) eq ∙ ap (λ (u : ℕ × ℤ). u.1) same
number-there (t ∷ ts) (suc i) p v a e =
    let parts = and_parts (nat_lt t.0 p) (list_all (lies_below p) (take i ts)) a in
    let eq : nat_eq t.0 p ≡ false = differ t.0 p parts.0 in skipped t ts p eq ∙ number-there ts i p v parts.1 e
  where
    differ : (n p : ℕ) → nat_lt n p ≡ true → nat_eq n p ≡ false
    differ n p h = grind arith

-- the numbers of a list to which terms were added

pub length-terms : (ts : List (ℕ × ℤ)) (zs : List ℤ) → length (add_terms ts zs) ≡ length zs
length-terms [] zs = refl
length-terms (t ∷ ts) zs = length-terms ts (add_at zs t.0 t.1) ∙ length-add_at zs t.0 t.1

number-at : (zs : List ℤ) (p : ℕ) (d : ℤ) → p < length zs → number_at (add_at zs p d) p ≡ number_at zs p +ℤ d
number-at [] p d h = absurd (omega arith)
number-at (x ∷ zs) zero d h = refl
number-at (x ∷ zs) (suc p) d h = number-at zs p d (omega arith)

number-else : (zs : List ℤ) (q p : ℕ) (d : ℤ) → nat_eq q p ≡ false → number_at (add_at zs q d) p ≡ number_at zs p
number-else [] q p d h = refl
number-else (x ∷ zs) zero zero d h = absurd (cc)
number-else (x ∷ zs) zero (suc p) d h = refl
number-else (x ∷ zs) (suc q) zero d h = refl
number-else (x ∷ zs) (suc q) (suc p) d h = number-else zs q p d (less q p h)
  where
    less : (q p : ℕ) → nat_eq (suc q) (suc p) ≡ false → nat_eq q p ≡ false
    less q p h = grind arith

number-kept : (ts : List (ℕ × ℤ)) (zs : List ℤ) (p : ℕ) → list_all (is_above p) ts ≡ true →
    number_at (add_terms ts zs) p ≡ number_at zs p
number-kept [] zs p a = refl
number-kept (t ∷ ts) zs p a =
    let parts = and_parts (nat_lt p t.0) (list_all (is_above p) ts) a in
    let eq : nat_eq t.0 p ≡ false = differ t.0 p parts.0 in
    number-kept ts (add_at zs t.0 t.1) p parts.1 ∙ number-else zs t.0 p t.1 eq
  where
    differ : (n p : ℕ) → nat_lt p n ≡ true → nat_eq n p ≡ false
    differ n p h = grind arith

pub number-terms : (ts : List (ℕ × ℤ)) (zs : List ℤ) (p : ℕ) → rises ts ≡ true → p < length zs →
    number_at zs p ≡ pos 0 → number_at (add_terms ts zs) p ≡ number_in ts p
number-terms [] zs p r h e = e
number-terms (t ∷ ts) zs p r h e =
    by_place (nat_eq t.0 p) refl
    (λ k n. number-terms ts (add_at zs t.0 t.1) p (and_parts (list_all (is_above t.0) ts) (rises ts) r).1 k n)
  where
    parts : (list_all (is_above t.0) ts ≡ true) × (rises ts ≡ true)
    parts = and_parts (list_all (is_above t.0) ts) (rises ts) r

    by_place : (b : Bool) → nat_eq t.0 p ≡ b →
        (p < length (add_at zs t.0 t.1) → number_at (add_at zs t.0 t.1) p ≡ pos 0 →
        number_at (add_terms ts (add_at zs t.0 t.1)) p ≡ number_in ts p) →
        number_at (add_terms ts (add_at zs t.0 t.1)) p ≡ cond b t.1 (number_in ts p)
    by_place true q ih =
        let same : t.0 ≡ p = grind arith in
        number-kept ts (add_at zs t.0 t.1) p (subst (λ n. list_all (is_above n) ts ≡ true) same parts.0)
        ∙ ap (λ n. number_at (add_at zs n t.1) p) same ∙ number-at zs p t.1 h ∙ ap (λ z. z +ℤ t.1) e ∙ from-zero t.1
    by_place false q ih =
        let l = length-terms (t ∷ []) zs in ih (omega (arith, h, l)) (number-else zs t.0 p t.1 q ∙ e)

pub zeros-number : {A : Type 0} (xs : List A) (p : ℕ) → number_at (zeros xs) p ≡ pos 0
zeros-number [] p = refl
zeros-number (x ∷ xs) zero = refl
zeros-number (x ∷ xs) (suc p) = zeros-number xs p

-- terms are put into a list of numbers, one after the other, where 0 stands at each place

pub put-there : (zs : List ℤ) (p : ℕ) (d : ℤ) → p < length zs → number_at zs p ≡ pos 0 →
    slice_set zs p d ≡ add_at zs p d
put-there zs p d h e =
    set-add zs p d d (sym (ap (λ z. z +ℤ d) e ∙ from-zero d)) h

pub ruleset there_laws = (put-there)

pub record ToPut (ts : List (ℕ × ℤ)) (zs : List ℤ) : Type 0 where
  pub rising : rises ts ≡ true
  pub inside : lie_within (length zs) ts ≡ true
  pub none : list_all (λ t. equals_zero (number_at zs t.0)) ts ≡ true

pub put-first : (t : ℕ × ℤ) (ts : List (ℕ × ℤ)) (zs : List ℤ) → ToPut (t ∷ ts) zs →
    (t.0 < length zs) × (number_at zs t.0 ≡ pos 0)
put-first t ts zs p = (
  below t.0 (length zs) (and_parts (nat_lt t.0 (length zs)) (lie_within (length zs) ts) p.inside).0,
  int_eq-true (number_at zs t.0) (and_parts (equals_zero (number_at zs t.0)) _ p.none).0,
)
  where
    below : (m n : ℕ) → nat_lt m n ≡ true → m < n
    below m n h = grind arith

none-kept : (q : ℕ) (d : ℤ) (ts : List (ℕ × ℤ)) (zs : List ℤ) → list_all (is_above q) ts ≡ true →
    list_all (λ t. equals_zero (number_at zs t.0)) ts ≡ true →
    list_all (λ t. equals_zero (number_at (add_at zs q d) t.0)) ts ≡ true
none-kept q d [] zs a n = refl
none-kept q d (t ∷ ts) zs a n =
    let parts = and_parts (nat_lt q t.0) (list_all (is_above q) ts) a in
    let nones = and_parts (equals_zero (number_at zs t.0)) (list_all (λ t. equals_zero (number_at zs t.0)) ts) n in
    ap (λ z. equals_zero z && list_all (λ t. equals_zero (number_at (add_at zs q d) t.0)) ts)
    (number-else zs q t.0 d (differ q t.0 parts.0))
    ∙ ap (λ b. b && list_all (λ t. equals_zero (number_at (add_at zs q d) t.0)) ts) nones.0
    ∙ none-kept q d ts zs parts.1 nones.1
  where
    differ : (q n : ℕ) → nat_lt q n ≡ true → nat_eq q n ≡ false
    differ q n h = grind arith

pub put-next : (t : ℕ × ℤ) (ts : List (ℕ × ℤ)) (zs : List ℤ) → ToPut (t ∷ ts) zs → ToPut ts (add_at zs t.0 t.1)
put-next t ts zs p = record {
  rising = (and_parts (list_all (is_above t.0) ts) (rises ts) p.rising).1;
  inside = ap (λ n. lie_within n ts) (length-add_at zs t.0 t.1)
      ∙ (and_parts (nat_lt t.0 (length zs)) (lie_within (length zs) ts) p.inside).1;
  none = none-kept t.0 t.1 ts zs (and_parts (list_all (is_above t.0) ts) (rises ts) p.rising).0
      (and_parts (equals_zero (number_at zs t.0)) (list_all (λ t. equals_zero (number_at zs t.0)) ts) p.none).1;
}

pub put-begun : (ts : List (ℕ × ℤ)) (zs : List ℤ) → rises ts ≡ true → lie_within (length zs) ts ≡ true →
    are_zero zs ≡ true → ToPut ts zs
put-begun ts zs r w z = record { rising = r; inside = w; none = none-of ts zs z }
  where
    zero-number : (zs : List ℤ) (p : ℕ) → are_zero zs ≡ true → equals_zero (number_at zs p) ≡ true
    zero-number [] p z = refl
    zero-number (x ∷ zs) zero z = (and_parts (equals_zero x) (are_zero zs) z).0
    zero-number (x ∷ zs) (suc p) z = zero-number zs p (and_parts (equals_zero x) (are_zero zs) z).1

    none-of : (ts : List (ℕ × ℤ)) (zs : List ℤ) → are_zero zs ≡ true →
        list_all (λ t. equals_zero (number_at zs t.0)) ts ≡ true
    none-of [] zs z = refl
    none-of (t ∷ ts) zs z =
        ap (λ b. b && list_all (λ t. equals_zero (number_at zs t.0)) ts) (zero-number zs t.0 z) ∙ none-of ts zs z

-- what is so of the terms' numbers, and of 0, is so of all numbers

module _ (test : ℤ → Bool) (zero-too : test (pos 0) ≡ true) where
  all-at : (zs : List ℤ) (p : ℕ) (d : ℤ) → p < length zs → number_at zs p ≡ pos 0 →
      list_all test (add_at zs p d) ≡ (test d && list_all test zs)
  all-at [] p d h e = absurd (omega arith)
  all-at (x ∷ zs) zero d h e =
      let sum : x +ℤ d ≡ d = ap (λ z. z +ℤ d) e ∙ from-zero d in
      ap (λ z. test z && list_all test zs) sum
      ∙ ap (λ b. test d && (b && list_all test zs)) (sym (ap test e ∙ zero-too))
  all-at (x ∷ zs) (suc p) d h e =
      ap (λ b. test x && b) (all-at zs p d (omega arith) e) ∙ swapped (test x) (test d) (list_all test zs)
    where
      swapped : (a b c : Bool) → (a && (b && c)) ≡ (b && (a && c))
      swapped true b c = refl
      swapped false true c = refl
      swapped false false c = refl

  pub all-terms : (ts : List (ℕ × ℤ)) (zs : List ℤ) → rises ts ≡ true → lie_within (length zs) ts ≡ true →
      ((p : ℕ) → number_at zs p ≡ pos 0) → list_all test zs ≡ true →
      list_all test (add_terms ts zs) ≡ list_all (λ t. test t.1) ts
  all-terms [] zs r w e a = a
  all-terms (t ∷ ts) zs r w e a =
      let p = and_parts (list_all (is_above t.0) ts) (rises ts) r in
      let q = and_parts (nat_lt t.0 (length zs)) (lie_within (length zs) ts) w in
      let l = length-terms ts zs in
      let h : t.0 < length (add_terms ts zs) = below t.0 (length zs) (length (add_terms ts zs)) q.0 l in
      ap (list_all test) (terms-add ts zs t.0 t.1)
      ∙ all-at (add_terms ts zs) t.0 t.1 h (number-kept ts zs t.0 p.0 ∙ e t.0)
      ∙ ap (λ b. test t.1 && b) (all-terms ts zs p.1 q.1 e a)
    where
      below : (m n k : ℕ) → nat_lt m n ≡ true → k ≡ n → m < k
      below m n k h e = grind arith

-- the terms are the numbers that are not 0, each with its place

terms-kept : (ts : List (ℕ × ℤ)) (zs : List ℤ) (p : ℕ) → list_all (is_above p) ts ≡ true →
    take (suc p) (add_terms ts zs) ≡ take (suc p) zs
terms-kept [] zs p a = refl
terms-kept (t ∷ ts) zs p a =
    let parts = and_parts (nat_lt p t.0) (list_all (is_above p) ts) a in
    terms-kept ts (add_at zs t.0 t.1) p parts.1 ∙ first-kept zs (suc p) t.0 t.1 (less p t.0 parts.0)
  where
    less : (p n : ℕ) → nat_lt p n ≡ true → suc p ≤ n
    less p n h = grind arith

module _ (g : ℤ → ℤ) (zero-to-zero : g (pos 0) ≡ pos 0) where
  sparse-at : (k : ℕ) (zs : List ℤ) (p : ℕ) (d : ℤ) → p < length zs → are_zero (take (suc p) zs) ≡ true →
      sparse k (map g (add_at zs p d))
      ≡ cond (equals_zero (g d)) (sparse k (map g zs)) ((k + p, g d) ∷ sparse k (map g zs))
  sparse-at k [] p d h z = absurd (omega arith)
  sparse-at k (x ∷ zs) zero d h z =
      let p = and_parts (equals_zero x) (are_zero (take zero zs)) z in
      let sum : x +ℤ d ≡ d = plain x d p.0 in
      let here : k ≡ k + zero = omega arith in
      let rest : sparse (suc k) (map g zs) ≡ sparse k (map g (x ∷ zs)) =
      sym (ap (λ b. cond b (sparse (suc k) (map g zs)) ((k, g x) ∷ sparse (suc k) (map g zs)))
      (to-zero g zero-to-zero x p.0)) in
      ap (λ z. cond (equals_zero (g z)) (sparse (suc k) (map g zs)) ((k, g z) ∷ sparse (suc k) (map g zs))) sum
      ∙ ap (λ us. cond (equals_zero (g d)) us ((k, g d) ∷ us)) rest
      ∙ ap (λ n. cond (equals_zero (g d)) (sparse k (map g (x ∷ zs))) ((n, g d) ∷ sparse k (map g (x ∷ zs)))) here
    where
      plain : (x d : ℤ) → equals_zero x ≡ true → x +ℤ d ≡ d
      plain x d h = let e : x ≡ pos 0 = grind arith in ap (λ z. z +ℤ d) e ∙ from-zero d
  sparse-at k (x ∷ zs) (suc p) d h z =
      let q = and_parts (equals_zero x) (are_zero (take (suc p) zs)) z in
      let there : suc k + p ≡ k + suc p = omega arith in
      let rest : sparse (suc k) (map g zs) ≡ sparse k (map g (x ∷ zs)) =
      sym (ap (λ b. cond b (sparse (suc k) (map g zs)) ((k, g x) ∷ sparse (suc k) (map g zs)))
      (to-zero g zero-to-zero x q.0)) in
      ap (λ b. cond b (sparse (suc k) (map g (add_at zs p d))) ((k, g x) ∷ sparse (suc k) (map g (add_at zs p d))))
      (to-zero g zero-to-zero x q.0)
      ∙ sparse-at (suc k) zs p d (omega arith) q.1
      ∙ ap (λ us. cond (equals_zero (g d)) us ((suc k + p, g d) ∷ us)) rest
      ∙ ap (λ n. cond (equals_zero (g d)) (sparse k (map g (x ∷ zs))) ((n, g d) ∷ sparse k (map g (x ∷ zs)))) there

  pub sparse-terms : (ts : List (ℕ × ℤ)) (zs : List ℤ) → rises ts ≡ true → lie_within (length zs) ts ≡ true →
      are_zero zs ≡ true → sparse 0 (map g (add_terms ts zs)) ≡ made_terms g ts
  sparse-terms [] zs r w z = no-terms g zero-to-zero zs 0 z
  sparse-terms (t ∷ ts) zs r w z =
      let p = and_parts (list_all (is_above t.0) ts) (rises ts) r in
      let q = and_parts (nat_lt t.0 (length zs)) (lie_within (length zs) ts) w in
      let h : t.0 < length (add_terms ts zs) =
      below t.0 (length zs) (length (add_terms ts zs)) q.0 (length-terms ts zs) in
      let here : 0 + t.0 ≡ t.0 = omega arith in
      ap (λ us. sparse 0 (map g us)) (terms-add ts zs t.0 t.1)
      ∙ sparse-at 0 (add_terms ts zs) t.0 t.1 h
      (ap are_zero (terms-kept ts zs t.0 p.0) ∙ zero-first zs (suc t.0) z)
      ∙ ap (λ us. cond (equals_zero (g t.1)) us ((0 + t.0, g t.1) ∷ us)) (sparse-terms ts zs p.1 q.1 z)
      ∙ ap (λ n. cond (equals_zero (g t.1)) (made_terms g ts) ((n, g t.1) ∷ made_terms g ts)) here
    where
      below : (m n k : ℕ) → nat_lt m n ≡ true → k ≡ n → m < k
      below m n k h e = grind arith
