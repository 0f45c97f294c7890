-- Lines that are 0 outside of a span.
use Rattle.std.proofs.Common.{◌≡◌, ℕ, zero, suc, ◌+◌, ◌<◌, ◌≤◌, nat_lt, ℤ, pos, negsuc, ◌*ℤ◌, ◌≤ℤ◌, Bool, true, false}
use Rattle.std.proofs.Common.{◌&&◌, cond, MatchBool, Some, None, List, [], ◌∷◌, length, take, drop, map, slice_set}
use Rattle.std.proofs.Common.{slice_range, ◌-◌, Result, Ok, Err, OnOk, refl, sym, ap, ◌∙◌, subst, arith}
use Rattle.std.specs.Int.{int_div_euclid, int_rem_euclid}
use Rattle.std.specs.List.{list_all}
use Rattle.std.proofs.lemmas.Bool.{and_parts}
use Rattle.meaning_states.specs.State.{int_eq}
use Rattle.obligations.specs.declared.branches.Line.{Line}
use Rattle.obligations.specs.declared.branches.Variable.{Variable}
use Rattle.obligations.specs.LinearForms.{add_at, zeros, line_of_const, sparse}
use Rattle.obligations.proofs.LineLaws.{length-add_at}
use Rattle.certificate_rules.specs.Sums.{add_factors}
use Rattle.certificate_machine.specs.Spans.{equals_zero, are_zero}

-- fewer of the first, or of the last
pub fewer-first : (zs : List ℤ) (m n : ℕ) → m ≤ n → are_zero (take n zs) ≡ true → are_zero (take m zs) ≡ true
fewer-first zs zero n h z = refl
fewer-first [] (suc m) n h z = refl
fewer-first (x ∷ zs) (suc m) zero h z = absurd (omega arith)
fewer-first (x ∷ zs) (suc m) (suc n) h z =
    let p = and_parts (equals_zero x) (are_zero (take n zs)) z in
    ap (λ b. b && are_zero (take m zs)) p.0 ∙ fewer-first zs m n (omega (arith, h)) p.1

pub fewer-last : (zs : List ℤ) (m n : ℕ) → m ≤ n → are_zero (drop m zs) ≡ true → are_zero (drop n zs) ≡ true
fewer-last [] m zero h z = refl
fewer-last [] m (suc n) h z = refl
fewer-last (x ∷ zs) zero zero h z = z
fewer-last (x ∷ zs) zero (suc n) h z =
    fewer-last zs 0 n (omega arith) (and_parts (equals_zero x) (are_zero zs) z).1
fewer-last (x ∷ zs) (suc m) zero h z = absurd (omega arith)
fewer-last (x ∷ zs) (suc m) (suc n) h z = fewer-last zs m n (omega (arith, h)) z

-- the first and the last together
pub all-of-both : (zs : List ℤ) (m n : ℕ) → n ≤ m → are_zero (take m zs) ≡ true → are_zero (drop n zs) ≡ true →
    are_zero zs ≡ true
all-of-both [] m n h a b = refl
all-of-both (x ∷ zs) m zero h a b = b
all-of-both (x ∷ zs) zero (suc n) h a b = absurd (omega arith)
all-of-both (x ∷ zs) (suc m) (suc n) h a b =
    let p = and_parts (equals_zero x) (are_zero (take m zs)) a in
    ap (λ t. t && are_zero zs) p.0 ∙ all-of-both zs m n (omega (arith, h)) p.1 b

pub zero-first : (zs : List ℤ) (n : ℕ) → are_zero zs ≡ true → are_zero (take n zs) ≡ true
zero-first [] zero z = refl
zero-first [] (suc n) z = refl
zero-first (x ∷ zs) zero z = refl
zero-first (x ∷ zs) (suc n) z =
    let p = and_parts (equals_zero x) (are_zero zs) z in ap (λ b. b && are_zero (take n zs)) p.0 ∙ zero-first zs n p.1

-- a 0 is put behind the first zeros
put-at : (zs : List ℤ) (n : ℕ) → are_zero (take n zs) ≡ true → are_zero (take (suc n) (slice_set zs n (pos 0))) ≡ true
put-at [] n z = refl
put-at (x ∷ zs) zero z = refl
put-at (x ∷ zs) (suc n) z =
    let p = and_parts (equals_zero x) (are_zero (take n zs)) z in
    ap (λ b. b && are_zero (take (suc n) (slice_set zs n (pos 0)))) p.0 ∙ put-at zs n p.1

pub put-first : (zs : List ℤ) (n : ℕ) → are_zero (take n zs) ≡ true →
    are_zero (take (n + 1) (slice_set zs n (pos 0))) ≡ true
put-first zs n z =
    let one : n + 1 ≡ suc n = omega arith in
    ap (λ m. are_zero (take m (slice_set zs n (pos 0)))) one ∙ put-at zs n z

-- zeros
pub zero-zeros : {A : Type 0} (xs : List A) → are_zero (zeros xs) ≡ true
zero-zeros [] = refl
zero-zeros (x ∷ xs) = zero-zeros xs

pub zeros-are : {A : Type 0} (xs : List A) (zs : List ℤ) → length zs ≡ length xs → are_zero zs ≡ true → zs ≡ zeros xs
zeros-are [] [] h z = refl
zeros-are [] (y ∷ zs) h z = absurd (omega arith)
zeros-are (x ∷ xs) [] h z = absurd (omega arith)
zeros-are (x ∷ xs) (y ∷ zs) h z =
    let p = and_parts (equals_zero y) (are_zero zs) z in
    ap (λ v. v ∷ zs) (is-pos0 y p.0) ∙ ap (λ vs. pos 0 ∷ vs) (zeros-are xs zs (omega (arith, h)) p.1)
  where
    is-pos0 : (y : ℤ) → equals_zero y ≡ true → y ≡ pos 0
    is-pos0 y h = grind arith

-- Something is added at a place of the span.

pub first-kept : (zs : List ℤ) (low p : ℕ) (d : ℤ) → low ≤ p → take low (add_at zs p d) ≡ take low zs
first-kept zs zero p d h = refl
first-kept [] (suc low) p d h = refl
first-kept (x ∷ zs) (suc low) zero d h = absurd (omega arith)
first-kept (x ∷ zs) (suc low) (suc p) d h = ap (λ ys. x ∷ ys) (first-kept zs low p d (omega (arith, h)))

last-kept : (zs : List ℤ) (high p : ℕ) (d : ℤ) → p < high → drop high (add_at zs p d) ≡ drop high zs
last-kept zs zero p d h = absurd (omega arith)
last-kept [] (suc high) p d h = refl
last-kept (x ∷ zs) (suc high) zero d h = refl
last-kept (x ∷ zs) (suc high) (suc p) d h = last-kept zs high p d (omega (arith, h))

not-there : (zs : List ℤ) (p : ℕ) (d : ℤ) → length zs ≤ p → add_at zs p d ≡ zs
not-there [] p d h = refl
not-there (x ∷ zs) zero d h = absurd (omega arith)
not-there (x ∷ zs) (suc p) d h = ap (λ ys. x ∷ ys) (not-there zs p d (omega (arith, h)))

-- outside of the span all is 0, and the span lies in the line
pub record Spans (low high : ℕ) (zs : List ℤ) : Type 0 where
  pub before : are_zero (take low zs) ≡ true
  pub behind : are_zero (drop high zs) ≡ true
  pub inside : high ≤ length zs

module _ (m : ℤ) (p : ℕ) (f : ℤ) (zs new : List ℤ) (low high : ℕ)
    (there : p < length zs → (low ≤ p) × (p < high)) where
  spans-at : (d : ℤ) → Spans low high zs → Spans low high (add_at zs p d)
  spans-at d s = by_place (nat_lt p (length zs)) refl
    where
      by_place : (b : Bool) → nat_lt p (length zs) ≡ b → Spans low high (add_at zs p d)
      by_place true h =
          let t = there (grind arith) in record {
            before = ap are_zero (first-kept zs low p d t.0) ∙ s.before;
            behind = ap are_zero (last-kept zs high p d t.1) ∙ s.behind;
            inside = let l = length-add_at zs p d in let i = s.inside in omega (arith, l, i);
          }
      by_place false h = subst (Spans low high) (sym (not-there zs p d (grind arith))) s

  spans-put : (b : Bool) → cond b (Some (add_at zs p (m *ℤ f))) None ≡ Some new → Spans low high zs →
      Spans low high new
  spans-put true e s = let same : add_at zs p (m *ℤ f) ≡ new = cc in subst (Spans low high) same (spans-at (m *ℤ f) s)
  spans-put false e s = cc

  pub spans-added : (b : Bool) → MatchBool b (add_factors m ((p, f) ∷ []) zs ≡ Some new)
      (add_factors m ((p, f) ∷ []) zs ≡ None) → (b ≡ false → new ≡ zs) → Spans low high zs → Spans low high new
  spans-added true e k s = spans-put _ e s
  spans-added false e k s = subst (Spans low high) (sym (k refl)) s

-- What is so of a span, and of 0, is so of the line.

taken-none : (n : ℕ) → take {A = ℤ} n [] ≡ []
taken-none zero = refl
taken-none (suc n) = refl

module _ (test : ℤ → Bool) (zero-too : test (pos 0) ≡ true) where
  pub all-zeros : (zs : List ℤ) → are_zero zs ≡ true → list_all test zs ≡ true
  all-zeros [] z = refl
  all-zeros (x ∷ zs) z =
      let p = and_parts (equals_zero x) (are_zero zs) z in
      ap (λ b. b && list_all test zs) (passes x p.0) ∙ all-zeros zs p.1
    where
      passes : (x : ℤ) → equals_zero x ≡ true → test x ≡ true
      passes x h = let e : x ≡ pos 0 = grind arith in ap test e ∙ zero-too

  all-taken : (zs : List ℤ) (n : ℕ) → are_zero (drop n zs) ≡ true → list_all test (take n zs) ≡ list_all test zs
  all-taken [] zero z = refl
  all-taken [] (suc n) z = refl
  all-taken (x ∷ zs) zero z = sym (all-zeros (x ∷ zs) z)
  all-taken (x ∷ zs) (suc n) z = ap (λ b. test x && b) (all-taken zs n z)

  pub all-spanned : (zs : List ℤ) (low high : ℕ) → low ≤ high → are_zero (take low zs) ≡ true →
      are_zero (drop high zs) ≡ true → list_all test (slice_range zs low high) ≡ list_all test zs
  all-spanned zs zero high h a b =
      let e : high - 0 ≡ high = omega arith in ap (λ n. list_all test (take n zs)) e ∙ all-taken zs high b
  all-spanned [] (suc low) high h a b = ap (list_all test) (taken-none (high - suc low))
  all-spanned (x ∷ zs) (suc low) zero h a b = absurd (omega arith)
  all-spanned (x ∷ zs) (suc low) (suc high) h a b =
      let p = and_parts (equals_zero x) (are_zero (take low zs)) a in
      let e : suc high - suc low ≡ high - low = omega arith in
      ap (λ n. list_all test (take n (drop low zs))) e ∙ all-spanned zs low high (omega (arith, h)) p.1 b
      ∙ ap (λ t. t && list_all test zs) (sym (passes-first x p.0))
    where
      passes-first : (x : ℤ) → equals_zero x ≡ true → test x ≡ true
      passes-first x h = let e : x ≡ pos 0 = grind arith in ap test e ∙ zero-too

-- Nor do the zeros count where each number is changed, and 0 to 0.

module _ (g : ℤ → ℤ) (zero-to-zero : g (pos 0) ≡ pos 0) where
  pub to-zero : (x : ℤ) → equals_zero x ≡ true → equals_zero (g x) ≡ true
  to-zero x h = let e : x ≡ pos 0 = grind arith in ap equals_zero (ap g e ∙ zero-to-zero)

  pub no-terms : (zs : List ℤ) (n : ℕ) → are_zero zs ≡ true → sparse n (map g zs) ≡ []
  no-terms [] n z = refl
  no-terms (x ∷ zs) n z =
      let p = and_parts (equals_zero x) (are_zero zs) z in
      ap (λ b. cond b (sparse (suc n) (map g zs)) ((n, g x) ∷ sparse (suc n) (map g zs))) (to-zero x p.0)
      ∙ no-terms zs (suc n) p.1

  terms-taken : (zs : List ℤ) (n k : ℕ) → are_zero (drop k zs) ≡ true →
      sparse n (map g (take k zs)) ≡ sparse n (map g zs)
  terms-taken [] n zero z = refl
  terms-taken [] n (suc k) z = refl
  terms-taken (x ∷ zs) n zero z = sym (no-terms (x ∷ zs) n z)
  terms-taken (x ∷ zs) n (suc k) z =
      ap (λ ts. cond (equals_zero (g x)) ts ((n, g x) ∷ ts)) (terms-taken zs (suc n) k z)

  pub terms-spanned : (zs : List ℤ) (n low high : ℕ) → low ≤ high → are_zero (take low zs) ≡ true →
      are_zero (drop high zs) ≡ true → sparse (n + low) (map g (slice_range zs low high)) ≡ sparse n (map g zs)
  terms-spanned zs n zero high h a b =
      let e : n + 0 ≡ n = omega arith in
      let k : high - 0 ≡ high = omega arith in
      ap (λ m. sparse m (map g (take (high - 0) zs))) e
      ∙ ap (λ m. sparse n (map g (take m zs))) k ∙ terms-taken zs n high b
  terms-spanned [] n (suc low) high h a b = ap (λ ys. sparse (n + suc low) (map g ys)) (taken-none (high - suc low))
  terms-spanned (x ∷ zs) n (suc low) zero h a b = absurd (omega arith)
  terms-spanned (x ∷ zs) n (suc low) (suc high) h a b =
      let p = and_parts (equals_zero x) (are_zero (take low zs)) a in
      let e : n + suc low ≡ suc n + low = omega arith in
      let k : suc high - suc low ≡ high - low = omega arith in
      ap (λ m. sparse m (map g (take (suc high - suc low) (drop low zs)))) e
      ∙ ap (λ m. sparse (suc n + low) (map g (take m (drop low zs)))) k
      ∙ terms-spanned zs (suc n) low high (omega (arith, h)) p.1 b
      ∙ ap (λ t. cond t (sparse (suc n) (map g zs)) ((n, g x) ∷ sparse (suc n) (map g zs))) (sym (to-zero x p.0))

-- a number of at least 1 divides 0, and gives 0
pub zero-divided : (d : ℤ) → pos 1 ≤ℤ d → int_eq (int_rem_euclid (pos 0) d) (pos 0) ≡ true
zero-divided d h = grind arith

pub zero-quotient : (d : ℤ) → pos 1 ≤ℤ d → int_div_euclid (pos 0) d ≡ pos 0
zero-quotient (pos d) h = grind arith
zero-quotient (negsuc d) h = grind arith
