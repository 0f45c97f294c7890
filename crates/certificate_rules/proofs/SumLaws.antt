-- Sums of factors, as the code makes them.
use Rattle.std.proofs.Common.{◌≡◌, ℕ, zero, suc, ◌+◌, ◌-◌, ◌<◌, ◌≤◌, ℤ, pos, ◌+ℤ◌, ◌*ℤ◌, map, ◌++◌, append_assoc}
use Rattle.std.proofs.Common.{Bool, true, false, ◌&&◌, cond, Some, None, Result, Ok, Err, List, [], ◌∷◌, drop, length}
use Rattle.std.proofs.Common.{slice_index_or, nat_lt, nat_le, FitsSigned, ◌^◌, arith, refl, sym, ap, subst, ◌∙◌}
use mir.Syntax.{w32, w64, w128}
use native.Mathlib.Nat.{mul-le-mul}
use Rattle.std.specs.List.{list_all}
use Rattle.std.specs.Int.RustNames.{unsigned_abs}
use Rattle.std.proofs.lemmas.Int.{unsigned_abs-mul, fits_signed_mul}
use Rattle.std.proofs.lemmas.Bool.{and_parts}
use Rattle.obligations.specs.from_core_terms.Values.{number_at}
use Rattle.obligations.specs.Load.{in_limit}
use Rattle.obligations.specs.from_case_tables.declared.code_table.Code.{Code}
use Rattle.obligations.specs.declared.branches.Line.{Line}
use Rattle.obligations.specs.LinearForms.{add_at, zeros}
use Rattle.std.specs.Int.{int_div_euclid}
use Rattle.obligations.specs.LinearForms.{sparse}
use Rattle.meaning_states.specs.State.{int_eq}
use Rattle.certificate_rules.specs.Sums.{add_factors, with_constant, or_too_big, PairStep, each_pair, add_variable}

-- the next factor of a list
more-at : (m : ℤ) (f : ℕ × ℤ) (fs : List (ℕ × ℤ)) (sum next : List ℤ) (b : Bool) →
    cond b (Some (add_at sum f.0 (m *ℤ f.1))) None ≡ Some next →
    cond b (add_factors m fs (add_at sum f.0 (m *ℤ f.1))) None ≡ add_factors m fs next
more-at m f fs sum next true e = let s : add_at sum f.0 (m *ℤ f.1) ≡ next = cc in ap (add_factors m fs) s
more-at m f fs sum next false e = cc

none-at : (m : ℤ) (f : ℕ × ℤ) (fs : List (ℕ × ℤ)) (sum : List ℤ) (b : Bool) →
    cond b (Some (add_at sum f.0 (m *ℤ f.1))) None ≡ None →
    cond b (add_factors m fs (add_at sum f.0 (m *ℤ f.1))) None ≡ None
none-at m f fs sum true e = cc
none-at m f fs sum false e = refl

pub factors-more : (m : ℤ) (fs : List (ℕ × ℤ)) (i : ℕ) (d : ℕ × ℤ) (sum next : List ℤ) → i < length fs →
    add_factors m (slice_index_or fs i d ∷ []) sum ≡ Some next →
    add_factors m (drop (i + 1) fs) next ≡ add_factors m (drop i fs) sum
factors-more m [] i d sum next h e = absurd (omega arith)
factors-more m (f ∷ fs) zero d sum next h e = sym (more-at m f fs sum next _ e)
factors-more m (f ∷ fs) (suc i) d sum next h e =
    let n : suc i + 1 ≡ suc (i + 1) = omega arith in ap (λ n. add_factors m (drop n (f ∷ fs)) next) n
    ∙ factors-more m fs i d sum next (omega arith) e

pub factors-none : (m : ℤ) (fs : List (ℕ × ℤ)) (i : ℕ) (d : ℕ × ℤ) (sum : List ℤ) → i < length fs →
    add_factors m (slice_index_or fs i d ∷ []) sum ≡ None →
    add_factors m (drop i fs) sum ≡ None
factors-none m [] i d sum h e = absurd (omega arith)
factors-none m (f ∷ fs) zero d sum h e = none-at m f fs sum _ e
factors-none m (f ∷ fs) (suc i) d sum h e = factors-none m fs i d sum (omega arith) e

pub pairs-more : (step : PairStep) (ps : List (ℤ × ℕ)) (i : ℕ) (d : ℤ × ℕ) (sum : Line) (r : Result Line Code) →
    i < length ps → step (slice_index_or ps i d) sum ≡ r →
    each_pair step r (drop (i + 1) ps) ≡ each_pair step (Ok sum) (drop i ps)
pairs-more step [] i d sum r h e = absurd (omega arith)
pairs-more step (p ∷ ps) zero d sum r h e = ap (λ x. each_pair step x ps) (sym e)
pairs-more step (p ∷ ps) (suc i) d sum r h e =
    let n : suc i + 1 ≡ suc (i + 1) = omega arith in ap (λ n. each_pair step r (drop n (p ∷ ps))) n
    ∙ pairs-more step ps i d sum r (omega arith) e

pub pairs-stop : (step : PairStep) (code : Code) (ps : List (ℤ × ℕ)) → each_pair step (Err code) ps ≡ Err code
pairs-stop step code [] = refl
pairs-stop step code (p ∷ ps) = pairs-stop step code ps

pub pairs-stopped : (step : PairStep) (ps : List (ℤ × ℕ)) (i : ℕ) (d : ℤ × ℕ) (sum first : Line) (code : Code) →
    i < length ps → step (slice_index_or ps i d) sum ≡ Err code →
    each_pair step (Ok sum) (drop i ps) ≡ each_pair step (Ok first) ps → each_pair step (Ok first) ps ≡ Err code
pairs-stopped step ps i d sum first code h e k =
    sym k ∙ sym (pairs-more step ps i d sum (Err code) h e) ∙ pairs-stop step code (drop (i + 1) ps)

pub ruleset stop_laws = pairs-stopped

-- a variable that is there
pub variable-there : (m : ℤ) (v : ℕ) (l : Line) → 0 < v → v ≤ length l.factors →
    add_variable m v l ≡ or_too_big (with_constant l.constant (add_factors m ((v - 1, pos 1) ∷ []) l.factors))
variable-there m zero l h k = absurd (omega arith)
variable-there m (suc v) l h k =
    ap (λ t. cond t (or_too_big (with_constant l.constant (add_factors m ((v, pos 1) ∷ []) l.factors)))
    (Err Code.NoSuchVariable)) (below v (length l.factors) (omega arith))
    ∙ ap (λ w. or_too_big (with_constant l.constant (add_factors m ((w, pos 1) ∷ []) l.factors))) one-less
  where
    one-less : v ≡ suc v - 1
    one-less = omega arith

    below : (a b : ℕ) → a < b → nat_lt a b ≡ true
    below a b h = grind arith

pub ruleset variable_laws = variable-there

-- what each pair keeps is kept by all of them
module _ (step : PairStep) (P : Line → Type 0) (one : (p : ℤ × ℕ) (l m : Line) → P l → step p l ≡ Ok m → P m) where
  pub pairs-keep : (ps : List (ℤ × ℕ)) (l m : Line) → P l → each_pair step (Ok l) ps ≡ Ok m → P m
  pairs-keep [] l m h e = let same : l ≡ m = cc in subst P same h
  pairs-keep (p ∷ ps) l m h e = next (step p l) refl e (λ k. pairs-keep ps k m)
    where
      next : (r : Result Line Code) → step p l ≡ r → each_pair step r ps ≡ Ok m →
          ((k : Line) → P k → each_pair step (Ok k) ps ≡ Ok m → P m) → P m
      next (Err c) q d ih = let stays : Err c ≡ Ok m = sym (pairs-stop step c ps) ∙ d in absurd (cc)
      next (Ok k) q d ih = ih k (one p l k h q) d

-- what is so of each pair that is taken is so of all of them
module _ (step : PairStep) (test : ℤ × ℕ → Bool) (size : Line → ℕ) (n : ℕ)
    (one : (p : ℤ × ℕ) (l m : Line) → size l ≡ n → step p l ≡ Ok m → (test p ≡ true) × (size m ≡ n)) where
  pub pairs-pass : (ps : List (ℤ × ℕ)) (l m : Line) → size l ≡ n → each_pair step (Ok l) ps ≡ Ok m →
      list_all test ps ≡ true
  pairs-pass [] l m h e = refl
  pairs-pass (p ∷ ps) l m h e = next (step p l) refl e (λ k. pairs-pass ps k m)
    where
      next : (r : Result Line Code) → step p l ≡ r → each_pair step r ps ≡ Ok m →
          ((k : Line) → size k ≡ n → each_pair step (Ok k) ps ≡ Ok m → list_all test ps ≡ true) →
          (test p && list_all test ps) ≡ true
      next (Err c) q d ih = let stays : Err c ≡ Ok m = sym (pairs-stop step c ps) ∙ d in absurd (cc)
      next (Ok k) q d ih = let o = one p l k h q in ap (λ z. z && list_all test ps) o.0 ∙ ih k o.1 d

-- an item of a list that passes
pub all-at-index : {A : Type 0} (test : A → Bool) (xs : List A) (i : ℕ) (x : A) → i < length xs →
    x ≡ slice_index_or xs i x → list_all test xs ≡ true → test x ≡ true
all-at-index test [] i x h e a = absurd (omega arith)
all-at-index test (y ∷ ys) zero x h e a = ap test e ∙ (and_parts (test y) (list_all test ys) a).0
all-at-index test (y ∷ ys) (suc i) x h e a =
    all-at-index test ys i x (omega arith) e (and_parts (test y) (list_all test ys) a).1

-- Statements.

-- what a pair adds to a statement
pub record Added (m : ℤ) (v : ℕ) (l k : Line) : Type 0 where
  pub place : ℕ
  pub counted : v ≡ suc place
  pub there : place < length l.factors
  pub small : in_limit (number_at l.factors place +ℤ m *ℤ pos 1) ≡ true
  pub sum : k ≡ record { factors = add_at l.factors place (m *ℤ pos 1); constant = l.constant }

pub added-variable : (m : ℤ) (v : ℕ) (l k : Line) → add_variable m v l ≡ Ok k → Added m v l k
added-variable m zero l k e = absurd (cc)
added-variable m (suc w) l k e = named (nat_lt w (length l.factors)) refl e
  where
    sum : ℤ
    sum = number_at l.factors w +ℤ m *ℤ pos 1

    small : (a b : Bool) → w < length l.factors → in_limit sum ≡ b →
        or_too_big (with_constant l.constant (cond (a && b) (Some (add_at l.factors w (m *ℤ pos 1))) None)) ≡ Ok k →
        Added m (suc w) l k
    small true true h q d =
        let same : record { factors = add_at l.factors w (m *ℤ pos 1); constant = l.constant } ≡ k = cc in
        record { place = w; counted = refl; there = h; small = q; sum = sym same }
    small true false h q d = absurd (cc)
    small false b h q d = absurd (cc)

    named : (t : Bool) → nat_lt w (length l.factors) ≡ t →
        cond t (or_too_big (with_constant l.constant (add_factors m ((w, pos 1) ∷ []) l.factors)))
        (Err Code.NoSuchVariable) ≡ Ok k → Added m (suc w) l k
    named false q d = absurd (cc)
    named true q d = small (in_limit (m *ℤ pos 1)) (in_limit sum) (grind arith) refl d

-- small numbers stay so where a small one is put among them
pub small-put : (xs : List ℤ) (n : ℕ) (z : ℤ) → list_all in_limit xs ≡ true → in_limit (number_at xs n +ℤ z) ≡ true →
    list_all in_limit (add_at xs n z) ≡ true
small-put [] n z h k = refl
small-put (x ∷ xs) zero z h k =
    ap (λ b. b && list_all in_limit xs) k ∙ (and_parts (in_limit x) (list_all in_limit xs) h).1
small-put (x ∷ xs) (suc n) z h k =
    let p = and_parts (in_limit x) (list_all in_limit xs) h in
    ap (λ b. b && list_all in_limit (add_at xs n z)) p.0 ∙ small-put xs n z p.1 k

-- a line of zeros is small
pub small-zeros : {A : Type 0} (xs : List A) → list_all in_limit (zeros xs) ≡ true
small-zeros [] = refl
small-zeros (x ∷ xs) = small-zeros xs

sparse-cons : (n : ℕ) (z : ℤ) (zs : List ℤ) → sparse n (z ∷ zs) ≡ sparse n (z ∷ []) ++ sparse (suc n) zs
sparse-cons n z zs =
    elim (int_eq z (pos 0)) as (λ b. cond b (sparse (suc n) zs) ((n, z) ∷ sparse (suc n) zs) ≡ cond b []
    ((n, z) ∷ []) ++ sparse (suc n) zs) [
      | true ↦ refl
      | false ↦ refl
    ]

part-next : (d : ℤ) (xs : List ℤ) (i n : ℕ) (e : ℤ) → i < length xs →
    sparse n (map (λ z. int_div_euclid z d) (drop i xs)) ≡ sparse n (int_div_euclid (slice_index_or xs i e) d ∷ [])
    ++ sparse (suc n) (map (λ z. int_div_euclid z d) (drop (i + 1) xs))
part-next d [] i n e h = absurd (omega arith)
part-next d (x ∷ xs) zero n e h = sparse-cons n (int_div_euclid x d) (map (λ z. int_div_euclid z d) xs)
part-next d (x ∷ xs) (suc i) n e h =
    let k : suc i + 1 ≡ suc (i + 1) = omega arith in
    part-next d xs i n e (omega arith)
    ∙ ap (λ m. sparse n (int_div_euclid (slice_index_or xs i e) d ∷ [])
    ++ sparse (suc n) (map (λ z. int_div_euclid z d) (drop m (x ∷ xs)))) (sym k)

-- the next factor, divided
pub parts-more : (d : ℤ) (xs : List ℤ) (n i : ℕ) (e : ℤ) (old new all : List (ℕ × ℤ)) → i < length xs →
    new ≡ old ++ sparse (n + i) (int_div_euclid (slice_index_or xs i e) d ∷ []) →
    old ++ sparse (n + i) (map (λ z. int_div_euclid z d) (drop i xs)) ≡ all →
    new ++ sparse (n + (i + 1)) (map (λ z. int_div_euclid z d) (drop (i + 1) xs)) ≡ all
parts-more d xs n i e old new all h p k =
    let f : ℤ → ℤ = λ z. int_div_euclid z d in
    let one : n + (i + 1) ≡ suc (n + i) = omega arith in
    let head = sparse (n + i) (f (slice_index_or xs i e) ∷ []) in
    let rest = map f (drop (i + 1) xs) in
    ap (λ x. x ++ sparse (n + (i + 1)) rest) p
    ∙ append_assoc old head (sparse (n + (i + 1)) rest)
    ∙ ap (λ m. old ++ (head ++ sparse m rest)) one
    ∙ ap (λ x. old ++ x) (sym (part-next d xs i (n + i) e h)) ∙ k

pub ruleset part_laws = parts-more

-- The product of two numbers of 64 bits.

narrow : (z : ℤ) → FitsSigned w64 z → unsigned_abs z ≤ 2 ^ 63
narrow z h = grind arith

pub product-small : (m z : ℤ) → FitsSigned w64 m → FitsSigned w64 z → in_limit (m *ℤ z) ≡ true
product-small m z h k =
    within (unsigned_abs (m *ℤ z))
    (let a = unsigned_abs-mul m z in let b = mul-le-mul (narrow m h) (narrow z k) in omega (arith, a, b))
  where
    within : (n : ℕ) → n ≤ 2 ^ 126 → nat_le n (2 ^ 126) ≡ true
    within n h = grind arith

pub product-fits : (m z : ℤ) → FitsSigned w64 m → FitsSigned w64 z → FitsSigned w128 (m *ℤ z)
product-fits m z h k = fits_signed_mul w128 m z (2 ^ 63) (2 ^ 63) (narrow m h) (narrow z k) (omega arith)

pub ruleset product_laws = (product-small, product-fits)

-- The product of two numbers of 32 bits, and its sum with one of 64.

narrower : (z : ℤ) → FitsSigned w32 z → unsigned_abs z ≤ 2 ^ 31
narrower z h = grind arith

pub narrow-fits : (m z : ℤ) → FitsSigned w32 m → FitsSigned w32 z → FitsSigned w64 (m *ℤ z)
narrow-fits m z h k = fits_signed_mul w64 m z (2 ^ 31) (2 ^ 31) (narrower m h) (narrower z k) (omega arith)

pub narrow-added : (p s : ℤ) → FitsSigned w64 p → FitsSigned w64 s → (in_limit p && in_limit (s +ℤ p)) ≡ true
narrow-added p s h k = both (unsigned_abs p) (unsigned_abs (s +ℤ p)) (grind arith) (grind arith)
  where
    both : (m n : ℕ) → m ≤ 2 ^ 126 → n ≤ 2 ^ 126 → (nat_le m (2 ^ 126) && nat_le n (2 ^ 126)) ≡ true
    both m n h k = grind arith

pub ruleset narrow_laws = (narrow-fits, narrow-added)
