-- Which slots and parameters occur in a formula, as the code marks and picks them.
use Rattle.std.proofs.Common.{◌≡◌, ℕ, zero, suc, nat_eq, ◌+◌, ◌<◌, ◌≤◌, Bool, true, false, cond, not, ◌&&◌, ◌||◌}
use Rattle.std.proofs.Common.{Option, Some, None, List, [], ◌∷◌, ◌++◌, append_assoc, map, length, drop, take}
use Rattle.std.proofs.Common.{slice_index_or, slice_set, ℤ, eq-eqb, refl, sym, ap, ◌∙◌, arith}
use Rattle.core_terms.specs.declared.trees.CTerm.{CTerm, roll-CTerm}
use Rattle.core_terms.specs.declared.trees.CTerm.TheVariants.{Const, Slot, Param, Add, Sub, Scale, Ite, Div, Mod}
use Rattle.core_terms.specs.declared.trees.CTerm.TheVariants.{rolls-Const, rolls-Div, rolls-Mod}
use Rattle.core_terms.specs.declared.trees.CTerm.TheVariants.{rolls-Slot, rolls-Param, rolls-Add, rolls-Sub}
use Rattle.core_terms.specs.declared.trees.CTerm.TheVariants.{rolls-Scale, rolls-Ite}
use Rattle.core_terms.specs.declared.trees.CForm.{CForm, roll-CForm}
use Rattle.core_terms.specs.declared.trees.CForm.TheVariants.{Top, Bottom, AtLeast, Zero, Not, And, Or, rolls-Top}
use Rattle.core_terms.specs.declared.trees.CForm.TheVariants.{rolls-Bottom, rolls-AtLeast, rolls-Zero, rolls-Not}
use Rattle.core_terms.specs.declared.trees.CForm.TheVariants.{rolls-And, rolls-Or}
use Rattle.core_terms.specs.declared.trees.CForm.TheOpen.{CTerm-F, CForm-F}
use Rattle.core_terms.specs.declared.trees.CForm.TheFolds.{map-CForm, map-CTerm}
use Rattle.core_terms.specs.declared.trees.Range.{Range}
use Rattle.core_terms.specs.declared.programs.CSlot.{CSlot}
use Rattle.obligations.specs.declared.branches.Variable.{Variable}
use Rattle.obligations.specs.Variables.{has_step, part_has, term_has, form_has, numbered, occurring, slot_ranges}
use Rattle.obligations.specs.Variables.{no_marks, marked, picked}
use Rattle.obligations.proofs.SettlingLaws.{term_fold, form_fold}

-- The loops that make lists.
map-more : {A B : Type 0} (f : A → B) (xs : List A) (i : ℕ) (d : A) → i < length xs →
    map f (take i xs) ++ f (slice_index_or xs i d) ∷ [] ≡ map f (take (i + 1) xs)
map-more f [] i d h = absurd (omega arith)
map-more f (x ∷ xs) zero d h = refl
map-more f (x ∷ xs) (suc i) d h =
    let k : suc i + 1 ≡ suc (i + 1) = omega arith in
    ap (λ ys. f x ∷ ys) (map-more f xs i d (omega arith)) ∙ ap (λ n. map f (take n (x ∷ xs))) (sym k)

pub no_marks-more : (rs : List Range) (i : ℕ) → i < length rs →
    no_marks (take i rs) ++ None ∷ [] ≡ no_marks (take (i + 1) rs)
no_marks-more [] i h = absurd (omega arith)
no_marks-more (r ∷ rs) zero h = refl
no_marks-more (r ∷ rs) (suc i) h =
    let k : suc i + 1 ≡ suc (i + 1) = omega arith in
    ap (λ ys. None ∷ ys) (no_marks-more rs i (omega arith)) ∙ ap (λ n. no_marks (take n (r ∷ rs))) (sym k)

pub ruleset no_marks_laws = no_marks-more

pub slot_ranges-more : (ss : List CSlot) (i : ℕ) (d : CSlot) → i < length ss →
    slot_ranges (take i ss) ++ (slice_index_or ss i d).range ∷ [] ≡ slot_ranges (take (i + 1) ss)
slot_ranges-more ss i d h = map-more (λ (s : CSlot). s.range) ss i d h

pub ruleset slot_ranges_laws = slot_ranges-more

-- Marks.
marked-same : (p q : ℕ → Bool) → ((n : ℕ) → p n ≡ q n) → (k : ℕ) (ms : List (Option ℕ)) → marked p k ms ≡ marked q k ms
marked-same p q h k [] = refl
marked-same p q h k (m ∷ ms) =
    ap (λ b. cond b (Some k) m ∷ marked p (suc k) ms) (h k)
    ∙ ap (λ ys. cond (q k) (Some k) m ∷ ys) (marked-same p q h (suc k) ms)

marked-none : (p : ℕ → Bool) (k : ℕ) (ms : List (Option ℕ)) → ((n : ℕ) → k ≤ n → p n ≡ false) → marked p k ms ≡ ms
marked-none p k [] h = refl
marked-none p k (m ∷ ms) h =
    ap (λ b. cond b (Some k) m ∷ marked p (suc k) ms) (h k (omega arith))
    ∙ ap (λ ys. m ∷ ys) (marked-none p (suc k) ms (λ n l. h n (omega arith)))

twice-marked : (a b : Bool) (k : ℕ) (m : Option ℕ) → cond b (Some k) (cond a (Some k) m) ≡ cond (a || b) (Some k) m
twice-marked true true k m = refl
twice-marked true false k m = refl
twice-marked false b k m = refl

marked-either : (p q : ℕ → Bool) (k : ℕ) (ms : List (Option ℕ)) →
    marked q k (marked p k ms) ≡ marked (λ n. p n || q n) k ms
marked-either p q k [] = refl
marked-either p q k (m ∷ ms) =
    ap (λ x. x ∷ marked q (suc k) (marked p (suc k) ms)) (twice-marked (p k) (q k) k m)
    ∙ ap (λ ys. cond (p k || q k) (Some k) m ∷ ys) (marked-either p q (suc k) ms)

not-equal : (m n : ℕ) → m < n → nat_eq m n ≡ false
not-equal m n h = grind arith

-- a number that has a place, and one that has none
marked-at : (k number : ℕ) (place : ℕ) (ms : List (Option ℕ)) → k + place ≡ number → place < length ms →
    slice_set ms place (Some number) ≡ marked (λ n. nat_eq number n) k ms
marked-at k number place [] e h = absurd (omega arith)
marked-at k number zero (m ∷ ms) e h =
    let same : number ≡ k = omega arith in
    ap (λ n. Some n ∷ ms) same
    ∙ sym (ap (λ b. cond b (Some k) m ∷ marked (λ n. nat_eq number n) (suc k) ms) (eq-eqb number k same)
    ∙ ap (λ ys. Some k ∷ ys) (marked-none (λ n. nat_eq number n) (suc k) ms
    (λ n l. not-equal number n (omega arith))))
marked-at k number (suc place) (m ∷ ms) e h =
    ap (λ ys. m ∷ ys) (marked-at (suc k) number place ms (omega arith) (omega arith))
    ∙ sym (ap (λ b. cond b (Some k) m ∷ marked (λ n. nat_eq number n) (suc k) ms)
    (other number k (omega arith)))
  where
    other : (m n : ℕ) → n < m → nat_eq m n ≡ false
    other m n h = grind arith

marked-past : (k number : ℕ) (ms : List (Option ℕ)) → k + length ms ≤ number →
    ms ≡ marked (λ n. nat_eq number n) k ms
marked-past k number [] h = refl
marked-past k number (m ∷ ms) h =
    ap (λ ys. m ∷ ys) (marked-past (suc k) number ms (omega arith))
    ∙ sym (ap (λ b. cond b (Some k) m ∷ marked (λ n. nat_eq number n) (suc k) ms) (other number k (omega arith)))
  where
    other : (m n : ℕ) → n < m → nat_eq m n ≡ false
    other m n h = grind arith

pub mark-wanted : (number : ℕ) (wanted : Bool) (ms new : List (Option ℕ)) → wanted ≡ true → number < length ms →
    new ≡ slice_set ms number (Some number) → new ≡ marked (λ n. wanted && nat_eq number n) 0 ms
mark-wanted number wanted ms new w h e =
    e ∙ marked-at 0 number number ms (omega arith) h
    ∙ marked-same (λ n. nat_eq number n) (λ n. wanted && nat_eq number n)
    (λ n. ap (λ b. b && nat_eq number n) (sym w)) 0 ms

pub mark-past : (number : ℕ) (wanted : Bool) (ms : List (Option ℕ)) → wanted ≡ true → length ms ≤ number →
    ms ≡ marked (λ n. wanted && nat_eq number n) 0 ms
mark-past number wanted ms w h =
    marked-past 0 number ms (omega arith)
    ∙ marked-same (λ n. nat_eq number n) (λ n. wanted && nat_eq number n)
    (λ n. ap (λ b. b && nat_eq number n) (sym w)) 0 ms

pub mark-unwanted : (number : ℕ) (wanted : Bool) (ms : List (Option ℕ)) → wanted ≡ false →
    ms ≡ marked (λ n. wanted && nat_eq number n) 0 ms
mark-unwanted number wanted ms w =
    sym (marked-none (λ n. wanted && nat_eq number n) 0 ms (λ n l. ap (λ b. b && nat_eq number n) w))

pub ruleset mark_laws = (mark-wanted, mark-past, mark-unwanted)

-- What a node marks, from what its parts do.
none-marks : (r : ℕ → Bool) → ((n : ℕ) → r n ≡ false) → (ms : List (Option ℕ)) → ms ≡ marked r 0 ms
none-marks r h ms = sym (marked-none r 0 ms (λ n l. h n))

one-marks : (r x : ℕ → Bool) → ((n : ℕ) → r n ≡ x n) → (ms new : List (Option ℕ)) → new ≡ marked x 0 ms →
    new ≡ marked r 0 ms
one-marks r x h ms new e = e ∙ marked-same x r (λ n. sym (h n)) 0 ms

two-marks : (r x y : ℕ → Bool) → ((n : ℕ) → r n ≡ (x n || y n)) → (ms mid new : List (Option ℕ)) →
    mid ≡ marked x 0 ms → new ≡ marked y 0 mid → new ≡ marked r 0 ms
two-marks r x y h ms mid new e f =
    f ∙ ap (marked y 0) e ∙ marked-either x y 0 ms ∙ marked-same (λ n. x n || y n) r (λ n. sym (h n)) 0 ms

module _ (param : Bool) where
  abbrev T : CTerm → ℕ → Bool
  T t n = term_has param n t

  abbrev F : CForm → ℕ → Bool
  F f n = form_has param n f

  abbrev term-is : (n : ℕ) (x : CTerm-F CForm CTerm) (t : CTerm) → roll-CTerm x ≡ t →
      T t n ≡ has_step param n (map-CTerm CForm CTerm Bool Bool (form_has param n) (term_has param n) x)
  term-is n x t e = term_fold part_has (has_step param n) x t e

  abbrev form-is : (n : ℕ) (x : CForm-F CForm CTerm) (f : CForm) → roll-CForm x ≡ f →
      F f n ≡ part_has (map-CForm CForm CTerm Bool Bool (form_has param n) (term_has param n) x)
  form-is n x f e = form_fold part_has (has_step param n) x f e

  pub const-marks : (t : CTerm) (c : ℤ) (ms : List (Option ℕ)) → t ≡ Const c → ms ≡ marked (T t) 0 ms
  const-marks t c ms e =
      none-marks (T t) (λ n. ap (term_has param n) e ∙ term-is n (CTerm-F.Const c) (Const c) (rolls-Const c)) ms

  pub slot-marks : (t : CTerm) (m : ℕ) (ms new : List (Option ℕ)) → t ≡ Slot m →
      new ≡ marked (λ n. not param && nat_eq m n) 0 ms → new ≡ marked (T t) 0 ms
  slot-marks t m ms new e h =
      one-marks (T t) (λ n. not param && nat_eq m n)
      (λ n. ap (term_has param n) e ∙ term-is n (CTerm-F.Slot m) (Slot m) (rolls-Slot m)) ms new h

  pub param-marks : (t : CTerm) (m : ℕ) (ms new : List (Option ℕ)) → t ≡ Param m →
      new ≡ marked (λ n. param && nat_eq m n) 0 ms → new ≡ marked (T t) 0 ms
  param-marks t m ms new e h =
      one-marks (T t) (λ n. param && nat_eq m n)
      (λ n. ap (term_has param n) e ∙ term-is n (CTerm-F.Param m) (Param m) (rolls-Param m)) ms new h

  pub add-marks : (t a b p q : CTerm) (ms mid new : List (Option ℕ)) → t ≡ Add a b → p ≡ a → q ≡ b →
      mid ≡ marked (T p) 0 ms → new ≡ marked (T q) 0 mid → new ≡ marked (T t) 0 ms
  add-marks t a b p q ms mid new e f g h k =
      two-marks (T t) (T p) (T q) (λ n. ap (term_has param n) (e ∙ sym (ap (λ x. Add x q) f ∙ ap (Add a) g))
      ∙ term-is n (CTerm-F.Add p q) (Add p q) (rolls-Add p q)) ms mid new h k

  pub sub-marks : (t a b p q : CTerm) (ms mid new : List (Option ℕ)) → t ≡ Sub a b → p ≡ a → q ≡ b →
      mid ≡ marked (T p) 0 ms → new ≡ marked (T q) 0 mid → new ≡ marked (T t) 0 ms
  sub-marks t a b p q ms mid new e f g h k =
      two-marks (T t) (T p) (T q) (λ n. ap (term_has param n) (e ∙ sym (ap (λ x. Sub x q) f ∙ ap (Sub a) g))
      ∙ term-is n (CTerm-F.Sub p q) (Sub p q) (rolls-Sub p q)) ms mid new h k

  pub scale-marks : (t a p : CTerm) (l : ℤ) (ms new : List (Option ℕ)) → t ≡ Scale l a → p ≡ a →
      new ≡ marked (T p) 0 ms → new ≡ marked (T t) 0 ms
  scale-marks t a p l ms new e f h =
      one-marks (T t) (T p) (λ n. ap (term_has param n) (e ∙ sym (ap (Scale l) f))
      ∙ term-is n (CTerm-F.Scale l p) (Scale l p) (rolls-Scale l p)) ms new h

  pub div-marks : (t a p : CTerm) (l : ℤ) (ms new : List (Option ℕ)) → t ≡ Div a l → p ≡ a →
      new ≡ marked (T p) 0 ms → new ≡ marked (T t) 0 ms
  div-marks t a p l ms new e f h =
      one-marks (T t) (T p) (λ n. ap (term_has param n) (e ∙ sym (ap (λ x. Div x l) f))
      ∙ term-is n (CTerm-F.Div p l) (Div p l) (rolls-Div p l)) ms new h

  pub mod-marks : (t a p : CTerm) (l : ℤ) (ms new : List (Option ℕ)) → t ≡ Mod a l → p ≡ a →
      new ≡ marked (T p) 0 ms → new ≡ marked (T t) 0 ms
  mod-marks t a p l ms new e f h =
      one-marks (T t) (T p) (λ n. ap (term_has param n) (e ∙ sym (ap (λ x. Mod x l) f))
      ∙ term-is n (CTerm-F.Mod p l) (Mod p l) (rolls-Mod p l)) ms new h

  pub ite-marks : (t a b p q : CTerm) (c d : CForm) (ms mid most new : List (Option ℕ)) → t ≡ Ite c a b → d ≡ c →
      p ≡ a → q ≡ b → mid ≡ marked (F d) 0 ms → most ≡ marked (T p) 0 mid → new ≡ marked (T q) 0 most →
      new ≡ marked (T t) 0 ms
  ite-marks t a b p q c d ms mid most new e f g i h k l =
      two-marks (T t) (F d) (λ n. T p n || T q n)
      (λ n. ap (term_has param n) (e ∙ sym (ap (λ x. Ite x p q) f ∙ ap (λ x. Ite c x q) g ∙ ap (Ite c a) i))
      ∙ term-is n (CTerm-F.Ite d p q) (Ite d p q) (rolls-Ite d p q)) ms mid new h
      (two-marks (λ n. T p n || T q n) (T p) (T q) (λ n. refl) mid most new k l)

  pub top-marks : (f : CForm) (ms : List (Option ℕ)) → f ≡ Top → ms ≡ marked (F f) 0 ms
  top-marks f ms e = none-marks (F f) (λ n. ap (form_has param n) e ∙ form-is n CForm-F.Top Top rolls-Top) ms

  pub bottom-marks : (f : CForm) (ms : List (Option ℕ)) → f ≡ Bottom → ms ≡ marked (F f) 0 ms
  bottom-marks f ms e =
      none-marks (F f) (λ n. ap (form_has param n) e ∙ form-is n CForm-F.Bottom Bottom rolls-Bottom) ms

  pub least-marks : (f : CForm) (t : CTerm) (ms new : List (Option ℕ)) → f ≡ AtLeast t → new ≡ marked (T t) 0 ms →
      new ≡ marked (F f) 0 ms
  least-marks f t ms new e h =
      one-marks (F f) (T t) (λ n. ap (form_has param n) e
      ∙ form-is n (CForm-F.AtLeast t) (AtLeast t) (rolls-AtLeast t)) ms new h

  pub zero-marks : (f : CForm) (t : CTerm) (ms new : List (Option ℕ)) → f ≡ Zero t → new ≡ marked (T t) 0 ms →
      new ≡ marked (F f) 0 ms
  zero-marks f t ms new e h =
      one-marks (F f) (T t) (λ n. ap (form_has param n) e ∙ form-is n (CForm-F.Zero t) (Zero t) (rolls-Zero t)) ms new h

  pub not-marks : (f g p : CForm) (ms new : List (Option ℕ)) → f ≡ Not g → p ≡ g → new ≡ marked (F p) 0 ms →
      new ≡ marked (F f) 0 ms
  not-marks f g p ms new e d h =
      one-marks (F f) (F p) (λ n. ap (form_has param n) (e ∙ sym (ap Not d))
      ∙ form-is n (CForm-F.Not p) (Not p) (rolls-Not p)) ms new h

  pub and-marks : (f g h p q : CForm) (ms mid new : List (Option ℕ)) → f ≡ And g h → p ≡ g → q ≡ h →
      mid ≡ marked (F p) 0 ms → new ≡ marked (F q) 0 mid → new ≡ marked (F f) 0 ms
  and-marks f g h p q ms mid new e d i k l =
      two-marks (F f) (F p) (F q) (λ n. ap (form_has param n) (e ∙ sym (ap (λ x. And x q) d ∙ ap (And g) i))
      ∙ form-is n (CForm-F.And p q) (And p q) (rolls-And p q)) ms mid new k l

  pub or-marks : (f g h p q : CForm) (ms mid new : List (Option ℕ)) → f ≡ Or g h → p ≡ g → q ≡ h →
      mid ≡ marked (F p) 0 ms → new ≡ marked (F q) 0 mid → new ≡ marked (F f) 0 ms
  or-marks f g h p q ms mid new e d i k l =
      two-marks (F f) (F p) (F q) (λ n. ap (form_has param n) (e ∙ sym (ap (λ x. Or x q) d ∙ ap (Or g) i))
      ∙ form-is n (CForm-F.Or p q) (Or p q) (rolls-Or p q)) ms mid new k l

-- The loop that picks variables.
picked-cons : (param : Bool) (m : Option ℕ) (r : Range) (ms : List (Option ℕ)) (rs : List Range) →
    picked param (m ∷ ms) (r ∷ rs) ≡ picked param (m ∷ []) (r ∷ []) ++ picked param ms rs
picked-cons param None r ms rs = refl
picked-cons param (Some n) r ms rs = refl

picked-next : (param : Bool) (ms : List (Option ℕ)) (rs : List Range) (i : ℕ) (m : Option ℕ) (d : Range) →
    length ms ≡ length rs → i < length rs →
    picked param (drop i ms) (drop i rs) ≡ picked param (slice_index_or ms i m ∷ []) (slice_index_or rs i d ∷ [])
    ++ picked param (drop (i + 1) ms) (drop (i + 1) rs)
picked-next param [] rs i m d e h = absurd (omega arith)
picked-next param (x ∷ ms) [] i m d e h = absurd (omega arith)
picked-next param (x ∷ ms) (r ∷ rs) zero m d e h = picked-cons param x r ms rs
picked-next param (x ∷ ms) (r ∷ rs) (suc i) m d e h =
    let k : suc i + 1 ≡ suc (i + 1) = omega arith in
    picked-next param ms rs i m d (omega arith) (omega arith)
    ∙ ap (λ n. picked param (slice_index_or ms i m ∷ []) (slice_index_or rs i d ∷ [])
    ++ picked param (drop n (x ∷ ms)) (drop n (r ∷ rs))) (sym k)

pub picked-more : (param : Bool) (ms : List (Option ℕ)) (rs : List Range) (i : ℕ) (m : Option ℕ) (d : Range)
    (old new all : List Variable) → length ms ≡ length rs → i < length rs →
    new ≡ old ++ picked param (slice_index_or ms i m ∷ []) (slice_index_or rs i d ∷ []) →
    old ++ picked param (drop i ms) (drop i rs) ≡ all →
    new ++ picked param (drop (i + 1) ms) (drop (i + 1) rs) ≡ all
picked-more param ms rs i m d old new all e h n k =
    ap (λ x. x ++ picked param (drop (i + 1) ms) (drop (i + 1) rs)) n
    ∙ append_assoc old (picked param (slice_index_or ms i m ∷ []) (slice_index_or rs i d ∷ []))
    (picked param (drop (i + 1) ms) (drop (i + 1) rs))
    ∙ ap (λ x. old ++ x) (sym (picked-next param ms rs i m d e h)) ∙ k

pub ruleset picked_laws = picked-more

-- What is picked is what occurs.
picked-test : (b : Bool) (param : Bool) (k : ℕ) (ms : List (Option ℕ)) (r : Range) (rs : List Range)
    (vs : List Variable) → picked param ms rs ≡ vs →
    picked param (cond b (Some k) None ∷ ms) (r ∷ rs) ≡ cond b (record { param = param; number = k; range = r } ∷ vs) vs
picked-test true param k ms r rs vs e = ap (λ x. record { param = param; number = k; range = r } ∷ x) e
picked-test false param k ms r rs vs e = e

picked-occurring : (f : CForm) (param : Bool) (k : ℕ) (rs : List Range) →
    picked param (marked (λ n. form_has param n f) k (no_marks rs)) rs ≡ occurring f (numbered param k rs)
picked-occurring f param k [] = refl
picked-occurring f param k (r ∷ rs) =
    picked-test (form_has param k f) param k (marked (λ n. form_has param n f) (suc k) (no_marks rs)) r rs
    (occurring f (numbered param (suc k) rs)) (picked-occurring f param (suc k) rs)

marked-length : (p : ℕ → Bool) (k : ℕ) (ms : List (Option ℕ)) → length (marked p k ms) ≡ length ms
marked-length p k [] = refl
marked-length p k (m ∷ ms) = ap suc (marked-length p (suc k) ms)

no_marks-length : (rs : List Range) → length (no_marks rs) ≡ length rs
no_marks-length [] = refl
no_marks-length (r ∷ rs) = ap suc (no_marks-length rs)

-- the same, as the code meets them
pub marks-long : (p : ℕ → Bool) (rs : List Range) (ms new : List (Option ℕ)) → ms ≡ no_marks rs →
    new ≡ marked p 0 ms → length new ≡ length rs
marks-long p rs ms new e h = ap length h ∙ marked-length p 0 ms ∙ ap length e ∙ no_marks-length rs

pub marks-pick : (f : CForm) (param : Bool) (rs : List Range) (ms new : List (Option ℕ)) → ms ≡ no_marks rs →
    new ≡ marked (λ n. form_has param n f) 0 ms →
    picked param new rs ≡ occurring f (numbered param 0 rs)
marks-pick f param rs ms new e h =
    ap (λ x. picked param x rs) (h ∙ ap (marked (λ n. form_has param n f) 0) e) ∙ picked-occurring f param 0 rs
