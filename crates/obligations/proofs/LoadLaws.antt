-- The loads of terms and formulas bound what linearisation adds.
use Rattle.std.proofs.Common.{le_refl, subst, ◌≡◌, ℕ, zero, suc, ◌+◌, ◌*◌, ◌<◌, ◌≤◌, ◌^◌, max, ℤ, pos, negsuc, neg_ℤ}
use Rattle.std.proofs.Common.{◌+ℤ◌, ◌*ℤ◌, true, false, List, [], ◌∷◌, length, arith, refl, sym, ap, ◌∙◌, mul-le-mul}
use Rattle.std.proofs.Common.{FitsSigned, to_z, of_z}
use Rattle.std.proofs.lemmas.Int.{ints, unsigned_abs-mul, to_z-of_z}
use mir.Syntax.{w128}
use Rattle.std.proofs.Math.Nat.{mul-add}
use Rattle.std.specs.Int.RustNames.{unsigned_abs}
use lib.IntN.{*ℤ_comm, *ℤ-zero}
use Rattle.core_terms.specs.declared.trees.CTerm.{CTerm, roll-CTerm, ind-CTerm}
use Rattle.core_terms.specs.declared.trees.CTerm.TheVariants.{Const, Slot, Param, Add, Sub, Scale, Ite, Div, Mod}
use Rattle.core_terms.specs.declared.trees.CTerm.TheVariants.{rolls-Const, rolls-Div, rolls-Mod}
use Rattle.core_terms.specs.declared.trees.CTerm.TheVariants.{rolls-Slot, rolls-Param, rolls-Add, rolls-Sub}
use Rattle.core_terms.specs.declared.trees.CTerm.TheVariants.{rolls-Scale, rolls-Ite}
use Rattle.core_terms.specs.declared.trees.CForm.{CForm}
use Rattle.core_terms.specs.declared.trees.CForm.TheFolds.{map-CTerm}
use Rattle.core_terms.specs.declared.trees.CForm.TheOpen.{CTerm-F}
use Rattle.obligations.specs.declared.branches.Variable.{Variable}
use Rattle.obligations.specs.declared.branches.Line.{Line}
use Rattle.obligations.specs.LinearForms.{add_at, zeros, place_of, plus, line_plus, line_of_const, line_of_place}
use Rattle.obligations.specs.LinearForms.{linear}
use Rattle.obligations.specs.Load.{sizes, norm, Load, term_load_step, form_load_step, term_load, in_limit}
use Rattle.obligations.proofs.RingLaws.{times-add, times-times}
use Rattle.obligations.proofs.SettlingLaws.{term_fold, linear-long, linear-Const, linear-Slot, linear-Param, linear-Add}
use Rattle.obligations.proofs.SettlingLaws.{linear-Sub, linear-Scale, linear-Ite, linear-Div, linear-Mod}
use Rattle.obligations.proofs.LineLaws.{length-plus, length-zeros}

ring : (k j x y z : ℤ) → x +ℤ k *ℤ (y +ℤ j *ℤ z) ≡ (x +ℤ k *ℤ y) +ℤ (k *ℤ j) *ℤ z
ring k j x y z = let a = times-add k y (j *ℤ z) in let b = times-times k j z in omega (arith, ints, a, b)

pub plus-plus : (k j : ℤ) (xs ys zs : List ℤ) → length ys ≡ length xs → length zs ≡ length xs →
    plus k xs (plus j ys zs) ≡ plus (k *ℤ j) (plus k xs ys) zs
plus-plus k j [] [] [] p q = refl
plus-plus k j [] [] (z ∷ zs) p q = refl
plus-plus k j [] (y ∷ ys) zs p q = absurd (omega arith)
plus-plus k j (x ∷ xs) [] zs p q = absurd (omega arith)
plus-plus k j (x ∷ xs) (y ∷ ys) [] p q = absurd (omega arith)
plus-plus k j (x ∷ xs) (y ∷ ys) (z ∷ zs) p q =
    ap (λ u. u ∷ plus k xs (plus j ys zs)) (ring k j x y z)
    ∙ ap (λ us. ((x +ℤ k *ℤ y) +ℤ (k *ℤ j) *ℤ z) ∷ us) (plus-plus k j xs ys zs (omega arith) (omega arith))

pub line-same : (a b : Line) → a.factors ≡ b.factors → a.constant ≡ b.constant → a ≡ b
line-same a b p q =
    ap (λ x. record { factors = x; constant = a.constant }) p ∙ ap (λ x. record { factors = b.factors; constant = x }) q

pub line-plus : (k j : ℤ) (a b c : Line) → length b.factors ≡ length a.factors → length c.factors ≡ length a.factors →
    line_plus k a (line_plus j b c) ≡ line_plus (k *ℤ j) (line_plus k a b) c
line-plus k j a b c p q =
    line-same _ _ (plus-plus k j a.factors b.factors c.factors p q) (ring k j a.constant b.constant c.constant)

pub plus-zeros : (k : ℤ) {A : Type 0} (vs : List A) (xs : List ℤ) → plus k xs (zeros vs) ≡ xs
plus-zeros k [] [] = refl
plus-zeros k [] (x ∷ xs) = refl
plus-zeros k (v ∷ vs) [] = refl
plus-zeros k (v ∷ vs) (x ∷ xs) =
    let z : k *ℤ pos 0 ≡ pos 0 = *ℤ-zero k in ap (λ u. u ∷ plus k xs (zeros vs)) (omega (arith, ints, z))
    ∙ ap (λ us. x ∷ us) (plus-zeros k vs xs)

pub plus-unit : (k : ℤ) {A : Type 0} (vs : List A) (xs : List ℤ) (n : ℕ) → length xs ≡ length vs →
    plus k xs (add_at (zeros vs) n (pos 1)) ≡ add_at xs n k
plus-unit k [] [] n e = refl
plus-unit k [] (x ∷ xs) n e = absurd (omega arith)
plus-unit k (v ∷ vs) [] n e = absurd (omega arith)
plus-unit k (v ∷ vs) (x ∷ xs) zero e =
    let o : x +ℤ k *ℤ (pos 0 +ℤ pos 1) ≡ x +ℤ k = omega (arith, ints) in
    ap (λ u. u ∷ plus k xs (zeros vs)) o ∙ ap (λ us. (x +ℤ k) ∷ us) (plus-zeros k vs xs)
plus-unit k (v ∷ vs) (x ∷ xs) (suc n) e =
    let z : x +ℤ k *ℤ pos 0 ≡ x = (let y : k *ℤ pos 0 ≡ pos 0 = *ℤ-zero k in omega (arith, ints, y)) in
    ap (λ u. u ∷ plus k xs (add_at (zeros vs) n (pos 1))) z ∙ ap (λ us. x ∷ us) (plus-unit k vs xs n (omega arith))

abs-plus : (a b : ℤ) → unsigned_abs (a +ℤ b) ≤ unsigned_abs a + unsigned_abs b
abs-plus (pos a) (pos b) = omega (arith, ints)
abs-plus (pos a) (negsuc b) = grind (arith, ints)
abs-plus (negsuc a) (pos b) = grind (arith, ints)
abs-plus (negsuc a) (negsuc b) = omega (arith, ints)

sizes-plus : (k : ℤ) (xs ys : List ℤ) → sizes (plus k xs ys) ≤ sizes xs + unsigned_abs k * sizes ys
sizes-plus k [] ys = omega arith
sizes-plus k (x ∷ xs) [] = omega arith
sizes-plus k (x ∷ xs) (y ∷ ys) =
    let a = abs-plus x (k *ℤ y) in let m = unsigned_abs-mul k y in let ih = sizes-plus k xs ys in let d = mul-add
    (unsigned_abs k) (unsigned_abs y) (sizes ys) in
    omega (arith, a, m, ih, d)

pub norm-plus : (k : ℤ) (a b : Line) → norm (line_plus k a b) ≤ norm a + unsigned_abs k * norm b
norm-plus k a b =
    let s = sizes-plus k a.factors b.factors in let c = abs-plus a.constant
    (k *ℤ b.constant) in let m = unsigned_abs-mul k b.constant in
    let d = mul-add (unsigned_abs k) (sizes b.factors) (unsigned_abs b.constant) in omega (arith, s, c, m, d)

pub sizes-zeros : {A : Type 0} (vs : List A) → sizes (zeros vs) ≡ 0
sizes-zeros [] = refl
sizes-zeros (v ∷ vs) = let ih = sizes-zeros vs in omega (arith, ih)

sizes-unit : {A : Type 0} (vs : List A) (n : ℕ) → sizes (add_at (zeros vs) n (pos 1)) ≤ 1
sizes-unit [] n = omega arith
sizes-unit (v ∷ vs) zero = let z = sizes-zeros vs in omega (arith, z)
sizes-unit (v ∷ vs) (suc n) = let ih = sizes-unit vs n in omega (arith, ih)

-- a term's own load, by its head
abbrev W : CTerm → ℕ
W t = (term_load t).own

pub load-Const : (c : ℤ) → W (Const c) ≡ unsigned_abs c
load-Const c =
    ap (λ (l : Load). l.own) (term_fold form_load_step term_load_step (CTerm-F.Const c) (Const c) (rolls-Const c))

pub load-Slot : (n : ℕ) → W (Slot n) ≡ 1
load-Slot n =
    ap (λ (l : Load). l.own) (term_fold form_load_step term_load_step (CTerm-F.Slot n) (Slot n) (rolls-Slot n))

pub load-Param : (n : ℕ) → W (Param n) ≡ 1
load-Param n =
    ap (λ (l : Load). l.own) (term_fold form_load_step term_load_step (CTerm-F.Param n) (Param n) (rolls-Param n))

pub load-Add : (a b : CTerm) → W (Add a b) ≡ W a + W b
load-Add a b =
    ap (λ (l : Load). l.own) (term_fold form_load_step term_load_step (CTerm-F.Add a b) (Add a b) (rolls-Add a b))

pub load-Sub : (a b : CTerm) → W (Sub a b) ≡ W a + W b
load-Sub a b =
    ap (λ (l : Load). l.own) (term_fold form_load_step term_load_step (CTerm-F.Sub a b) (Sub a b) (rolls-Sub a b))

pub load-Scale : (k : ℤ) (a : CTerm) → W (Scale k a) ≡ unsigned_abs k * W a
load-Scale k a =
    ap (λ (l : Load). l.own) (term_fold form_load_step term_load_step (CTerm-F.Scale k a) (Scale k a) (rolls-Scale k a))

pub load-Ite : (c : CForm) (a b : CTerm) → W (Ite c a b) ≡ max (W a) (W b)
load-Ite c a b =
    ap (λ (l : Load). l.own) (term_fold form_load_step term_load_step (CTerm-F.Ite c a b) (Ite c a b) (rolls-Ite c a b))

module _ (vs : List Variable) where
  abbrev M : CTerm → Type 0
  M t = norm (linear vs t) ≤ W t

  abbrev SomeTerm : Type 0
  SomeTerm = (t : CTerm) × M t

  abbrev AnyForm : Type 0
  AnyForm = (f : CForm) × Unit {0}

  none-load : (t : CTerm) → linear vs t ≡ line_of_const vs (pos 0) → M t
  none-load t e = let n : norm (linear vs t) ≡ norm (line_of_const vs (pos 0)) = ap norm e in
      let z = sizes-zeros vs in omega (arith, n, z)

  from : (t : CTerm) (l : Line) (w : ℕ) → linear vs t ≡ l → W t ≡ w → norm l ≤ w → M t
  from t l w p q h = let n : norm (linear vs t) ≡ norm l = ap norm p in omega (arith, n, q, h)

  load_layer : (y : CTerm-F AnyForm SomeTerm) →
      M (roll-CTerm (map-CTerm AnyForm SomeTerm CForm CTerm (λ e. e.0) (λ e. e.0) y))
  load_layer (CTerm-F.Const c) =
      subst M (sym (rolls-Const c)) (from (Const c) _ _ (linear-Const vs c) (load-Const c)
      (let z = sizes-zeros vs in omega (arith, z)))
  load_layer (CTerm-F.Slot n) =
      subst M (sym (rolls-Slot n)) (from (Slot n) _ _ (linear-Slot vs n) (load-Slot n)
      (let u = sizes-unit vs (place_of vs false n) in omega (arith, u)))
  load_layer (CTerm-F.Param n) =
      subst M (sym (rolls-Param n)) (from (Param n) _ _ (linear-Param vs n) (load-Param n)
      (let u = sizes-unit vs (place_of vs true n) in omega (arith, u)))
  load_layer (CTerm-F.Add a b) =
      subst M (sym (rolls-Add a.0 b.0)) (from (Add a.0 b.0) _ _ (linear-Add vs a.0 b.0) (load-Add a.0 b.0)
      (let n = norm-plus (pos 1) (linear vs a.0) (linear vs b.0) in let p = a.1 in let q = b.1 in omega
      (arith, n, p, q)))
  load_layer (CTerm-F.Sub a b) =
      subst M (sym (rolls-Sub a.0 b.0)) (from (Sub a.0 b.0) _ _ (linear-Sub vs a.0 b.0) (load-Sub a.0 b.0)
      (let n = norm-plus (negsuc 0) (linear vs a.0) (linear vs b.0) in let p = a.1 in let q = b.1 in omega
      (arith, n, p, q)))
  load_layer (CTerm-F.Scale k a) =
      subst M (sym (rolls-Scale k a.0)) (from (Scale k a.0) _ _ (linear-Scale vs k a.0) (load-Scale k a.0)
      (let n = norm-plus k (line_of_const vs (pos 0)) (linear vs a.0) in let z = sizes-zeros vs in let m = mul-le-mul
      (le_refl (unsigned_abs k)) a.1 in omega (arith, n, z, m)))
  load_layer (CTerm-F.Ite c a b) =
      subst M (sym (rolls-Ite c.0 a.0 b.0)) (from (Ite c.0 a.0 b.0) _ _ (linear-Ite vs c.0 a.0 b.0)
      (load-Ite c.0 a.0 b.0) (let z = sizes-zeros vs in omega (arith, z)))
  load_layer (CTerm-F.Div a k) = subst M (sym (rolls-Div a.0 k)) (none-load (Div a.0 k) (linear-Div vs a.0 k))
  load_layer (CTerm-F.Mod a k) = subst M (sym (rolls-Mod a.0 k)) (none-load (Mod a.0 k) (linear-Mod vs a.0 k))

  -- a term's linear form is within its load
  pub norm-load : (t : CTerm) → norm (linear vs t) ≤ W t
  norm-load t = ind-CTerm (λ f. Unit {0}) M (λ x y e. tt) (λ x y e. subst (λ z. M (roll-CTerm z)) e (load_layer y)) t

times-one : (k : ℤ) → k *ℤ pos 1 ≡ k
times-one k = omega (arith, ints)

times-minus : (k : ℤ) → k *ℤ negsuc 0 ≡ neg_ℤ k
times-minus k = omega (arith, ints)

pub add-Const : (vs : List Variable) (k c : ℤ) (sum new : Line) → new.factors ≡ sum.factors →
    new.constant ≡ sum.constant +ℤ k *ℤ c → new ≡ line_plus k sum (linear vs (Const c))
add-Const vs k c sum new f n =
    line-same new (line_plus k sum (line_of_const vs c)) (f ∙ sym (plus-zeros k vs sum.factors)) n
    ∙ ap (line_plus k sum) (sym (linear-Const vs c))

unit-plus : (vs : List Variable) (k : ℤ) (sum new : Line) (n : ℕ) → length sum.factors ≡ length vs →
    new.factors ≡ add_at sum.factors n k → new.constant ≡ sum.constant → new ≡ line_plus k sum (line_of_place vs n)
unit-plus vs k sum new n l e d =
    line-same new (line_plus k sum (line_of_place vs n)) (e ∙ sym (plus-unit k vs sum.factors n l))
    (d ∙ (let z : k *ℤ pos 0 ≡ pos 0 = *ℤ-zero k in omega (arith, ints, z)))

pub add-Slot : (vs : List Variable) (k : ℤ) (sum new : Line) (n : ℕ) → length sum.factors ≡ length vs →
    new.factors ≡ add_at sum.factors (place_of vs false n) k → new.constant ≡ sum.constant →
    new ≡ line_plus k sum (linear vs (Slot n))
add-Slot vs k sum new n l e d =
    unit-plus vs k sum new (place_of vs false n) l e d ∙ ap (line_plus k sum) (sym (linear-Slot vs n))

pub add-Param : (vs : List Variable) (k : ℤ) (sum new : Line) (n : ℕ) → length sum.factors ≡ length vs →
    new.factors ≡ add_at sum.factors (place_of vs true n) k → new.constant ≡ sum.constant →
    new ≡ line_plus k sum (linear vs (Param n))
add-Param vs k sum new n l e d =
    unit-plus vs k sum new (place_of vs true n) l e d ∙ ap (line_plus k sum) (sym (linear-Param vs n))

pub add-Add : (vs : List Variable) (k : ℤ) (sum one new : Line) (a b : CTerm) → length sum.factors ≡ length vs →
    one ≡ line_plus k sum (linear vs a) → new ≡ line_plus k one (linear vs b) →
    new ≡ line_plus k sum (linear vs (Add a b))
add-Add vs k sum one new a b l p q =
    q ∙ ap (λ x. line_plus k x (linear vs b)) p ∙ ap (λ j. line_plus j (line_plus k sum (linear vs a)) (linear vs b))
    (sym (times-one k))
    ∙ sym (line-plus k (pos 1) sum (linear vs a) (linear vs b) (linear-long vs a ∙ sym l) (linear-long vs b ∙ sym l))
    ∙ ap (line_plus k sum) (sym (linear-Add vs a b))

pub add-Sub : (vs : List Variable) (k j : ℤ) (sum one new : Line) (a b : CTerm) → length sum.factors ≡ length vs →
    j ≡ neg_ℤ k → one ≡ line_plus k sum (linear vs a) → new ≡ line_plus j one (linear vs b) →
    new ≡ line_plus k sum (linear vs (Sub a b))
add-Sub vs k j sum one new a b l e p q =
    q ∙ ap (λ x. line_plus j x (linear vs b)) p ∙ ap (λ j. line_plus j (line_plus k sum (linear vs a)) (linear vs b))
    (e ∙ sym (times-minus k))
    ∙ sym (line-plus k (negsuc 0) sum (linear vs a) (linear vs b) (linear-long vs a ∙ sym l) (linear-long vs b ∙ sym l))
    ∙ ap (line_plus k sum) (sym (linear-Sub vs a b))

plus-nothing : (vs : List Variable) (k : ℤ) (sum : Line) → line_plus k sum (line_of_const vs (pos 0)) ≡ sum
plus-nothing vs k sum =
    line-same (line_plus k sum (line_of_const vs (pos 0))) sum (plus-zeros k vs sum.factors)
    (let z : k *ℤ pos 0 ≡ pos 0 = *ℤ-zero k in omega (arith, ints, z))

pub add-Scale : (vs : List Variable) (k j m : ℤ) (sum new : Line) (a : CTerm) → length sum.factors ≡ length vs →
    m ≡ j *ℤ k → new ≡ line_plus m sum (linear vs a) → new ≡ line_plus k sum (linear vs (Scale j a))
add-Scale vs k j m sum new a l e q =
    q ∙ ap (λ i. line_plus i sum (linear vs a)) (e ∙ *ℤ_comm j k)
    ∙ ap (λ s. line_plus (k *ℤ j) s (linear vs a)) (sym (plus-nothing vs k sum))
    ∙ sym (line-plus k j sum (line_of_const vs (pos 0)) (linear vs a) (length-zeros vs ∙ sym l)
    (linear-long vs a ∙ sym l)) ∙ ap (line_plus k sum) (sym (linear-Scale vs j a))

pub add-Ite : (vs : List Variable) (k : ℤ) (sum : Line) (c : CForm) (a b : CTerm) →
    sum ≡ line_plus k sum (linear vs (Ite c a b))
add-Ite vs k sum c a b = sym (plus-nothing vs k sum) ∙ ap (line_plus k sum) (sym (linear-Ite vs c a b))

pub add-Div : (vs : List Variable) (k : ℤ) (sum : Line) (a : CTerm) (d : ℤ) →
    sum ≡ line_plus k sum (linear vs (Div a d))
add-Div vs k sum a d = sym (plus-nothing vs k sum) ∙ ap (line_plus k sum) (sym (linear-Div vs a d))

pub add-Mod : (vs : List Variable) (k : ℤ) (sum : Line) (a : CTerm) (d : ℤ) →
    sum ≡ line_plus k sum (linear vs (Mod a d))
add-Mod vs k sum a d = sym (plus-nothing vs k sum) ∙ ap (line_plus k sum) (sym (linear-Mod vs a d))

-- a term of load 0 has no factor, however great its own factor would be
zero-plus : (k : ℤ) (xs ys : List ℤ) → sizes ys ≡ 0 → plus k xs ys ≡ xs
zero-plus k [] ys e = refl
zero-plus k (x ∷ xs) [] e = refl
zero-plus k (x ∷ xs) (y ∷ ys) e =
    let n : y ≡ pos 0 = abs-none y (omega (arith, e)) in
    let z : k *ℤ y ≡ pos 0 = ap (λ v. k *ℤ v) n ∙ *ℤ-zero k in
    let s : x +ℤ k *ℤ y ≡ x = omega (arith, ints, z) in
    ap (λ u. u ∷ plus k xs ys) s ∙ ap (λ us. x ∷ us) (zero-plus k xs ys (omega (arith, e)))
  where
    abs-none : (y : ℤ) → unsigned_abs y ≡ 0 → y ≡ pos 0
    abs-none (pos n) h = ap pos h
    abs-none (negsuc n) h = absurd (omega arith)

-- what remains for the second part of a sum
room-two : (vs : List Variable) (k : ℤ) (a b : CTerm) (sum one : Line) (bound : ℕ) →
    one ≡ line_plus k sum (linear vs a) → norm sum + unsigned_abs k * (W a + W b) ≤ bound →
    norm one + unsigned_abs k * W b ≤ bound
room-two vs k a b sum one bound e h =
    let n = norm-plus k sum (linear vs a) in
    let m = mul-le-mul (le_refl (unsigned_abs k)) (norm-load vs a) in
    let d = mul-add (unsigned_abs k) (W a) (W b) in
    let o : norm one ≡ norm (line_plus k sum (linear vs a)) = ap norm e in
    omega (arith, n, m, d, o, h)

pub long-after : (vs : List Variable) (k : ℤ) (l sum one : Line) → one ≡ line_plus k sum l →
    length sum.factors ≡ length vs → length one.factors ≡ length vs
long-after vs k l sum one e h = ap (λ (x : Line). length x.factors) e ∙ length-plus k sum.factors l.factors ∙ h

pub room-Add : (vs : List Variable) (k : ℤ) (a b t : CTerm) (sum one : Line) (bound : ℕ) → t ≡ Add a b →
    one ≡ line_plus k sum (linear vs a) → norm sum + unsigned_abs k * W t ≤ bound →
    norm one + unsigned_abs k * W b ≤ bound
room-Add vs k a b t sum one bound e o h =
    room-two vs k a b sum one bound o (subst (λ n. norm sum + unsigned_abs k * n ≤ bound) (ap W e ∙ load-Add a b) h)

pub abs-opposite : (k : ℤ) → unsigned_abs (neg_ℤ k) ≡ unsigned_abs k
abs-opposite (pos n) = grind (arith, ints)
abs-opposite (negsuc n) = grind (arith, ints)

pub room-Sub : (vs : List Variable) (k j : ℤ) (a b t : CTerm) (sum one : Line) (bound : ℕ) → t ≡ Sub a b → j ≡ neg_ℤ k →
    one ≡ line_plus k sum (linear vs a) → norm sum + unsigned_abs k * W t ≤ bound →
    norm one + unsigned_abs j * W b ≤ bound
room-Sub vs k j a b t sum one bound e s o h =
    subst (λ n. norm one + n * W b ≤ bound) (sym (ap unsigned_abs s ∙ abs-opposite k))
    (room-two vs k a b sum one bound o (subst (λ n. norm sum + unsigned_abs k * n ≤ bound) (ap W e ∙ load-Sub a b) h))

swapped : (a b c : ℕ) → (a * b) * c ≡ b * (a * c)
swapped a b c = grind arith

pub room-Scale : (k j m : ℤ) (a t : CTerm) (sum : Line) (bound : ℕ) → t ≡ Scale j a → m ≡ j *ℤ k →
    norm sum + unsigned_abs k * W t ≤ bound → norm sum + unsigned_abs m * W a ≤ bound
room-Scale k j m a t sum bound e s h =
    let u = ap unsigned_abs s ∙ unsigned_abs-mul j k in
    let v : unsigned_abs m * W a ≡ unsigned_abs k * (unsigned_abs j * W a) = ap (λ n. n * W a) u
    ∙ swapped (unsigned_abs j) (unsigned_abs k) (W a) in
    let w : unsigned_abs k * W t ≡ unsigned_abs k * (unsigned_abs j * W a) = ap (λ n. unsigned_abs k * n)
    (ap W e ∙ load-Scale j a) in
    omega (arith, v, w, h)

-- a product past the limit is that of a term of load 0
too-great : (p w : ℕ) → 2 ^ 126 < p → p * w ≤ 2 ^ 126 → w ≡ 0
too-great p zero h k = refl
too-great p (suc w) h k = absurd (let e : p * suc w ≡ p + p * w = grind arith in omega (arith, e, h, k))

pub add-nothing : (vs : List Variable) (k j : ℤ) (a t : CTerm) (sum : Line) → t ≡ Scale j a →
    length sum.factors ≡ length vs → 2 ^ 126 < unsigned_abs (j *ℤ k) → norm sum + unsigned_abs k * W t ≤ 2 ^ 126 →
    sum ≡ line_plus k sum (linear vs t)
add-nothing vs k j a t sum e l g h =
    let r = room-Scale k j (j *ℤ k) a t sum (2 ^ 126) e refl h in
    let w : W a ≡ 0 = too-great (unsigned_abs (j *ℤ k)) (W a) g (omega (arith, r)) in
    let n : norm (linear vs a) ≡ 0 = (let m = norm-load vs a in omega (arith, m, w)) in
    let c : (linear vs a).constant ≡ pos 0 = abs-none (linear vs a).constant (omega (arith, n)) in
    let z : (j *ℤ k) *ℤ (linear vs a).constant ≡ pos 0 = ap (λ x. (j *ℤ k) *ℤ x) c ∙ *ℤ-zero (j *ℤ k) in
    add-Scale vs k j (j *ℤ k) sum sum a l refl
    (line-same sum (line_plus (j *ℤ k) sum (linear vs a))
    (sym (zero-plus (j *ℤ k) sum.factors (linear vs a).factors (omega (arith, n)))) (omega (arith, ints, z)))
    ∙ ap (λ x. line_plus k sum (linear vs x)) (sym e)
  where
    abs-none : (y : ℤ) → unsigned_abs y ≡ 0 → y ≡ pos 0
    abs-none (pos n) h = ap pos h
    abs-none (negsuc n) h = absurd (omega arith)

fits-small : (z : ℤ) → unsigned_abs z ≤ 2 ^ 126 → FitsSigned w128 z
fits-small (pos n) h = omega (arith, h)
fits-small (negsuc n) h = omega (arith, h)

-- a small number is its own reading
pub trip-small : (z : ℤ) → unsigned_abs z ≤ 2 ^ 126 → to_z w128 (of_z w128 z) ≡ z
trip-small z h = to_z-of_z w128 z (fits-small z h)

pub small-is : (z : ℤ) → in_limit z ≡ true → unsigned_abs z ≤ 2 ^ 126
small-is z e = grind arith

pub great-is : (z : ℤ) → in_limit z ≡ false → 2 ^ 126 < unsigned_abs z
great-is z e = grind arith
