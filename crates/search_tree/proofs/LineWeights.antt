-- A linear form weighs no more than its term, and no value of it is further from 0 than its weight.
use Rattle.std.proofs.Common.{◌≡◌, le_refl, mul-le-mul, ℕ, zero, suc, ◌+◌, ◌*◌, ◌/◌, ◌≤◌, ◌<◌, max, nat_le, ℤ, pos}
use Rattle.std.proofs.Common.{negsuc, ◌+ℤ◌}
use Rattle.std.proofs.Common.{◌*ℤ◌, Bool, true, false, cond, List, [], ◌∷◌, length, arith, refl, sym, ap}
use Rattle.std.proofs.Common.{subst}
use Rattle.std.proofs.Math.Nat.{mul-add, mul-div-le, div-le_of_le-mul, lt_of_mul-lt-mul_left}
use Rattle.std.specs.Int.{int_div_euclid}
use Rattle.std.specs.Int.RustNames.{unsigned_abs}
use Rattle.std.proofs.lemmas.Int.{unsigned_abs-mul}
use Rattle.core_terms.specs.declared.trees.CTerm.{CTerm, ind-CTerm, roll-CTerm}
use Rattle.core_terms.specs.declared.trees.CTerm.TheVariants.{Const, Slot, Param, Add, Sub, Scale, Ite, Div, Mod}
use Rattle.core_terms.specs.declared.trees.CTerm.TheVariants.{rolls-Const, rolls-Slot, rolls-Param, rolls-Add}
use Rattle.core_terms.specs.declared.trees.CTerm.TheVariants.{rolls-Sub, rolls-Scale, rolls-Ite, rolls-Div, rolls-Mod}
use Rattle.core_terms.specs.declared.trees.CForm.{CForm}
use Rattle.core_terms.specs.declared.trees.CForm.TheOpen.{CTerm-F}
use Rattle.core_terms.specs.declared.trees.CForm.TheFolds.{map-CTerm}
use Rattle.core_terms.specs.Values.{number_at}
use Rattle.meaning_states.specs.State.{int_eq}
use Rattle.obligations.specs.declared.branches.Line.{Line}
use Rattle.obligations.specs.declared.branches.Variable.{Variable}
use Rattle.obligations.specs.LinearForms.{add_at, zeros, place_of, plus, linear, line_of_const, line_plus, sparse}
use Rattle.obligations.specs.LinearForms.{sum_of}
use Rattle.obligations.proofs.SettlingLaws.{term_fold, linear-Const, linear-Slot, linear-Param, linear-Add}
use Rattle.obligations.proofs.SettlingLaws.{linear-Sub, linear-Scale, linear-Ite, linear-Div, linear-Mod}
use Rattle.search_tree.specs.Weighing.{Dividends, dividends_step, form_dividends_step, term_dividends, form_dividends}
use Rattle.search_tree.specs.Weighing.{weight_in, Weighs, factors_weight, line_weight}
use Rattle.search_tree.proofs.SlenderLaws.{abs-plus}

weight-plus : (ws : List ℕ) (n : ℕ) (k : ℤ) (xs ys : List ℤ) →
    factors_weight ws n (plus k xs ys) ≤ factors_weight ws n xs + unsigned_abs k * factors_weight ws n ys
weight-plus ws n k [] ys = omega arith
weight-plus ws n k (x ∷ xs) [] = omega arith
weight-plus ws n k (x ∷ xs) (y ∷ ys) =
    let w : ℕ = weight_in ws n in
    let a = abs-plus x (k *ℤ y) in
    let m = unsigned_abs-mul k y in
    let ih = weight-plus ws (suc n) k xs ys in
    let d = mul-add (unsigned_abs k) (unsigned_abs y * w) (factors_weight ws (suc n) ys) in
    let b : unsigned_abs (x +ℤ k *ℤ y) * w ≤ (unsigned_abs x + unsigned_abs k * unsigned_abs y) * w =
    mul-le-mul (omega (arith, a, m)) (le_refl w) in
    omega (arith, b, ih, d)

weight-zeros : {A : Type 0} (ws : List ℕ) (n : ℕ) (vs : List A) → factors_weight ws n (zeros vs) ≡ 0
weight-zeros ws n [] = refl
weight-zeros ws n (v ∷ vs) = let ih = weight-zeros ws (suc n) vs in omega (arith, ih)

weight-unit : {A : Type 0} (ws : List ℕ) (n : ℕ) (vs : List A) (p w : ℕ) →
    (p < length vs → weight_in ws (n + p) ≤ w) → factors_weight ws n (add_at (zeros vs) p (pos 1)) ≤ w
weight-unit ws n [] p w h = omega arith
weight-unit ws n (v ∷ vs) zero w h =
    let z = weight-zeros ws (suc n) vs in
    let same : n + 0 ≡ n = omega arith in
    let k = h (omega arith) in let s = ap (weight_in ws) same in
    omega (arith, z, k, s)
weight-unit ws n (v ∷ vs) (suc p) w h =
    let next : n + suc p ≡ suc n + p = omega arith in
    let ih = weight-unit ws (suc n) vs p w
    (λ k. let l = h (omega (arith, k)) in let s = ap (weight_in ws) next in omega (arith, l, s)) in
    omega (arith, ih)

module _ (vs : List Variable) (ws : List ℕ) (weight : Bool → ℕ → ℕ) (weighs : Weighs vs ws weight) where
  abbrev D : CTerm → Dividends
  D = term_dividends weight

  abbrev M : CTerm → Type 0
  M t = line_weight ws (linear vs t) ≤ (D t).own

  abbrev AnyForm : Type 0
  AnyForm = (f : CForm) × Unit {0}

  abbrev WeighedTerm : Type 0
  WeighedTerm = (t : CTerm) × M t

  from : (x : CTerm-F CForm CTerm) (t : CTerm) (l : Line) → roll-CTerm x ≡ t → linear vs t ≡ l →
      line_weight ws l ≤ (dividends_step weight (map-CTerm CForm CTerm ℕ Dividends (form_dividends weight) D x)).own →
      M t
  from x t l p q h =
      let n = ap (line_weight ws) q in
      let o = ap (λ (y : Dividends). y.own) (term_fold form_dividends_step (dividends_step weight) x t p) in
      omega (arith, n, o, h)

  -- a multiple of one line added to another one
  plus-weight : (k : ℤ) (a b : Line) →
      line_weight ws (line_plus k a b) ≤ line_weight ws a + unsigned_abs k * line_weight ws b
  plus-weight k a b =
      let f = weight-plus ws 0 k a.factors b.factors in
      let c = abs-plus a.constant (k *ℤ b.constant) in
      let m = unsigned_abs-mul k b.constant in
      let d = mul-add (unsigned_abs k) (factors_weight ws 0 b.factors) (unsigned_abs b.constant) in
      omega (arith, f, c, m, d)

  none-weight : (c : ℤ) → line_weight ws (line_of_const vs c) ≡ unsigned_abs c
  none-weight c = let z = weight-zeros ws 0 vs in omega (arith, z)

  place-weight : (param : Bool) (n : ℕ) →
      factors_weight ws 0 (add_at (zeros vs) (place_of vs param n) (pos 1)) + 0 ≤ weight param n
  place-weight param n =
      let w = weight-unit ws 0 vs (place_of vs param n) (weight param n)
      (λ h. let e = weighs param n h in
      let s : 0 + place_of vs param n ≡ place_of vs param n = omega arith in
      let t = ap (weight_in ws) s in omega (arith, e, t)) in
      omega (arith, w)

  weight_layer : (y : CTerm-F AnyForm WeighedTerm) → M (roll-CTerm
      (map-CTerm AnyForm WeighedTerm CForm CTerm (λ e. e.0) (λ e. e.0) y))
  weight_layer (CTerm-F.Const c) = subst M (sym (rolls-Const c)) (from (CTerm-F.Const c) (Const c) _ (rolls-Const c)
      (linear-Const vs c) (let z = none-weight c in omega (arith, z)))
  weight_layer (CTerm-F.Slot n) = subst M (sym (rolls-Slot n)) (from (CTerm-F.Slot n) (Slot n) _ (rolls-Slot n)
      (linear-Slot vs n) (place-weight false n))
  weight_layer (CTerm-F.Param n) = subst M (sym (rolls-Param n)) (from (CTerm-F.Param n) (Param n) _ (rolls-Param n)
      (linear-Param vs n) (place-weight true n))
  weight_layer (CTerm-F.Add a b) = subst M (sym (rolls-Add a.0 b.0)) (from (CTerm-F.Add a.0 b.0) (Add a.0 b.0) _
      (rolls-Add a.0 b.0) (linear-Add vs a.0 b.0)
      (let w = plus-weight (pos 1) (linear vs a.0) (linear vs b.0) in let p = a.1 in let q = b.1 in
      omega (arith, w, p, q)))
  weight_layer (CTerm-F.Sub a b) = subst M (sym (rolls-Sub a.0 b.0)) (from (CTerm-F.Sub a.0 b.0) (Sub a.0 b.0) _
      (rolls-Sub a.0 b.0) (linear-Sub vs a.0 b.0)
      (let w = plus-weight (negsuc 0) (linear vs a.0) (linear vs b.0) in let p = a.1 in let q = b.1 in
      omega (arith, w, p, q)))
  weight_layer (CTerm-F.Scale k a) = subst M (sym (rolls-Scale k a.0)) (from (CTerm-F.Scale k a.0) (Scale k a.0) _
      (rolls-Scale k a.0) (linear-Scale vs k a.0)
      (let w = plus-weight k (line_of_const vs (pos 0)) (linear vs a.0) in let z = none-weight (pos 0) in
      let m = mul-le-mul (le_refl (unsigned_abs k)) a.1 in omega (arith, w, z, m)))
  weight_layer (CTerm-F.Div a k) = subst M (sym (rolls-Div a.0 k)) (from (CTerm-F.Div a.0 k) (Div a.0 k) _
      (rolls-Div a.0 k) (linear-Div vs a.0 k) (let z = none-weight (pos 0) in omega (arith, z)))
  weight_layer (CTerm-F.Mod a k) = subst M (sym (rolls-Mod a.0 k)) (from (CTerm-F.Mod a.0 k) (Mod a.0 k) _
      (rolls-Mod a.0 k) (linear-Mod vs a.0 k) (let z = none-weight (pos 0) in omega (arith, z)))
  weight_layer (CTerm-F.Ite c a b) = subst M (sym (rolls-Ite c.0 a.0 b.0)) (from (CTerm-F.Ite c.0 a.0 b.0)
      (Ite c.0 a.0 b.0) _ (rolls-Ite c.0 a.0 b.0) (linear-Ite vs c.0 a.0 b.0)
      (let z = none-weight (pos 0) in omega (arith, z)))

  -- with each weight of names that gives the variables theirs
  pub line-within : (t : CTerm) → line_weight ws (linear vs t) ≤ (D t).own
  line-within t =
      ind-CTerm (λ f. Unit {0}) M (λ x y e. tt) (λ x y e. subst (λ z. M (roll-CTerm z)) e (weight_layer y)) t

-- Values within the weights.
pub sum-within : (ws : List ℕ) (values : List ℤ) → ((p : ℕ) → unsigned_abs (number_at values p) ≤ weight_in ws p) →
    (n : ℕ) (zs : List ℤ) → unsigned_abs (sum_of values (sparse n zs)) ≤ factors_weight ws n zs
sum-within ws values h n [] = omega arith
sum-within ws values h n (z ∷ zs) = by_test (int_eq z (pos 0)) (sum-within ws values h (suc n) zs)
  where
    by_test : (t : Bool) → unsigned_abs (sum_of values (sparse (suc n) zs)) ≤ factors_weight ws (suc n) zs →
        unsigned_abs (sum_of values (cond t (sparse (suc n) zs) ((n, z) ∷ sparse (suc n) zs))) ≤
        unsigned_abs z * weight_in ws n + factors_weight ws (suc n) zs
    by_test true ih = omega (arith, ih)
    by_test false ih =
        let a = abs-plus (z *ℤ number_at values n) (sum_of values (sparse (suc n) zs)) in
        let m = unsigned_abs-mul z (number_at values n) in
        let k = mul-le-mul (le_refl (unsigned_abs z)) (h n) in
        omega (arith, a, m, k, ih)

-- a number within a multiple of a weight, divided
pub part-within : (z : ℤ) (m w : ℕ) → unsigned_abs z ≤ suc m * w → unsigned_abs (int_div_euclid z (pos (suc m))) ≤ w
part-within (pos x) m w h = div-le_of_le-mul (suc m) h
part-within (negsuc x) m w h = less (x / suc m) (mul-div-le x (suc m))
  where
    less : (q : ℕ) → suc m * q ≤ x → suc q ≤ w
    less q a = lt_of_mul-lt-mul_left (suc m) (omega (arith, a, h))

le-is : (a b : ℕ) → nat_le a b ≡ true → a ≤ b
le-is a b h = grind arith

gt-is : (a b : ℕ) → nat_le a b ≡ false → b < a
gt-is a b h = grind arith

-- A weight for a quotient: enough for what is divided, and no more than it needs.
pub record Suits (d lw w : ℕ) : Type 0 where
  pub least : lw ≤ d * w
  pub most : d * w ≤ lw + d
  pub some : 1 ≤ w
  pub small : w ≤ max 1 lw

pub some-weight : (d : ℕ) → 1 ≤ d → (lw : ℕ) → (w : ℕ) × Suits d lw w
some-weight d h zero = (1, record { least = omega arith; most = omega arith; some = omega arith; small = omega arith })
some-weight d h (suc n) =
    let r = some-weight d h n in by_test r.0 r.1 (nat_le (suc n) (d * r.0)) refl
  where
    by_test : (w : ℕ) → Suits d n w → (t : Bool) → nat_le (suc n) (d * w) ≡ t → (x : ℕ) × Suits d (suc n) x
    by_test w s true e =
        let a = s.least in let b = s.most in let c = s.some in let k = s.small in let g = le-is (suc n) (d * w) e in
        (w, record { least = g; most = omega (arith, b); some = c; small = omega (arith, k) })
    by_test w s false e =
        let a = s.least in let b = s.most in let c = s.some in let g = gt-is (suc n) (d * w) e in
        let same : d * w ≡ n = omega (arith, a, g) in
        let next : d * suc w ≡ d * w + d = omega arith in
        let up : 1 * w ≤ d * w = mul-le-mul h (le_refl w) in (
          suc w,
          record {
            least = omega (arith, same, next, h);
            most = omega (arith, same, next);
            some = omega arith;
            small = omega (arith, up, same);
          },
        )
