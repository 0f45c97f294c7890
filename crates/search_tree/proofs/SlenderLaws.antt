-- What settling adds is slender, and stays narrow.
use Rattle.std.proofs.Common.{◌≡◌, ℕ, zero, suc, ◌+◌, ◌*◌, ◌≤◌, ◌^◌, nat_le, ℤ, pos, negsuc, ◌+ℤ◌, ◌*ℤ◌, Bool}
use Rattle.std.proofs.Common.{true, false, cond, ◌&&◌, Option, Some, None, List, [], ◌∷◌, arith, refl, sym, ap}
use Rattle.std.proofs.Common.{subst, ◌∙◌}
use Rattle.std.proofs.Math.Nat.{mul-le-mul, le_refl, mul-add}
use Rattle.std.specs.List.{list_all}
use Rattle.std.specs.Int.RustNames.{unsigned_abs}
use Rattle.std.proofs.lemmas.Int.{ints, unsigned_abs-mul}
use Rattle.std.proofs.lemmas.List.Folds.{list_all-append}
use Rattle.core_terms.specs.declared.trees.CTerm.{CTerm, ind-CTerm, roll-CTerm}
use Rattle.core_terms.specs.declared.trees.CTerm.TheVariants.{Const, Slot, Param, Add, Sub, Scale, Ite, Div, Mod}
use Rattle.core_terms.specs.declared.trees.CTerm.TheVariants.{rolls-Const, rolls-Div, rolls-Mod}
use Rattle.core_terms.specs.declared.trees.CTerm.TheVariants.{rolls-Slot, rolls-Param, rolls-Add, rolls-Sub}
use Rattle.core_terms.specs.declared.trees.CTerm.TheVariants.{rolls-Scale, rolls-Ite}
use Rattle.core_terms.specs.declared.trees.CForm.{CForm, out-CForm, fold_out-CForm}
use Rattle.core_terms.specs.declared.trees.CForm.TheVariants.{AtLeast, Zero}
use Rattle.core_terms.specs.declared.trees.CForm.TheOpen.{CTerm-F, CForm-F}
use Rattle.core_terms.specs.declared.trees.CForm.TheFolds.{map-CForm, map-CTerm}
use Rattle.meaning_states.specs.State.{int_eq}
use Rattle.obligations.specs.declared.branches.Branch.{Branch}
use Rattle.obligations.specs.declared.branches.Choice.{Choice}
use Rattle.obligations.specs.declared.branches.Line.{Line}
use Rattle.obligations.specs.declared.branches.Variable.{Variable}
use Rattle.obligations.specs.LinearForms.{add_at, zeros, sparse, fact_of, place_of, plus, linear, negated}
use Rattle.obligations.specs.Load.{sizes, norm, Load, Need, term_load, need, term_width, width, no_size}
use Rattle.obligations.specs.Load.{form_need_step, term_need_step, is_narrow}
use Rattle.obligations.specs.Settling.{sides, sides_in, joined, first_ite, has_quotient, one_fact, two_facts}
use Rattle.obligations.specs.Settling.{one_waiting}
use Rattle.obligations.specs.Settling.{least_adds, zero_adds, unequal_adds, below_zero, outcome, settled, refused}
use Rattle.obligations.proofs.SettledKeeps.{Rows, settled_keeps}
use Rattle.obligations.proofs.SettlingLaws.{term_fold, linear-Const, linear-Slot, linear-Param, linear-Add}
use Rattle.obligations.proofs.SettlingLaws.{linear-Sub, linear-Scale, linear-Ite, linear-Div, linear-Mod}
use Rattle.obligations.proofs.LoadLaws.{sizes-zeros, norm-load, load-Const, load-Sub}
use Rattle.obligations.proofs.NeedLaws.{need-Const, need-Add, need-Sub, need-Scale, need-Ite, need-AtLeast, need-Zero}
use Rattle.obligations.proofs.NeedLaws.{need-Not, need-And, need-Or, settled-narrow, refused-narrow, least-load}
use Rattle.obligations.proofs.NeedLaws.{below-load, zero-load, need-Div, need-Mod}
use Rattle.linear_prover.specs.Chains.{is_plain_factor}
use Rattle.search_tree.specs.Searching.{widths, is_slender}

le-is : (a b : ℕ) → nat_le a b ≡ true → a ≤ b
le-is a b h = grind arith

le-true : (a b : ℕ) → a ≤ b → nat_le a b ≡ true
le-true a b h = grind arith

-- The factors of a linear form.
pub abs-plus : (a b : ℤ) → unsigned_abs (a +ℤ b) ≤ unsigned_abs a + unsigned_abs b
abs-plus (pos a) (pos b) = omega (arith, ints)
abs-plus (pos a) (negsuc b) = grind (arith, ints)
abs-plus (negsuc a) (pos b) = grind (arith, ints)
abs-plus (negsuc a) (negsuc b) = omega (arith, ints)

pub sizes-plus : (k : ℤ) (xs ys : List ℤ) → sizes (plus k xs ys) ≤ sizes xs + unsigned_abs k * sizes ys
sizes-plus k [] ys = omega arith
sizes-plus k (x ∷ xs) [] = omega arith
sizes-plus k (x ∷ xs) (y ∷ ys) =
    let a = abs-plus x (k *ℤ y) in
    let m = unsigned_abs-mul k y in
    let ih = sizes-plus k xs ys in
    let d = mul-add (unsigned_abs k) (unsigned_abs y) (sizes ys) in
    omega (arith, a, m, ih, d)

sizes-unit : {A : Type 0} (vs : List A) (n : ℕ) → sizes (add_at (zeros vs) n (pos 1)) ≤ 1
sizes-unit [] n = omega arith
sizes-unit (v ∷ vs) zero = let z = sizes-zeros vs in omega (arith, z)
sizes-unit (v ∷ vs) (suc n) = let ih = sizes-unit vs n in omega (arith, ih)

width-Slot : (n : ℕ) → term_width (Slot n) ≡ record { own = 1; most = 0 }
width-Slot n = term_fold (form_need_step no_size) (term_need_step no_size) (CTerm-F.Slot n) (Slot n) (rolls-Slot n)

width-Param : (n : ℕ) → term_width (Param n) ≡ record { own = 1; most = 0 }
width-Param n = term_fold (form_need_step no_size) (term_need_step no_size) (CTerm-F.Param n) (Param n)
    (rolls-Param n)

module _ (vs : List Variable) where
  abbrev M : CTerm → Type 0
  M t = sizes (linear vs t).factors ≤ (term_width t).own

  abbrev AnyForm : Type 0
  AnyForm = (f : CForm) × Unit {0}

  abbrev SizedTerm : Type 0
  SizedTerm = (t : CTerm) × M t

  from : (t : CTerm) (l : Line) (w : Load) → linear vs t ≡ l → term_width t ≡ w → sizes l.factors ≤ w.own → M t
  from t l w p q h =
      let n : sizes (linear vs t).factors ≡ sizes l.factors = ap (λ (x : Line). sizes x.factors) p in
      let o = ap (λ (x : Load). x.own) q in
      omega (arith, n, o, h)

  size_layer : (y : CTerm-F AnyForm SizedTerm) → M (roll-CTerm
      (map-CTerm AnyForm SizedTerm CForm CTerm (λ e. e.0) (λ e. e.0) y))
  size_layer (CTerm-F.Const c) =
      subst M (sym (rolls-Const c)) (from (Const c) _ _ (linear-Const vs c) (need-Const no_size c)
      (let z = sizes-zeros vs in omega (arith, z)))
  size_layer (CTerm-F.Slot n) = subst M (sym (rolls-Slot n))
      (from (Slot n) _ _ (linear-Slot vs n) (width-Slot n) (sizes-unit vs (place_of vs false n)))
  size_layer (CTerm-F.Param n) = subst M (sym (rolls-Param n))
      (from (Param n) _ _ (linear-Param vs n) (width-Param n) (sizes-unit vs (place_of vs true n)))
  size_layer (CTerm-F.Add a b) = subst M (sym (rolls-Add a.0 b.0))
      (from (Add a.0 b.0) _ _ (linear-Add vs a.0 b.0) (need-Add no_size a.0 b.0)
      (let n = sizes-plus (pos 1) (linear vs a.0).factors (linear vs b.0).factors in let p = a.1 in let q = b.1 in
      omega (arith, n, p, q)))
  size_layer (CTerm-F.Sub a b) = subst M (sym (rolls-Sub a.0 b.0))
      (from (Sub a.0 b.0) _ _ (linear-Sub vs a.0 b.0) (need-Sub no_size a.0 b.0)
      (let n = sizes-plus (negsuc 0) (linear vs a.0).factors (linear vs b.0).factors in let p = a.1 in let q = b.1 in
      omega (arith, n, p, q)))
  size_layer (CTerm-F.Scale k a) = subst M (sym (rolls-Scale k a.0))
      (from (Scale k a.0) _ _ (linear-Scale vs k a.0) (need-Scale no_size k a.0)
      (let n = sizes-plus k (zeros vs) (linear vs a.0).factors in let z = sizes-zeros vs in let m = mul-le-mul
      (le_refl (unsigned_abs k)) a.1 in omega (arith, n, z, m)))
  size_layer (CTerm-F.Div a k) = subst M (sym (rolls-Div a.0 k))
      (from (Div a.0 k) _ _ (linear-Div vs a.0 k) (need-Div no_size a.0 k)
      (let z = sizes-zeros vs in omega (arith, z)))
  size_layer (CTerm-F.Mod a k) = subst M (sym (rolls-Mod a.0 k))
      (from (Mod a.0 k) _ _ (linear-Mod vs a.0 k) (need-Mod no_size a.0 k)
      (let z = sizes-zeros vs in omega (arith, z)))
  size_layer (CTerm-F.Ite c a b) =
      subst M (sym (rolls-Ite c.0 a.0 b.0)) (from (Ite c.0 a.0 b.0) _ _ (linear-Ite vs c.0 a.0 b.0)
      (need-Ite no_size c.0 a.0 b.0) (let z = sizes-zeros vs in omega (arith, z)))

  pub size-width : (t : CTerm) → sizes (linear vs t).factors ≤ (term_width t).own
  size-width t = ind-CTerm (λ f. Unit {0}) M (λ x y e. tt) (λ x y e. subst (λ z. M (roll-CTerm z)) e (size_layer y)) t

pub widths-sparse : (n : ℕ) (zs : List ℤ) → widths (sparse n zs) ≤ sizes zs
widths-sparse n [] = omega arith
widths-sparse n (z ∷ zs) = by_test (int_eq z (pos 0)) (widths-sparse (suc n) zs)
  where
    by_test : (t : Bool) → widths (sparse (suc n) zs) ≤ sizes zs → widths
        (cond t (sparse (suc n) zs) ((n, z) ∷ sparse (suc n) zs)) ≤ unsigned_abs z + sizes zs
    by_test true h = omega (arith, h)
    by_test false h = omega (arith, h)

pub plain-sparse : (n : ℕ) (zs : List ℤ) → sizes zs ≤ 2 ^ 62 → list_all is_plain_factor (sparse n zs) ≡ true
plain-sparse n [] h = refl
plain-sparse n (z ∷ zs) h = by_test (int_eq z (pos 0)) (plain-sparse (suc n) zs (omega (arith, h)))
  where
    by_test : (t : Bool) → list_all is_plain_factor (sparse (suc n) zs) ≡ true →
        list_all is_plain_factor (cond t (sparse (suc n) zs) ((n, z) ∷ sparse (suc n) zs)) ≡ true
    by_test true e = e
    by_test false e =
        ap (λ b. b && list_all is_plain_factor (sparse (suc n) zs))
        (le-true (unsigned_abs z) (2 ^ 62) (omega (arith, h)))
        ∙ e

line-slender : (l : Line) → sizes l.factors ≤ 2 ^ 62 → unsigned_abs l.constant ≤ 2 ^ 63 → is_slender (fact_of l) ≡
    true
line-slender l p q =
    let w = widths-sparse 0 l.factors in
    ap (λ t. t && (nat_le (widths (sparse 0 l.factors)) (2 ^ 63) && nat_le (unsigned_abs l.constant) (2 ^ 64)))
    (plain-sparse 0 l.factors p)
    ∙ ap (λ t. t && nat_le (unsigned_abs l.constant) (2 ^ 64))
    (le-true (widths (sparse 0 l.factors)) (2 ^ 63) (omega (arith, w, p)))
    ∙ le-true (unsigned_abs l.constant) (2 ^ 64) (omega (arith, q))

pub constant-norm : (l : Line) → unsigned_abs l.constant ≤ norm l
constant-norm l = omega arith

module _ (vs : List Variable) where
  -- one term's fact
  term-slender : (t : CTerm) → (term_width t).own ≤ 2 ^ 62 → (term_load t).own ≤ 2 ^ 63 → is_slender
      (fact_of (linear vs t)) ≡ true
  term-slender t p q =
      let s = size-width vs t in let n = norm-load vs t in let c = constant-norm (linear vs t) in
      line-slender (linear vs t) (omega (arith, s, p)) (omega (arith, n, c, q))

  negated-slender : (t : CTerm) → (term_width t).own ≤ 2 ^ 62 → (term_load t).own ≤ 2 ^ 63 → is_slender
      (fact_of (negated vs (linear vs t))) ≡ true
  negated-slender t p q =
      let s = size-width vs t in let n = norm-load vs t in let c = constant-norm (linear vs t) in
      let m = sizes-plus (negsuc 0) (zeros vs) (linear vs t).factors in let z = sizes-zeros vs in
      let a = abs-plus (pos 0) (negsuc 0 *ℤ (linear vs t).constant) in let u = unsigned_abs-mul (negsuc 0)
      (linear vs t).constant in
      line-slender (negated vs (linear vs t)) (omega (arith, m, z, s, p)) (omega (arith, a, u, n, c, q))

  waits-slender : (f : CForm) (a : Branch) (q : Bool) → list_all is_slender a.facts ≡ true → list_all is_slender
      (cond q (one_waiting f) a).facts ≡ true
  waits-slender f a true h = refl
  waits-slender f a false h = h

  least-slender : (t : CTerm) → (term_width t).own ≤ 2 ^ 62 → (term_load t).own ≤ 2 ^ 63 → (m : Option Choice) →
      list_all is_slender (least_adds vs t m).facts ≡ true
  least-slender t p q None =
      waits-slender (AtLeast t) (one_fact (linear vs t)) (has_quotient t) (ap (λ b. b && true) (term-slender t p q))
  least-slender t p q (Some c) = refl

  zero-slender : (t : CTerm) → (term_width t).own ≤ 2 ^ 62 → (term_load t).own ≤ 2 ^ 63 → (m : Option Choice) →
      list_all is_slender (zero_adds vs t m).facts ≡ true
  zero-slender t p q None =
      waits-slender (Zero t) (two_facts (linear vs t) (negated vs (linear vs t))) (has_quotient t)
      (ap (λ b. b && (is_slender (fact_of (negated vs (linear vs t))) && true)) (term-slender t p q) ∙ ap
      (λ b. b && true) (negated-slender t p q))
  zero-slender t p q (Some c) = refl

  unequal-slender : (t : CTerm) (m : Option Choice) → list_all is_slender (unequal_adds t m).facts ≡ true
  unequal-slender t None = refl
  unequal-slender t (Some c) = refl

  -- what a formula and its negation add
  record Slender (f : CForm) (a b : Branch) : Type 0 where
    yes : (width f).yes ≤ 2 ^ 62 → (need f).yes ≤ 2 ^ 63 → list_all is_slender a.facts ≡ true
    no : (width f).no ≤ 2 ^ 62 → (need f).no ≤ 2 ^ 63 → list_all is_slender b.facts ≡ true

  joined-slender : (a b : Branch) → list_all is_slender a.facts ≡ true → list_all is_slender b.facts ≡ true → list_all
      is_slender (joined a b).facts ≡ true
  joined-slender a b p q = list_all-append is_slender a.facts b.facts ∙ ap (λ z. z && list_all is_slender b.facts) p ∙
      q

  below-own : (t : CTerm) → (term_width (below_zero t)).own ≡ (term_width t).own
  below-own t =
      let v = ap (λ (x : Load). x.own) (need-Sub no_size (Const (negsuc 0)) t) in
      let d = ap (λ (x : Load). x.own) (need-Const no_size (negsuc 0)) in
      omega (arith, v, d)

  below-heavy : (t : CTerm) → 1 + (term_load t).own ≤ 2 ^ 63 → (term_load (below_zero t)).own ≤ 2 ^ 63
  below-heavy t h = let v = load-Sub (Const (negsuc 0)) t in let d = load-Const (negsuc 0) in omega (arith, v, d, h)

  least-row : (t : CTerm) → Slender (AtLeast t) (least_adds vs t (first_ite t))
      (least_adds vs (below_zero t) (first_ite (below_zero t)))
  least-row t = record {
    yes = λ w h. let n = ap (λ (x : Need). x.yes) (need-AtLeast no_size t) in
        least-slender t (omega (arith, n, w)) (least-load t (AtLeast t) (2 ^ 63) refl h) (first_ite t);
    no = λ w h. let n = ap (λ (x : Need). x.no) (need-AtLeast no_size t) in let o = below-own t in
        least-slender (below_zero t) (omega (arith, n, w, o))
        (below-heavy t (below-load t (AtLeast t) (2 ^ 63) refl h)) (first_ite (below_zero t));
  }

  zero-row : (t : CTerm) → Slender (Zero t) (zero_adds vs t (first_ite t)) (unequal_adds t (first_ite t))
  zero-row t = record {
    yes = λ w h. let n = ap (λ (x : Need). x.yes) (need-Zero no_size t) in
        zero-slender t (omega (arith, n, w)) (zero-load t (Zero t) (2 ^ 63) refl h) (first_ite t);
    no = λ w h. unequal-slender t (first_ite t);
  }

  rows : Rows vs Slender
  rows = record {
    of_top = record { yes = λ w h. refl; no = λ w h. refl };
    of_bottom = record { yes = λ w h. refl; no = λ w h. refl };
    of_least = least-row;
    of_zero = zero-row;
    of_not = λ f a b s. record {
      yes = λ w h. s.no (let n = ap (λ (x : Need). x.yes) (need-Not no_size f) in omega (arith, n, w))
          (let n = ap (λ (x : Need). x.yes) (need-Not unsigned_abs f) in omega (arith, n, h));
      no = λ w h. s.yes (let n = ap (λ (x : Need). x.no) (need-Not no_size f) in omega (arith, n, w))
          (let n = ap (λ (x : Need). x.no) (need-Not unsigned_abs f) in omega (arith, n, h));
    };
    of_and = λ f g a b c d s t. record {
      yes = λ w h. let n = ap (λ (x : Need). x.yes) (need-And no_size f g) in let m = ap (λ (x : Need). x.yes)
          (need-And unsigned_abs f g) in
          joined-slender a c (s.yes (omega (arith, n, w)) (omega (arith, m, h)))
          (t.yes (omega (arith, n, w)) (omega (arith, m, h)));
      no = λ w h. refl;
    };
    of_or = λ f g a b c d s t. record {
      yes = λ w h. refl;
      no = λ w h. let n = ap (λ (x : Need). x.no) (need-Or no_size f g) in let m = ap (λ (x : Need). x.no)
          (need-Or unsigned_abs f g) in
          joined-slender b d (s.no (omega (arith, n, w)) (omega (arith, m, h)))
          (t.no (omega (arith, n, w)) (omega (arith, m, h)));
    };
  }

  adds-slender : (f : CForm) → Slender f (outcome vs f).yes (outcome vs f).no
  adds-slender f = settled_keeps vs Slender rows f

-- facts and waiting formulas stay within the limits
pub record Within (b : Branch) : Type 0 where
  pub slender : list_all is_slender b.facts ≡ true
  pub narrow : list_all is_narrow b.waiting ≡ true

pub settled-within : (vs : List Variable) (f : CForm) (b : Branch) → is_narrow f ≡ true → (need f).yes ≤ 2 ^ 63 →
    Within b → Within (settled vs f b)
settled-within vs f b h k w = record {
  slender = joined-slender vs b (outcome vs f).yes w.slender
      ((adds-slender vs f).yes (le-is (width f).yes (2 ^ 62) h) k);
  narrow = settled-narrow vs f b h w.narrow;
}

pub refused-within : (vs : List Variable) (f : CForm) (b : Branch) → (width f).no ≤ 2 ^ 62 → (need f).no ≤ 2 ^ 63 →
    Within b → Within (refused vs f b)
refused-within vs f b h k w = record {
  slender = joined-slender vs b (outcome vs f).no w.slender ((adds-slender vs f).no h k);
  narrow = refused-narrow vs f b h w.narrow;
}

narrow-in : (f : CForm) (x : CForm-F CForm CTerm) → out-CForm f ≡ x → is_narrow f ≡ true →
    (is_narrow (sides_in f x).0 ≡ true) × (is_narrow (sides_in f x).1 ≡ true)
narrow-in f CForm-F.Top e h = (h, h)
narrow-in f CForm-F.Bottom e h = (h, h)
narrow-in f (CForm-F.AtLeast t) e h = (h, h)
narrow-in f (CForm-F.Zero t) e h = (h, h)
narrow-in f (CForm-F.Not g) e h = (h, h)
narrow-in f (CForm-F.And g k) e h = (h, h)
narrow-in f (CForm-F.Or g k) e h =
    let n = ap (λ (x : Need). x.yes)
    (fold_out-CForm Need Load (form_need_step no_size) (term_need_step no_size) f ∙ ap
    (λ x. form_need_step no_size (map-CForm CForm CTerm Need Load width term_width x)) e) in
    let w = le-is (width f).yes (2 ^ 62) h in
    (le-true (width g).yes (2 ^ 62) (omega (arith, n, w)), le-true (width k).yes (2 ^ 62) (omega (arith, n, w)))

pub first-narrow : (f : CForm) → is_narrow f ≡ true → is_narrow (sides f).0 ≡ true
first-narrow f h = (narrow-in f (out-CForm f) refl h).0

pub second-narrow : (f : CForm) → is_narrow f ≡ true → is_narrow (sides f).1 ≡ true
second-narrow f h = (narrow-in f (out-CForm f) refl h).1
