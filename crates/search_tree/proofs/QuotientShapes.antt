-- A formula asks for less where its first quotient is taken.
use Rattle.std.proofs.Common.{◌≡◌, ℕ, suc, ◌+◌, ◌≤◌, ℤ, Option, Some, None, mul-le-mul, le_refl, arith, refl, sym}
use Rattle.std.proofs.Common.{ap, subst, ◌∙◌}
use Rattle.std.proofs.Math.Nat.{mul-le-mul_right}
use Rattle.core_terms.specs.declared.trees.CTerm.{CTerm, ind-CTerm, roll-CTerm}
use Rattle.core_terms.specs.declared.trees.CTerm.TheVariants.{Const, Slot, Param, Add, Sub, Scale, Ite, Div, Mod}
use Rattle.core_terms.specs.declared.trees.CTerm.TheVariants.{rolls-Const, rolls-Slot, rolls-Param, rolls-Add}
use Rattle.core_terms.specs.declared.trees.CTerm.TheVariants.{rolls-Sub, rolls-Scale, rolls-Ite, rolls-Div, rolls-Mod}
use Rattle.core_terms.specs.declared.trees.CForm.{CForm, roll-CForm, out-CForm, fold-CForm}
use Rattle.core_terms.specs.declared.trees.CForm.TheVariants.{Top, Bottom, AtLeast, Zero, Not, And, Or, rolls-Top}
use Rattle.core_terms.specs.declared.trees.CForm.TheVariants.{rolls-Bottom, rolls-AtLeast, rolls-Zero, rolls-Not}
use Rattle.core_terms.specs.declared.trees.CForm.TheVariants.{rolls-And, rolls-Or}
use Rattle.core_terms.specs.declared.trees.CForm.TheOpen.{CTerm-F, CForm-F}
use Rattle.core_terms.specs.declared.trees.CForm.TheFolds.{map-CForm, map-CTerm}
use Rattle.meaning_states.specs.Division.{divisor}
use Rattle.obligations.specs.declared.branches.Taken.{Taken}
use Rattle.obligations.specs.declared.branches.Replaced.{Replaced}
use Rattle.obligations.specs.Settling.{Quoted, quoted_form_step, quoted_step, quoted, first_taken, first_of, or_whole}
use Rattle.obligations.specs.Quotients.{replaced, replaced_in, without_quotient}
use Rattle.obligations.specs.Shapes.{Shape, plain, both, divided, Shapes, term_shape, shapes}
use Rattle.obligations.proofs.SettlingLaws.{term_fold, form_fold}
use Rattle.obligations.proofs.ShapeLaws.{shape-Param, shape-Add, shape-Sub, shape-Scale, shape-Div, shape-Mod}
use Rattle.obligations.proofs.ShapeLaws.{shape-AtLeast, shape-Zero}
use Rattle.search_tree.proofs.ShapeLaws.{shapes-out, some-leaf}

abbrev T : CTerm → Shape
T = term_shape

-- a quotient, its two rounds and its cases are no longer asked for
pub record IsLess (s t : Shape) : Type 0 where
  pub cases : 3 + s.cases ≤ t.cases
  pub leaves : s.leaves ≤ t.leaves
  pub quotients : suc s.quotients ≤ t.quotients

-- what is left of a term asks for less than the term
abbrev Leaves : CTerm → Option Taken → Type 0
Leaves t None = Unit {0}
Leaves t (Some q) = IsLess (T q.rest) (T t)

module _ (node : CTerm → CTerm → CTerm) (is : (a b : CTerm) → T (node a b) ≡ both (T a) (T b)) where
  pair-less : (a b : CTerm) (m n : Option Taken) → Leaves a m → Leaves b n →
      Leaves (node a b) (first_of (λ x. node x b) (λ y. node a y) m n)
  pair-less a b None None p r = tt
  pair-less a b (Some q) n p r =
      let t0 = ap (λ (x : Shape). x.cases) (is a b) in let s0 = ap (λ (x : Shape). x.cases) (is q.rest b) in
      let t1 = ap (λ (x : Shape). x.leaves) (is a b) in let s1 = ap (λ (x : Shape). x.leaves) (is q.rest b) in
      let t2 = ap (λ (x : Shape). x.quotients) (is a b) in
      let s2 = ap (λ (x : Shape). x.quotients) (is q.rest b) in
      let p0 = p.cases in let p1 = mul-le-mul_right (T b).leaves p.leaves in let p2 = p.quotients in
      record {
        cases = omega (arith, t0, s0, p0);
        leaves = omega (arith, t1, s1, p1);
        quotients = omega (arith, t2, s2, p2);
      }
  pair-less a b None (Some q) p r =
      let t0 = ap (λ (x : Shape). x.cases) (is a b) in let s0 = ap (λ (x : Shape). x.cases) (is a q.rest) in
      let t1 = ap (λ (x : Shape). x.leaves) (is a b) in let s1 = ap (λ (x : Shape). x.leaves) (is a q.rest) in
      let t2 = ap (λ (x : Shape). x.quotients) (is a b) in
      let s2 = ap (λ (x : Shape). x.quotients) (is a q.rest) in
      let r0 = r.cases in let r1 = mul-le-mul (le_refl (T a).leaves) r.leaves in let r2 = r.quotients in
      record {
        cases = omega (arith, t0, s0, r0);
        leaves = omega (arith, t1, s1, r1);
        quotients = omega (arith, t2, s2, r2);
      }

scale-less : (k : ℤ) (a : CTerm) (m : Option Taken) → Leaves a m →
    Leaves (Scale k a) (first_of (λ x. Scale k x) (λ x. Scale k x) m None)
scale-less k a None p = tt
scale-less k a (Some q) p =
    let t = shape-Scale k a in let s = shape-Scale k q.rest in
    let t0 = ap (λ (x : Shape). x.cases) t in let s0 = ap (λ (x : Shape). x.cases) s in
    let t1 = ap (λ (x : Shape). x.leaves) t in let s1 = ap (λ (x : Shape). x.leaves) s in
    let t2 = ap (λ (x : Shape). x.quotients) t in let s2 = ap (λ (x : Shape). x.quotients) s in
    let p0 = p.cases in let p1 = p.leaves in let p2 = p.quotients in
    record {
      cases = omega (arith, t0, s0, p0);
      leaves = omega (arith, t1, s1, p1);
      quotients = omega (arith, t2, s2, p2);
    }

-- a quotient or a remainder, of which less is left where it is the whole
module _ (node : CTerm → CTerm) (is : (a : CTerm) → T (node a) ≡ divided (T a)) where
  divided-less : (a : CTerm) (m : Option Taken) (whole : Taken) → Leaves a m → IsLess (T whole.rest) (divided (T a)) →
      Leaves (node a) (or_whole node m whole)
  divided-less a None whole p w =
      subst (IsLess (T whole.rest)) (sym (is a)) w
  divided-less a (Some q) whole p w =
      let t0 = ap (λ (x : Shape). x.cases) (is a) in let s0 = ap (λ (x : Shape). x.cases) (is q.rest) in
      let t1 = ap (λ (x : Shape). x.leaves) (is a) in let s1 = ap (λ (x : Shape). x.leaves) (is q.rest) in
      let t2 = ap (λ (x : Shape). x.quotients) (is a) in let s2 = ap (λ (x : Shape). x.quotients) (is q.rest) in
      let p0 = p.cases in let p1 = p.leaves in let p2 = p.quotients in
      record {
        cases = omega (arith, t0, s0, p0);
        leaves = omega (arith, t1, s1, p1);
        quotients = omega (arith, t2, s2, p2);
      }

module _ (v : ℕ) where
  whole-less : (a : CTerm) → IsLess (T (Param v)) (divided (T a))
  whole-less a =
      let e = shape-Param v in let c = ap (λ (x : Shape). x.cases) e in let l = ap (λ (x : Shape). x.leaves) e in
      let q = ap (λ (x : Shape). x.quotients) e in let some = some-leaf a in
      record {
        cases = omega (arith, c);
        leaves = omega (arith, l, some);
        quotients = omega (arith, q);
      }

  rest-less : (a : CTerm) (d : ℤ) → IsLess (T (Sub a (Scale d (Param v)))) (divided (T a))
  rest-less a d =
      let e : T (Sub a (Scale d (Param v))) ≡ both (T a) plain = shape-Sub a (Scale d (Param v)) ∙ ap (both (T a))
      (shape-Scale d (Param v) ∙ shape-Param v) in
      let c = ap (λ (x : Shape). x.cases) e in let l = ap (λ (x : Shape). x.leaves) e in
      let q = ap (λ (x : Shape). x.quotients) e in
      record {
        cases = omega (arith, c);
        leaves = omega (arith, l);
        quotients = omega (arith, q);
      }

  -- the copies that stand in the fold are the trees
  abbrev form_part : CForm → CForm
  form_part = fold-CForm CForm Quoted quoted_form_step (quoted_step v)

  quoted-at : (x : CTerm-F CForm CTerm) (t : CTerm) → roll-CTerm x ≡ t →
      quoted v t ≡ quoted_step v (map-CTerm CForm CTerm CForm Quoted form_part (quoted v) x)
  quoted-at x t e = term_fold quoted_form_step (quoted_step v) x t e

  form-at : (x : CForm-F CForm CTerm) (f : CForm) → roll-CForm x ≡ f →
      form_part f ≡ quoted_form_step (map-CForm CForm CTerm CForm Quoted form_part (quoted v) x)
  form-at x f e = form_fold quoted_form_step (quoted_step v) x f e

  -- a term's copy is the term, and what is left where its first quotient is taken asks for less
  record Known (t : CTerm) : Type 0 where
    tree : (quoted v t).tree ≡ t
    less : Leaves t (first_taken v t)

  abbrev tree_at : (x : CTerm-F CForm CTerm) (t : CTerm) → roll-CTerm x ≡ t →
      (quoted v t).tree ≡ (quoted_step v (map-CTerm CForm CTerm CForm Quoted form_part (quoted v) x)).tree
  tree_at x t e = ap (λ (q : Quoted). q.tree) (quoted-at x t e)

  abbrev taken_at : (x : CTerm-F CForm CTerm) (t : CTerm) → roll-CTerm x ≡ t →
      first_taken v t ≡ (quoted_step v (map-CTerm CForm CTerm CForm Quoted form_part (quoted v) x)).taken
  taken_at x t e = ap (λ (q : Quoted). q.taken) (quoted-at x t e)

  pair-known : (node : CTerm → CTerm → CTerm) (is : (a b : CTerm) → T (node a b) ≡ both (T a) (T b)) (a b : CTerm) →
      (quoted v (node a b)).tree ≡ node (quoted v a).tree (quoted v b).tree →
      first_taken v (node a b) ≡ first_of (λ x. node x (quoted v b).tree) (λ y. node (quoted v a).tree y)
      (first_taken v a) (first_taken v b) → Known a → Known b → Known (node a b)
  pair-known node is a b t s p q = record {
    tree = t ∙ ap (λ x. node x (quoted v b).tree) p.tree ∙ ap (λ x. node a x) q.tree;
    less = subst (Leaves (node a b)) (sym (s ∙ ap (λ z. first_of (λ x. node x z) (λ y. node (quoted v a).tree y)
        (first_taken v a) (first_taken v b)) q.tree ∙ ap (λ z. first_of (λ x. node x b) (λ y. node z y)
        (first_taken v a) (first_taken v b)) p.tree))
        (pair-less node is a b (first_taken v a) (first_taken v b) p.less q.less);
  }

  abbrev KnownTerm : Type 0
  KnownTerm = (t : CTerm) × Known t

  abbrev KnownForm : Type 0
  KnownForm = (f : CForm) × (form_part f ≡ f)

  flat-known : (t : CTerm) → (quoted v t).tree ≡ t → first_taken v t ≡ None → Known t
  flat-known t e n = record { tree = e; less = subst (Leaves t) (sym n) tt }

  div-known : (a : CTerm) (k : ℤ) → Known a → Known (Div a k)
  div-known a k p = record {
    tree = tree_at (CTerm-F.Div a k) (Div a k) (rolls-Div a k) ∙ ap (λ x. Div x k) p.tree;
    less = subst (Leaves (Div a k)) (sym (taken_at (CTerm-F.Div a k) (Div a k) (rolls-Div a k) ∙ ap
        (λ x. or_whole (λ x. Div x k) (first_taken v a) (record { of = x; divisor = divisor k; rest = Param v }))
        p.tree))
        (divided-less (λ x. Div x k) (λ x. shape-Div x k) a (first_taken v a)
        (record { of = a; divisor = divisor k; rest = Param v }) p.less (whole-less a));
  }

  mod-known : (a : CTerm) (k : ℤ) → Known a → Known (Mod a k)
  mod-known a k p = record {
    tree = tree_at (CTerm-F.Mod a k) (Mod a k) (rolls-Mod a k) ∙ ap (λ x. Mod x k) p.tree;
    less = subst (Leaves (Mod a k)) (sym (taken_at (CTerm-F.Mod a k) (Mod a k) (rolls-Mod a k) ∙ ap
        (λ x. or_whole (λ x. Mod x k) (first_taken v a)
        (record { of = x; divisor = divisor k; rest = Sub x (Scale (divisor k) (Param v)) })) p.tree))
        (divided-less (λ x. Mod x k) (λ x. shape-Mod x k) a (first_taken v a)
        (record { of = a; divisor = divisor k; rest = Sub a (Scale (divisor k) (Param v)) }) p.less
        (rest-less a (divisor k)));
  }

  scale-known : (k : ℤ) (a : CTerm) → Known a → Known (Scale k a)
  scale-known k a p = record {
    tree = tree_at (CTerm-F.Scale k a) (Scale k a) (rolls-Scale k a) ∙ ap (λ x. Scale k x) p.tree;
    less = subst (Leaves (Scale k a)) (sym (taken_at (CTerm-F.Scale k a) (Scale k a) (rolls-Scale k a)))
        (scale-less k a (first_taken v a) p.less);
  }

  ite-known : (c : CForm) (a b : CTerm) → form_part c ≡ c → Known a → Known b → Known (Ite c a b)
  ite-known c a b f p q =
      flat-known (Ite c a b) (tree_at (CTerm-F.Ite c a b) (Ite c a b) (rolls-Ite c a b)
      ∙ ap (λ x. Ite x (quoted v a).tree (quoted v b).tree) f ∙ ap (λ x. Ite c x (quoted v b).tree) p.tree ∙ ap
      (λ x. Ite c a x) q.tree) (taken_at (CTerm-F.Ite c a b) (Ite c a b) (rolls-Ite c a b))

  known_term : (y : CTerm-F KnownForm KnownTerm) → Known (roll-CTerm
      (map-CTerm KnownForm KnownTerm CForm CTerm (λ e. e.0) (λ e. e.0) y))
  known_term (CTerm-F.Const c) = subst Known (sym (rolls-Const c)) (flat-known (Const c)
      (tree_at (CTerm-F.Const c) (Const c) (rolls-Const c)) (taken_at (CTerm-F.Const c) (Const c) (rolls-Const c)))
  known_term (CTerm-F.Slot n) = subst Known (sym (rolls-Slot n)) (flat-known (Slot n)
      (tree_at (CTerm-F.Slot n) (Slot n) (rolls-Slot n)) (taken_at (CTerm-F.Slot n) (Slot n) (rolls-Slot n)))
  known_term (CTerm-F.Param n) = subst Known (sym (rolls-Param n)) (flat-known (Param n)
      (tree_at (CTerm-F.Param n) (Param n) (rolls-Param n)) (taken_at (CTerm-F.Param n) (Param n) (rolls-Param n)))
  known_term (CTerm-F.Add a b) = subst Known (sym (rolls-Add a.0 b.0)) (pair-known Add shape-Add a.0 b.0
      (tree_at (CTerm-F.Add a.0 b.0) (Add a.0 b.0) (rolls-Add a.0 b.0))
      (taken_at (CTerm-F.Add a.0 b.0) (Add a.0 b.0) (rolls-Add a.0 b.0)) a.1 b.1)
  known_term (CTerm-F.Sub a b) = subst Known (sym (rolls-Sub a.0 b.0)) (pair-known Sub shape-Sub a.0 b.0
      (tree_at (CTerm-F.Sub a.0 b.0) (Sub a.0 b.0) (rolls-Sub a.0 b.0))
      (taken_at (CTerm-F.Sub a.0 b.0) (Sub a.0 b.0) (rolls-Sub a.0 b.0)) a.1 b.1)
  known_term (CTerm-F.Scale k a) = subst Known (sym (rolls-Scale k a.0)) (scale-known k a.0 a.1)
  known_term (CTerm-F.Ite c a b) = subst Known (sym (rolls-Ite c.0 a.0 b.0)) (ite-known c.0 a.0 b.0 c.1 a.1 b.1)
  known_term (CTerm-F.Div a k) = subst Known (sym (rolls-Div a.0 k)) (div-known a.0 k a.1)
  known_term (CTerm-F.Mod a k) = subst Known (sym (rolls-Mod a.0 k)) (mod-known a.0 k a.1)

  abbrev Same : CForm → Type 0
  Same f = form_part f ≡ f

  known_form : (y : CForm-F KnownForm KnownTerm) → Same (roll-CForm
      (map-CForm KnownForm KnownTerm CForm CTerm (λ e. e.0) (λ e. e.0) y))
  known_form CForm-F.Top = subst Same (sym rolls-Top) (form-at CForm-F.Top Top rolls-Top)
  known_form CForm-F.Bottom = subst Same (sym rolls-Bottom) (form-at CForm-F.Bottom Bottom rolls-Bottom)
  known_form (CForm-F.AtLeast t) = subst Same (sym (rolls-AtLeast t.0))
      (form-at (CForm-F.AtLeast t.0) (AtLeast t.0) (rolls-AtLeast t.0) ∙ ap AtLeast t.1.tree)
  known_form (CForm-F.Zero t) = subst Same (sym (rolls-Zero t.0))
      (form-at (CForm-F.Zero t.0) (Zero t.0) (rolls-Zero t.0) ∙ ap Zero t.1.tree)
  known_form (CForm-F.Not f) = subst Same (sym (rolls-Not f.0))
      (form-at (CForm-F.Not f.0) (Not f.0) (rolls-Not f.0) ∙ ap Not f.1)
  known_form (CForm-F.And f g) = subst Same (sym (rolls-And f.0 g.0))
      (form-at (CForm-F.And f.0 g.0) (And f.0 g.0) (rolls-And f.0 g.0) ∙ ap (λ x. And x (form_part g.0)) f.1 ∙ ap
      (λ x. And f.0 x) g.1)
  known_form (CForm-F.Or f g) = subst Same (sym (rolls-Or f.0 g.0))
      (form-at (CForm-F.Or f.0 g.0) (Or f.0 g.0) (rolls-Or f.0 g.0) ∙ ap (λ x. Or x (form_part g.0)) f.1 ∙ ap
      (λ x. Or f.0 x) g.1)

  known : (t : CTerm) → Known t
  known t = ind-CTerm Same Known (λ x y e. subst (λ z. Same (roll-CForm z)) e (known_form y))
      (λ x y e. subst (λ z. Known (roll-CTerm z)) e (known_term y)) t

  less-in : (f : CForm) (t : CTerm) (m : Option Taken) (make : CTerm → CForm) (r : Replaced) →
      ((u : CTerm) → (shapes (make u)).yes ≡ T u) → (shapes f).yes ≡ T t → Leaves t m → replaced make m ≡ Some r →
      IsLess (shapes r.form).yes (shapes f).yes
  less-in f t None make r is e p h = absurd cc
  less-in f t (Some q) make r is e p h =
      let same : record { taken = q; form = make q.rest } ≡ r = cc in
      subst (λ (x : Replaced). IsLess (shapes x.form).yes (shapes f).yes) same
      (subst (λ s. IsLess s (shapes f).yes) (sym (is q.rest)) (subst (IsLess (T q.rest)) (sym e) p))

  without_in : (f : CForm) (x : CForm-F CForm CTerm) (r : Replaced) → out-CForm f ≡ x → replaced_in v x ≡ Some r →
      IsLess (shapes r.form).yes (shapes f).yes
  without_in f CForm-F.Top r e h = absurd cc
  without_in f CForm-F.Bottom r e h = absurd cc
  without_in f (CForm-F.AtLeast t) r e h =
      less-in f t (first_taken v t) AtLeast r (λ u. ap (λ (x : Shapes). x.yes) (shape-AtLeast u))
      (ap (λ (x : Shapes). x.yes) (shapes-out f (CForm-F.AtLeast t) e)) (known t).less h
  without_in f (CForm-F.Zero t) r e h =
      less-in f t (first_taken v t) Zero r (λ u. ap (λ (x : Shapes). x.yes) (shape-Zero u))
      (ap (λ (x : Shapes). x.yes) (shapes-out f (CForm-F.Zero t) e)) (known t).less h
  without_in f (CForm-F.Not g) r e h = absurd cc
  without_in f (CForm-F.And g k) r e h = absurd cc
  without_in f (CForm-F.Or g k) r e h = absurd cc

  pub without-less : (f : CForm) (r : Replaced) → without_quotient v f ≡ Some r → IsLess (shapes r.form).yes
      (shapes f).yes
  without-less f r h = without_in f (out-CForm f) r refl h
