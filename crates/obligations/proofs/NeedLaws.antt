-- Settling meets no load past a formula's need, and raises none.
use Rattle.std.proofs.Common.{◌≡◌, le_refl, mul-le-mul, ℕ, ◌+◌, ◌*◌, ◌^◌, ◌≤◌, max, ℤ, pos, negsuc, true, ◌&&◌}
use Rattle.std.proofs.Common.{Bool, false, cond, Option}
use Rattle.std.proofs.Common.{Some, None, List, [], ◌∷◌, arith, refl, sym, ap, ◌∙◌, subst}
use Rattle.std.specs.List.{list_all}
use Rattle.std.proofs.lemmas.List.Folds.{list_all-append}
use Rattle.std.specs.Int.RustNames.{unsigned_abs}
use Rattle.core_terms.specs.declared.trees.CTerm.{CTerm, ind-CTerm, roll-CTerm, fold-roll-CTerm}
use Rattle.core_terms.specs.declared.trees.CTerm.TheVariants.{Const, Param, Add, Sub, Scale, Ite, Div, Mod}
use Rattle.core_terms.specs.declared.trees.CTerm.TheVariants.{rolls-Param, rolls-Const, rolls-Add, rolls-Div}
use Rattle.core_terms.specs.declared.trees.CTerm.TheVariants.{rolls-Mod}
use Rattle.core_terms.specs.declared.trees.CTerm.TheVariants.{rolls-Sub, rolls-Scale, rolls-Ite}
use Rattle.core_terms.specs.declared.trees.CForm.{CForm, roll-CForm, ind-CForm, fold-roll-CForm}
use Rattle.core_terms.specs.declared.trees.CForm.TheVariants.{AtLeast, Zero, Not, And, Or, rolls-AtLeast, rolls-Zero}
use Rattle.core_terms.specs.declared.trees.CForm.TheVariants.{rolls-Not, rolls-And, rolls-Or}
use Rattle.core_terms.specs.declared.trees.CForm.TheOpen.{CTerm-F, CForm-F}
use Rattle.core_terms.specs.declared.trees.CForm.TheFolds.{map-CForm, map-CTerm}
use Rattle.core_terms.specs.from_meaning_states.Division.{divisor}
use Rattle.obligations.specs.declared.branches.Branch.{Branch}
use Rattle.obligations.specs.declared.branches.Variable.{Variable}
use Rattle.obligations.specs.declared.branches.Choice.{Choice}
use Rattle.obligations.specs.Settling.{joined, one_waiting, first_ite, first_choice, choice_form, least_adds}
use Rattle.obligations.specs.LinearForms.{linear, negated}
use Rattle.obligations.specs.Settling.{zero_adds, has_quotient, one_fact, two_facts}
use Rattle.obligations.specs.Settling.{unequal_adds, below_zero, outcome, settled, refused}
use Rattle.obligations.specs.Load.{Load, form_load_step, term_load_step, form_load, term_load, Need, form_need_step}
use Rattle.obligations.specs.Load.{term_need_step, needs, term_needs, need, term_need, width, no_size, is_bounded}
use Rattle.obligations.specs.Load.{is_narrow, is_light_branch}
use Rattle.obligations.proofs.SettlingLaws.{term_fold, form_fold}
use Rattle.obligations.proofs.SettledKeeps.{choice_keeps, settled_keeps}

-- Needs and loads, by a term's or a formula's head.
module _ (size : ℤ → ℕ) where
  abbrev N : CTerm → Load
  N = term_needs size

  abbrev M : CForm → Need
  M = needs size

  pub need-Const : (c : ℤ) → N (Const c) ≡ record { own = size c; most = 0 }
  need-Const c = term_fold (form_need_step size) (term_need_step size) (CTerm-F.Const c) (Const c) (rolls-Const c)

  pub need-Add : (a b : CTerm) → N (Add a b) ≡ record {
    own = (N a).own + (N b).own;
    most = max (N a).most (N b).most;
  }
  need-Add a b = term_fold (form_need_step size) (term_need_step size) (CTerm-F.Add a b) (Add a b) (rolls-Add a b)

  pub need-Sub : (a b : CTerm) → N (Sub a b) ≡ record {
    own = (N a).own + (N b).own;
    most = max (N a).most (N b).most;
  }
  need-Sub a b = term_fold (form_need_step size) (term_need_step size) (CTerm-F.Sub a b) (Sub a b) (rolls-Sub a b)

  pub need-Scale : (k : ℤ) (a : CTerm) → N (Scale k a) ≡ record
      { own = unsigned_abs k * (N a).own; most = (N a).most }
  need-Scale k a =
      term_fold (form_need_step size) (term_need_step size) (CTerm-F.Scale k a) (Scale k a) (rolls-Scale k a)

  pub need-Ite : (c : CForm) (a b : CTerm) → N (Ite c a b)
      ≡ record { own = max (N a).own (N b).own; most = max (max (M c).yes (M c).no) (max (N a).most (N b).most) }
  need-Ite c a b =
      term_fold (form_need_step size) (term_need_step size) (CTerm-F.Ite c a b) (Ite c a b) (rolls-Ite c a b)

  pub need-Param : (n : ℕ) → N (Param n) ≡ record { own = 1; most = 0 }
  need-Param n = term_fold (form_need_step size) (term_need_step size) (CTerm-F.Param n) (Param n) (rolls-Param n)

  pub need-Div : (a : CTerm) (k : ℤ) → N (Div a k) ≡ record {
    own = max 1 (N a).own;
    most = max (unsigned_abs (divisor k)) (max (N a).own (N a).most);
  }
  need-Div a k = term_fold (form_need_step size) (term_need_step size) (CTerm-F.Div a k) (Div a k) (rolls-Div a k)

  pub need-Mod : (a : CTerm) (k : ℤ) → N (Mod a k) ≡ record {
    own = 2 * (N a).own + unsigned_abs (divisor k);
    most = max (unsigned_abs (divisor k)) (max (N a).own (N a).most);
  }
  need-Mod a k = term_fold (form_need_step size) (term_need_step size) (CTerm-F.Mod a k) (Mod a k) (rolls-Mod a k)

  pub need-AtLeast : (t : CTerm) → M (AtLeast t) ≡ record {
    yes = max (N t).own (N t).most;
    no = max (size (negsuc 0) + (N t).own) (N t).most;
  }
  need-AtLeast t =
      form_fold (form_need_step size) (term_need_step size) (CForm-F.AtLeast t) (AtLeast t) (rolls-AtLeast t)

  pub need-Zero : (t : CTerm) → M (Zero t) ≡ record {
    yes = max (N t).own (N t).most;
    no = max (size (negsuc 0) + (N t).own) (N t).most;
  }
  need-Zero t = form_fold (form_need_step size) (term_need_step size) (CForm-F.Zero t) (Zero t) (rolls-Zero t)

  pub need-Not : (f : CForm) → M (Not f) ≡ record { yes = (M f).no; no = (M f).yes }
  need-Not f = form_fold (form_need_step size) (term_need_step size) (CForm-F.Not f) (Not f) (rolls-Not f)

  pub need-And : (f g : CForm) → M (And f g) ≡ record {
    yes = max (M f).yes (M g).yes;
    no = max (M f).no (M g).no;
  }
  need-And f g = form_fold (form_need_step size) (term_need_step size) (CForm-F.And f g) (And f g) (rolls-And f g)

  pub need-Or : (f g : CForm) → M (Or f g) ≡ record {
    yes = max (M f).yes (M g).yes;
    no = max (M f).no (M g).no;
  }
  need-Or f g = form_fold (form_need_step size) (term_need_step size) (CForm-F.Or f g) (Or f g) (rolls-Or f g)

  -- Needs are within loads, but for the 1 that a negation takes.
  module _ (small : (c : ℤ) → size c ≤ unsigned_abs c) where
    record TermBridge (t : CTerm) : Type 0 where
      own : (N t).own ≤ (term_load t).own
      most : (N t).most ≤ size (negsuc 0) + (term_load t).most

    record FormBridge (f : CForm) : Type 0 where
      yes : (M f).yes ≤ size (negsuc 0) + form_load f
      no : (M f).no ≤ size (negsuc 0) + form_load f

    abbrev LoadedTerm : Type 0
    LoadedTerm = (t : CTerm) × TermBridge t

    abbrev LoadedForm : Type 0
    LoadedForm = (f : CForm) × FormBridge f

    bridge : (x : CTerm-F CForm CTerm) (n l : Load) → N (roll-CTerm x) ≡ n → term_load (roll-CTerm x) ≡ l →
        n.own ≤ l.own → n.most ≤ size (negsuc 0) + l.most → TermBridge (roll-CTerm x)
    bridge x n l p q e h =
        let p0 = ap (λ (z : Load). z.own) p in let p1 = ap (λ (z : Load). z.most) p in
        let q0 = ap (λ (z : Load). z.own) q in let q1 = ap (λ (z : Load). z.most) q in
        record { own = omega (arith, p0, q0, e); most = omega (arith, p1, q1, h) }

    span : (x : CForm-F CForm CTerm) (n : Need) (l : ℕ) → M (roll-CForm x) ≡ n → form_load (roll-CForm x) ≡ l →
        n.yes ≤ size (negsuc 0) + l → n.no ≤ size (negsuc 0) + l → FormBridge (roll-CForm x)
    span x n l p q h k =
        let p0 = ap (λ (z : Need). z.yes) p in let p1 = ap (λ (z : Need). z.no) p in
        record { yes = omega (arith, p0, q, h); no = omega (arith, p1, q, k) }

    abbrev needs_of : (x : CTerm-F CForm CTerm) →
        N (roll-CTerm x) ≡ term_need_step size (map-CTerm CForm CTerm Need Load M N x)
    needs_of x = fold-roll-CTerm Need Load (form_need_step size) (term_need_step size) x

    abbrev loads_of : (x : CTerm-F CForm CTerm) →
        term_load (roll-CTerm x) ≡ term_load_step (map-CTerm CForm CTerm ℕ Load form_load term_load x)
    loads_of x = fold-roll-CTerm ℕ Load form_load_step term_load_step x

    abbrev form_needs_of : (x : CForm-F CForm CTerm) →
        M (roll-CForm x) ≡ form_need_step size (map-CForm CForm CTerm Need Load M N x)
    form_needs_of x = fold-roll-CForm Need Load (form_need_step size) (term_need_step size) x

    abbrev form_loads_of : (x : CForm-F CForm CTerm) →
        form_load (roll-CForm x) ≡ form_load_step (map-CForm CForm CTerm ℕ Load form_load term_load x)
    form_loads_of x = fold-roll-CForm ℕ Load form_load_step term_load_step x

    term_bridge : (y : CTerm-F LoadedForm LoadedTerm) →
        TermBridge (roll-CTerm (map-CTerm LoadedForm LoadedTerm CForm CTerm (λ e. e.0) (λ e. e.0) y))
    term_bridge (CTerm-F.Const c) =
        bridge (CTerm-F.Const c) _ _ (needs_of (CTerm-F.Const c)) (loads_of (CTerm-F.Const c)) (small c) (omega arith)
    term_bridge (CTerm-F.Slot n) =
        bridge (CTerm-F.Slot n) _ _ (needs_of (CTerm-F.Slot n)) (loads_of (CTerm-F.Slot n)) (le_refl 1) (omega arith)
    term_bridge (CTerm-F.Param n) =
        bridge (CTerm-F.Param n) _ _ (needs_of (CTerm-F.Param n)) (loads_of (CTerm-F.Param n)) (le_refl 1)
        (omega arith)
    term_bridge (CTerm-F.Add a b) = let p = a.1.own in let q = b.1.own in let r = a.1.most in let s = b.1.most in
        bridge (CTerm-F.Add a.0 b.0) _ _ (needs_of (CTerm-F.Add a.0 b.0)) (loads_of (CTerm-F.Add a.0 b.0))
        (omega (arith, p, q)) (omega (arith, r, s))
    term_bridge (CTerm-F.Sub a b) = let p = a.1.own in let q = b.1.own in let r = a.1.most in let s = b.1.most in
        bridge (CTerm-F.Sub a.0 b.0) _ _ (needs_of (CTerm-F.Sub a.0 b.0)) (loads_of (CTerm-F.Sub a.0 b.0))
        (omega (arith, p, q)) (omega (arith, r, s))
    term_bridge (CTerm-F.Scale k a) =
        bridge (CTerm-F.Scale k a.0) _ _ (needs_of (CTerm-F.Scale k a.0)) (loads_of (CTerm-F.Scale k a.0))
        (mul-le-mul (le_refl (unsigned_abs k)) a.1.own) a.1.most
    term_bridge (CTerm-F.Ite c a b) =
        let p = a.1.own in let q = b.1.own in let r = a.1.most in let s = b.1.most in let u = c.1.yes in
        let v = c.1.no in
        bridge (CTerm-F.Ite c.0 a.0 b.0) _ _ (needs_of (CTerm-F.Ite c.0 a.0 b.0))
        (loads_of (CTerm-F.Ite c.0 a.0 b.0)) (omega (arith, p, q)) (omega (arith, r, s, u, v))
    term_bridge (CTerm-F.Div a k) = let p = a.1.own in let r = a.1.most in
        bridge (CTerm-F.Div a.0 k) _ _ (needs_of (CTerm-F.Div a.0 k)) (loads_of (CTerm-F.Div a.0 k))
        (omega (arith, p)) (omega (arith, p, r))
    term_bridge (CTerm-F.Mod a k) = let p = a.1.own in let r = a.1.most in
        bridge (CTerm-F.Mod a.0 k) _ _ (needs_of (CTerm-F.Mod a.0 k)) (loads_of (CTerm-F.Mod a.0 k))
        (omega (arith, p)) (omega (arith, p, r))

    form_bridge : (y : CForm-F LoadedForm LoadedTerm) →
        FormBridge (roll-CForm (map-CForm LoadedForm LoadedTerm CForm CTerm (λ e. e.0) (λ e. e.0) y))
    form_bridge CForm-F.Top =
        span CForm-F.Top _ _ (form_needs_of CForm-F.Top) (form_loads_of CForm-F.Top) (omega arith) (omega arith)
    form_bridge CForm-F.Bottom =
        span CForm-F.Bottom _ _ (form_needs_of CForm-F.Bottom) (form_loads_of CForm-F.Bottom) (omega arith)
        (omega arith)
    form_bridge (CForm-F.AtLeast t) = let p = t.1.own in let q = t.1.most in
        span (CForm-F.AtLeast t.0) _ _ (form_needs_of (CForm-F.AtLeast t.0)) (form_loads_of (CForm-F.AtLeast t.0))
        (omega (arith, p, q)) (omega (arith, p, q))
    form_bridge (CForm-F.Zero t) = let p = t.1.own in let q = t.1.most in
        span (CForm-F.Zero t.0) _ _ (form_needs_of (CForm-F.Zero t.0)) (form_loads_of (CForm-F.Zero t.0))
        (omega (arith, p, q)) (omega (arith, p, q))
    form_bridge (CForm-F.Not f) =
        span (CForm-F.Not f.0) _ _ (form_needs_of (CForm-F.Not f.0)) (form_loads_of (CForm-F.Not f.0)) f.1.no f.1.yes
    form_bridge (CForm-F.And f g) = let p = f.1.yes in let q = g.1.yes in let r = f.1.no in let s = g.1.no in
        span (CForm-F.And f.0 g.0) _ _ (form_needs_of (CForm-F.And f.0 g.0)) (form_loads_of (CForm-F.And f.0 g.0))
        (omega (arith, p, q)) (omega (arith, r, s))
    form_bridge (CForm-F.Or f g) = let p = f.1.yes in let q = g.1.yes in let r = f.1.no in let s = g.1.no in
        span (CForm-F.Or f.0 g.0) _ _ (form_needs_of (CForm-F.Or f.0 g.0)) (form_loads_of (CForm-F.Or f.0 g.0))
        (omega (arith, p, q)) (omega (arith, r, s))

    form-bridge : (f : CForm) → FormBridge f
    form-bridge f =
        ind-CForm FormBridge TermBridge (λ x y e. subst (λ z. FormBridge (roll-CForm z)) e (form_bridge y))
        (λ x y e. subst (λ z. TermBridge (roll-CTerm z)) e (term_bridge y)) f

    pub needs-within : (f : CForm) → (M f).no ≤ size (negsuc 0) + form_load f
    needs-within f = (form-bridge f).no

    pub needs-settle : (f : CForm) → (M f).yes ≤ size (negsuc 0) + form_load f
    needs-settle f = (form-bridge f).yes

  -- What a formula's need says of its parts.
  pub and-light : (f g h : CForm) (bound : ℕ) → h ≡ And f g → (M h).yes ≤ bound →
      ((M f).yes ≤ bound) × ((M g).yes ≤ bound)
  and-light f g h bound e l =
      let n = ap (λ x. (M x).yes) e ∙ ap (λ (x : Need). x.yes) (need-And f g) in
      (omega (arith, n, l), omega (arith, n, l))

  pub or-light : (f g h : CForm) (bound : ℕ) → h ≡ Or f g → (M h).no ≤ bound →
      ((M f).no ≤ bound) × ((M g).no ≤ bound)
  or-light f g h bound e l =
      let n = ap (λ x. (M x).no) e ∙ ap (λ (x : Need). x.no) (need-Or f g) in
      (omega (arith, n, l), omega (arith, n, l))

  pub not-light : (f h : CForm) (bound : ℕ) → h ≡ Not f → (M h).yes ≤ bound → (M f).no ≤ bound
  not-light f h bound e l =
      let n = ap (λ x. (M x).yes) e ∙ ap (λ (x : Need). x.yes) (need-Not f) in omega (arith, n, l)

  pub not-heavy : (f h : CForm) (bound : ℕ) → h ≡ Not f → (M h).no ≤ bound → (M f).yes ≤ bound
  not-heavy f h bound e l =
      let n = ap (λ x. (M x).no) e ∙ ap (λ (x : Need). x.no) (need-Not f) in omega (arith, n, l)

  pub least-part : (t : CTerm) (bound : ℕ) → (M (AtLeast t)).yes ≤ bound →
      ((N t).own ≤ bound) × ((N t).most ≤ bound)
  least-part t bound h =
      let n = ap (λ (x : Need). x.yes) (need-AtLeast t) in (omega (arith, n, h), omega (arith, n, h))

  pub zero-part : (t : CTerm) (bound : ℕ) → (M (Zero t)).yes ≤ bound → ((N t).own ≤ bound) × ((N t).most ≤ bound)
  zero-part t bound h = let n = ap (λ (x : Need). x.yes) (need-Zero t) in (omega (arith, n, h), omega (arith, n, h))

  pub below-part : (t : CTerm) (bound : ℕ) → (M (AtLeast t)).no ≤ bound →
      ((N (below_zero t)).own ≤ bound) × ((N (below_zero t)).most ≤ bound)
  below-part t bound h =
      let n = ap (λ (x : Need). x.no) (need-AtLeast t) in
      let v0 = ap (λ (x : Load). x.own) (need-Sub (Const (negsuc 0)) t) in
      let v1 = ap (λ (x : Load). x.most) (need-Sub (Const (negsuc 0)) t) in
      let d0 = ap (λ (x : Load). x.own) (need-Const (negsuc 0)) in
      let d1 = ap (λ (x : Load). x.most) (need-Const (negsuc 0)) in
      (omega (arith, n, v0, d0, h), omega (arith, n, v1, d1, h))

  pub unequal-part : (t : CTerm) (bound : ℕ) → (M (Zero t)).no ≤ bound →
      (size (negsuc 0) + (N t).own ≤ bound) × ((N t).most ≤ bound)
  unequal-part t bound h = let n = ap (λ (x : Need). x.no) (need-Zero t) in (omega (arith, n, h), omega (arith, n, h))

  -- A choice is no heavier than its term.
  record ChoiceIs (t : CTerm) (c : Choice) : Type 0 where
    holds : (M c.when).yes ≤ (N t).most
    fails : (M c.when).no ≤ (N t).most
    yes_own : (N c.yes).own ≤ (N t).own
    yes_most : (N c.yes).most ≤ (N t).most
    no_own : (N c.no).own ≤ (N t).own
    no_most : (N c.no).most ≤ (N t).most

  abbrev Lighter : CTerm → Option Choice → Type 0
  Lighter t None = Unit {0}
  Lighter t (Some c) = ChoiceIs t c

  pair-light : (node : CTerm → CTerm → CTerm) →
      ((a b : CTerm) → N (node a b) ≡ record { own = (N a).own + (N b).own; most = max (N a).most (N b).most }) →
      (a b : CTerm) (m n : Option Choice) → Lighter a m → Lighter b n →
      Lighter (node a b) (first_choice (λ x. node x b) (λ y. node a y) m n)
  pair-light node is a b None None p q = tt
  pair-light node is a b None (Some d) p q =
      let t0 = ap (λ (x : Load). x.own) (is a b) in let t1 = ap (λ (x : Load). x.most) (is a b) in
      let y0 = ap (λ (x : Load). x.own) (is a d.yes) in let y1 = ap (λ (x : Load). x.most) (is a d.yes) in
      let z0 = ap (λ (x : Load). x.own) (is a d.no) in let z1 = ap (λ (x : Load). x.most) (is a d.no) in
      let r0 = q.holds in let r1 = q.fails in let r2 = q.yes_own in
      let r3 = q.yes_most in let r4 = q.no_own in let r5 = q.no_most in
      record {
        holds = omega (arith, r0, t1);
        fails = omega (arith, r1, t1);
        yes_own = omega (arith, r2, t0, y0);
        yes_most = omega (arith, r3, t1, y1);
        no_own = omega (arith, r4, t0, z0);
        no_most = omega (arith, r5, t1, z1);
      }
  pair-light node is a b (Some d) n p q =
      let t0 = ap (λ (x : Load). x.own) (is a b) in let t1 = ap (λ (x : Load). x.most) (is a b) in
      let y0 = ap (λ (x : Load). x.own) (is d.yes b) in let y1 = ap (λ (x : Load). x.most) (is d.yes b) in
      let z0 = ap (λ (x : Load). x.own) (is d.no b) in let z1 = ap (λ (x : Load). x.most) (is d.no b) in
      let r0 = p.holds in let r1 = p.fails in let r2 = p.yes_own in
      let r3 = p.yes_most in let r4 = p.no_own in let r5 = p.no_most in
      record {
        holds = omega (arith, r0, t1);
        fails = omega (arith, r1, t1);
        yes_own = omega (arith, r2, t0, y0);
        yes_most = omega (arith, r3, t1, y1);
        no_own = omega (arith, r4, t0, z0);
        no_most = omega (arith, r5, t1, z1);
      }

  scale-light : (k : ℤ) (a : CTerm) (m : Option Choice) → Lighter a m →
      Lighter (Scale k a) (first_choice (λ x. Scale k x) (λ x. Scale k x) m None)
  scale-light k a None p = tt
  scale-light k a (Some d) p =
      let t0 = ap (λ (x : Load). x.own) (need-Scale k a) in let t1 = ap (λ (x : Load). x.most) (need-Scale k a) in
      let y0 = ap (λ (x : Load). x.own) (need-Scale k d.yes) in
      let y1 = ap (λ (x : Load). x.most) (need-Scale k d.yes) in
      let z0 = ap (λ (x : Load). x.own) (need-Scale k d.no) in
      let z1 = ap (λ (x : Load). x.most) (need-Scale k d.no) in
      let my = mul-le-mul (le_refl (unsigned_abs k)) p.yes_own in
      let mz = mul-le-mul (le_refl (unsigned_abs k)) p.no_own in
      let r0 = p.holds in let r1 = p.fails in let r3 = p.yes_most in let r5 = p.no_most in
      record {
        holds = omega (arith, r0, t1);
        fails = omega (arith, r1, t1);
        yes_own = omega (arith, my, t0, y0);
        yes_most = omega (arith, r3, t1, y1);
        no_own = omega (arith, mz, t0, z0);
        no_most = omega (arith, r5, t1, z1);
      }

  div-light : (a : CTerm) (k : ℤ) (m : Option Choice) → Lighter a m →
      Lighter (Div a k) (first_choice (λ x. Div x k) (λ x. Div x k) m None)
  div-light a k None p = tt
  div-light a k (Some d) p =
      let t0 = ap (λ (x : Load). x.own) (need-Div a k) in let t1 = ap (λ (x : Load). x.most) (need-Div a k) in
      let y0 = ap (λ (x : Load). x.own) (need-Div d.yes k) in let y1 = ap (λ (x : Load). x.most) (need-Div d.yes k) in
      let z0 = ap (λ (x : Load). x.own) (need-Div d.no k) in let z1 = ap (λ (x : Load). x.most) (need-Div d.no k) in
      let r0 = p.holds in let r1 = p.fails in let r2 = p.yes_own in
      let r3 = p.yes_most in let r4 = p.no_own in let r5 = p.no_most in
      record {
        holds = omega (arith, r0, t1);
        fails = omega (arith, r1, t1);
        yes_own = omega (arith, r2, t0, y0);
        yes_most = omega (arith, r2, r3, t1, y1);
        no_own = omega (arith, r4, t0, z0);
        no_most = omega (arith, r4, r5, t1, z1);
      }

  mod-light : (a : CTerm) (k : ℤ) (m : Option Choice) → Lighter a m →
      Lighter (Mod a k) (first_choice (λ x. Mod x k) (λ x. Mod x k) m None)
  mod-light a k None p = tt
  mod-light a k (Some d) p =
      let t0 = ap (λ (x : Load). x.own) (need-Mod a k) in let t1 = ap (λ (x : Load). x.most) (need-Mod a k) in
      let y0 = ap (λ (x : Load). x.own) (need-Mod d.yes k) in let y1 = ap (λ (x : Load). x.most) (need-Mod d.yes k) in
      let z0 = ap (λ (x : Load). x.own) (need-Mod d.no k) in let z1 = ap (λ (x : Load). x.most) (need-Mod d.no k) in
      let r0 = p.holds in let r1 = p.fails in let r2 = p.yes_own in
      let r3 = p.yes_most in let r4 = p.no_own in let r5 = p.no_most in
      record {
        holds = omega (arith, r0, t1);
        fails = omega (arith, r1, t1);
        yes_own = omega (arith, r2, t0, y0);
        yes_most = omega (arith, r2, r3, t1, y1);
        no_own = omega (arith, r4, t0, z0);
        no_most = omega (arith, r4, r5, t1, z1);
      }

  ite-light : (f : CForm) (a b : CTerm) → ChoiceIs (Ite f a b) (record { when = f; yes = a; no = b })
  ite-light f a b =
      let t0 = ap (λ (x : Load). x.own) (need-Ite f a b) in
      let t1 = ap (λ (x : Load). x.most) (need-Ite f a b) in
      record {
        holds = omega (arith, t1);
        fails = omega (arith, t1);
        yes_own = omega (arith, t0);
        yes_most = omega (arith, t1);
        no_own = omega (arith, t0);
        no_most = omega (arith, t1);
      }

  term-light : (t : CTerm) → Lighter t (first_ite t)
  term-light = choice_keeps Lighter (record {
    of_const = λ c. tt;
    of_slot = λ n. tt;
    of_param = λ n. tt;
    of_add = pair-light Add need-Add;
    of_sub = pair-light Sub need-Sub;
    of_scale = scale-light;
    of_div = div-light;
    of_mod = mod-light;
    of_ite = ite-light;
  })

  -- What settling adds is no heavier.
  module _ (vs : List Variable) (bound : ℕ) (above : size (pos 1) ≤ size (negsuc 0)) where
    bounded-in : (f : CForm) → (M f).yes ≤ bound → is_bounded size bound f ≡ true
    bounded-in f h = grind arith

    one-light : (f : CForm) → (M f).yes ≤ bound → list_all (is_bounded size bound) (f ∷ []) ≡ true
    one-light f h = ap (λ z. z && true) (bounded-in f h)

    or-need : (f g : CForm) → (M f).yes ≤ bound → (M g).yes ≤ bound → (M (Or f g)).yes ≤ bound
    or-need f g p q = let n = ap (λ (x : Need). x.yes) (need-Or f g) in omega (arith, n, p, q)

    and-need : (f g : CForm) → (M f).yes ≤ bound → (M g).yes ≤ bound → (M (And f g)).yes ≤ bound
    and-need f g p q = let n = ap (λ (x : Need). x.yes) (need-And f g) in omega (arith, n, p, q)

    not-need : (f : CForm) → (M f).no ≤ bound → (M (Not f)).yes ≤ bound
    not-need f p = let n = ap (λ (x : Need). x.yes) (need-Not f) in omega (arith, n, p)

    least-need : (t : CTerm) → (N t).own ≤ bound → (N t).most ≤ bound → (M (AtLeast t)).yes ≤ bound
    least-need t p q = let n = ap (λ (x : Need). x.yes) (need-AtLeast t) in omega (arith, n, p, q)

    zero-need : (t : CTerm) → (N t).own ≤ bound → (N t).most ≤ bound → (M (Zero t)).yes ≤ bound
    zero-need t p q = let n = ap (λ (x : Need). x.yes) (need-Zero t) in omega (arith, n, p, q)

    unequal-need : (t : CTerm) → size (negsuc 0) + (N t).own ≤ bound → (N t).most ≤ bound →
        (M (Not (Zero t))).yes ≤ bound
    unequal-need t p q =
        not-need (Zero t) (let n = ap (λ (x : Need). x.no) (need-Zero t) in omega (arith, n, p, q))

    choice-need : (f : CTerm → CForm) (c : Choice) → (M c.when).yes ≤ bound → (M c.when).no ≤ bound →
        (M (f c.yes)).yes ≤ bound → (M (f c.no)).yes ≤ bound → (M (choice_form f c)).yes ≤ bound
    choice-need f c p q r s =
        or-need (And c.when (f c.yes)) (And (Not c.when) (f c.no)) (and-need c.when (f c.yes) p r)
        (and-need (Not c.when) (f c.no) (not-need c.when q) s)

    -- the formulas that wait on a branch are within the bound
    abbrev U : Branch → Type 0
    U b = list_all (is_bounded size bound) b.waiting ≡ true

    waits-light : (f : CForm) (a : Branch) (b : Bool) → (M f).yes ≤ bound → U a → U (cond b (one_waiting f) a)
    waits-light f a true h u = one-light f h
    waits-light f a false h u = u

    least-light : (t : CTerm) → (N t).own ≤ bound → (N t).most ≤ bound → (m : Option Choice) → Lighter t m →
        U (least_adds vs t m)
    least-light t p q None r = waits-light (AtLeast t) (one_fact (linear vs t)) (has_quotient t) (least-need t p q) refl
    least-light t p q (Some c) r =
        let r0 = r.holds in let r1 = r.fails in let r2 = r.yes_own in
        let r3 = r.yes_most in let r4 = r.no_own in let r5 = r.no_most in
        one-light (choice_form AtLeast c) (choice-need AtLeast c (omega (arith, r0, q)) (omega (arith, r1, q))
        (least-need c.yes (omega (arith, r2, p)) (omega (arith, r3, q)))
        (least-need c.no (omega (arith, r4, p)) (omega (arith, r5, q))))

    zero-light : (t : CTerm) → (N t).own ≤ bound → (N t).most ≤ bound → (m : Option Choice) → Lighter t m →
        U (zero_adds vs t m)
    zero-light t p q None r =
        waits-light (Zero t) (two_facts (linear vs t) (negated vs (linear vs t))) (has_quotient t) (zero-need t p q)
        refl
    zero-light t p q (Some c) r =
        let r0 = r.holds in let r1 = r.fails in let r2 = r.yes_own in
        let r3 = r.yes_most in let r4 = r.no_own in let r5 = r.no_most in
        one-light (choice_form Zero c) (choice-need Zero c (omega (arith, r0, q)) (omega (arith, r1, q))
        (zero-need c.yes (omega (arith, r2, p)) (omega (arith, r3, q)))
        (zero-need c.no (omega (arith, r4, p)) (omega (arith, r5, q))))

    unequal-light : (t : CTerm) → size (negsuc 0) + (N t).own ≤ bound → (N t).most ≤ bound → (m : Option Choice) →
        Lighter t m → U (unequal_adds t m)
    unequal-light t p q None r =
        let u0 = ap (λ (x : Load). x.own) (need-Sub t (Const (pos 1))) in
        let u1 = ap (λ (x : Load). x.most) (need-Sub t (Const (pos 1))) in
        let v0 = ap (λ (x : Load). x.own) (need-Sub (Const (negsuc 0)) t) in
        let v1 = ap (λ (x : Load). x.most) (need-Sub (Const (negsuc 0)) t) in
        let c0 = ap (λ (x : Load). x.own) (need-Const (pos 1)) in
        let c1 = ap (λ (x : Load). x.most) (need-Const (pos 1)) in
        let d0 = ap (λ (x : Load). x.own) (need-Const (negsuc 0)) in
        let d1 = ap (λ (x : Load). x.most) (need-Const (negsuc 0)) in
        one-light _ (or-need (AtLeast (Sub t (Const (pos 1)))) (AtLeast (Sub (Const (negsuc 0)) t))
        (least-need (Sub t (Const (pos 1))) (omega (arith, u0, c0, p, above)) (omega (arith, u1, c1, q)))
        (least-need (Sub (Const (negsuc 0)) t) (omega (arith, v0, d0, p)) (omega (arith, v1, d1, q))))
    unequal-light t p q (Some c) r =
        let r0 = r.holds in let r1 = r.fails in let r2 = r.yes_own in
        let r3 = r.yes_most in let r4 = r.no_own in let r5 = r.no_most in
        one-light (choice_form (λ x. Not (Zero x)) c)
        (choice-need (λ x. Not (Zero x)) c (omega (arith, r0, q)) (omega (arith, r1, q))
        (unequal-need c.yes (omega (arith, r2, p)) (omega (arith, r3, q)))
        (unequal-need c.no (omega (arith, r4, p)) (omega (arith, r5, q))))

    joined-bounded : (a b : Branch) → U a → U b → U (joined a b)
    joined-bounded a b p q =
        list_all-append (is_bounded size bound) a.waiting b.waiting
        ∙ ap (λ z. z && list_all (is_bounded size bound) b.waiting) p ∙ q

    -- a formula's needs within the bound keep what it and its negation add within it
    abbrev Bounded : CForm → Branch → Branch → Type 0
    Bounded f a b = ((M f).yes ≤ bound → U a) × ((M f).no ≤ bound → U b)

    and-rows : (f g : CForm) (a b c d : Branch) → Bounded f a b → Bounded g c d →
        Bounded (And f g) (joined a c) (one_waiting (Or (Not f) (Not g)))
    and-rows f g a b c d p q = (
      λ h. let s = and-light f g (And f g) bound refl h in joined-bounded a c (p.0 s.0) (q.0 s.1),
      λ h. let n = ap (λ (x : Need). x.no) (need-And f g) in
          one-light (Or (Not f) (Not g)) (or-need (Not f) (Not g) (not-need f (omega (arith, n, h)))
          (not-need g (omega (arith, n, h)))),
    )

    or-rows : (f g : CForm) (a b c d : Branch) → Bounded f a b → Bounded g c d →
        Bounded (Or f g) (one_waiting (Or f g)) (joined b d)
    or-rows f g a b c d p q = (
      λ h. one-light (Or f g) h,
      λ h. let s = or-light f g (Or f g) bound refl h in joined-bounded b d (p.1 s.0) (q.1 s.1),
    )

    adds-bounded : (f : CForm) → Bounded f (outcome vs f).yes (outcome vs f).no
    adds-bounded = settled_keeps vs Bounded (record {
      of_top = (λ h. refl, λ h. refl);
      of_bottom = (λ h. refl, λ h. refl);
      of_least = λ t. (
        λ h. let s = least-part t bound h in least-light t s.0 s.1 (first_ite t) (term-light t),
        λ h. let s = below-part t bound h in
            least-light (below_zero t) s.0 s.1 (first_ite (below_zero t)) (term-light (below_zero t)),
      );
      of_zero = λ t. (
        λ h. let s = zero-part t bound h in zero-light t s.0 s.1 (first_ite t) (term-light t),
        λ h. let s = unequal-part t bound h in unequal-light t s.0 s.1 (first_ite t) (term-light t),
      );
      of_not = λ f a b p. (λ h. p.1 (not-light f (Not f) bound refl h), λ h. p.0 (not-heavy f (Not f) bound refl h));
      of_and = and-rows;
      of_or = or-rows;
    })

    pub settled-bounded : (f : CForm) (b : Branch) → (M f).yes ≤ bound → U b → U (settled vs f b)
    settled-bounded f b h u = joined-bounded b (outcome vs f).yes u ((adds-bounded f).0 h)

    pub refused-bounded : (f : CForm) (b : Branch) → (M f).no ≤ bound → U b → U (refused vs f b)
    refused-bounded f b h u = joined-bounded b (outcome vs f).no u ((adds-bounded f).1 h)

-- With all constants.
pub need-within : (f : CForm) → (need f).no ≤ 1 + form_load f
need-within f = needs-within unsigned_abs (λ c. le_refl (unsigned_abs c)) f

pub need-settles : (f : CForm) → (need f).yes ≤ 1 + form_load f
need-settles f = needs-settle unsigned_abs (λ c. le_refl (unsigned_abs c)) f

-- settling a light formula keeps a light branch light
pub settled-light : (vs : List Variable) (bound : ℕ) (f : CForm) (b : Branch) → (need f).yes ≤ bound →
    is_light_branch bound b ≡ true → is_light_branch bound (settled vs f b) ≡ true
settled-light vs bound f b h l = settled-bounded unsigned_abs vs bound (le_refl 1) f b h l

pub refused-light : (vs : List Variable) (bound : ℕ) (f : CForm) (b : Branch) → (need f).no ≤ bound →
    is_light_branch bound b ≡ true → is_light_branch bound (refused vs f b) ≡ true
refused-light vs bound f b h l = refused-bounded unsigned_abs vs bound (le_refl 1) f b h l

-- Without constants.
pub width-within : (f : CForm) → (width f).no ≤ form_load f
width-within f = let h = needs-within no_size (λ c. omega arith) f in omega (arith, h)

narrow-out : (f : CForm) → is_narrow f ≡ true → (width f).yes ≤ 2 ^ 62
narrow-out f h = grind arith

-- settling a narrow formula keeps what waits narrow
pub settled-narrow : (vs : List Variable) (f : CForm) (b : Branch) → is_narrow f ≡ true →
    list_all is_narrow b.waiting ≡ true → list_all is_narrow (settled vs f b).waiting ≡ true
settled-narrow vs f b h n = settled-bounded no_size vs (2 ^ 62) (le_refl 0) f b (narrow-out f h) n

pub refused-narrow : (vs : List Variable) (f : CForm) (b : Branch) → (width f).no ≤ 2 ^ 62 →
    list_all is_narrow b.waiting ≡ true → list_all is_narrow (refused vs f b).waiting ≡ true
refused-narrow vs f b h n = refused-bounded no_size vs (2 ^ 62) (le_refl 0) f b h n

-- The own load of a term is what it needs.
abbrev OwnSame : CTerm → Type 0
OwnSame t = (term_need t).own ≡ (term_load t).own

abbrev AnyForm : Type 0
AnyForm = (f : CForm) × Unit {0}

abbrev SameTerm : Type 0
SameTerm = (t : CTerm) × OwnSame t

own-rolled : (x : CTerm-F CForm CTerm) →
    (term_need_step unsigned_abs (map-CTerm CForm CTerm Need Load need term_need x)).own
    ≡ (term_load_step (map-CTerm CForm CTerm ℕ Load form_load term_load x)).own → OwnSame (roll-CTerm x)
own-rolled x h =
    ap (λ (n : Load). n.own) (fold-roll-CTerm Need Load (form_need_step unsigned_abs) (term_need_step unsigned_abs) x)
    ∙ h ∙ sym (ap (λ (l : Load). l.own) (fold-roll-CTerm ℕ Load form_load_step term_load_step x))

own_layer : (y : CTerm-F AnyForm SameTerm) →
    OwnSame (roll-CTerm (map-CTerm AnyForm SameTerm CForm CTerm (λ e. e.0) (λ e. e.0) y))
own_layer (CTerm-F.Const c) = own-rolled (CTerm-F.Const c) refl
own_layer (CTerm-F.Slot n) = own-rolled (CTerm-F.Slot n) refl
own_layer (CTerm-F.Param n) = own-rolled (CTerm-F.Param n) refl
own_layer (CTerm-F.Add a b) =
    own-rolled (CTerm-F.Add a.0 b.0) (ap (λ n. n + (term_need b.0).own) a.1 ∙ ap (λ n. (term_load a.0).own + n) b.1)
own_layer (CTerm-F.Sub a b) =
    own-rolled (CTerm-F.Sub a.0 b.0) (ap (λ n. n + (term_need b.0).own) a.1 ∙ ap (λ n. (term_load a.0).own + n) b.1)
own_layer (CTerm-F.Scale k a) = own-rolled (CTerm-F.Scale k a.0) (ap (λ n. unsigned_abs k * n) a.1)
own_layer (CTerm-F.Div a k) = own-rolled (CTerm-F.Div a.0 k) (ap (λ n. max 1 n) a.1)
own_layer (CTerm-F.Mod a k) =
    own-rolled (CTerm-F.Mod a.0 k) (ap (λ n. 2 * n + unsigned_abs (divisor k)) a.1)
own_layer (CTerm-F.Ite c a b) =
    own-rolled (CTerm-F.Ite c.0 a.0 b.0)
    (ap (λ n. max n (term_need b.0).own) a.1 ∙ ap (λ n. max (term_load a.0).own n) b.1)

pub own-same : (t : CTerm) → (term_need t).own ≡ (term_load t).own
own-same t =
    ind-CTerm (λ f. Unit {0}) OwnSame (λ x y e. tt) (λ x y e. subst (λ z. OwnSame (roll-CTerm z)) e (own_layer y)) t

-- What a formula's need says of a term's load.
pub least-load : (t : CTerm) (f : CForm) (bound : ℕ) → f ≡ AtLeast t → (need f).yes ≤ bound → (term_load t).own ≤
    bound
least-load t f bound e h =
    let n = ap (λ x. (need x).yes) e ∙ ap (λ (x : Need). x.yes) (need-AtLeast unsigned_abs t) in
    let o = own-same t in
    omega (arith, n, o, h)

pub below-load : (t : CTerm) (f : CForm) (bound : ℕ) → f ≡ AtLeast t → (need f).no ≤ bound →
    1 + (term_load t).own ≤ bound
below-load t f bound e h =
    let n = ap (λ x. (need x).no) e ∙ ap (λ (x : Need). x.no) (need-AtLeast unsigned_abs t) in
    let o = own-same t in
    omega (arith, n, o, h)

pub zero-load : (t : CTerm) (f : CForm) (bound : ℕ) → f ≡ Zero t → (need f).yes ≤ bound → (term_load t).own ≤ bound
zero-load t f bound e h =
    let n = ap (λ x. (need x).yes) e ∙ ap (λ (x : Need). x.yes) (need-Zero unsigned_abs t) in
    let o = own-same t in
    omega (arith, n, o, h)
