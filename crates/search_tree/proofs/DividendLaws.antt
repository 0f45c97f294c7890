-- What is divided in a formula weighs no more after settling, after a quotient is taken, and than its obligation does.
use Rattle.std.proofs.Common.{◌≡◌, le_refl, mul-le-mul, ℕ, ◌+◌, ◌*◌, ◌^◌, ◌≤◌, max, nat_eq}
use Rattle.std.proofs.Common.{ℤ, pos, negsuc, Bool, true, false, cond, ◌&&◌, ◌||◌, Option}
use Rattle.std.proofs.Common.{Some, None, List, arith, refl, ap, ◌∙◌, subst}
use Rattle.std.specs.List.{list_all}
use Rattle.std.specs.Int.RustNames.{unsigned_abs}
use Rattle.std.proofs.lemmas.List.Folds.{list_all-append}
use Rattle.core_terms.specs.declared.trees.CTerm.{CTerm, roll-CTerm, fold-roll-CTerm}
use Rattle.core_terms.specs.declared.trees.CTerm.TheVariants.{Const, Param, Add, Sub, Scale, Ite, Div, Mod}
use Rattle.core_terms.specs.declared.trees.CTerm.TheVariants.{rolls-Param, rolls-Const, rolls-Add, rolls-Div}
use Rattle.core_terms.specs.declared.trees.CTerm.TheVariants.{rolls-Mod, rolls-Sub, rolls-Scale, rolls-Ite}
use Rattle.core_terms.specs.declared.trees.CForm.{CForm, roll-CForm, out-CForm, ind-CForm, fold-roll-CForm}
use Rattle.core_terms.specs.declared.trees.CForm.{fold_out-CForm}
use Rattle.core_terms.specs.declared.trees.CForm.TheVariants.{AtLeast, Zero, Not, And, Or, rolls-AtLeast, rolls-Zero}
use Rattle.core_terms.specs.declared.trees.CForm.TheVariants.{rolls-Not, rolls-And, rolls-Or}
use Rattle.core_terms.specs.declared.trees.CForm.TheOpen.{CTerm-F, CForm-F}
use Rattle.core_terms.specs.declared.trees.CForm.TheFolds.{map-CForm, map-CTerm}
use Rattle.core_terms.specs.Weights.{Weights, weigh_form, weigh_term, term_weights, form_weight}
use Rattle.meaning_states.specs.Division.{divisor}
use Rattle.obligations.specs.declared.branches.Branch.{Branch}
use Rattle.obligations.specs.declared.branches.Variable.{Variable}
use Rattle.obligations.specs.declared.branches.Choice.{Choice}
use Rattle.obligations.specs.declared.branches.Replaced.{Replaced}
use Rattle.obligations.specs.declared.branches.Taken.{Taken}
use Rattle.obligations.specs.LinearForms.{linear, negated}
use Rattle.obligations.specs.Quotients.{replaced, replaced_in, without_quotient}
use Rattle.obligations.specs.Settling.{joined, one_waiting, first_ite, first_choice, choice_form, least_adds}
use Rattle.obligations.specs.Settling.{zero_adds, has_quotient, one_fact, two_facts, sides, sides_in}
use Rattle.obligations.specs.Settling.{unequal_adds, below_zero, outcome, settled, refused}
use Rattle.obligations.specs.Settling.{first_taken, first_of, or_whole}
use Rattle.obligations.specs.Variables.{has_step, part_has, term_has, form_has}
use Rattle.obligations.proofs.SettlingLaws.{term_fold, form_fold}
use Rattle.obligations.proofs.SettledKeeps.{choice_keeps, settled_keeps}
use Rattle.obligations.proofs.TakenLaws.{whole_quotient, whole_remainder, taken_keeps}
use Rattle.search_tree.specs.Weighing.{Dividends, dividends_step, form_dividends_step, term_dividends, form_dividends}
use Rattle.search_tree.specs.Weighing.{are_dividends_small}

module _ (weight : Bool → ℕ → ℕ) where
  abbrev D : CTerm → Dividends
  D = term_dividends weight

  abbrev F : CForm → ℕ
  F = form_dividends weight

  -- By a term's or a formula's head.
  weigh-Const : (c : ℤ) → D (Const c) ≡ record { own = unsigned_abs c; most = 0 }
  weigh-Const c = term_fold form_dividends_step (dividends_step weight) (CTerm-F.Const c) (Const c) (rolls-Const c)

  weigh-Param : (n : ℕ) → D (Param n) ≡ record { own = weight true n; most = 0 }
  weigh-Param n = term_fold form_dividends_step (dividends_step weight) (CTerm-F.Param n) (Param n) (rolls-Param n)

  weigh-Add : (a b : CTerm) → D (Add a b) ≡ record {
    own = (D a).own + (D b).own;
    most = max (D a).most (D b).most;
  }
  weigh-Add a b = term_fold form_dividends_step (dividends_step weight) (CTerm-F.Add a b) (Add a b) (rolls-Add a b)

  weigh-Sub : (a b : CTerm) → D (Sub a b) ≡ record {
    own = (D a).own + (D b).own;
    most = max (D a).most (D b).most;
  }
  weigh-Sub a b = term_fold form_dividends_step (dividends_step weight) (CTerm-F.Sub a b) (Sub a b) (rolls-Sub a b)

  weigh-Scale : (k : ℤ) (a : CTerm) → D (Scale k a) ≡ record { own = unsigned_abs k * (D a).own; most = (D a).most }
  weigh-Scale k a =
      term_fold form_dividends_step (dividends_step weight) (CTerm-F.Scale k a) (Scale k a) (rolls-Scale k a)

  weigh-Ite : (c : CForm) (a b : CTerm) → D (Ite c a b)
      ≡ record { own = max (D a).own (D b).own; most = max (F c) (max (D a).most (D b).most) }
  weigh-Ite c a b =
      term_fold form_dividends_step (dividends_step weight) (CTerm-F.Ite c a b) (Ite c a b) (rolls-Ite c a b)

  weigh-Div : (a : CTerm) (k : ℤ) → D (Div a k) ≡ record {
    own = max 1 (D a).own;
    most = max (D a).own (D a).most;
  }
  weigh-Div a k = term_fold form_dividends_step (dividends_step weight) (CTerm-F.Div a k) (Div a k) (rolls-Div a k)

  weigh-Mod : (a : CTerm) (k : ℤ) → D (Mod a k) ≡ record {
    own = 2 * (D a).own + unsigned_abs (divisor k);
    most = max (D a).own (D a).most;
  }
  weigh-Mod a k = term_fold form_dividends_step (dividends_step weight) (CTerm-F.Mod a k) (Mod a k) (rolls-Mod a k)

  weigh-AtLeast : (t : CTerm) → F (AtLeast t) ≡ (D t).most
  weigh-AtLeast t =
      form_fold form_dividends_step (dividends_step weight) (CForm-F.AtLeast t) (AtLeast t) (rolls-AtLeast t)

  weigh-Zero : (t : CTerm) → F (Zero t) ≡ (D t).most
  weigh-Zero t = form_fold form_dividends_step (dividends_step weight) (CForm-F.Zero t) (Zero t) (rolls-Zero t)

  weigh-Not : (f : CForm) → F (Not f) ≡ F f
  weigh-Not f = form_fold form_dividends_step (dividends_step weight) (CForm-F.Not f) (Not f) (rolls-Not f)

  weigh-And : (f g : CForm) → F (And f g) ≡ max (F f) (F g)
  weigh-And f g = form_fold form_dividends_step (dividends_step weight) (CForm-F.And f g) (And f g) (rolls-And f g)

  weigh-Or : (f g : CForm) → F (Or f g) ≡ max (F f) (F g)
  weigh-Or f g = form_fold form_dividends_step (dividends_step weight) (CForm-F.Or f g) (Or f g) (rolls-Or f g)

  -- A choice is no heavier than its term.
  record ChoiceIs (t : CTerm) (c : Choice) : Type 0 where
    holds : F c.when ≤ (D t).most
    yes_own : (D c.yes).own ≤ (D t).own
    yes_most : (D c.yes).most ≤ (D t).most
    no_own : (D c.no).own ≤ (D t).own
    no_most : (D c.no).most ≤ (D t).most

  abbrev Chosen : CTerm → Option Choice → Type 0
  Chosen t None = Unit {0}
  Chosen t (Some c) = ChoiceIs t c

  pair-chosen : (node : CTerm → CTerm → CTerm) →
      ((a b : CTerm) → D (node a b) ≡ record { own = (D a).own + (D b).own; most = max (D a).most (D b).most }) →
      (a b : CTerm) (m n : Option Choice) → Chosen a m → Chosen b n →
      Chosen (node a b) (first_choice (λ x. node x b) (λ y. node a y) m n)
  pair-chosen node is a b None None p q = tt
  pair-chosen node is a b None (Some d) p q =
      let t0 = ap (λ (x : Dividends). x.own) (is a b) in let t1 = ap (λ (x : Dividends). x.most) (is a b) in
      let y0 = ap (λ (x : Dividends). x.own) (is a d.yes) in let y1 = ap (λ (x : Dividends). x.most) (is a d.yes) in
      let z0 = ap (λ (x : Dividends). x.own) (is a d.no) in let z1 = ap (λ (x : Dividends). x.most) (is a d.no) in
      let r0 = q.holds in let r2 = q.yes_own in let r3 = q.yes_most in let r4 = q.no_own in let r5 = q.no_most in
      record {
        holds = omega (arith, r0, t1);
        yes_own = omega (arith, r2, t0, y0);
        yes_most = omega (arith, r3, t1, y1);
        no_own = omega (arith, r4, t0, z0);
        no_most = omega (arith, r5, t1, z1);
      }
  pair-chosen node is a b (Some d) n p q =
      let t0 = ap (λ (x : Dividends). x.own) (is a b) in let t1 = ap (λ (x : Dividends). x.most) (is a b) in
      let y0 = ap (λ (x : Dividends). x.own) (is d.yes b) in let y1 = ap (λ (x : Dividends). x.most) (is d.yes b) in
      let z0 = ap (λ (x : Dividends). x.own) (is d.no b) in let z1 = ap (λ (x : Dividends). x.most) (is d.no b) in
      let r0 = p.holds in let r2 = p.yes_own in let r3 = p.yes_most in let r4 = p.no_own in let r5 = p.no_most in
      record {
        holds = omega (arith, r0, t1);
        yes_own = omega (arith, r2, t0, y0);
        yes_most = omega (arith, r3, t1, y1);
        no_own = omega (arith, r4, t0, z0);
        no_most = omega (arith, r5, t1, z1);
      }

  scale-chosen : (k : ℤ) (a : CTerm) (m : Option Choice) → Chosen a m →
      Chosen (Scale k a) (first_choice (λ x. Scale k x) (λ x. Scale k x) m None)
  scale-chosen k a None p = tt
  scale-chosen k a (Some d) p =
      let t0 = ap (λ (x : Dividends). x.own) (weigh-Scale k a) in
      let t1 = ap (λ (x : Dividends). x.most) (weigh-Scale k a) in
      let y0 = ap (λ (x : Dividends). x.own) (weigh-Scale k d.yes) in
      let y1 = ap (λ (x : Dividends). x.most) (weigh-Scale k d.yes) in
      let z0 = ap (λ (x : Dividends). x.own) (weigh-Scale k d.no) in
      let z1 = ap (λ (x : Dividends). x.most) (weigh-Scale k d.no) in
      let my = mul-le-mul (le_refl (unsigned_abs k)) p.yes_own in
      let mz = mul-le-mul (le_refl (unsigned_abs k)) p.no_own in
      let r0 = p.holds in let r3 = p.yes_most in let r5 = p.no_most in
      record {
        holds = omega (arith, r0, t1);
        yes_own = omega (arith, my, t0, y0);
        yes_most = omega (arith, r3, t1, y1);
        no_own = omega (arith, mz, t0, z0);
        no_most = omega (arith, r5, t1, z1);
      }

  div-chosen : (a : CTerm) (k : ℤ) (m : Option Choice) → Chosen a m →
      Chosen (Div a k) (first_choice (λ x. Div x k) (λ x. Div x k) m None)
  div-chosen a k None p = tt
  div-chosen a k (Some d) p =
      let t0 = ap (λ (x : Dividends). x.own) (weigh-Div a k) in
      let t1 = ap (λ (x : Dividends). x.most) (weigh-Div a k) in
      let y0 = ap (λ (x : Dividends). x.own) (weigh-Div d.yes k) in
      let y1 = ap (λ (x : Dividends). x.most) (weigh-Div d.yes k) in
      let z0 = ap (λ (x : Dividends). x.own) (weigh-Div d.no k) in
      let z1 = ap (λ (x : Dividends). x.most) (weigh-Div d.no k) in
      let r0 = p.holds in let r2 = p.yes_own in let r3 = p.yes_most in let r4 = p.no_own in let r5 = p.no_most in
      record {
        holds = omega (arith, r0, t1);
        yes_own = omega (arith, r2, t0, y0);
        yes_most = omega (arith, r2, r3, t1, y1);
        no_own = omega (arith, r4, t0, z0);
        no_most = omega (arith, r4, r5, t1, z1);
      }

  mod-chosen : (a : CTerm) (k : ℤ) (m : Option Choice) → Chosen a m →
      Chosen (Mod a k) (first_choice (λ x. Mod x k) (λ x. Mod x k) m None)
  mod-chosen a k None p = tt
  mod-chosen a k (Some d) p =
      let t0 = ap (λ (x : Dividends). x.own) (weigh-Mod a k) in
      let t1 = ap (λ (x : Dividends). x.most) (weigh-Mod a k) in
      let y0 = ap (λ (x : Dividends). x.own) (weigh-Mod d.yes k) in
      let y1 = ap (λ (x : Dividends). x.most) (weigh-Mod d.yes k) in
      let z0 = ap (λ (x : Dividends). x.own) (weigh-Mod d.no k) in
      let z1 = ap (λ (x : Dividends). x.most) (weigh-Mod d.no k) in
      let r0 = p.holds in let r2 = p.yes_own in let r3 = p.yes_most in let r4 = p.no_own in let r5 = p.no_most in
      record {
        holds = omega (arith, r0, t1);
        yes_own = omega (arith, r2, t0, y0);
        yes_most = omega (arith, r2, r3, t1, y1);
        no_own = omega (arith, r4, t0, z0);
        no_most = omega (arith, r4, r5, t1, z1);
      }

  ite-chosen : (f : CForm) (a b : CTerm) → ChoiceIs (Ite f a b) (record { when = f; yes = a; no = b })
  ite-chosen f a b =
      let t0 = ap (λ (x : Dividends). x.own) (weigh-Ite f a b) in
      let t1 = ap (λ (x : Dividends). x.most) (weigh-Ite f a b) in
      record {
        holds = omega (arith, t1);
        yes_own = omega (arith, t0);
        yes_most = omega (arith, t1);
        no_own = omega (arith, t0);
        no_most = omega (arith, t1);
      }

  term-chosen : (t : CTerm) → Chosen t (first_ite t)
  term-chosen = choice_keeps Chosen (record {
    of_const = λ c. tt;
    of_slot = λ n. tt;
    of_param = λ n. tt;
    of_add = pair-chosen Add weigh-Add;
    of_sub = pair-chosen Sub weigh-Sub;
    of_scale = scale-chosen;
    of_div = div-chosen;
    of_mod = mod-chosen;
    of_ite = ite-chosen;
  })

  -- What settling adds is no heavier.
  small-in : (f : CForm) → F f ≤ 2 ^ 62 → are_dividends_small weight f ≡ true
  small-in f h = grind arith

  pub small-out : (f : CForm) → are_dividends_small weight f ≡ true → F f ≤ 2 ^ 62
  small-out f h = grind arith

  module _ (vs : List Variable) where
    abbrev U : Branch → Type 0
    U b = list_all (are_dividends_small weight) b.waiting ≡ true

    one-small : (f : CForm) → F f ≤ 2 ^ 62 → U (one_waiting f)
    one-small f h = ap (λ z. z && true) (small-in f h)

    waits-small : (f : CForm) (a : Branch) (b : Bool) → F f ≤ 2 ^ 62 → U a → U (cond b (one_waiting f) a)
    waits-small f a true h u = one-small f h
    waits-small f a false h u = u

    choice-small : (f : CTerm → CForm) → ((t : CTerm) → F (f t) ≡ (D t).most) → (t : CTerm) (c : Choice) →
        (D t).most ≤ 2 ^ 62 → ChoiceIs t c → U (one_waiting (choice_form f c))
    choice-small f is t c h r =
        let n = weigh-Or (And c.when (f c.yes)) (And (Not c.when) (f c.no)) in
        let m = weigh-And c.when (f c.yes) in let l = weigh-And (Not c.when) (f c.no) in let k = weigh-Not c.when in
        let y = is c.yes in let z = is c.no in
        let r0 = r.holds in let r1 = r.yes_most in let r2 = r.no_most in
        one-small (choice_form f c) (omega (arith, n, m, l, k, y, z, r0, r1, r2, h))

    least-small : (t : CTerm) → (D t).most ≤ 2 ^ 62 → (m : Option Choice) → Chosen t m → U (least_adds vs t m)
    least-small t h None r =
        waits-small (AtLeast t) (one_fact (linear vs t)) (has_quotient t)
        (let n = weigh-AtLeast t in omega (arith, n, h)) refl
    least-small t h (Some c) r = choice-small AtLeast weigh-AtLeast t c h r

    zero-small : (t : CTerm) → (D t).most ≤ 2 ^ 62 → (m : Option Choice) → Chosen t m → U (zero_adds vs t m)
    zero-small t h None r =
        waits-small (Zero t) (two_facts (linear vs t) (negated vs (linear vs t))) (has_quotient t)
        (let n = weigh-Zero t in omega (arith, n, h)) refl
    zero-small t h (Some c) r = choice-small Zero weigh-Zero t c h r

    below-most : (t : CTerm) → (D t).most ≤ 2 ^ 62 → (D (below_zero t)).most ≤ 2 ^ 62
    below-most t h =
        let v = ap (λ (x : Dividends). x.most) (weigh-Sub (Const (negsuc 0)) t) in
        let d = ap (λ (x : Dividends). x.most) (weigh-Const (negsuc 0)) in
        omega (arith, v, d, h)

    unequal-small : (t : CTerm) → (D t).most ≤ 2 ^ 62 → (m : Option Choice) → Chosen t m → U (unequal_adds t m)
    unequal-small t h None r =
        let u = ap (λ (x : Dividends). x.most) (weigh-Sub t (Const (pos 1))) in
        let c = ap (λ (x : Dividends). x.most) (weigh-Const (pos 1)) in
        let v = below-most t h in
        let m = weigh-AtLeast (Sub t (Const (pos 1))) in let n = weigh-AtLeast (Sub (Const (negsuc 0)) t) in
        let o = weigh-Or (AtLeast (Sub t (Const (pos 1)))) (AtLeast (Sub (Const (negsuc 0)) t)) in
        one-small (Or (AtLeast (Sub t (Const (pos 1)))) (AtLeast (Sub (Const (negsuc 0)) t)))
        (omega (arith, u, c, v, m, n, o, h))
    unequal-small t h (Some c) r =
        choice-small (λ x. Not (Zero x)) (λ x. weigh-Not (Zero x) ∙ weigh-Zero x) t c h r

    joined-small : (a b : Branch) → U a → U b → U (joined a b)
    joined-small a b p q =
        list_all-append (are_dividends_small weight) a.waiting b.waiting
        ∙ ap (λ z. z && list_all (are_dividends_small weight) b.waiting) p ∙ q

    abbrev Small : CForm → Branch → Branch → Type 0
    Small f a b = F f ≤ 2 ^ 62 → U a × U b

    adds-small : (f : CForm) → Small f (outcome vs f).yes (outcome vs f).no
    adds-small = settled_keeps vs Small (record {
      of_top = λ h. (refl, refl);
      of_bottom = λ h. (refl, refl);
      of_least = λ t h.
          let n = weigh-AtLeast t in let s : (D t).most ≤ 2 ^ 62 = omega (arith, n, h) in (
            least-small t s (first_ite t) (term-chosen t),
            least-small (below_zero t) (below-most t s) (first_ite (below_zero t)) (term-chosen (below_zero t)),
          );
      of_zero = λ t h.
          let n = weigh-Zero t in let s : (D t).most ≤ 2 ^ 62 = omega (arith, n, h) in (
            zero-small t s (first_ite t) (term-chosen t),
            unequal-small t s (first_ite t) (term-chosen t),
          );
      of_not = λ f a b p h. let n = weigh-Not f in let s = p (omega (arith, n, h)) in (s.1, s.0);
      of_and = λ f g a b c d p q h.
          let n = weigh-And f g in let s = p (omega (arith, n, h)) in let r = q (omega (arith, n, h)) in
          let o = weigh-Or (Not f) (Not g) in let k = weigh-Not f in let l = weigh-Not g in
          (joined-small a c s.0 r.0, one-small (Or (Not f) (Not g)) (omega (arith, n, o, k, l, h)));
      of_or = λ f g a b c d p q h.
          let n = weigh-Or f g in let s = p (omega (arith, n, h)) in let r = q (omega (arith, n, h)) in
          (one-small (Or f g) h, joined-small b d s.1 r.1);
    })

    pub settled-small : (f : CForm) (b : Branch) → F f ≤ 2 ^ 62 → U b → U (settled vs f b)
    settled-small f b h u = joined-small b (outcome vs f).yes u (adds-small f h).0

    pub refused-small : (f : CForm) (b : Branch) → F f ≤ 2 ^ 62 → U b → U (refused vs f b)
    refused-small f b h u = joined-small b (outcome vs f).no u (adds-small f h).1

  sides-small : (f : CForm) (x : CForm-F CForm CTerm) → out-CForm f ≡ x →
      (F (sides_in f x).0 ≤ F f) × (F (sides_in f x).1 ≤ F f)
  sides-small f CForm-F.Top e = (le_refl (F f), le_refl (F f))
  sides-small f CForm-F.Bottom e = (le_refl (F f), le_refl (F f))
  sides-small f (CForm-F.AtLeast t) e = (le_refl (F f), le_refl (F f))
  sides-small f (CForm-F.Zero t) e = (le_refl (F f), le_refl (F f))
  sides-small f (CForm-F.Not g) e = (le_refl (F f), le_refl (F f))
  sides-small f (CForm-F.And g k) e = (le_refl (F f), le_refl (F f))
  sides-small f (CForm-F.Or g k) e =
      let n = fold_out-CForm ℕ Dividends form_dividends_step (dividends_step weight) f ∙ ap
      (λ x. form_dividends_step (map-CForm CForm CTerm ℕ Dividends F D x)) e in
      (omega (arith, n), omega (arith, n))

  pub first-small : (f : CForm) → F (sides f).0 ≤ F f
  first-small f = (sides-small f (out-CForm f) refl).0

  pub second-small : (f : CForm) → F (sides f).1 ≤ F f
  second-small f = (sides-small f (out-CForm f) refl).1

  -- A quotient that is taken leaves no more, where its variable weighs enough for it and no more than that.
  module _ (v : ℕ) where
    pub record Fits (q : Taken) : Type 0 where
      pub own : weight true v ≤ max 1 (D q.of).own
      pub times : unsigned_abs q.divisor * weight true v ≤ (D q.of).own + unsigned_abs q.divisor

    record TakenIs (t : CTerm) (q : Taken) : Type 0 where
      of : (D q.of).own ≤ (D t).most
      rest_own : Fits q → (D q.rest).own ≤ (D t).own
      rest_most : Fits q → (D q.rest).most ≤ (D t).most

    abbrev Lighter : CTerm → Option Taken → Type 0
    Lighter t None = Unit {0}
    Lighter t (Some q) = TakenIs t q

    within : (p : Taken) (q : CTerm) → Fits (record { of = p.of; divisor = p.divisor; rest = q }) → Fits p
    within p q h = record { own = h.own; times = h.times }

    pair-lighter : (node : CTerm → CTerm → CTerm) →
        ((a b : CTerm) → D (node a b) ≡ record { own = (D a).own + (D b).own; most = max (D a).most (D b).most }) →
        (a b : CTerm) (m n : Option Taken) → Lighter a m → Lighter b n →
        Lighter (node a b) (first_of (λ x. node x b) (λ y. node a y) m n)
    pair-lighter node is a b None None p q = tt
    pair-lighter node is a b None (Some r) p q =
        let t0 = ap (λ (x : Dividends). x.own) (is a b) in let t1 = ap (λ (x : Dividends). x.most) (is a b) in
        let y0 = ap (λ (x : Dividends). x.own) (is a r.rest) in
        let y1 = ap (λ (x : Dividends). x.most) (is a r.rest) in let q0 = q.of in
        record {
          of = omega (arith, q0, t1);
          rest_own = λ h. let k = q.rest_own (within r (node a r.rest) h) in omega (arith, k, t0, y0);
          rest_most = λ h. let k = q.rest_most (within r (node a r.rest) h) in omega (arith, k, t1, y1);
        }
    pair-lighter node is a b (Some r) n p q =
        let t0 = ap (λ (x : Dividends). x.own) (is a b) in let t1 = ap (λ (x : Dividends). x.most) (is a b) in
        let y0 = ap (λ (x : Dividends). x.own) (is r.rest b) in
        let y1 = ap (λ (x : Dividends). x.most) (is r.rest b) in let q0 = p.of in
        record {
          of = omega (arith, q0, t1);
          rest_own = λ h. let k = p.rest_own (within r (node r.rest b) h) in omega (arith, k, t0, y0);
          rest_most = λ h. let k = p.rest_most (within r (node r.rest b) h) in omega (arith, k, t1, y1);
        }

    scale-lighter : (k : ℤ) (a : CTerm) (m : Option Taken) → Lighter a m →
        Lighter (Scale k a) (first_of (λ x. Scale k x) (λ x. Scale k x) m None)
    scale-lighter k a None p = tt
    scale-lighter k a (Some r) p =
        let t0 = ap (λ (x : Dividends). x.own) (weigh-Scale k a) in
        let t1 = ap (λ (x : Dividends). x.most) (weigh-Scale k a) in
        let y0 = ap (λ (x : Dividends). x.own) (weigh-Scale k r.rest) in
        let y1 = ap (λ (x : Dividends). x.most) (weigh-Scale k r.rest) in let q0 = p.of in
        record {
          of = omega (arith, q0, t1);
          rest_own = λ h.
              let m = mul-le-mul (le_refl (unsigned_abs k)) (p.rest_own (within r (Scale k r.rest) h)) in
              omega (arith, m, t0, y0);
          rest_most = λ h. let m = p.rest_most (within r (Scale k r.rest) h) in omega (arith, m, t1, y1);
        }

    div-lighter : (a : CTerm) (k : ℤ) (m : Option Taken) → Lighter a m →
        Lighter (Div a k) (or_whole (λ x. Div x k) m (whole_quotient v a k))
    div-lighter a k None p =
        let t0 = ap (λ (x : Dividends). x.own) (weigh-Div a k) in
        let t1 = ap (λ (x : Dividends). x.most) (weigh-Div a k) in
        let y0 = ap (λ (x : Dividends). x.own) (weigh-Param v) in
        let y1 = ap (λ (x : Dividends). x.most) (weigh-Param v) in
        record {
          of = omega (arith, t1);
          rest_own = λ h. let m = h.own in omega (arith, m, t0, y0);
          rest_most = λ h. omega (arith, t1, y1);
        }
    div-lighter a k (Some r) p =
        let t0 = ap (λ (x : Dividends). x.own) (weigh-Div a k) in
        let t1 = ap (λ (x : Dividends). x.most) (weigh-Div a k) in
        let y0 = ap (λ (x : Dividends). x.own) (weigh-Div r.rest k) in
        let y1 = ap (λ (x : Dividends). x.most) (weigh-Div r.rest k) in let q0 = p.of in
        record {
          of = omega (arith, q0, t1);
          rest_own = λ h. let m = p.rest_own (within r (Div r.rest k) h) in omega (arith, m, t0, y0);
          rest_most = λ h.
              let m = p.rest_most (within r (Div r.rest k) h) in let n = p.rest_own (within r (Div r.rest k) h) in
              omega (arith, m, n, t1, y1);
        }

    mod-lighter : (a : CTerm) (k : ℤ) (m : Option Taken) → Lighter a m →
        Lighter (Mod a k) (or_whole (λ x. Mod x k) m (whole_remainder v a k))
    mod-lighter a k None p =
        let t0 = ap (λ (x : Dividends). x.own) (weigh-Mod a k) in
        let t1 = ap (λ (x : Dividends). x.most) (weigh-Mod a k) in
        let y0 = ap (λ (x : Dividends). x.own) (weigh-Param v) in
        let y1 = ap (λ (x : Dividends). x.most) (weigh-Param v) in
        let z0 = ap (λ (x : Dividends). x.own) (weigh-Scale (divisor k) (Param v)) in
        let z1 = ap (λ (x : Dividends). x.most) (weigh-Scale (divisor k) (Param v)) in
        let u0 = ap (λ (x : Dividends). x.own) (weigh-Sub a (Scale (divisor k) (Param v))) in
        let u1 = ap (λ (x : Dividends). x.most) (weigh-Sub a (Scale (divisor k) (Param v))) in
        let one = ap (λ n. unsigned_abs (divisor k) * n) y0 in
        record {
          of = omega (arith, t1);
          rest_own = λ h. let m = h.times in omega (arith, m, t0, one, z0, u0);
          rest_most = λ h. omega (arith, t1, y1, z1, u1);
        }
    mod-lighter a k (Some r) p =
        let t0 = ap (λ (x : Dividends). x.own) (weigh-Mod a k) in
        let t1 = ap (λ (x : Dividends). x.most) (weigh-Mod a k) in
        let y0 = ap (λ (x : Dividends). x.own) (weigh-Mod r.rest k) in
        let y1 = ap (λ (x : Dividends). x.most) (weigh-Mod r.rest k) in let q0 = p.of in
        record {
          of = omega (arith, q0, t1);
          rest_own = λ h. let m = p.rest_own (within r (Mod r.rest k) h) in omega (arith, m, t0, y0);
          rest_most = λ h.
              let m = p.rest_most (within r (Mod r.rest k) h) in let n = p.rest_own (within r (Mod r.rest k) h) in
              omega (arith, m, n, t1, y1);
        }

    taken-lighter : (t : CTerm) → Lighter t (first_taken v t)
    taken-lighter = taken_keeps v Lighter (record {
      of_const = λ c. tt;
      of_slot = λ n. tt;
      of_param = λ n. tt;
      of_add = pair-lighter Add weigh-Add;
      of_sub = pair-lighter Sub weigh-Sub;
      of_scale = scale-lighter;
      of_div = div-lighter;
      of_mod = mod-lighter;
      of_ite = λ c a b. tt;
    })

    pub record IsLighter (f : CForm) (r : Replaced) : Type 0 where
      pub of : (D r.taken.of).own ≤ F f
      pub form : Fits r.taken → F r.form ≤ F f

    node-lighter : (f : CForm) (t : CTerm) (o : Option Taken) (make : CTerm → CForm) (r : Replaced) →
        ((u : CTerm) → F (make u) ≡ (D u).most) → F f ≡ (D t).most → Lighter t o → replaced make o ≡ Some r →
        IsLighter f r
    node-lighter f t None make r is e p h = absurd cc
    node-lighter f t (Some q) make r is e p h =
        let same : record { taken = q; form = make q.rest } ≡ r = cc in
        let p0 = p.of in let m = is q.rest in
        subst (IsLighter f) same (record {
          of = omega (arith, p0, e);
          form = λ x. let k = p.rest_most x in omega (arith, k, e, m);
        })

    form-out : (f : CForm) (x : CForm-F CForm CTerm) → out-CForm f ≡ x →
        F f ≡ form_dividends_step (map-CForm CForm CTerm ℕ Dividends F D x)
    form-out f x e = fold_out-CForm ℕ Dividends form_dividends_step (dividends_step weight) f
        ∙ ap (λ x. form_dividends_step (map-CForm CForm CTerm ℕ Dividends F D x)) e

    lighter-in : (f : CForm) (x : CForm-F CForm CTerm) (r : Replaced) → out-CForm f ≡ x →
        replaced_in v x ≡ Some r → IsLighter f r
    lighter-in f CForm-F.Top r e h = absurd cc
    lighter-in f CForm-F.Bottom r e h = absurd cc
    lighter-in f (CForm-F.AtLeast t) r e h =
        node-lighter f t (first_taken v t) AtLeast r weigh-AtLeast (form-out f (CForm-F.AtLeast t) e)
        (taken-lighter t) h
    lighter-in f (CForm-F.Zero t) r e h =
        node-lighter f t (first_taken v t) Zero r weigh-Zero (form-out f (CForm-F.Zero t) e) (taken-lighter t) h
    lighter-in f (CForm-F.Not g) r e h = absurd cc
    lighter-in f (CForm-F.And g k) r e h = absurd cc
    lighter-in f (CForm-F.Or g k) r e h = absurd cc

    pub without-small : (f : CForm) (r : Replaced) → without_quotient v f ≡ Some r → IsLighter f r
    without-small f r h = lighter-in f (out-CForm f) r refl h

-- What is divided weighs no more than the formula, where each name that occurs does.
module _ (weight : Bool → ℕ → ℕ) (slots params : ℕ → ℕ) (Named : Bool → ℕ → Type 0)
    (slot : (n : ℕ) → Named false n → weight false n ≤ slots n)
    (param : (n : ℕ) → Named true n → weight true n ≤ params n) where
  abbrev W : CTerm → Weights
  W = term_weights slots params

  abbrev FormBridge : CForm → Type 0
  FormBridge f = ((p : Bool) (n : ℕ) → form_has p n f ≡ true → Named p n) →
      form_dividends weight f ≤ form_weight slots params f

  record Within (d : Dividends) (w : Weights) : Type 0 where
    own : d.own ≤ w.own
    most : d.most ≤ w.most

  abbrev TermBridge : CTerm → Type 0
  TermBridge t = ((p : Bool) (n : ℕ) → term_has p n t ≡ true → Named p n) → Within (term_dividends weight t) (W t)

  abbrev BridgedForm : Type 0
  BridgedForm = (f : CForm) × FormBridge f

  abbrev BridgedTerm : Type 0
  BridgedTerm = (t : CTerm) × TermBridge t

  rolled-form : (x : CForm-F CForm CTerm) →
      (((p : Bool) (n : ℕ) → part_has (map-CForm CForm CTerm Bool Bool (form_has p n) (term_has p n) x) ≡ true →
      Named p n) → form_dividends_step (map-CForm CForm CTerm ℕ Dividends (form_dividends weight)
      (term_dividends weight) x) ≤ weigh_form (map-CForm CForm CTerm ℕ Weights (form_weight slots params) W x)) →
      FormBridge (roll-CForm x)
  rolled-form x h names =
      let a = fold-roll-CForm ℕ Dividends form_dividends_step (dividends_step weight) x in
      let b = fold-roll-CForm ℕ Weights weigh_form (weigh_term slots params) x in
      let k = h (λ p n e. names p n (fold-roll-CForm Bool Bool part_has (has_step p n) x ∙ e)) in
      omega (arith, a, b, k)

  rolled-term : (x : CTerm-F CForm CTerm) →
      (((p : Bool) (n : ℕ) → has_step p n (map-CTerm CForm CTerm Bool Bool (form_has p n) (term_has p n) x) ≡ true →
      Named p n) → Within (dividends_step weight (map-CTerm CForm CTerm ℕ Dividends (form_dividends weight)
      (term_dividends weight) x))
      (weigh_term slots params (map-CTerm CForm CTerm ℕ Weights (form_weight slots params) W x))) →
      TermBridge (roll-CTerm x)
  rolled-term x h names =
      let a = fold-roll-CTerm ℕ Dividends form_dividends_step (dividends_step weight) x in
      let b = fold-roll-CTerm ℕ Weights weigh_form (weigh_term slots params) x in
      let k = h (λ p n e. names p n (fold-roll-CTerm Bool Bool part_has (has_step p n) x ∙ e)) in
      let a0 = ap (λ (z : Dividends). z.own) a in let a1 = ap (λ (z : Dividends). z.most) a in
      let b0 = ap (λ (z : Weights). z.own) b in let b1 = ap (λ (z : Weights). z.most) b in
      let k0 = k.own in let k1 = k.most in
      record { own = omega (arith, a0, b0, k0); most = omega (arith, a1, b1, k1) }

  or-left : (a b : Bool) → a ≡ true → (a || b) ≡ true
  or-left true b e = refl
  or-left false b e = cc

  or-right : (a b : Bool) → b ≡ true → (a || b) ≡ true
  or-right true b e = refl
  or-right false b e = e

  eq-refl : (a : ℕ) → nat_eq a a ≡ true
  eq-refl a = grind arith

  form_layer : (y : CForm-F BridgedForm BridgedTerm) →
      FormBridge (roll-CForm (map-CForm BridgedForm BridgedTerm CForm CTerm (λ e. e.0) (λ e. e.0) y))
  form_layer CForm-F.Top = rolled-form CForm-F.Top (λ names. omega arith)
  form_layer CForm-F.Bottom = rolled-form CForm-F.Bottom (λ names. omega arith)
  form_layer (CForm-F.AtLeast t) = rolled-form (CForm-F.AtLeast t.0) (λ names. (t.1 names).most)
  form_layer (CForm-F.Zero t) = rolled-form (CForm-F.Zero t.0) (λ names. (t.1 names).most)
  form_layer (CForm-F.Not f) = rolled-form (CForm-F.Not f.0) f.1
  form_layer (CForm-F.And f g) = rolled-form (CForm-F.And f.0 g.0) (λ names.
      let p = f.1 (λ q n e. names q n (or-left _ _ e)) in
      let r = g.1 (λ q n e. names q n (or-right (form_has q n f.0) _ e)) in
      omega (arith, p, r))
  form_layer (CForm-F.Or f g) = rolled-form (CForm-F.Or f.0 g.0) (λ names.
      let p = f.1 (λ q n e. names q n (or-left _ _ e)) in
      let r = g.1 (λ q n e. names q n (or-right (form_has q n f.0) _ e)) in
      omega (arith, p, r))

  term_layer : (y : CTerm-F BridgedForm BridgedTerm) →
      TermBridge (roll-CTerm (map-CTerm BridgedForm BridgedTerm CForm CTerm (λ e. e.0) (λ e. e.0) y))
  term_layer (CTerm-F.Const c) = rolled-term (CTerm-F.Const c)
      (λ names. record { own = le_refl (unsigned_abs c); most = omega arith })
  term_layer (CTerm-F.Slot n) = rolled-term (CTerm-F.Slot n)
      (λ names. record { own = slot n (names false n (eq-refl n)); most = omega arith })
  term_layer (CTerm-F.Param n) = rolled-term (CTerm-F.Param n)
      (λ names. record { own = param n (names true n (eq-refl n)); most = omega arith })
  term_layer (CTerm-F.Add a b) = rolled-term (CTerm-F.Add a.0 b.0) (λ names.
      let p = a.1 (λ q n e. names q n (or-left _ _ e)) in
      let r = b.1 (λ q n e. names q n (or-right (term_has q n a.0) _ e)) in
      let p0 = p.own in let p1 = p.most in let r0 = r.own in let r1 = r.most in
      record { own = omega (arith, p0, r0); most = omega (arith, p1, r1) })
  term_layer (CTerm-F.Sub a b) = rolled-term (CTerm-F.Sub a.0 b.0) (λ names.
      let p = a.1 (λ q n e. names q n (or-left _ _ e)) in
      let r = b.1 (λ q n e. names q n (or-right (term_has q n a.0) _ e)) in
      let p0 = p.own in let p1 = p.most in let r0 = r.own in let r1 = r.most in
      record { own = omega (arith, p0, r0); most = omega (arith, p1, r1) })
  term_layer (CTerm-F.Scale k a) = rolled-term (CTerm-F.Scale k a.0) (λ names.
      let p = a.1 names in let p1 = p.most in
      record { own = mul-le-mul (le_refl (unsigned_abs k)) p.own; most = omega (arith, p1) })
  term_layer (CTerm-F.Div a k) = rolled-term (CTerm-F.Div a.0 k) (λ names.
      let p = a.1 names in let p0 = p.own in let p1 = p.most in
      record { own = omega (arith, p0); most = omega (arith, p0, p1) })
  term_layer (CTerm-F.Mod a k) = rolled-term (CTerm-F.Mod a.0 k) (λ names.
      let p = a.1 names in let p0 = p.own in let p1 = p.most in
      record { own = omega (arith, p0); most = omega (arith, p0, p1) })
  term_layer (CTerm-F.Ite c a b) = rolled-term (CTerm-F.Ite c.0 a.0 b.0) (λ names.
      let o = c.1 (λ q n e. names q n (or-left _ _ e)) in
      let p = a.1 (λ q n e. names q n (or-right (form_has q n c.0) _ (or-left _ _ e))) in
      let r = b.1 (λ q n e. names q n (or-right (form_has q n c.0) _ (or-right (term_has q n a.0) _ e))) in
      let p0 = p.own in let p1 = p.most in let r0 = r.own in let r1 = r.most in
      record { own = omega (arith, p0, r0); most = omega (arith, o, p1, r1) })

  pub dividends-within : (f : CForm) → FormBridge f
  dividends-within f =
      ind-CForm FormBridge TermBridge (λ x y e. subst (λ z. FormBridge (roll-CForm z)) e (form_layer y))
      (λ x y e. subst (λ z. TermBridge (roll-CTerm z)) e (term_layer y)) f
