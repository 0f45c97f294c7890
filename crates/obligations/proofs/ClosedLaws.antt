-- Settling keeps a branch closed: what is added names variables only.
use Rattle.std.proofs.Common.{◌≡◌, ℕ, suc, ◌+◌, ◌<◌, ◌≤◌, nat_le, ℤ, pos, negsuc, Bool, true, false, cond}
use Rattle.std.proofs.Common.{◌&&◌, ◌||◌, ◌⊎◌, inl, inr, Option, Some, None, List, [], ◌∷◌, ◌++◌, length, arith, refl}
use Rattle.std.proofs.Common.{sym, ap, ◌∙◌, subst}
use Rattle.std.specs.List.{list_all}
use Rattle.std.proofs.lemmas.List.Folds.{list_all-append}
use Rattle.core_terms.specs.declared.trees.CTerm.{CTerm}
use Rattle.core_terms.specs.declared.trees.CTerm.TheVariants.{Const, Add, Sub, Scale, Ite, Div, Mod}
use Rattle.core_terms.specs.declared.trees.CTerm.TheVariants.{rolls-Const, rolls-Add, rolls-Sub, rolls-Scale}
use Rattle.core_terms.specs.declared.trees.CTerm.TheVariants.{rolls-Ite, rolls-Div, rolls-Mod}
use Rattle.core_terms.specs.declared.trees.CForm.{CForm, out-CForm, out-roll-CForm}
use Rattle.core_terms.specs.declared.trees.CForm.TheVariants.{AtLeast, Zero, Not, And, Or, rolls-AtLeast}
use Rattle.core_terms.specs.declared.trees.CForm.TheVariants.{rolls-Zero, rolls-Not, rolls-And, rolls-Or}
use Rattle.core_terms.specs.declared.trees.CForm.TheOpen.{CTerm-F, CForm-F}
use Rattle.core_terms.specs.from_meaning_states.State.{int_eq}
use Rattle.obligations.specs.declared.branches.Variable.{Variable}
use Rattle.obligations.specs.declared.branches.Fact.{Fact}
use Rattle.obligations.specs.declared.branches.Line.{Line}
use Rattle.obligations.specs.declared.branches.Branch.{Branch}
use Rattle.obligations.specs.declared.branches.Choice.{Choice}
use Rattle.obligations.specs.LinearForms.{place_of, zeros, sparse, fact_of, linear, negated}
use Rattle.obligations.specs.Reach.{is_within}
use Rattle.obligations.specs.Settling.{joined, one_waiting, one_fact, two_facts, first_ite, first_choice, choice_form}
use Rattle.obligations.specs.Settling.{least_adds, zero_adds, unequal_adds, below_zero, outcome, settled, refused}
use Rattle.obligations.specs.Settling.{has_quotient}
use Rattle.obligations.specs.Variables.{has_step, part_has, term_has, form_has}
use Rattle.obligations.specs.Closed.{NamesOnly, HasNoChoiceIn, AllWait, IsClosed}
use Rattle.obligations.proofs.TreeLaws.{term_fold, form_fold, linear-long}
use Rattle.obligations.proofs.LineLaws.{length-plus, length-zeros}
use Rattle.obligations.proofs.SettledKeeps.{choice_keeps, settled_keeps}

-- what occurs, by heads
module _ (param : Bool) (n : ℕ) where
  abbrev H : CTerm → Bool
  H = term_has param n

  abbrev G : CForm → Bool
  G = form_has param n

  has-Const : (c : ℤ) → H (Const c) ≡ false
  has-Const c = term_fold part_has (has_step param n) (CTerm-F.Const c) (Const c) (rolls-Const c)

  pub has-Add : (a b : CTerm) → H (Add a b) ≡ (H a || H b)
  has-Add a b = term_fold part_has (has_step param n) (CTerm-F.Add a b) (Add a b) (rolls-Add a b)

  pub has-Sub : (a b : CTerm) → H (Sub a b) ≡ (H a || H b)
  has-Sub a b = term_fold part_has (has_step param n) (CTerm-F.Sub a b) (Sub a b) (rolls-Sub a b)

  pub has-Scale : (k : ℤ) (a : CTerm) → H (Scale k a) ≡ H a
  has-Scale k a = term_fold part_has (has_step param n) (CTerm-F.Scale k a) (Scale k a) (rolls-Scale k a)

  pub has-Div : (a : CTerm) (k : ℤ) → H (Div a k) ≡ H a
  has-Div a k = term_fold part_has (has_step param n) (CTerm-F.Div a k) (Div a k) (rolls-Div a k)

  pub has-Mod : (a : CTerm) (k : ℤ) → H (Mod a k) ≡ H a
  has-Mod a k = term_fold part_has (has_step param n) (CTerm-F.Mod a k) (Mod a k) (rolls-Mod a k)

  has-Ite : (c : CForm) (a b : CTerm) → H (Ite c a b) ≡ (G c || (H a || H b))
  has-Ite c a b = term_fold part_has (has_step param n) (CTerm-F.Ite c a b) (Ite c a b) (rolls-Ite c a b)

  has-AtLeast : (t : CTerm) → G (AtLeast t) ≡ H t
  has-AtLeast t = form_fold part_has (has_step param n) (CForm-F.AtLeast t) (AtLeast t) (rolls-AtLeast t)

  has-Zero : (t : CTerm) → G (Zero t) ≡ H t
  has-Zero t = form_fold part_has (has_step param n) (CForm-F.Zero t) (Zero t) (rolls-Zero t)

  has-Not : (f : CForm) → G (Not f) ≡ G f
  has-Not f = form_fold part_has (has_step param n) (CForm-F.Not f) (Not f) (rolls-Not f)

  has-And : (f g : CForm) → G (And f g) ≡ (G f || G g)
  has-And f g = form_fold part_has (has_step param n) (CForm-F.And f g) (And f g) (rolls-And f g)

  has-Or : (f g : CForm) → G (Or f g) ≡ (G f || G g)
  has-Or f g = form_fold part_has (has_step param n) (CForm-F.Or f g) (Or f g) (rolls-Or f g)

or_left : (a b : Bool) → a ≡ true → (a || b) ≡ true
or_left true b e = refl
or_left false b e = cc

or_right : (a b : Bool) → b ≡ true → (a || b) ≡ true
or_right true b e = refl
or_right false b e = e

or_cases : (a b : Bool) → (a || b) ≡ true → (a ≡ true) ⊎ (b ≡ true)
or_cases true b e = inl refl
or_cases false b e = inr e

-- factors of a linear form are those of variables
pub sparse-within : (m n : ℕ) (zs : List ℤ) → n + length zs ≤ m → is_within m (sparse n zs) ≡ true
sparse-within m n [] h = refl
sparse-within m n (z ∷ zs) h =
    put (int_eq z (pos 0)) (sparse (suc n) zs) (sparse-within m (suc n) zs (omega (arith, h)))
  where
    below : (a b : ℕ) → a ≤ b → nat_le a b ≡ true
    below a b e = grind arith

    put : (b : Bool) (fs : List (ℕ × ℤ)) → is_within m fs ≡ true → is_within m (cond b fs ((n, z) ∷ fs)) ≡ true
    put true fs e = e
    put false fs e = ap (λ x. x && is_within m fs) (below (suc n) m (omega (arith, h))) ∙ e

module _ (vs : List Variable) where
  abbrev Within : Fact → Bool
  Within f = is_within (length vs) f.factors

  pub line-within : (l : Line) → length l.factors ≡ length vs → Within (fact_of l) ≡ true
  line-within l e = sparse-within (length vs) 0 l.factors (omega (arith, e))

  pub wait-append : (fs gs : List CForm) → AllWait vs fs → AllWait vs gs → AllWait vs (fs ++ gs)
  wait-append [] gs p q = q
  wait-append (f ∷ fs) gs p q = (p.0, wait-append fs gs p.1 q)

  pub closed-joined : (a b : Branch) → IsClosed vs a → IsClosed vs b → IsClosed vs (joined a b)
  closed-joined a b p q = record {
    facts = list_all-append Within a.facts b.facts ∙ ap (λ x. x && list_all Within b.facts) p.facts ∙ q.facts;
    waiting = wait-append a.waiting b.waiting p.waiting q.waiting;
  }

  -- names of a whole are those of its parts
  abbrev Names : CForm → Type 0
  Names = NamesOnly vs

  abbrev pub TermNames : CTerm → Type 0
  TermNames t = (param : Bool) (n : ℕ) → term_has param n t ≡ true → place_of vs param n < length vs

  pub least-names : (t : CTerm) → TermNames t → Names (AtLeast t)
  least-names t h param n e = h param n (sym (has-AtLeast param n t) ∙ e)

  of-least : (t : CTerm) → Names (AtLeast t) → TermNames t
  of-least t h param n e = h param n (has-AtLeast param n t ∙ e)

  pub zero-names : (t : CTerm) → TermNames t → Names (Zero t)
  zero-names t h param n e = h param n (sym (has-Zero param n t) ∙ e)

  of-zero : (t : CTerm) → Names (Zero t) → TermNames t
  of-zero t h param n e = h param n (has-Zero param n t ∙ e)

  not-names : (f : CForm) → Names f → Names (Not f)
  not-names f h param n e = h param n (sym (has-Not param n f) ∙ e)

  of-not : (f : CForm) → Names (Not f) → Names f
  of-not f h param n e = h param n (has-Not param n f ∙ e)

  and-names : (f g : CForm) → Names f → Names g → Names (And f g)
  and-names f g p q param n e = elim (or_cases _ _ (sym (has-And param n f g) ∙ e)) [
    | inl h ↦ p param n h
    | inr h ↦ q param n h
  ]

  of-and : (f g : CForm) → Names (And f g) → Names f × Names g
  of-and f g h = (
    λ param n e. h param n (has-And param n f g ∙ or_left _ _ e),
    λ param n e. h param n (has-And param n f g ∙ or_right _ _ e),
  )

  or-names : (f g : CForm) → Names f → Names g → Names (Or f g)
  or-names f g p q param n e = elim (or_cases _ _ (sym (has-Or param n f g) ∙ e)) [
    | inl h ↦ p param n h
    | inr h ↦ q param n h
  ]

  of-or : (f g : CForm) → Names (Or f g) → Names f × Names g
  of-or f g h = (
    λ param n e. h param n (has-Or param n f g ∙ or_left _ _ e),
    λ param n e. h param n (has-Or param n f g ∙ or_right _ _ e),
  )

  sub-names : (a b : CTerm) → TermNames a → TermNames b → TermNames (Sub a b)
  sub-names a b p q param n e = elim (or_cases _ _ (sym (has-Sub param n a b) ∙ e)) [
    | inl h ↦ p param n h
    | inr h ↦ q param n h
  ]

  const-names : (c : ℤ) → TermNames (Const c)
  const-names c param n e = absurd (let h = sym (has-Const param n c) ∙ e in cc)

  -- the parts of a term's first choice name what the term names
  abbrev Chosen : CTerm → Option Choice → Type 0
  Chosen t None = Unit {0}
  Chosen t (Some c) = TermNames t → Names c.when × TermNames c.yes × TermNames c.no

  module _ (node : CTerm → CTerm → CTerm) (has : (param : Bool) (n : ℕ) (a b : CTerm) →
      term_has param n (node a b) ≡ (term_has param n a || term_has param n b)) where
    pub of-pair : (a b : CTerm) → TermNames (node a b) → TermNames a × TermNames b
    of-pair a b h = (
      λ param n e. h param n (has param n a b ∙ or_left _ _ e),
      λ param n e. h param n (has param n a b ∙ or_right _ _ e),
    )

    pub pair-names : (a b : CTerm) → TermNames a → TermNames b → TermNames (node a b)
    pair-names a b p q param n e = elim (or_cases _ _ (sym (has param n a b) ∙ e)) [
      | inl h ↦ p param n h
      | inr h ↦ q param n h
    ]

    pair-chosen : (a b : CTerm) (m n : Option Choice) → Chosen a m → Chosen b n →
        Chosen (node a b) (first_choice (λ x. node x b) (λ y. node a y) m n)
    pair-chosen a b None None p q = tt
    pair-chosen a b None (Some c) p q = λ h.
        let s = of-pair a b h in let r = q s.1 in (r.0, pair-names a c.yes s.0 r.1, pair-names a c.no s.0 r.2)
    pair-chosen a b (Some c) n p q = λ h.
        let s = of-pair a b h in let r = p s.0 in (r.0, pair-names c.yes b r.1 s.1, pair-names c.no b r.2 s.1)

  module _ (node : CTerm → CTerm) (has : (param : Bool) (n : ℕ) (a : CTerm) →
      term_has param n (node a) ≡ term_has param n a) where
    pub alone-names : (a : CTerm) → TermNames a → TermNames (node a)
    alone-names a h param n e = h param n (sym (has param n a) ∙ e)

    pub of-alone : (a : CTerm) → TermNames (node a) → TermNames a
    of-alone a h param n e = h param n (has param n a ∙ e)

    alone-chosen : (a : CTerm) (m : Option Choice) → Chosen a m → Chosen (node a) (first_choice node node m None)
    alone-chosen a None p = tt
    alone-chosen a (Some c) p = λ h.
        let r = p (of-alone a h) in (r.0, alone-names c.yes r.1, alone-names c.no r.2)

  ite-chosen : (c : CForm) (a b : CTerm) → Chosen (Ite c a b) (Some (record { when = c; yes = a; no = b }))
  ite-chosen c a b = λ h. (
    λ param n e. h param n (has-Ite param n c a b ∙ or_left _ _ e),
    λ param n e. h param n (has-Ite param n c a b ∙ or_right (form_has param n c) _ (or_left _ _ e)),
    λ param n e. h param n (has-Ite param n c a b
        ∙ or_right (form_has param n c) _ (or_right (term_has param n a) _ e)),
  )

  term-chosen : (t : CTerm) → Chosen t (first_ite t)
  term-chosen = choice_keeps Chosen (record {
    of_const = λ c. tt;
    of_slot = λ n. tt;
    of_param = λ n. tt;
    of_add = pair-chosen Add has-Add;
    of_sub = pair-chosen Sub has-Sub;
    of_scale = λ k. alone-chosen (Scale k) (λ param n. has-Scale param n k);
    of_div = λ a k. alone-chosen (λ x. Div x k) (λ param n x. has-Div param n x k) a;
    of_mod = λ a k. alone-chosen (λ x. Mod x k) (λ param n x. has-Mod param n x k) a;
    of_ite = ite-chosen;
  })

  -- what settling adds is closed
  nothing-closed : IsClosed vs (record { facts = []; waiting = []; added = 0 })
  nothing-closed = record { facts = refl; waiting = tt }

  one-closed : (f : CForm) → Names f → HasNoChoiceIn (out-CForm f) → IsClosed vs (one_waiting f)
  one-closed f h c = record { facts = refl; waiting = (record { names = h; choice = c }, tt) }

  either-closed : (f g : CForm) → Names f → Names g → IsClosed vs (one_waiting (Or f g))
  either-closed f g p q =
      one-closed (Or f g) (or-names f g p q)
      (subst HasNoChoiceIn (sym (ap out-CForm (sym (rolls-Or f g)) ∙ out-roll-CForm (CForm-F.Or f g))) tt)

  choice-closed : (f : CTerm → CForm) → ((t : CTerm) → TermNames t → Names (f t)) → (c : Choice) → Names c.when →
      TermNames c.yes → TermNames c.no → IsClosed vs (one_waiting (choice_form f c))
  choice-closed f names c w y n =
      either-closed (And c.when (f c.yes)) (And (Not c.when) (f c.no)) (and-names c.when (f c.yes) w (names c.yes y))
      (and-names (Not c.when) (f c.no) (not-names c.when w) (names c.no n))

  plain-closed : (b : Bool) (f : CForm) (a : Branch) → IsClosed vs (one_waiting f) → IsClosed vs a →
      IsClosed vs (cond b (one_waiting f) a)
  plain-closed true f a p q = p
  plain-closed false f a p q = q

  facts-closed : (l : Line) → length l.factors ≡ length vs → IsClosed vs (one_fact l)
  facts-closed l e = record { facts = ap (λ x. x && true) (line-within l e); waiting = tt }

  pub negated-long : (t : CTerm) → length (negated vs (linear vs t)).factors ≡ length vs
  negated-long t = length-plus (negsuc 0) (zeros vs) (linear vs t).factors ∙ length-zeros vs

  two-closed : (t : CTerm) → IsClosed vs (two_facts (linear vs t) (negated vs (linear vs t)))
  two-closed t = record {
    facts =
        ap (λ x. x && (Within (fact_of (negated vs (linear vs t))) && true)) (line-within (linear vs t)
        (linear-long vs t))
        ∙ ap (λ x. x && true) (line-within (negated vs (linear vs t)) (negated-long t));
    waiting = tt;
  }

  least-closed : (t : CTerm) (m : Option Choice) → first_ite t ≡ m → Chosen t m → TermNames t →
      IsClosed vs (least_adds vs t m)
  least-closed t None e r h =
      plain-closed (has_quotient t) (AtLeast t) (one_fact (linear vs t))
      (one-closed (AtLeast t) (least-names t h)
      (subst HasNoChoiceIn (sym (ap out-CForm (sym (rolls-AtLeast t)) ∙ out-roll-CForm (CForm-F.AtLeast t))) e))
      (facts-closed (linear vs t) (linear-long vs t))
  least-closed t (Some c) e r h = let s = r h in choice-closed AtLeast least-names c s.0 s.1 s.2

  zero-closed : (t : CTerm) (m : Option Choice) → first_ite t ≡ m → Chosen t m → TermNames t →
      IsClosed vs (zero_adds vs t m)
  zero-closed t None e r h =
      plain-closed (has_quotient t) (Zero t) (two_facts (linear vs t) (negated vs (linear vs t)))
      (one-closed (Zero t) (zero-names t h)
      (subst HasNoChoiceIn (sym (ap out-CForm (sym (rolls-Zero t)) ∙ out-roll-CForm (CForm-F.Zero t))) e))
      (two-closed t)
  zero-closed t (Some c) e r h = let s = r h in choice-closed Zero zero-names c s.0 s.1 s.2

  unequal-closed : (t : CTerm) (m : Option Choice) → Chosen t m → TermNames t → IsClosed vs (unequal_adds t m)
  unequal-closed t None r h =
      either-closed (AtLeast (Sub t (Const (pos 1)))) (AtLeast (Sub (Const (negsuc 0)) t))
      (least-names _ (sub-names t (Const (pos 1)) h (const-names (pos 1))))
      (least-names _ (sub-names (Const (negsuc 0)) t (const-names (negsuc 0)) h))
  unequal-closed t (Some c) r h =
      let s = r h in
      choice-closed (λ x. Not (Zero x)) (λ x k. not-names (Zero x) (zero-names x k)) c s.0 s.1 s.2

  abbrev Closing : CForm → Branch → Branch → Type 0
  Closing f a b = Names f → IsClosed vs a × IsClosed vs b

  adds-closed : (f : CForm) → Closing f (outcome vs f).yes (outcome vs f).no
  adds-closed = settled_keeps vs Closing (record {
    of_top = λ h. (nothing-closed, record { facts = refl; waiting = tt });
    of_bottom = λ h. (record { facts = refl; waiting = tt }, nothing-closed);
    of_least = λ t h. (
      least-closed t (first_ite t) refl (term-chosen t) (of-least t h),
      least-closed (below_zero t) (first_ite (below_zero t)) refl (term-chosen (below_zero t))
          (sub-names (Const (negsuc 0)) t (const-names (negsuc 0)) (of-least t h)),
    );
    of_zero = λ t h. (
      zero-closed t (first_ite t) refl (term-chosen t) (of-zero t h),
      unequal-closed t (first_ite t) (term-chosen t) (of-zero t h),
    );
    of_not = λ f a b p h. let r = p (of-not f h) in (r.1, r.0);
    of_and = λ f g a b c d p q h. let s = of-and f g h in let r = p s.0 in let u = q s.1 in (
      closed-joined a c r.0 u.0,
      either-closed (Not f) (Not g) (not-names f s.0) (not-names g s.1),
    );
    of_or = λ f g a b c d p q h. let s = of-or f g h in let r = p s.0 in let u = q s.1 in (
      either-closed f g s.0 s.1,
      closed-joined b d r.1 u.1,
    );
  })

  -- settling a formula of a branch's variables keeps the branch closed
  pub settled-closed : (f : CForm) (b : Branch) → NamesOnly vs f → IsClosed vs b → IsClosed vs (settled vs f b)
  settled-closed f b h c = closed-joined b (outcome vs f).yes c ((adds-closed f) h).0

  pub refused-closed : (f : CForm) (b : Branch) → NamesOnly vs f → IsClosed vs b → IsClosed vs (refused vs f b)
  refused-closed f b h c = closed-joined b (outcome vs f).no c ((adds-closed f) h).1
