-- What settling does, form by form.
use Rattle.std.proofs.Common.{◌≡◌, ℕ, suc, negsuc, List, [], ◌∷◌, ◌++◌, refl, sym, ap, ◌∙◌, append_assoc}
use Rattle.core_terms.specs.declared.trees.CTerm.{CTerm}
use Rattle.core_terms.specs.declared.trees.CForm.{CForm, roll-CForm}
use Rattle.core_terms.specs.declared.trees.CForm.TheVariants.{Top, Bottom, AtLeast, Zero, Not, And, Or, rolls-Top}
use Rattle.core_terms.specs.declared.trees.CForm.TheVariants.{rolls-Bottom, rolls-AtLeast, rolls-Zero, rolls-Not}
use Rattle.core_terms.specs.declared.trees.CForm.TheVariants.{rolls-And, rolls-Or}
use Rattle.core_terms.specs.declared.trees.CForm.TheOpen.{CForm-F}
use Rattle.core_terms.specs.declared.trees.CForm.TheFolds.{map-CForm}
use Rattle.obligations.specs.declared.branches.Branch.{Branch}
use Rattle.obligations.specs.declared.branches.Variable.{Variable}
use Rattle.obligations.specs.declared.branches.Line.{Line}
use Rattle.obligations.specs.LinearForms.{sparse, zeros}
use Rattle.obligations.specs.Settling.{joined, nothing, one_fact, two_facts, one_waiting, first_ite, least_adds}
use Rattle.obligations.specs.Settling.{zero_adds, unequal_adds, below_zero, Settled, outcome_step, outcome}
use Rattle.obligations.specs.Settling.{term_tree_step, false_fact, settled, refused}
use Rattle.obligations.proofs.TreeLaws.{form_fold, R, term_tree-is, outcome-tree}

branch-of : (a b : Branch) → a.facts ≡ b.facts → a.waiting ≡ b.waiting → a.added ≡ b.added → a ≡ b
branch-of a b p q r =
    ap (λ x. record { facts = x; waiting = a.waiting; added = a.added }) p
    ∙ ap (λ x. record { facts = b.facts; waiting = x; added = a.added }) q
    ∙ ap (λ x. record { facts = b.facts; waiting = b.waiting; added = x }) r

pub joined-joined : (a b c : Branch) → joined (joined a b) c ≡ joined a (joined b c)
joined-joined a b c = branch-of _ _ (append_assoc a.facts b.facts c.facts)
    (append_assoc a.waiting b.waiting c.waiting) refl

pub joined-nothing : (a : Branch) → joined a nothing ≡ a
joined-nothing a = branch-of _ _ (append_nil a.facts) (append_nil a.waiting) refl
  where
    append_nil : {A : Type 0} (xs : List A) → xs ++ [] ≡ xs
    append_nil [] = refl
    append_nil (x ∷ xs) = ap (λ ys. x ∷ ys) (append_nil xs)

module _ (vs : List Variable) where
  outcome_at : (x : CForm-F CForm CTerm) (f : CForm) → roll-CForm x ≡ f →
      outcome vs f ≡ outcome_step vs (map-CForm CForm CTerm Settled CTerm (outcome vs) (R vs) x)
  outcome_at x f e = form_fold (outcome_step vs) term_tree_step x f e

  pub settled-Top : (b : Branch) → settled vs Top b ≡ b
  settled-Top b = ap (λ (o : Settled). joined b o.yes) (outcome_at CForm-F.Top Top rolls-Top) ∙ joined-nothing b

  pub refused-Bottom : (b : Branch) → refused vs Bottom b ≡ b
  refused-Bottom b =
      ap (λ (o : Settled). joined b o.no) (outcome_at CForm-F.Bottom Bottom rolls-Bottom) ∙ joined-nothing b

  sparse-zeros : {A : Type 0} (n : ℕ) (vs : List A) → sparse n (zeros vs) ≡ []
  sparse-zeros n [] = refl
  sparse-zeros n (v ∷ vs) = sparse-zeros (suc n) vs

  pub settled-Bottom : (b : Branch) → settled vs Bottom b ≡ joined b
      (record { facts = record { factors = []; constant = negsuc 0 } ∷ []; waiting = []; added = 0 })
  settled-Bottom b = ap (λ (o : Settled). joined b o.yes) (outcome_at CForm-F.Bottom Bottom rolls-Bottom)
      ∙ ap
      (λ x. joined b (record { facts = record { factors = x; constant = negsuc 0 } ∷ []; waiting = []; added = 0 }))
      (sparse-zeros 0 vs)

  pub refused-Top : (b : Branch) → refused vs Top b ≡ joined b
      (record { facts = record { factors = []; constant = negsuc 0 } ∷ []; waiting = []; added = 0 })
  refused-Top b = ap (λ (o : Settled). joined b o.no) (outcome_at CForm-F.Top Top rolls-Top)
      ∙ ap
      (λ x. joined b (record { facts = record { factors = x; constant = negsuc 0 } ∷ []; waiting = []; added = 0 }))
      (sparse-zeros 0 vs)

  pub settled-AtLeast : (t : CTerm) (b : Branch) → settled vs (AtLeast t) b ≡ joined b (least_adds vs t (first_ite t))
  settled-AtLeast t b =
      ap (λ (o : Settled). joined b o.yes) (outcome_at (CForm-F.AtLeast t) (AtLeast t) (rolls-AtLeast t)
      ∙ ap (λ x. outcome_step vs (CForm-F.AtLeast x)) (term_tree-is vs t))

  pub refused-AtLeast : (t : CTerm) (b : Branch) →
      refused vs (AtLeast t) b ≡ joined b (least_adds vs (below_zero t) (first_ite (below_zero t)))
  refused-AtLeast t b =
      ap (λ (o : Settled). joined b o.no) (outcome_at (CForm-F.AtLeast t) (AtLeast t) (rolls-AtLeast t)
      ∙ ap (λ x. outcome_step vs (CForm-F.AtLeast x)) (term_tree-is vs t))

  pub settled-Zero : (t : CTerm) (b : Branch) → settled vs (Zero t) b ≡ joined b (zero_adds vs t (first_ite t))
  settled-Zero t b =
      ap (λ (o : Settled). joined b o.yes) (outcome_at (CForm-F.Zero t) (Zero t) (rolls-Zero t)
      ∙ ap (λ x. outcome_step vs (CForm-F.Zero x)) (term_tree-is vs t))

  pub refused-Zero : (t : CTerm) (b : Branch) → refused vs (Zero t) b ≡ joined b (unequal_adds t (first_ite t))
  refused-Zero t b =
      ap (λ (o : Settled). joined b o.no) (outcome_at (CForm-F.Zero t) (Zero t) (rolls-Zero t)
      ∙ ap (λ x. outcome_step vs (CForm-F.Zero x)) (term_tree-is vs t))

  pub settled-Not : (f : CForm) (b : Branch) → settled vs (Not f) b ≡ refused vs f b
  settled-Not f b = ap (λ (o : Settled). joined b o.yes) (outcome_at (CForm-F.Not f) (Not f) (rolls-Not f))

  pub refused-Not : (f : CForm) (b : Branch) → refused vs (Not f) b ≡ settled vs f b
  refused-Not f b = ap (λ (o : Settled). joined b o.no) (outcome_at (CForm-F.Not f) (Not f) (rolls-Not f))

  pub settled-And : (f g : CForm) (b : Branch) → settled vs (And f g) b ≡ settled vs g (settled vs f b)
  settled-And f g b =
      ap (λ (o : Settled). joined b o.yes) (outcome_at (CForm-F.And f g) (And f g) (rolls-And f g))
      ∙ sym (joined-joined b (outcome vs f).yes (outcome vs g).yes)

  pub refused-Or : (f g : CForm) (b : Branch) → refused vs (Or f g) b ≡ refused vs g (refused vs f b)
  refused-Or f g b =
      ap (λ (o : Settled). joined b o.no) (outcome_at (CForm-F.Or f g) (Or f g) (rolls-Or f g))
      ∙ sym (joined-joined b (outcome vs f).no (outcome vs g).no)

  pub settled-Or : (f g : CForm) (b : Branch) → settled vs (Or f g) b ≡ joined b (one_waiting (Or f g))
  settled-Or f g b = ap (λ (o : Settled). joined b o.yes) (outcome_at (CForm-F.Or f g) (Or f g) (rolls-Or f g))
      ∙ ap (λ x. joined b (one_waiting (Or x (outcome vs g).tree))) (outcome-tree vs f)
      ∙ ap (λ x. joined b (one_waiting (Or f x))) (outcome-tree vs g)

  pub refused-And : (f g : CForm) (b : Branch) → refused vs (And f g) b ≡ joined b (one_waiting (Or (Not f) (Not g)))
  refused-And f g b = ap (λ (o : Settled). joined b o.no) (outcome_at (CForm-F.And f g) (And f g) (rolls-And f g))
      ∙ ap (λ x. joined b (one_waiting (Or (Not x) (Not (outcome vs g).tree)))) (outcome-tree vs f)
      ∙ ap (λ x. joined b (one_waiting (Or (Not f) (Not x)))) (outcome-tree vs g)

  -- What a formula and its negation add, by the formula's head.
  pub yes-Top : (outcome vs Top).yes ≡ nothing
  yes-Top = ap (λ (o : Settled). o.yes) (outcome_at CForm-F.Top Top rolls-Top)

  pub no-Top : (outcome vs Top).no ≡ false_fact
  no-Top =
      ap (λ (o : Settled). o.no) (outcome_at CForm-F.Top Top rolls-Top)
      ∙ ap (λ x. record { facts = record { factors = x; constant = negsuc 0 } ∷ []; waiting = []; added = 0 })
      (sparse-zeros 0 vs)

  pub yes-Bottom : (outcome vs Bottom).yes ≡ false_fact
  yes-Bottom =
      ap (λ (o : Settled). o.yes) (outcome_at CForm-F.Bottom Bottom rolls-Bottom)
      ∙ ap (λ x. record { facts = record { factors = x; constant = negsuc 0 } ∷ []; waiting = []; added = 0 })
      (sparse-zeros 0 vs)

  pub no-Bottom : (outcome vs Bottom).no ≡ nothing
  no-Bottom = ap (λ (o : Settled). o.no) (outcome_at CForm-F.Bottom Bottom rolls-Bottom)

  pub yes-AtLeast : (t : CTerm) → (outcome vs (AtLeast t)).yes ≡ least_adds vs t (first_ite t)
  yes-AtLeast t =
      ap (λ (o : Settled). o.yes) (outcome_at (CForm-F.AtLeast t) (AtLeast t) (rolls-AtLeast t))
      ∙ ap (λ x. least_adds vs x (first_ite x)) (term_tree-is vs t)

  pub no-AtLeast : (t : CTerm) →
      (outcome vs (AtLeast t)).no ≡ least_adds vs (below_zero t) (first_ite (below_zero t))
  no-AtLeast t =
      ap (λ (o : Settled). o.no) (outcome_at (CForm-F.AtLeast t) (AtLeast t) (rolls-AtLeast t))
      ∙ ap (λ x. least_adds vs (below_zero x) (first_ite (below_zero x))) (term_tree-is vs t)

  pub yes-Zero : (t : CTerm) → (outcome vs (Zero t)).yes ≡ zero_adds vs t (first_ite t)
  yes-Zero t =
      ap (λ (o : Settled). o.yes) (outcome_at (CForm-F.Zero t) (Zero t) (rolls-Zero t))
      ∙ ap (λ x. zero_adds vs x (first_ite x)) (term_tree-is vs t)

  pub no-Zero : (t : CTerm) → (outcome vs (Zero t)).no ≡ unequal_adds t (first_ite t)
  no-Zero t =
      ap (λ (o : Settled). o.no) (outcome_at (CForm-F.Zero t) (Zero t) (rolls-Zero t))
      ∙ ap (λ x. unequal_adds x (first_ite x)) (term_tree-is vs t)

  pub yes-Not : (f : CForm) → (outcome vs (Not f)).yes ≡ (outcome vs f).no
  yes-Not f = ap (λ (o : Settled). o.yes) (outcome_at (CForm-F.Not f) (Not f) (rolls-Not f))

  pub no-Not : (f : CForm) → (outcome vs (Not f)).no ≡ (outcome vs f).yes
  no-Not f = ap (λ (o : Settled). o.no) (outcome_at (CForm-F.Not f) (Not f) (rolls-Not f))

  pub yes-And : (f g : CForm) → (outcome vs (And f g)).yes ≡ joined (outcome vs f).yes (outcome vs g).yes
  yes-And f g = ap (λ (o : Settled). o.yes) (outcome_at (CForm-F.And f g) (And f g) (rolls-And f g))

  pub no-And : (f g : CForm) → (outcome vs (And f g)).no ≡ one_waiting (Or (Not f) (Not g))
  no-And f g =
      ap (λ (o : Settled). o.no) (outcome_at (CForm-F.And f g) (And f g) (rolls-And f g))
      ∙ ap (λ x. one_waiting (Or (Not x) (Not (outcome vs g).tree))) (outcome-tree vs f)
      ∙ ap (λ x. one_waiting (Or (Not f) (Not x))) (outcome-tree vs g)

  pub yes-Or : (f g : CForm) → (outcome vs (Or f g)).yes ≡ one_waiting (Or f g)
  yes-Or f g =
      ap (λ (o : Settled). o.yes) (outcome_at (CForm-F.Or f g) (Or f g) (rolls-Or f g))
      ∙ ap (λ x. one_waiting (Or x (outcome vs g).tree)) (outcome-tree vs f)
      ∙ ap (λ x. one_waiting (Or f x)) (outcome-tree vs g)

  pub no-Or : (f g : CForm) → (outcome vs (Or f g)).no ≡ joined (outcome vs f).no (outcome vs g).no
  no-Or f g = ap (λ (o : Settled). o.no) (outcome_at (CForm-F.Or f g) (Or f g) (rolls-Or f g))

  -- the same, as the code meets them
  pub settles-Not : (f : CForm) (a b : Branch) → a ≡ refused vs f b → a ≡ settled vs (Not f) b
  settles-Not f a b e = e ∙ sym (settled-Not f b)

  pub refuses-Not : (f : CForm) (a b : Branch) → a ≡ settled vs f b → a ≡ refused vs (Not f) b
  refuses-Not f a b e = e ∙ sym (refused-Not f b)

  pub settles-And : (f g : CForm) (a b c : Branch) → b ≡ settled vs f a → c ≡ settled vs g b →
      c ≡ settled vs (And f g) a
  settles-And f g a b c p q = q ∙ ap (settled vs g) p ∙ sym (settled-And f g a)

  pub refuses-Or : (f g : CForm) (a b c : Branch) → b ≡ refused vs f a → c ≡ refused vs g b → c ≡ refused vs (Or f g)
      a
  refuses-Or f g a b c p q = q ∙ ap (refused vs g) p ∙ sym (refused-Or f g a)

pub ruleset settle_laws = (
  settled-Top,
  refused-Bottom,
  settled-Bottom,
  refused-Top,
  settled-AtLeast,
  refused-AtLeast,
  settled-Zero,
  refused-Zero,
  settles-Not,
  refuses-Not,
  settles-And,
  refuses-Or,
  settled-Or,
  refused-And,
)

pub two-facts : (a b c : Branch) (l m : Line) → b ≡ joined a (one_fact l) → c ≡ joined b (one_fact m) →
    c ≡ joined a (two_facts l m)
two-facts a b c l m p q = q ∙ ap (λ x. joined x (one_fact m)) p ∙ joined-joined a (one_fact l) (one_fact m)

pub ruleset two_laws = two-facts
