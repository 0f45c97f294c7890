-- The folds of terms and formulas by their heads, and that the copies of trees in the folds of settling are the
-- trees.
use Rattle.std.proofs.Common.{◌≡◌, ℕ, ℤ, pos, negsuc, List, [], true, false, Option, Some, None, sym, ap, ◌∙◌, subst}
use Rattle.std.proofs.Common.{length, refl}
use Rattle.std.specs.Option.{option_map, is_some}
use Rattle.core_terms.specs.declared.trees.CTerm.{CTerm, ind-CTerm, roll-CTerm, fold-CTerm, fold-roll-CTerm}
use Rattle.core_terms.specs.declared.trees.CTerm.TheVariants.{Const, Slot, Param, Add, Sub, Scale, Ite, Div, Mod}
use Rattle.core_terms.specs.declared.trees.CTerm.TheVariants.{rolls-Const, rolls-Div, rolls-Mod}
use Rattle.core_terms.specs.declared.trees.CTerm.TheVariants.{rolls-Slot, rolls-Param, rolls-Add, rolls-Sub}
use Rattle.core_terms.specs.declared.trees.CTerm.TheVariants.{rolls-Scale, rolls-Ite}
use Rattle.core_terms.specs.declared.trees.CForm.{CForm, roll-CForm, ind-CForm, fold-CForm, fold-roll-CForm}
use Rattle.core_terms.specs.declared.trees.CForm.TheVariants.{Top, Bottom, AtLeast, Zero, Not, And, Or, rolls-Top}
use Rattle.core_terms.specs.declared.trees.CForm.TheVariants.{rolls-Bottom, rolls-AtLeast, rolls-Zero, rolls-Not}
use Rattle.core_terms.specs.declared.trees.CForm.TheVariants.{rolls-And, rolls-Or}
use Rattle.core_terms.specs.declared.trees.CForm.TheOpen.{CTerm-F, CForm-F}
use Rattle.core_terms.specs.declared.trees.CForm.TheFolds.{map-CForm, map-CTerm}
use Rattle.obligations.specs.declared.branches.Variable.{Variable}
use Rattle.obligations.specs.declared.branches.Line.{Line}
use Rattle.obligations.specs.declared.branches.Choice.{Choice}
use Rattle.obligations.specs.LinearForms.{zeros, place_of, line_of_const, line_of_place, line_plus, no_line}
use Rattle.obligations.specs.LinearForms.{linear_step, linear}
use Rattle.obligations.specs.Settling.{within, first_choice, Parted, form_tree_step, parted_step, parted, first_ite}
use Rattle.obligations.specs.Settling.{Settled, term_tree_step, outcome_step, outcome}
use Rattle.obligations.proofs.LineLaws.{length-zeros, length-add_at, length-plus}
use Rattle.core_terms.specs.declared.known.Pairing.{Pairing}
use Rattle.core_terms.specs.declared.known.Dividing.{Dividing}
use Rattle.core_terms.specs.Senses.{pair_node, divided_node}

-- The folds, form by form.
pub term_fold : {A B : Type 0} (f : CForm-F A B → A) (t : CTerm-F A B → B) (x : CTerm-F CForm CTerm) (u : CTerm) →
    roll-CTerm x ≡ u →
    fold-CTerm A B f t u ≡ t (map-CTerm CForm CTerm A B (fold-CForm A B f t) (fold-CTerm A B f t) x)
term_fold {A} {B} f t x u e = ap (fold-CTerm A B f t) (sym e) ∙ fold-roll-CTerm A B f t x

pub form_fold : {A B : Type 0} (f : CForm-F A B → A) (t : CTerm-F A B → B) (x : CForm-F CForm CTerm) (g : CForm) →
    roll-CForm x ≡ g →
    fold-CForm A B f t g ≡ f (map-CForm CForm CTerm A B (fold-CForm A B f t) (fold-CTerm A B f t) x)
form_fold {A} {B} f t x g e = ap (fold-CForm A B f t) (sym e) ∙ fold-roll-CForm A B f t x

-- a term's linear form, by its head
module _ (vs : List Variable) where
  pub linear-Const : (c : ℤ) → linear vs (Const c) ≡ line_of_const vs c
  linear-Const c = term_fold no_line (linear_step vs) (CTerm-F.Const c) (Const c) (rolls-Const c)

  pub linear-Slot : (n : ℕ) → linear vs (Slot n) ≡ line_of_place vs (place_of vs false n)
  linear-Slot n = term_fold no_line (linear_step vs) (CTerm-F.Slot n) (Slot n) (rolls-Slot n)

  pub linear-Param : (n : ℕ) → linear vs (Param n) ≡ line_of_place vs (place_of vs true n)
  linear-Param n = term_fold no_line (linear_step vs) (CTerm-F.Param n) (Param n) (rolls-Param n)

  pub linear-Add : (a b : CTerm) → linear vs (Add a b) ≡ line_plus (pos 1) (linear vs a) (linear vs b)
  linear-Add a b = term_fold no_line (linear_step vs) (CTerm-F.Add a b) (Add a b) (rolls-Add a b)

  pub linear-Sub : (a b : CTerm) → linear vs (Sub a b) ≡ line_plus (negsuc 0) (linear vs a) (linear vs b)
  linear-Sub a b = term_fold no_line (linear_step vs) (CTerm-F.Sub a b) (Sub a b) (rolls-Sub a b)

  pub linear-Scale : (k : ℤ) (a : CTerm) → linear vs (Scale k a) ≡ line_plus k (line_of_const vs (pos 0))
      (linear vs a)
  linear-Scale k a = term_fold no_line (linear_step vs) (CTerm-F.Scale k a) (Scale k a) (rolls-Scale k a)

  pub linear-Ite : (c : CForm) (a b : CTerm) → linear vs (Ite c a b) ≡ line_of_const vs (pos 0)
  linear-Ite c a b = term_fold no_line (linear_step vs) (CTerm-F.Ite c a b) (Ite c a b) (rolls-Ite c a b)

  pub linear-Div : (a : CTerm) (k : ℤ) → linear vs (Div a k) ≡ line_of_const vs (pos 0)
  linear-Div a k = term_fold no_line (linear_step vs) (CTerm-F.Div a k) (Div a k) (rolls-Div a k)

  pub linear-Mod : (a : CTerm) (k : ℤ) → linear vs (Mod a k) ≡ line_of_const vs (pos 0)
  linear-Mod a k = term_fold no_line (linear_step vs) (CTerm-F.Mod a k) (Mod a k) (rolls-Mod a k)

  -- what stands in the fold of settling for a term: the term
  abbrev pub R : CTerm → CTerm
  R = fold-CTerm Settled CTerm (outcome_step vs) term_tree_step

abbrev form_tree : CForm → CForm
form_tree = fold-CForm CForm Parted form_tree_step parted_step

parted-Const : (c : ℤ) → parted (Const c) ≡ record { tree = Const c; choice = None }
parted-Const c = term_fold form_tree_step parted_step (CTerm-F.Const c) (Const c) (rolls-Const c)

parted-Slot : (n : ℕ) → parted (Slot n) ≡ record { tree = Slot n; choice = None }
parted-Slot n = term_fold form_tree_step parted_step (CTerm-F.Slot n) (Slot n) (rolls-Slot n)

parted-Param : (n : ℕ) → parted (Param n) ≡ record { tree = Param n; choice = None }
parted-Param n = term_fold form_tree_step parted_step (CTerm-F.Param n) (Param n) (rolls-Param n)

abbrev pair_of : (CTerm → CTerm → CTerm) → Parted → Parted → Parted
pair_of node a b = record {
  tree = node a.tree b.tree;
  choice = first_choice (λ x. node x b.tree) (λ y. node a.tree y)
      a.choice b.choice;
}

parted-Add : (a b : CTerm) → parted (Add a b) ≡ pair_of Add (parted a) (parted b)
parted-Add a b = term_fold form_tree_step parted_step (CTerm-F.Add a b) (Add a b) (rolls-Add a b)

parted-Sub : (a b : CTerm) → parted (Sub a b) ≡ pair_of Sub (parted a) (parted b)
parted-Sub a b = term_fold form_tree_step parted_step (CTerm-F.Sub a b) (Sub a b) (rolls-Sub a b)

parted-Scale : (k : ℤ) (a : CTerm) → parted (Scale k a) ≡ record {
  tree = Scale k (parted a).tree;
  choice = first_choice
      (λ x. Scale k x) (λ y. Scale k y) (parted a).choice None;
}
parted-Scale k a = term_fold form_tree_step parted_step (CTerm-F.Scale k a) (Scale k a) (rolls-Scale k a)

parted-Ite : (c : CForm) (a b : CTerm) → parted
    (Ite c a b) ≡ record {
      tree = Ite (form_tree c) (parted a).tree (parted b).tree;
      choice = Some
          (record { when = form_tree c; yes = (parted a).tree; no = (parted b).tree });
    }
parted-Ite c a b = term_fold form_tree_step parted_step (CTerm-F.Ite c a b) (Ite c a b) (rolls-Ite c a b)

parted-Div : (a : CTerm) (k : ℤ) → parted (Div a k) ≡ record {
  tree = Div (parted a).tree k;
  choice = first_choice
      (λ x. Div x k) (λ y. Div y k) (parted a).choice None;
}
parted-Div a k = term_fold form_tree_step parted_step (CTerm-F.Div a k) (Div a k) (rolls-Div a k)

parted-Mod : (a : CTerm) (k : ℤ) → parted (Mod a k) ≡ record {
  tree = Mod (parted a).tree k;
  choice = first_choice
      (λ x. Mod x k) (λ y. Mod y k) (parted a).choice None;
}
parted-Mod a k = term_fold form_tree_step parted_step (CTerm-F.Mod a k) (Mod a k) (rolls-Mod a k)

-- The trees that stand in the folds, and the length of linear forms.
module _ (vs : List Variable) where
  record TermTree (t : CTerm) : Type 0 where
    size : length (linear vs t).factors ≡ length vs
    tree : (parted t).tree ≡ t
    same : R vs t ≡ t

  record FormTree (f : CForm) : Type 0 where
    same : form_tree f ≡ f
    tree : (outcome vs f).tree ≡ f

  const-tree : (c : ℤ) → TermTree (Const c)
  const-tree c = record {
    size = ap (λ (l : Line). length l.factors) (linear-Const vs c) ∙ length-zeros vs;
    tree = ap (λ (p : Parted). p.tree) (parted-Const c);
    same = term_fold (outcome_step vs) term_tree_step (CTerm-F.Const c) (Const c) (rolls-Const c);
  }

  slot-tree : (n : ℕ) → TermTree (Slot n)
  slot-tree n = record {
    size =
        ap (λ (l : Line). length l.factors) (linear-Slot vs n)
        ∙ length-add_at (zeros vs) (place_of vs false n) (pos 1) ∙ length-zeros vs;
    tree = ap (λ (p : Parted). p.tree) (parted-Slot n);
    same = term_fold (outcome_step vs) term_tree_step (CTerm-F.Slot n) (Slot n) (rolls-Slot n);
  }

  param-tree : (n : ℕ) → TermTree (Param n)
  param-tree n = record {
    size =
        ap (λ (l : Line). length l.factors) (linear-Param vs n)
        ∙ length-add_at (zeros vs) (place_of vs true n) (pos 1) ∙ length-zeros vs;
    tree = ap (λ (p : Parted). p.tree) (parted-Param n);
    same = term_fold (outcome_step vs) term_tree_step (CTerm-F.Param n) (Param n) (rolls-Param n);
  }

  add-tree : (a b : CTerm) → TermTree a → TermTree b → TermTree (Add a b)
  add-tree a b p q = record {
    size =
        ap (λ (l : Line). length l.factors) (linear-Add vs a b)
        ∙ length-plus (pos 1) (linear vs a).factors (linear vs b).factors ∙ p.size;
    tree =
        ap (λ (x : Parted). x.tree) (parted-Add a b) ∙ ap (λ x. Add x (parted b).tree) p.tree
        ∙ ap (λ y. Add a y) q.tree;
    same =
        term_fold (outcome_step vs) term_tree_step (CTerm-F.Add a b) (Add a b) (rolls-Add a b)
        ∙ ap (λ x. Add x (R vs b)) p.same ∙ ap (λ y. Add a y) q.same;
  }

  sub-tree : (a b : CTerm) → TermTree a → TermTree b → TermTree (Sub a b)
  sub-tree a b p q = record {
    size =
        ap (λ (l : Line). length l.factors) (linear-Sub vs a b)
        ∙ length-plus (negsuc 0) (linear vs a).factors (linear vs b).factors ∙ p.size;
    tree =
        ap (λ (x : Parted). x.tree) (parted-Sub a b) ∙ ap (λ x. Sub x (parted b).tree) p.tree
        ∙ ap (λ y. Sub a y) q.tree;
    same =
        term_fold (outcome_step vs) term_tree_step (CTerm-F.Sub a b) (Sub a b) (rolls-Sub a b)
        ∙ ap (λ x. Sub x (R vs b)) p.same ∙ ap (λ y. Sub a y) q.same;
  }

  scale-tree : (k : ℤ) (a : CTerm) → TermTree a → TermTree (Scale k a)
  scale-tree k a p = record {
    size =
        ap (λ (l : Line). length l.factors) (linear-Scale vs k a) ∙ length-plus k (zeros vs) (linear vs a).factors
        ∙ length-zeros vs;
    tree = ap (λ (x : Parted). x.tree) (parted-Scale k a) ∙ ap (λ x. Scale k x) p.tree;
    same =
        term_fold (outcome_step vs) term_tree_step (CTerm-F.Scale k a) (Scale k a) (rolls-Scale k a)
        ∙ ap (λ x. Scale k x) p.same;
  }

  ite-tree : (c : CForm) (a b : CTerm) → FormTree c → TermTree a → TermTree b → TermTree (Ite c a b)
  ite-tree c a b s p q = record {
    size = ap (λ (l : Line). length l.factors) (linear-Ite vs c a b) ∙ length-zeros vs;
    tree =
        ap (λ (x : Parted). x.tree) (parted-Ite c a b) ∙ ap (λ x. Ite x (parted a).tree (parted b).tree) s.same
        ∙ ap (λ x. Ite c x (parted b).tree) p.tree ∙ ap (λ x. Ite c a x) q.tree;
    same =
        term_fold (outcome_step vs) term_tree_step (CTerm-F.Ite c a b) (Ite c a b) (rolls-Ite c a b)
        ∙ ap (λ x. Ite x (R vs a) (R vs b)) s.tree ∙ ap (λ x. Ite c x (R vs b)) p.same ∙ ap (λ x. Ite c a x) q.same;
  }

  div-tree : (a : CTerm) (k : ℤ) → TermTree a → TermTree (Div a k)
  div-tree a k p = record {
    size = ap (λ (l : Line). length l.factors) (linear-Div vs a k) ∙ length-zeros vs;
    tree = ap (λ (x : Parted). x.tree) (parted-Div a k) ∙ ap (λ x. Div x k) p.tree;
    same =
        term_fold (outcome_step vs) term_tree_step (CTerm-F.Div a k) (Div a k) (rolls-Div a k)
        ∙ ap (λ x. Div x k) p.same;
  }

  mod-tree : (a : CTerm) (k : ℤ) → TermTree a → TermTree (Mod a k)
  mod-tree a k p = record {
    size = ap (λ (l : Line). length l.factors) (linear-Mod vs a k) ∙ length-zeros vs;
    tree = ap (λ (x : Parted). x.tree) (parted-Mod a k) ∙ ap (λ x. Mod x k) p.tree;
    same =
        term_fold (outcome_step vs) term_tree_step (CTerm-F.Mod a k) (Mod a k) (rolls-Mod a k)
        ∙ ap (λ x. Mod x k) p.same;
  }

  abbrev tree_of : (x : CForm-F CForm CTerm) (f : CForm) → roll-CForm x ≡ f →
      form_tree f ≡ form_tree_step (map-CForm CForm CTerm CForm Parted form_tree parted x)
  tree_of x f e = form_fold form_tree_step parted_step x f e

  abbrev outcome_of : (x : CForm-F CForm CTerm) (f : CForm) → roll-CForm x ≡ f →
      (outcome vs f).tree ≡ (outcome_step vs (map-CForm CForm CTerm Settled CTerm (outcome vs) (R vs) x)).tree
  outcome_of x f e = ap (λ (o : Settled). o.tree) (form_fold (outcome_step vs) term_tree_step x f e)

  top-tree : FormTree Top
  top-tree = record { same = tree_of CForm-F.Top Top rolls-Top; tree = outcome_of CForm-F.Top Top rolls-Top }

  bottom-tree : FormTree Bottom
  bottom-tree = record {
    same = tree_of CForm-F.Bottom Bottom rolls-Bottom;
    tree = outcome_of CForm-F.Bottom Bottom rolls-Bottom;
  }

  least-tree : (t : CTerm) → TermTree t → FormTree (AtLeast t)
  least-tree t p = record {
    same = tree_of (CForm-F.AtLeast t) (AtLeast t) (rolls-AtLeast t) ∙ ap AtLeast p.tree;
    tree = outcome_of (CForm-F.AtLeast t) (AtLeast t) (rolls-AtLeast t) ∙ ap AtLeast p.same;
  }

  zero-tree : (t : CTerm) → TermTree t → FormTree (Zero t)
  zero-tree t p = record {
    same = tree_of (CForm-F.Zero t) (Zero t) (rolls-Zero t) ∙ ap Zero p.tree;
    tree = outcome_of (CForm-F.Zero t) (Zero t) (rolls-Zero t) ∙ ap Zero p.same;
  }

  not-tree : (f : CForm) → FormTree f → FormTree (Not f)
  not-tree f p = record {
    same = tree_of (CForm-F.Not f) (Not f) (rolls-Not f) ∙ ap Not p.same;
    tree = outcome_of (CForm-F.Not f) (Not f) (rolls-Not f) ∙ ap Not p.tree;
  }

  and-tree : (f g : CForm) → FormTree f → FormTree g → FormTree (And f g)
  and-tree f g p q = record {
    same =
        tree_of (CForm-F.And f g) (And f g) (rolls-And f g) ∙ ap (λ x. And x (form_tree g)) p.same
        ∙ ap (λ x. And f x) q.same;
    tree =
        outcome_of (CForm-F.And f g) (And f g) (rolls-And f g) ∙ ap (λ x. And x (outcome vs g).tree) p.tree
        ∙ ap (λ x. And f x) q.tree;
  }

  or-tree : (f g : CForm) → FormTree f → FormTree g → FormTree (Or f g)
  or-tree f g p q = record {
    same =
        tree_of (CForm-F.Or f g) (Or f g) (rolls-Or f g) ∙ ap (λ x. Or x (form_tree g)) p.same
        ∙ ap (λ x. Or f x) q.same;
    tree =
        outcome_of (CForm-F.Or f g) (Or f g) (rolls-Or f g) ∙ ap (λ x. Or x (outcome vs g).tree) p.tree
        ∙ ap (λ x. Or f x) q.tree;
  }

  abbrev SomeTerm : Type 0
  SomeTerm = (t : CTerm) × TermTree t

  abbrev SomeForm : Type 0
  SomeForm = (f : CForm) × FormTree f

  term_layer : (y : CTerm-F SomeForm SomeTerm) →
      TermTree (roll-CTerm (map-CTerm SomeForm SomeTerm CForm CTerm (λ e. e.0) (λ e. e.0) y))
  term_layer (CTerm-F.Const c) = subst TermTree (sym (rolls-Const c)) (const-tree c)
  term_layer (CTerm-F.Slot n) = subst TermTree (sym (rolls-Slot n)) (slot-tree n)
  term_layer (CTerm-F.Param n) = subst TermTree (sym (rolls-Param n)) (param-tree n)
  term_layer (CTerm-F.Add a b) = subst TermTree (sym (rolls-Add a.0 b.0)) (add-tree a.0 b.0 a.1 b.1)
  term_layer (CTerm-F.Sub a b) = subst TermTree (sym (rolls-Sub a.0 b.0)) (sub-tree a.0 b.0 a.1 b.1)
  term_layer (CTerm-F.Scale k a) = subst TermTree (sym (rolls-Scale k a.0)) (scale-tree k a.0 a.1)
  term_layer (CTerm-F.Ite c a b) = subst TermTree (sym (rolls-Ite c.0 a.0 b.0)) (ite-tree c.0 a.0 b.0 c.1 a.1 b.1)
  term_layer (CTerm-F.Div a k) = subst TermTree (sym (rolls-Div a.0 k)) (div-tree a.0 k a.1)
  term_layer (CTerm-F.Mod a k) = subst TermTree (sym (rolls-Mod a.0 k)) (mod-tree a.0 k a.1)

  form_layer : (y : CForm-F SomeForm SomeTerm) →
      FormTree (roll-CForm (map-CForm SomeForm SomeTerm CForm CTerm (λ e. e.0) (λ e. e.0) y))
  form_layer CForm-F.Top = subst FormTree (sym rolls-Top) top-tree
  form_layer CForm-F.Bottom = subst FormTree (sym rolls-Bottom) bottom-tree
  form_layer (CForm-F.AtLeast t) = subst FormTree (sym (rolls-AtLeast t.0)) (least-tree t.0 t.1)
  form_layer (CForm-F.Zero t) = subst FormTree (sym (rolls-Zero t.0)) (zero-tree t.0 t.1)
  form_layer (CForm-F.Not f) = subst FormTree (sym (rolls-Not f.0)) (not-tree f.0 f.1)
  form_layer (CForm-F.And f g) = subst FormTree (sym (rolls-And f.0 g.0)) (and-tree f.0 g.0 f.1 g.1)
  form_layer (CForm-F.Or f g) = subst FormTree (sym (rolls-Or f.0 g.0)) (or-tree f.0 g.0 f.1 g.1)

  form-tree : (f : CForm) → FormTree f
  form-tree f =
      ind-CForm FormTree TermTree (λ x y e. subst (λ z. FormTree (roll-CForm z)) e (form_layer y))
      (λ x y e. subst (λ z. TermTree (roll-CTerm z)) e (term_layer y)) f

  term-tree : (t : CTerm) → TermTree t
  term-tree t =
      ind-CTerm FormTree TermTree (λ x y e. subst (λ z. FormTree (roll-CForm z)) e (form_layer y))
      (λ x y e. subst (λ z. TermTree (roll-CTerm z)) e (term_layer y)) t

pub linear-long : (vs : List Variable) (t : CTerm) → length (linear vs t).factors ≡ length vs
linear-long vs t = (term-tree vs t).size

pub parted-tree : (t : CTerm) → (parted t).tree ≡ t
parted-tree t = (term-tree [] t).tree

pub form_tree-is : (f : CForm) → form_tree f ≡ f
form_tree-is f = (form-tree [] f).same

pub term_tree-is : (vs : List Variable) (t : CTerm) → R vs t ≡ t
term_tree-is vs t = (term-tree vs t).same

pub outcome-tree : (vs : List Variable) (f : CForm) → (outcome vs f).tree ≡ f
outcome-tree vs f = (form-tree vs f).tree

-- A term's first choice, by its head.
pub ite-Const : (c : ℤ) → first_ite (Const c) ≡ None
ite-Const c = ap (λ (x : Parted). x.choice) (parted-Const c)

pub ite-Slot : (n : ℕ) → first_ite (Slot n) ≡ None
ite-Slot n = ap (λ (x : Parted). x.choice) (parted-Slot n)

pub ite-Param : (n : ℕ) → first_ite (Param n) ≡ None
ite-Param n = ap (λ (x : Parted). x.choice) (parted-Param n)

pub ite-Add : (a b : CTerm) → first_ite (Add a b) ≡ first_choice (λ x. Add x b) (λ y. Add a y) (first_ite a)
    (first_ite b)
ite-Add a b =
    ap (λ (x : Parted). x.choice) (parted-Add a b)
    ∙ ap (λ u. first_choice (λ x. Add x u) (λ y. Add (parted a).tree y) (first_ite a) (first_ite b)) (parted-tree b)
    ∙ ap (λ u. first_choice (λ x. Add x b) (λ y. Add u y) (first_ite a) (first_ite b)) (parted-tree a)

pub ite-Sub : (a b : CTerm) → first_ite (Sub a b) ≡ first_choice (λ x. Sub x b) (λ y. Sub a y) (first_ite a)
    (first_ite b)
ite-Sub a b =
    ap (λ (x : Parted). x.choice) (parted-Sub a b)
    ∙ ap (λ u. first_choice (λ x. Sub x u) (λ y. Sub (parted a).tree y) (first_ite a) (first_ite b)) (parted-tree b)
    ∙ ap (λ u. first_choice (λ x. Sub x b) (λ y. Sub u y) (first_ite a) (first_ite b)) (parted-tree a)

pub ite-Scale : (k : ℤ) (a : CTerm) → first_ite (Scale k a) ≡ first_choice (λ x. Scale k x) (λ x. Scale k x)
    (first_ite a) None
ite-Scale k a = ap (λ (x : Parted). x.choice) (parted-Scale k a)

pub ite-Div : (a : CTerm) (k : ℤ) → first_ite (Div a k) ≡ first_choice (λ x. Div x k) (λ x. Div x k) (first_ite a) None
ite-Div a k = ap (λ (x : Parted). x.choice) (parted-Div a k)

pub ite-Mod : (a : CTerm) (k : ℤ) → first_ite (Mod a k) ≡ first_choice (λ x. Mod x k) (λ x. Mod x k) (first_ite a) None
ite-Mod a k = ap (λ (x : Parted). x.choice) (parted-Mod a k)

pub ite-Ite : (c : CForm) (a b : CTerm) → first_ite (Ite c a b) ≡ Some (record { when = c; yes = a; no = b })
ite-Ite c a b =
    ap (λ (x : Parted). x.choice) (parted-Ite c a b)
    ∙ ap (λ u. Some (record { when = u; yes = (parted a).tree; no = (parted b).tree })) (form_tree-is c)
    ∙ ap (λ u. Some (record { when = c; yes = u; no = (parted b).tree })) (parted-tree a)
    ∙ ap (λ u. Some (record { when = c; yes = a; no = u })) (parted-tree b)

-- the same, as the code meets them
pub ite-pair : (which : Pairing) (a b : CTerm) → first_ite (pair_node which a b)
    ≡ first_choice (λ x. pair_node which x b) (λ y. pair_node which a y) (first_ite a) (first_ite b)
ite-pair Pairing.Sum a b = ite-Add a b
ite-pair Pairing.Difference a b = ite-Sub a b

ite-divided : (which : Dividing) (a : CTerm) (k : ℤ) → first_ite (divided_node which a k)
    ≡ first_choice (λ x. divided_node which x k) (λ x. divided_node which x k) (first_ite a) None
ite-divided Dividing.Quotient a k = ite-Div a k
ite-divided Dividing.Remainder a k = ite-Mod a k

choice-alone : (f : CTerm → CTerm) (m : Option Choice) → option_map (within f) m ≡ first_choice f f m None
choice-alone f None = refl
choice-alone f (Some c) = refl

choice-first : (f g : CTerm → CTerm) (m n : Option Choice) → is_some m ≡ true →
    option_map (within f) m ≡ first_choice f g m n
choice-first f g None n h = absurd (cc)
choice-first f g (Some c) n h = refl

choice-second : (f g : CTerm → CTerm) (m n : Option Choice) → is_some m ≡ false →
    option_map (within g) n ≡ first_choice f g m n
choice-second f g None None h = refl
choice-second f g None (Some c) h = refl
choice-second f g (Some c) n h = absurd (cc)

pub choice-in-first : (which : Pairing) (a b : CTerm) (m : Option Choice) → m ≡ first_ite a → is_some m ≡ true →
    option_map (within (λ x. pair_node which x b)) m ≡ first_ite (pair_node which a b)
choice-in-first which a b m p h =
    choice-first (λ x. pair_node which x b) (λ y. pair_node which a y) m (first_ite b) h
    ∙ ap (λ o. first_choice (λ x. pair_node which x b) (λ y. pair_node which a y) o (first_ite b)) p
    ∙ sym (ite-pair which a b)

pub choice-in-second : (which : Pairing) (a b : CTerm) (m n : Option Choice) → m ≡ first_ite a → is_some m ≡ false →
    n ≡ first_ite b → option_map (within (λ x. pair_node which a x)) n ≡ first_ite (pair_node which a b)
choice-in-second which a b m n p h q =
    choice-second (λ x. pair_node which x b) (λ y. pair_node which a y) m n h
    ∙ ap (λ o. first_choice (λ x. pair_node which x b) (λ y. pair_node which a y) o n) p
    ∙ ap (first_choice (λ x. pair_node which x b) (λ y. pair_node which a y) (first_ite a)) q
    ∙ sym (ite-pair which a b)

pub choice-in-multiple : (k : ℤ) (a : CTerm) (m : Option Choice) → m ≡ first_ite a →
    option_map (within (λ x. Scale k x)) m ≡ first_ite (Scale k a)
choice-in-multiple k a m p =
    ap (option_map (within (λ x. Scale k x))) p
    ∙ choice-alone (λ x. Scale k x) (first_ite a)
    ∙ sym (ite-Scale k a)

pub choice-in-divided : (which : Dividing) (a : CTerm) (k : ℤ) (m : Option Choice) → m ≡ first_ite a →
    option_map (within (λ x. divided_node which x k)) m ≡ first_ite (divided_node which a k)
choice-in-divided which a k m p =
    ap (option_map (within (λ x. divided_node which x k))) p
    ∙ choice-alone (λ x. divided_node which x k) (first_ite a)
    ∙ sym (ite-divided which a k)
