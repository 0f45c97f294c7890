-- A term's first quotient, by the term's head: what holds of each row of its table holds of it.
use Rattle.std.proofs.Common.{◌≡◌, ℕ, ℤ, true, false, Option, Some, None, refl, sym, ap, ◌∙◌, subst}
use Rattle.std.specs.Option.{option_map, is_some}
use Rattle.core_terms.specs.declared.trees.CTerm.{CTerm, ind-CTerm, roll-CTerm}
use Rattle.core_terms.specs.declared.trees.CTerm.TheVariants.{Const, Slot, Param, Add, Sub, Scale, Ite, Div, Mod}
use Rattle.core_terms.specs.declared.trees.CTerm.TheVariants.{rolls-Const, rolls-Slot, rolls-Param, rolls-Add}
use Rattle.core_terms.specs.declared.trees.CTerm.TheVariants.{rolls-Sub, rolls-Scale, rolls-Ite, rolls-Div, rolls-Mod}
use Rattle.core_terms.specs.declared.trees.CForm.{CForm, roll-CForm, fold-CForm}
use Rattle.core_terms.specs.declared.trees.CForm.TheVariants.{Top, Bottom, AtLeast, Zero, Not, And, Or, rolls-Top}
use Rattle.core_terms.specs.declared.trees.CForm.TheVariants.{rolls-Bottom, rolls-AtLeast, rolls-Zero, rolls-Not}
use Rattle.core_terms.specs.declared.trees.CForm.TheVariants.{rolls-And, rolls-Or}
use Rattle.core_terms.specs.declared.trees.CForm.TheOpen.{CTerm-F, CForm-F}
use Rattle.core_terms.specs.declared.trees.CForm.TheFolds.{map-CForm, map-CTerm}
use Rattle.core_terms.specs.from_meaning_states.Division.{divisor}
use Rattle.obligations.specs.declared.branches.Taken.{Taken}
use Rattle.obligations.specs.Settling.{Quoted, quoted_form_step, quoted_step, quoted, first_taken, first_of, or_whole}
use Rattle.obligations.specs.Settling.{taken_within, by_quotient}
use Rattle.obligations.proofs.TreeLaws.{term_fold, form_fold}
use Rattle.core_terms.specs.declared.known.Pairing.{Pairing}
use Rattle.core_terms.specs.declared.known.Dividing.{Dividing}
use Rattle.core_terms.specs.Senses.{pair_node, divided_node}

abbrev pub whole_quotient : ℕ → CTerm → ℤ → Taken
whole_quotient v a k = record { of = a; divisor = divisor k; rest = Param v }

abbrev pub whole_remainder : ℕ → CTerm → ℤ → Taken
whole_remainder v a k = record { of = a; divisor = divisor k; rest = Sub a (Scale (divisor k) (Param v)) }

abbrev pub whole_divided : Dividing → ℕ → CTerm → ℤ → Taken
whole_divided which v a k = record { of = a; divisor = divisor k; rest = by_quotient which v a k }

module _ (v : ℕ) where
  abbrev G : CForm → CForm
  G = fold-CForm CForm Quoted quoted_form_step (quoted_step v)

  quoted-at : (x : CTerm-F CForm CTerm) (t : CTerm) → roll-CTerm x ≡ t →
      quoted v t ≡ quoted_step v (map-CTerm CForm CTerm CForm Quoted G (quoted v) x)
  quoted-at x t e = term_fold quoted_form_step (quoted_step v) x t e

  form-at : (x : CForm-F CForm CTerm) (f : CForm) → roll-CForm x ≡ f →
      G f ≡ quoted_form_step (map-CForm CForm CTerm CForm Quoted G (quoted v) x)
  form-at x f e = form_fold quoted_form_step (quoted_step v) x f e

  tree-at : (x : CTerm-F CForm CTerm) (t : CTerm) → roll-CTerm x ≡ t →
      (quoted v t).tree ≡ (quoted_step v (map-CTerm CForm CTerm CForm Quoted G (quoted v) x)).tree
  tree-at x t e = ap (λ (q : Quoted). q.tree) (quoted-at x t e)

  -- the copies in the fold are the trees
  abbrev TermTree : CTerm → Type 0
  TermTree t = (quoted v t).tree ≡ t

  abbrev FormTree : CForm → Type 0
  FormTree f = G f ≡ f

  abbrev SomeTerm : Type 0
  SomeTerm = (t : CTerm) × TermTree t

  abbrev SomeForm : Type 0
  SomeForm = (f : CForm) × FormTree f

  tree_layer : (y : CTerm-F SomeForm SomeTerm) →
      TermTree (roll-CTerm (map-CTerm SomeForm SomeTerm CForm CTerm (λ e. e.0) (λ e. e.0) y))
  tree_layer (CTerm-F.Const c) = subst TermTree (sym (rolls-Const c)) (tree-at (CTerm-F.Const c) _ (rolls-Const c))
  tree_layer (CTerm-F.Slot n) = subst TermTree (sym (rolls-Slot n)) (tree-at (CTerm-F.Slot n) _ (rolls-Slot n))
  tree_layer (CTerm-F.Param n) = subst TermTree (sym (rolls-Param n)) (tree-at (CTerm-F.Param n) _ (rolls-Param n))
  tree_layer (CTerm-F.Add a b) =
      subst TermTree (sym (rolls-Add a.0 b.0)) (tree-at (CTerm-F.Add a.0 b.0) _ (rolls-Add a.0 b.0)
      ∙ ap (λ x. Add x (quoted v b.0).tree) a.1 ∙ ap (Add a.0) b.1)
  tree_layer (CTerm-F.Sub a b) =
      subst TermTree (sym (rolls-Sub a.0 b.0)) (tree-at (CTerm-F.Sub a.0 b.0) _ (rolls-Sub a.0 b.0)
      ∙ ap (λ x. Sub x (quoted v b.0).tree) a.1 ∙ ap (Sub a.0) b.1)
  tree_layer (CTerm-F.Scale k a) =
      subst TermTree (sym (rolls-Scale k a.0)) (tree-at (CTerm-F.Scale k a.0) _ (rolls-Scale k a.0)
      ∙ ap (Scale k) a.1)
  tree_layer (CTerm-F.Ite c a b) =
      subst TermTree (sym (rolls-Ite c.0 a.0 b.0)) (tree-at (CTerm-F.Ite c.0 a.0 b.0) _ (rolls-Ite c.0 a.0 b.0)
      ∙ ap (λ x. Ite x (quoted v a.0).tree (quoted v b.0).tree) c.1 ∙ ap (λ x. Ite c.0 x (quoted v b.0).tree) a.1
      ∙ ap (Ite c.0 a.0) b.1)
  tree_layer (CTerm-F.Div a k) =
      subst TermTree (sym (rolls-Div a.0 k)) (tree-at (CTerm-F.Div a.0 k) _ (rolls-Div a.0 k)
      ∙ ap (λ x. Div x k) a.1)
  tree_layer (CTerm-F.Mod a k) =
      subst TermTree (sym (rolls-Mod a.0 k)) (tree-at (CTerm-F.Mod a.0 k) _ (rolls-Mod a.0 k)
      ∙ ap (λ x. Mod x k) a.1)

  form_layer : (y : CForm-F SomeForm SomeTerm) →
      FormTree (roll-CForm (map-CForm SomeForm SomeTerm CForm CTerm (λ e. e.0) (λ e. e.0) y))
  form_layer CForm-F.Top = subst FormTree (sym rolls-Top) (form-at CForm-F.Top Top rolls-Top)
  form_layer CForm-F.Bottom = subst FormTree (sym rolls-Bottom) (form-at CForm-F.Bottom Bottom rolls-Bottom)
  form_layer (CForm-F.AtLeast t) =
      subst FormTree (sym (rolls-AtLeast t.0)) (form-at (CForm-F.AtLeast t.0) _ (rolls-AtLeast t.0) ∙ ap AtLeast t.1)
  form_layer (CForm-F.Zero t) =
      subst FormTree (sym (rolls-Zero t.0)) (form-at (CForm-F.Zero t.0) _ (rolls-Zero t.0) ∙ ap Zero t.1)
  form_layer (CForm-F.Not f) =
      subst FormTree (sym (rolls-Not f.0)) (form-at (CForm-F.Not f.0) _ (rolls-Not f.0) ∙ ap Not f.1)
  form_layer (CForm-F.And f g) =
      subst FormTree (sym (rolls-And f.0 g.0)) (form-at (CForm-F.And f.0 g.0) _ (rolls-And f.0 g.0)
      ∙ ap (λ x. And x (G g.0)) f.1 ∙ ap (And f.0) g.1)
  form_layer (CForm-F.Or f g) =
      subst FormTree (sym (rolls-Or f.0 g.0)) (form-at (CForm-F.Or f.0 g.0) _ (rolls-Or f.0 g.0)
      ∙ ap (λ x. Or x (G g.0)) f.1 ∙ ap (Or f.0) g.1)

  pub quoted-tree : (t : CTerm) → (quoted v t).tree ≡ t
  quoted-tree t =
      ind-CTerm FormTree TermTree (λ x y e. subst (λ z. FormTree (roll-CForm z)) e (form_layer y))
      (λ x y e. subst (λ z. TermTree (roll-CTerm z)) e (tree_layer y)) t

  taken-at : (x : CTerm-F CForm CTerm) (t : CTerm) → roll-CTerm x ≡ t →
      first_taken v t ≡ (quoted_step v (map-CTerm CForm CTerm CForm Quoted G (quoted v) x)).taken
  taken-at x t e = ap (λ (q : Quoted). q.taken) (quoted-at x t e)

  -- A term's first quotient, by its head.
  pub taken-Const : (c : ℤ) → first_taken v (Const c) ≡ None
  taken-Const c = taken-at (CTerm-F.Const c) _ (rolls-Const c)

  pub taken-Slot : (n : ℕ) → first_taken v (Slot n) ≡ None
  taken-Slot n = taken-at (CTerm-F.Slot n) _ (rolls-Slot n)

  pub taken-Param : (n : ℕ) → first_taken v (Param n) ≡ None
  taken-Param n = taken-at (CTerm-F.Param n) _ (rolls-Param n)

  pub taken-Add : (a b : CTerm) → first_taken v (Add a b)
      ≡ first_of (λ x. Add x b) (λ y. Add a y) (first_taken v a) (first_taken v b)
  taken-Add a b =
      taken-at (CTerm-F.Add a b) _ (rolls-Add a b)
      ∙ ap (λ u. first_of (λ x. Add x u) (λ y. Add (quoted v a).tree y) (first_taken v a) (first_taken v b))
      (quoted-tree b)
      ∙ ap (λ u. first_of (λ x. Add x b) (λ y. Add u y) (first_taken v a) (first_taken v b)) (quoted-tree a)

  pub taken-Sub : (a b : CTerm) → first_taken v (Sub a b)
      ≡ first_of (λ x. Sub x b) (λ y. Sub a y) (first_taken v a) (first_taken v b)
  taken-Sub a b =
      taken-at (CTerm-F.Sub a b) _ (rolls-Sub a b)
      ∙ ap (λ u. first_of (λ x. Sub x u) (λ y. Sub (quoted v a).tree y) (first_taken v a) (first_taken v b))
      (quoted-tree b)
      ∙ ap (λ u. first_of (λ x. Sub x b) (λ y. Sub u y) (first_taken v a) (first_taken v b)) (quoted-tree a)

  pub taken-Scale : (k : ℤ) (a : CTerm) → first_taken v (Scale k a)
      ≡ first_of (λ x. Scale k x) (λ x. Scale k x) (first_taken v a) None
  taken-Scale k a = taken-at (CTerm-F.Scale k a) _ (rolls-Scale k a)

  pub taken-Ite : (c : CForm) (a b : CTerm) → first_taken v (Ite c a b) ≡ None
  taken-Ite c a b = taken-at (CTerm-F.Ite c a b) _ (rolls-Ite c a b)

  pub taken-Div : (a : CTerm) (k : ℤ) → first_taken v (Div a k)
      ≡ or_whole (λ x. Div x k) (first_taken v a) (whole_quotient v a k)
  taken-Div a k =
      taken-at (CTerm-F.Div a k) _ (rolls-Div a k)
      ∙ ap (λ u. or_whole (λ x. Div x k) (first_taken v a) (whole_quotient v u k)) (quoted-tree a)

  pub taken-Mod : (a : CTerm) (k : ℤ) → first_taken v (Mod a k)
      ≡ or_whole (λ x. Mod x k) (first_taken v a) (whole_remainder v a k)
  taken-Mod a k =
      taken-at (CTerm-F.Mod a k) _ (rolls-Mod a k)
      ∙ ap (λ u. or_whole (λ x. Mod x k) (first_taken v a) (whole_remainder v u k)) (quoted-tree a)

  -- A relation between a term and a quotient that holds of each term's first one, by the term's head.
  pub record Takes (r : CTerm → Option Taken → Type 0) : Type 0 where
    pub of_const : (c : ℤ) → r (Const c) None
    pub of_slot : (n : ℕ) → r (Slot n) None
    pub of_param : (n : ℕ) → r (Param n) None
    pub of_add : (a b : CTerm) (m n : Option Taken) → r a m → r b n →
        r (Add a b) (first_of (λ x. Add x b) (λ y. Add a y) m n)
    pub of_sub : (a b : CTerm) (m n : Option Taken) → r a m → r b n →
        r (Sub a b) (first_of (λ x. Sub x b) (λ y. Sub a y) m n)
    pub of_scale : (k : ℤ) (a : CTerm) (m : Option Taken) → r a m →
        r (Scale k a) (first_of (λ x. Scale k x) (λ x. Scale k x) m None)
    pub of_div : (a : CTerm) (k : ℤ) (m : Option Taken) → r a m →
        r (Div a k) (or_whole (λ x. Div x k) m (whole_quotient v a k))
    pub of_mod : (a : CTerm) (k : ℤ) (m : Option Taken) → r a m →
        r (Mod a k) (or_whole (λ x. Mod x k) m (whole_remainder v a k))
    pub of_ite : (c : CForm) (a b : CTerm) → r (Ite c a b) None

  module _ (r : CTerm → Option Taken → Type 0) (heads : Takes r) where
    abbrev First : CTerm → Type 0
    First t = r t (first_taken v t)

    at-head : (t : CTerm) (m : Option Taken) → first_taken v t ≡ m → r t m → First t
    at-head t m e h = subst (r t) (sym e) h

    abbrev AnyForm : Type 0
    AnyForm = (f : CForm) × Unit {0}

    abbrev KnownTerm : Type 0
    KnownTerm = (t : CTerm) × First t

    term_layer : (y : CTerm-F AnyForm KnownTerm) →
        First (roll-CTerm (map-CTerm AnyForm KnownTerm CForm CTerm (λ e. e.0) (λ e. e.0) y))
    term_layer (CTerm-F.Const c) = subst First (sym (rolls-Const c)) (at-head _ _ (taken-Const c) (heads.of_const c))
    term_layer (CTerm-F.Slot n) = subst First (sym (rolls-Slot n)) (at-head _ _ (taken-Slot n) (heads.of_slot n))
    term_layer (CTerm-F.Param n) = subst First (sym (rolls-Param n)) (at-head _ _ (taken-Param n) (heads.of_param n))
    term_layer (CTerm-F.Add a b) =
        subst First (sym (rolls-Add a.0 b.0)) (at-head _ _ (taken-Add a.0 b.0)
        (heads.of_add a.0 b.0 (first_taken v a.0) (first_taken v b.0) a.1 b.1))
    term_layer (CTerm-F.Sub a b) =
        subst First (sym (rolls-Sub a.0 b.0)) (at-head _ _ (taken-Sub a.0 b.0)
        (heads.of_sub a.0 b.0 (first_taken v a.0) (first_taken v b.0) a.1 b.1))
    term_layer (CTerm-F.Scale k a) =
        subst First (sym (rolls-Scale k a.0)) (at-head _ _ (taken-Scale k a.0)
        (heads.of_scale k a.0 (first_taken v a.0) a.1))
    term_layer (CTerm-F.Ite f a b) =
        subst First (sym (rolls-Ite f.0 a.0 b.0)) (at-head _ _ (taken-Ite f.0 a.0 b.0) (heads.of_ite f.0 a.0 b.0))
    term_layer (CTerm-F.Div a k) =
        subst First (sym (rolls-Div a.0 k)) (at-head _ _ (taken-Div a.0 k)
        (heads.of_div a.0 k (first_taken v a.0) a.1))
    term_layer (CTerm-F.Mod a k) =
        subst First (sym (rolls-Mod a.0 k)) (at-head _ _ (taken-Mod a.0 k)
        (heads.of_mod a.0 k (first_taken v a.0) a.1))

    -- then it holds of each term and its first quotient
    pub taken_keeps : (t : CTerm) → r t (first_taken v t)
    taken_keeps t =
        ind-CTerm (λ f. Unit {0}) First (λ x y e. tt) (λ x y e. subst (λ z. First (roll-CTerm z)) e (term_layer y)) t

-- the same, as the code meets them
pub taken-pair : (v : ℕ) (which : Pairing) (a b : CTerm) → first_taken v (pair_node which a b)
    ≡ first_of (λ x. pair_node which x b) (λ y. pair_node which a y) (first_taken v a) (first_taken v b)
taken-pair v Pairing.Sum a b = taken-Add v a b
taken-pair v Pairing.Difference a b = taken-Sub v a b

taken-divided : (v : ℕ) (which : Dividing) (a : CTerm) (k : ℤ) → first_taken v (divided_node which a k)
    ≡ or_whole (λ x. divided_node which x k) (first_taken v a) (whole_divided which v a k)
taken-divided v Dividing.Quotient a k = taken-Div v a k
taken-divided v Dividing.Remainder a k = taken-Mod v a k

taken-alone : (f : CTerm → CTerm) (m : Option Taken) → option_map (taken_within f) m ≡ first_of f f m None
taken-alone f None = refl
taken-alone f (Some q) = refl

taken-first : (f g : CTerm → CTerm) (m n : Option Taken) → is_some m ≡ true →
    option_map (taken_within f) m ≡ first_of f g m n
taken-first f g None n h = absurd (cc)
taken-first f g (Some q) n h = refl

taken-second : (f g : CTerm → CTerm) (m n : Option Taken) → is_some m ≡ false →
    option_map (taken_within g) n ≡ first_of f g m n
taken-second f g None None h = refl
taken-second f g None (Some q) h = refl
taken-second f g (Some q) n h = absurd (cc)

pub taken-in-first : (v : ℕ) (which : Pairing) (a b : CTerm) (m : Option Taken) → m ≡ first_taken v a →
    is_some m ≡ true → option_map (taken_within (λ x. pair_node which x b)) m ≡ first_taken v (pair_node which a b)
taken-in-first v which a b m p h =
    taken-first (λ x. pair_node which x b) (λ y. pair_node which a y) m (first_taken v b) h
    ∙ ap (λ o. first_of (λ x. pair_node which x b) (λ y. pair_node which a y) o (first_taken v b)) p
    ∙ sym (taken-pair v which a b)

pub taken-in-second : (v : ℕ) (which : Pairing) (a b : CTerm) (m n : Option Taken) → m ≡ first_taken v a →
    is_some m ≡ false → n ≡ first_taken v b →
    option_map (taken_within (λ x. pair_node which a x)) n ≡ first_taken v (pair_node which a b)
taken-in-second v which a b m n p h q =
    taken-second (λ x. pair_node which x b) (λ y. pair_node which a y) m n h
    ∙ ap (λ o. first_of (λ x. pair_node which x b) (λ y. pair_node which a y) o n) p
    ∙ ap (first_of (λ x. pair_node which x b) (λ y. pair_node which a y) (first_taken v a)) q
    ∙ sym (taken-pair v which a b)

pub taken-in-multiple : (v : ℕ) (k : ℤ) (a : CTerm) (m : Option Taken) → m ≡ first_taken v a →
    option_map (taken_within (λ x. Scale k x)) m ≡ first_taken v (Scale k a)
taken-in-multiple v k a m p =
    ap (option_map (taken_within (λ x. Scale k x))) p
    ∙ taken-alone (λ x. Scale k x) (first_taken v a)
    ∙ sym (taken-Scale v k a)

pub taken-in-divided : (v : ℕ) (which : Dividing) (a : CTerm) (k : ℤ) (m : Option Taken) → m ≡ first_taken v a →
    or_whole (λ x. divided_node which x k) m (whole_divided which v a k) ≡ first_taken v (divided_node which a k)
taken-in-divided v which a k m p =
    ap (λ o. or_whole (λ x. divided_node which x k) o (whole_divided which v a k)) p
    ∙ sym (taken-divided v which a k)
