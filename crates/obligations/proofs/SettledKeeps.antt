-- What holds of each row of settling's table, and stays where additions are joined, holds of what settling adds.
use Rattle.std.proofs.Common.{◌≡◌, ℕ, ℤ, List, Option, Some, None, sym, subst}
use Rattle.core_terms.specs.declared.trees.CTerm.{CTerm, ind-CTerm, roll-CTerm}
use Rattle.core_terms.specs.declared.trees.CTerm.TheVariants.{Const, Slot, Param, Add, Sub, Scale, Ite, Div, Mod}
use Rattle.core_terms.specs.declared.trees.CTerm.TheVariants.{rolls-Const, rolls-Div, rolls-Mod}
use Rattle.core_terms.specs.declared.trees.CTerm.TheVariants.{rolls-Slot, rolls-Param, rolls-Add, rolls-Sub}
use Rattle.core_terms.specs.declared.trees.CTerm.TheVariants.{rolls-Scale, rolls-Ite}
use Rattle.core_terms.specs.declared.trees.CForm.{CForm, roll-CForm, ind-CForm}
use Rattle.core_terms.specs.declared.trees.CForm.TheVariants.{Top, Bottom, AtLeast, Zero, Not, And, Or, rolls-Top}
use Rattle.core_terms.specs.declared.trees.CForm.TheVariants.{rolls-Bottom, rolls-AtLeast, rolls-Zero, rolls-Not}
use Rattle.core_terms.specs.declared.trees.CForm.TheVariants.{rolls-And, rolls-Or}
use Rattle.core_terms.specs.declared.trees.CForm.TheOpen.{CTerm-F, CForm-F}
use Rattle.core_terms.specs.declared.trees.CForm.TheFolds.{map-CForm, map-CTerm}
use Rattle.obligations.specs.declared.branches.Branch.{Branch}
use Rattle.obligations.specs.declared.branches.Variable.{Variable}
use Rattle.obligations.specs.declared.branches.Choice.{Choice}
use Rattle.obligations.specs.Settling.{joined, nothing, false_fact, one_waiting, first_ite, first_choice, least_adds}
use Rattle.obligations.specs.Settling.{zero_adds, unequal_adds, below_zero, outcome}
use Rattle.obligations.proofs.TreeLaws.{ite-Const, ite-Slot, ite-Param, ite-Add, ite-Sub, ite-Scale, ite-Ite}
use Rattle.obligations.proofs.TreeLaws.{ite-Div, ite-Mod}
use Rattle.obligations.proofs.TableLaws.{yes-Top, no-Top, yes-Bottom, no-Bottom, yes-AtLeast, no-AtLeast, yes-Zero}
use Rattle.obligations.proofs.TableLaws.{no-Zero, yes-Not, no-Not, yes-And, no-And, yes-Or, no-Or}

-- A relation between a term and a choice that holds of each term's first choice, by the term's head.
pub record Choices (r : CTerm → Option Choice → Type 0) : Type 0 where
  pub of_const : (c : ℤ) → r (Const c) None
  pub of_slot : (n : ℕ) → r (Slot n) None
  pub of_param : (n : ℕ) → r (Param n) None
  pub of_add : (a b : CTerm) (m n : Option Choice) → r a m → r b n →
      r (Add a b) (first_choice (λ x. Add x b) (λ y. Add a y) m n)
  pub of_sub : (a b : CTerm) (m n : Option Choice) → r a m → r b n →
      r (Sub a b) (first_choice (λ x. Sub x b) (λ y. Sub a y) m n)
  pub of_scale : (k : ℤ) (a : CTerm) (m : Option Choice) → r a m →
      r (Scale k a) (first_choice (λ x. Scale k x) (λ x. Scale k x) m None)
  pub of_div : (a : CTerm) (k : ℤ) (m : Option Choice) → r a m →
      r (Div a k) (first_choice (λ x. Div x k) (λ x. Div x k) m None)
  pub of_mod : (a : CTerm) (k : ℤ) (m : Option Choice) → r a m →
      r (Mod a k) (first_choice (λ x. Mod x k) (λ x. Mod x k) m None)
  pub of_ite : (c : CForm) (a b : CTerm) → r (Ite c a b) (Some (record { when = c; yes = a; no = b }))

module _ (r : CTerm → Option Choice → Type 0) (heads : Choices r) where
  abbrev First : CTerm → Type 0
  First t = r t (first_ite t)

  at-head : (t : CTerm) (m : Option Choice) → first_ite t ≡ m → r t m → First t
  at-head t m e h = subst (r t) (sym e) h

  abbrev AnyForm : Type 0
  AnyForm = (f : CForm) × Unit {0}

  abbrev KnownTerm : Type 0
  KnownTerm = (t : CTerm) × First t

  term_layer : (y : CTerm-F AnyForm KnownTerm) →
      First (roll-CTerm (map-CTerm AnyForm KnownTerm CForm CTerm (λ e. e.0) (λ e. e.0) y))
  term_layer (CTerm-F.Const c) = subst First (sym (rolls-Const c)) (at-head _ _ (ite-Const c) (heads.of_const c))
  term_layer (CTerm-F.Slot n) = subst First (sym (rolls-Slot n)) (at-head _ _ (ite-Slot n) (heads.of_slot n))
  term_layer (CTerm-F.Param n) = subst First (sym (rolls-Param n)) (at-head _ _ (ite-Param n) (heads.of_param n))
  term_layer (CTerm-F.Add a b) =
      subst First (sym (rolls-Add a.0 b.0)) (at-head _ _ (ite-Add a.0 b.0)
      (heads.of_add a.0 b.0 (first_ite a.0) (first_ite b.0) a.1 b.1))
  term_layer (CTerm-F.Sub a b) =
      subst First (sym (rolls-Sub a.0 b.0)) (at-head _ _ (ite-Sub a.0 b.0)
      (heads.of_sub a.0 b.0 (first_ite a.0) (first_ite b.0) a.1 b.1))
  term_layer (CTerm-F.Scale k a) =
      subst First (sym (rolls-Scale k a.0)) (at-head _ _ (ite-Scale k a.0) (heads.of_scale k a.0 (first_ite a.0) a.1))
  term_layer (CTerm-F.Div a k) =
      subst First (sym (rolls-Div a.0 k)) (at-head _ _ (ite-Div a.0 k) (heads.of_div a.0 k (first_ite a.0) a.1))
  term_layer (CTerm-F.Mod a k) =
      subst First (sym (rolls-Mod a.0 k)) (at-head _ _ (ite-Mod a.0 k) (heads.of_mod a.0 k (first_ite a.0) a.1))
  term_layer (CTerm-F.Ite f a b) =
      subst First (sym (rolls-Ite f.0 a.0 b.0)) (at-head _ _ (ite-Ite f.0 a.0 b.0) (heads.of_ite f.0 a.0 b.0))

  -- then it holds of each term and its first choice
  pub choice_keeps : (t : CTerm) → r t (first_ite t)
  choice_keeps t =
      ind-CTerm (λ f. Unit {0}) First (λ x y e. tt) (λ x y e. subst (λ z. First (roll-CTerm z)) e (term_layer y)) t

-- A relation between a formula and two branches that holds of what each row of the table says that the
-- formula and its negation add, and that stays where additions are joined.
pub record Rows (vs : List Variable) (q : CForm → Branch → Branch → Type 0) : Type 0 where
  pub of_top : q Top nothing false_fact
  pub of_bottom : q Bottom false_fact nothing
  pub of_least : (t : CTerm) →
      q (AtLeast t) (least_adds vs t (first_ite t)) (least_adds vs (below_zero t) (first_ite (below_zero t)))
  pub of_zero : (t : CTerm) → q (Zero t) (zero_adds vs t (first_ite t)) (unequal_adds t (first_ite t))
  pub of_not : (f : CForm) (a b : Branch) → q f a b → q (Not f) b a
  pub of_and : (f g : CForm) (a b c d : Branch) → q f a b → q g c d →
      q (And f g) (joined a c) (one_waiting (Or (Not f) (Not g)))
  pub of_or : (f g : CForm) (a b c d : Branch) → q f a b → q g c d →
      q (Or f g) (one_waiting (Or f g)) (joined b d)

module _ (vs : List Variable) (q : CForm → Branch → Branch → Type 0) (rows : Rows vs q) where
  abbrev Adds : CForm → Type 0
  Adds f = q f (outcome vs f).yes (outcome vs f).no

  by-row : (f : CForm) (a b : Branch) → (outcome vs f).yes ≡ a → (outcome vs f).no ≡ b → q f a b → Adds f
  by-row f a b d e h = subst (λ x. q f x (outcome vs f).no) (sym d) (subst (q f a) (sym e) h)

  abbrev KnownForm : Type 0
  KnownForm = (f : CForm) × Adds f

  abbrev AnyTerm : Type 0
  AnyTerm = (t : CTerm) × Unit {0}

  form_layer : (y : CForm-F KnownForm AnyTerm) →
      Adds (roll-CForm (map-CForm KnownForm AnyTerm CForm CTerm (λ e. e.0) (λ e. e.0) y))
  form_layer CForm-F.Top =
      subst Adds (sym rolls-Top) (by-row _ _ _ (yes-Top vs) (no-Top vs) rows.of_top)
  form_layer CForm-F.Bottom =
      subst Adds (sym rolls-Bottom) (by-row _ _ _ (yes-Bottom vs) (no-Bottom vs)
      rows.of_bottom)
  form_layer (CForm-F.AtLeast t) =
      subst Adds (sym (rolls-AtLeast t.0)) (by-row _ _ _ (yes-AtLeast vs t.0)
      (no-AtLeast vs t.0) (rows.of_least t.0))
  form_layer (CForm-F.Zero t) =
      subst Adds (sym (rolls-Zero t.0)) (by-row _ _ _ (yes-Zero vs t.0) (no-Zero vs t.0)
      (rows.of_zero t.0))
  form_layer (CForm-F.Not f) =
      subst Adds (sym (rolls-Not f.0)) (by-row _ _ _ (yes-Not vs f.0) (no-Not vs f.0)
      (rows.of_not f.0 (outcome vs f.0).yes (outcome vs f.0).no f.1))
  form_layer (CForm-F.And f g) =
      subst Adds (sym (rolls-And f.0 g.0)) (by-row _ _ _ (yes-And vs f.0 g.0)
      (no-And vs f.0 g.0) (rows.of_and f.0 g.0 (outcome vs f.0).yes (outcome vs f.0).no
      (outcome vs g.0).yes (outcome vs g.0).no f.1 g.1))
  form_layer (CForm-F.Or f g) =
      subst Adds (sym (rolls-Or f.0 g.0)) (by-row _ _ _ (yes-Or vs f.0 g.0)
      (no-Or vs f.0 g.0) (rows.of_or f.0 g.0 (outcome vs f.0).yes (outcome vs f.0).no
      (outcome vs g.0).yes (outcome vs g.0).no f.1 g.1))

  -- then it holds of each formula and what it and its negation add
  pub settled_keeps : (f : CForm) → q f (outcome vs f).yes (outcome vs f).no
  settled_keeps f =
      ind-CForm Adds (λ t. Unit {0}) (λ x y e. subst (λ z. Adds (roll-CForm z)) e (form_layer y)) (λ x y e. tt) f
