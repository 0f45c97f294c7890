-- What a node is depends on the trees at its parts' places alone; and where no tree stands twice, its tree tells it.
use Rattle.std.proofs.Common.{◌≡◌, ℕ, ◌<◌, ◌≤◌, pos, List, length}
use Rattle.std.proofs.Common.{refl, sym, ap, ◌∙◌, arith}
use Rattle.std.specs.List.{position_or_len}
use Rattle.core_terms.specs.declared.trees.CTerm.{CTerm, out-CTerm, roll-CTerm, out-roll-CTerm}
use Rattle.core_terms.specs.declared.trees.CTerm.TheVariants.{Const, Add, Sub, Scale, Div, Mod, Ite}
use Rattle.core_terms.specs.declared.trees.CTerm.TheVariants.{rolls-Const, rolls-Slot, rolls-Param, rolls-Add}
use Rattle.core_terms.specs.declared.trees.CTerm.TheVariants.{rolls-Sub, rolls-Scale, rolls-Div, rolls-Mod, rolls-Ite}
use Rattle.core_terms.specs.declared.trees.CForm.{CForm, out-CForm, roll-CForm, out-roll-CForm}
use Rattle.core_terms.specs.declared.trees.CForm.TheVariants.{Top, AtLeast, Zero, Not, And, Or, rolls-Top}
use Rattle.core_terms.specs.declared.trees.CForm.TheVariants.{rolls-Bottom, rolls-AtLeast, rolls-Zero, rolls-Not}
use Rattle.core_terms.specs.declared.trees.CForm.TheVariants.{rolls-And, rolls-Or}
use Rattle.core_terms.specs.declared.trees.CForm.TheOpen.{CTerm-F, CForm-F}
use Rattle.core_terms.specs.declared.nodes.FormNode.{FormNode}
use Rattle.core_terms.specs.declared.nodes.TermNode.{TermNode}
use Rattle.core_terms.specs.Trees.{same_form, same_term}
use Rattle.core_terms.specs.Pools.{form_or, term_or, form_of_node, term_of_node, IsFormWithin, IsTermWithin}
use Rattle.core_terms.specs.Pools.{IsOnce}
use Rattle.core_terms.proofs.SameLaws.{same_form_is, same_form_self, same_term_is, same_term_self}
use Rattle.core_terms.proofs.PlaceLaws.{found}

module _ (fs gs : List CForm) (ts us : List CTerm) (n m : ℕ) (forms : (i : ℕ) → i < n → form_or fs i ≡ form_or gs i)
    (terms : (i : ℕ) → i < m → term_or ts i ≡ term_or us i) where
  pub form_stays : (k : FormNode) → IsFormWithin n m k → form_of_node fs ts k ≡ form_of_node gs us k
  form_stays FormNode.Top w = refl
  form_stays FormNode.Bottom w = refl
  form_stays (FormNode.AtLeast t) w = ap AtLeast (terms t.place w)
  form_stays (FormNode.Zero t) w = ap Zero (terms t.place w)
  form_stays (FormNode.Not f) w = ap Not (forms f.place w)
  form_stays (FormNode.And f g) w = λ i. And (forms f.place w.0 i) (forms g.place w.1 i)
  form_stays (FormNode.Or f g) w = λ i. Or (forms f.place w.0 i) (forms g.place w.1 i)

  pub term_stays : (k : TermNode) → IsTermWithin n m k → term_of_node fs ts k ≡ term_of_node gs us k
  term_stays (TermNode.Const c) w = refl
  term_stays (TermNode.Slot s) w = refl
  term_stays (TermNode.Param s) w = refl
  term_stays (TermNode.Add a b) w = λ i. Add (terms a.place w.0 i) (terms b.place w.1 i)
  term_stays (TermNode.Sub a b) w = λ i. Sub (terms a.place w.0 i) (terms b.place w.1 i)
  term_stays (TermNode.Scale k a) w = ap (Scale k) (terms a.place w)
  term_stays (TermNode.Div a k) w = ap (λ t. Div t k) (terms a.place w)
  term_stays (TermNode.Mod a k) w = ap (λ t. Mod t k) (terms a.place w)
  term_stays (TermNode.Ite c a b) w = λ i. Ite (forms c.place w.0 i) (terms a.place w.1 i) (terms b.place w.2 i)

-- parts within some are within more

module _ (n m o p : ℕ) (forms : n ≤ o) (terms : m ≤ p) where
  pub form_wider : (k : FormNode) → IsFormWithin n m k → IsFormWithin o p k
  form_wider FormNode.Top w = w
  form_wider FormNode.Bottom w = w
  form_wider (FormNode.AtLeast t) w = omega (arith, w, terms)
  form_wider (FormNode.Zero t) w = omega (arith, w, terms)
  form_wider (FormNode.Not f) w = omega (arith, w, forms)
  form_wider (FormNode.And f g) w = (omega (arith, w, forms), omega (arith, w, forms))
  form_wider (FormNode.Or f g) w = (omega (arith, w, forms), omega (arith, w, forms))

  pub term_wider : (k : TermNode) → IsTermWithin n m k → IsTermWithin o p k
  term_wider (TermNode.Const c) w = w
  term_wider (TermNode.Slot s) w = w
  term_wider (TermNode.Param s) w = w
  term_wider (TermNode.Add a b) w = (omega (arith, w, terms), omega (arith, w, terms))
  term_wider (TermNode.Sub a b) w = (omega (arith, w, terms), omega (arith, w, terms))
  term_wider (TermNode.Scale k a) w = omega (arith, w, terms)
  term_wider (TermNode.Div a k) w = omega (arith, w, terms)
  term_wider (TermNode.Mod a k) w = omega (arith, w, terms)
  term_wider (TermNode.Ite c a b) w = (omega (arith, w, forms), omega (arith, w, terms), omega (arith, w, terms))

-- where no tree stands twice, a node's tree tells the node

out_form : (z : CForm-F CForm CTerm) (f : CForm) → roll-CForm z ≡ f → out-CForm f ≡ z
out_form z f e = ap out-CForm (sym e) ∙ out-roll-CForm z

out_term : (z : CTerm-F CForm CTerm) (t : CTerm) → roll-CTerm z ≡ t → out-CTerm t ≡ z
out_term z t e = ap out-CTerm (sym e) ∙ out-roll-CTerm z

module _ (fs : List CForm) (ts : List CTerm) (forms_once : IsOnce fs) (terms_once : IsOnce ts) where
  abbrev form_place : CForm → ℕ
  form_place f = position_or_len (same_form f) fs

  abbrev term_place : CTerm → ℕ
  term_place t = position_or_len (same_term t) ts

  form_found : (i : ℕ) → i < length fs → form_place (form_or fs i) ≡ i
  form_found i h = found same_form same_form_is same_form_self fs Top i forms_once h

  term_found : (i : ℕ) → i < length ts → term_place (term_or ts i) ≡ i
  term_found i h = found same_term same_term_is same_term_self ts (Const (pos 0)) i terms_once h

  -- the node of a tree, from its parts' places
  abbrev node_of : CForm-F CForm CTerm → FormNode
  node_of CForm-F.Top = FormNode.Top
  node_of CForm-F.Bottom = FormNode.Bottom
  node_of (CForm-F.AtLeast t) = FormNode.AtLeast (record { place = term_place t })
  node_of (CForm-F.Zero t) = FormNode.Zero (record { place = term_place t })
  node_of (CForm-F.Not f) = FormNode.Not (record { place = form_place f })
  node_of (CForm-F.And f g) = FormNode.And (record { place = form_place f }) (record { place = form_place g })
  node_of (CForm-F.Or f g) = FormNode.Or (record { place = form_place f }) (record { place = form_place g })

  abbrev term_node_of : CTerm-F CForm CTerm → TermNode
  term_node_of (CTerm-F.Const c) = TermNode.Const c
  term_node_of (CTerm-F.Slot n) = TermNode.Slot n
  term_node_of (CTerm-F.Param n) = TermNode.Param n
  term_node_of (CTerm-F.Add a b) = TermNode.Add (record { place = term_place a }) (record { place = term_place b })
  term_node_of (CTerm-F.Sub a b) = TermNode.Sub (record { place = term_place a }) (record { place = term_place b })
  term_node_of (CTerm-F.Scale k a) = TermNode.Scale k (record { place = term_place a })
  term_node_of (CTerm-F.Div a k) = TermNode.Div (record { place = term_place a }) k
  term_node_of (CTerm-F.Mod a k) = TermNode.Mod (record { place = term_place a }) k
  term_node_of (CTerm-F.Ite c a b) = TermNode.Ite (record { place = form_place c }) (record { place = term_place a })
      (record { place = term_place b })

  node_told : (k : FormNode) → IsFormWithin (length fs) (length ts) k → node_of (out-CForm (form_of_node fs ts k)) ≡ k
  node_told FormNode.Top w = ap node_of (out_form _ _ rolls-Top)
  node_told FormNode.Bottom w = ap node_of (out_form _ _ rolls-Bottom)
  node_told (FormNode.AtLeast t) w =
      ap node_of (out_form _ _ (rolls-AtLeast (term_or ts t.place)))
      ∙ (λ i. FormNode.AtLeast (record { place = term_found t.place w i }))
  node_told (FormNode.Zero t) w =
      ap node_of (out_form _ _ (rolls-Zero (term_or ts t.place)))
      ∙ (λ i. FormNode.Zero (record { place = term_found t.place w i }))
  node_told (FormNode.Not f) w =
      ap node_of (out_form _ _ (rolls-Not (form_or fs f.place)))
      ∙ (λ i. FormNode.Not (record { place = form_found f.place w i }))
  node_told (FormNode.And f g) w =
      ap node_of (out_form _ _ (rolls-And (form_or fs f.place) (form_or fs g.place)))
      ∙ (λ i. FormNode.And (record { place = form_found f.place w.0 i }) (record { place = form_found g.place w.1 i }))
  node_told (FormNode.Or f g) w =
      ap node_of (out_form _ _ (rolls-Or (form_or fs f.place) (form_or fs g.place)))
      ∙ (λ i. FormNode.Or (record { place = form_found f.place w.0 i }) (record { place = form_found g.place w.1 i }))

  term_node_told : (k : TermNode) → IsTermWithin (length fs) (length ts) k →
      term_node_of (out-CTerm (term_of_node fs ts k)) ≡ k
  term_node_told (TermNode.Const c) w = ap term_node_of (out_term _ _ (rolls-Const c))
  term_node_told (TermNode.Slot n) w = ap term_node_of (out_term _ _ (rolls-Slot n))
  term_node_told (TermNode.Param n) w = ap term_node_of (out_term _ _ (rolls-Param n))
  term_node_told (TermNode.Add a b) w =
      ap term_node_of (out_term _ _ (rolls-Add (term_or ts a.place) (term_or ts b.place)))
      ∙ (λ i. TermNode.Add (record { place = term_found a.place w.0 i }) (record { place = term_found b.place w.1 i }))
  term_node_told (TermNode.Sub a b) w =
      ap term_node_of (out_term _ _ (rolls-Sub (term_or ts a.place) (term_or ts b.place)))
      ∙ (λ i. TermNode.Sub (record { place = term_found a.place w.0 i }) (record { place = term_found b.place w.1 i }))
  term_node_told (TermNode.Scale k a) w =
      ap term_node_of (out_term _ _ (rolls-Scale k (term_or ts a.place)))
      ∙ (λ i. TermNode.Scale k (record { place = term_found a.place w i }))
  term_node_told (TermNode.Div a k) w =
      ap term_node_of (out_term _ _ (rolls-Div (term_or ts a.place) k))
      ∙ (λ i. TermNode.Div (record { place = term_found a.place w i }) k)
  term_node_told (TermNode.Mod a k) w =
      ap term_node_of (out_term _ _ (rolls-Mod (term_or ts a.place) k))
      ∙ (λ i. TermNode.Mod (record { place = term_found a.place w i }) k)
  term_node_told (TermNode.Ite c a b) w =
      ap term_node_of (out_term _ _ (rolls-Ite (form_or fs c.place) (term_or ts a.place) (term_or ts b.place)))
      ∙ (λ i. TermNode.Ite (record { place = form_found c.place w.0 i }) (record { place = term_found a.place w.1 i })
      (record { place = term_found b.place w.2 i }))

  pub same_node : (j k : FormNode) → IsFormWithin (length fs) (length ts) j → IsFormWithin (length fs) (length ts) k →
      form_of_node fs ts j ≡ form_of_node fs ts k → j ≡ k
  same_node j k v w e = sym (node_told j v) ∙ ap (λ f. node_of (out-CForm f)) e ∙ node_told k w

  pub same_term_node : (j k : TermNode) → IsTermWithin (length fs) (length ts) j →
      IsTermWithin (length fs) (length ts) k → term_of_node fs ts j ≡ term_of_node fs ts k → j ≡ k
  same_term_node j k v w e = sym (term_node_told j v) ∙ ap (λ t. term_node_of (out-CTerm t)) e ∙ term_node_told k w
