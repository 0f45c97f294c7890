-- What a pool keeps where a node is put into it.
use Rattle.std.proofs.Common.{◌≡◌, ℕ, ◌<◌, ◌≤◌, pos, List, [], ◌∷◌, ◌++◌, map, length, take, Some}
use Rattle.std.proofs.Common.{refl, sym, ap, ◌∙◌, subst, arith}
use Rattle.std.specs.Prelude.{slice_get}
use Rattle.std.specs.Option.{option_map}
use Rattle.std.proofs.Math.ListN.{get_or-append}
use Rattle.std.proofs.Math.Seq.{take-append_seam}
use Rattle.std.proofs.lemmas.Option.{slice_get-map}
use Rattle.std.proofs.lemmas.List.{length-append, length-map, map-append}
use Rattle.std.proofs.lemmas.List.Elements.{All-weaker, All-push}
use Rattle.core_terms.specs.declared.trees.CTerm.{CTerm}
use Rattle.core_terms.specs.declared.trees.CTerm.TheVariants.{Const}
use Rattle.core_terms.specs.declared.trees.CForm.{CForm}
use Rattle.core_terms.specs.declared.trees.CForm.TheVariants.{Top}
use Rattle.core_terms.specs.declared.nodes.FormNode.{FormNode}
use Rattle.core_terms.specs.declared.nodes.TermNode.{TermNode}
use Rattle.core_terms.specs.declared.entries.FormEntry.{FormEntry}
use Rattle.core_terms.specs.declared.entries.TermEntry.{TermEntry}
use Rattle.core_terms.specs.Pools.{form_trees, term_trees, form_or, term_or, form_of_node, term_of_node, IsFormWithin}
use Rattle.core_terms.specs.Pools.{IsTermWithin, Pooled, IsPool, Grows}
use Rattle.core_terms.proofs.PlaceLaws.{keeps_more, at_place, once_more, same_map, made_of}
use Rattle.core_terms.proofs.NodeLaws.{form_stays, term_stays, form_wider, term_wider, same_node, same_term_node}

-- what stays

pub grows_self : (p : Pooled) → Grows p p
grows_self p = record {
  form_nodes = λ i x h. h;
  forms = λ i x h. h;
  term_nodes = λ i x h. h;
  terms = λ i x h. h;
}

pub grows_twice : (p q r : Pooled) → Grows p q → Grows q r → Grows p r
grows_twice p q r a b = record {
  form_nodes = λ i x h. b.form_nodes i x (a.form_nodes i x h);
  forms = λ i x h. b.forms i x (a.forms i x h);
  term_nodes = λ i x h. b.term_nodes i x (a.term_nodes i x h);
  terms = λ i x h. b.terms i x (a.terms i x h);
}

pub form_kept : (p q : Pooled) (i : ℕ) (f : CForm) → Grows p q → slice_get p.forms i ≡ Some f →
    slice_get q.forms i ≡ Some f
form_kept p q i f a h = a.forms i f h

pub term_kept : (p q : Pooled) (i : ℕ) (t : CTerm) → Grows p q → slice_get p.terms i ≡ Some t →
    slice_get q.terms i ≡ Some t
term_kept p q i t a h = a.terms i t h

pub ruleset grown = (grows_self, grows_twice, form_kept, term_kept)

-- as many nodes as trees

pub form_count : (p : Pooled) → IsPool p → length p.form_nodes ≡ length p.forms
form_count p w = sym (ap length w.forms ∙ length-map p.form_nodes (form_of_node p.forms p.terms))

pub term_count : (p : Pooled) → IsPool p → length p.term_nodes ≡ length p.terms
term_count p w = sym (ap length w.terms ∙ length-map p.term_nodes (term_of_node p.forms p.terms))

-- a node's tree stands at its place
pub term_there : (p : Pooled) (i : ℕ) (k : TermNode) → IsPool p → slice_get p.term_nodes i ≡ Some k →
    slice_get p.terms i ≡ Some (term_of_node p.forms p.terms k)
term_there p i k w h =
    ap (λ l. slice_get l i) w.terms ∙ slice_get-map (term_of_node p.forms p.terms) p.term_nodes i
    ∙ ap (option_map (term_of_node p.forms p.terms)) h

-- one node more

module _ (p : Pooled) (k : FormNode) where
  abbrev pub with_form : Pooled
  with_form = record {
    form_nodes = p.form_nodes ++ k ∷ [];
    forms = p.forms ++ form_of_node p.forms p.terms k ∷ [];
    term_nodes = p.term_nodes;
    terms = p.terms;
  }

  pub grows_by_form : Grows p with_form
  grows_by_form = record {
    form_nodes = keeps_more p.form_nodes (k ∷ []);
    forms = keeps_more p.forms (form_of_node p.forms p.terms k ∷ []);
    term_nodes = λ i x h. h;
    terms = λ i x h. h;
  }

  module _ (w : IsPool p) (parts : IsFormWithin (length p.forms) (length p.terms) k)
      (new : (i : ℕ) → slice_get p.form_nodes i ≡ Some k → ⊥) where
    abbrev f : CForm
    f = form_of_node p.forms p.terms k

    abbrev more : List CForm
    more = p.forms ++ f ∷ []

    longer : length p.forms ≤ length more
    longer = omega (arith, length-append p.forms (f ∷ []))

    form_kept_by : (i : ℕ) → i < length p.forms → form_or p.forms i ≡ form_or more i
    form_kept_by i h = sym (get_or-append p.forms (f ∷ []) Top i h)

    stays : (j : FormNode) → IsFormWithin (length p.forms) (length p.terms) j →
        form_of_node p.forms p.terms j ≡ form_of_node more p.terms j
    stays = form_stays p.forms more p.terms p.terms (length p.forms) (length p.terms) form_kept_by (λ i h. refl)

    term_stays_too : (j : TermNode) → IsTermWithin (length p.forms) (length p.terms) j →
        term_of_node p.forms p.terms j ≡ term_of_node more p.terms j
    term_stays_too =
        term_stays p.forms more p.terms p.terms (length p.forms) (length p.terms) form_kept_by (λ i h. refl)

    old_forms : p.forms ≡ map (form_of_node more p.terms) p.form_nodes
    old_forms =
        w.forms ∙ same_map (form_of_node p.forms p.terms) (form_of_node more p.terms) p.form_nodes
        (All-weaker (IsFormWithin (length p.forms) (length p.terms)) _ stays p.form_nodes w.form_parts)

    fresh : (i : ℕ) → slice_get p.forms i ≡ Some f → ⊥
    fresh i h =
        let at = ap (λ l. slice_get l i) (sym w.forms) ∙ h in
        let made = made_of (form_of_node p.forms p.terms) p.form_nodes i f at in
        let inside = at_place (IsFormWithin (length p.forms) (length p.terms)) p.form_nodes i made.0 w.form_parts made.1
        in
        new i (made.1 ∙ ap Some (same_node p.forms p.terms w.forms_once w.terms_once made.0 k inside parts made.2))

    pub whole_with_form : IsPool with_form
    whole_with_form = record {
      forms = ap (λ l. l ++ f ∷ []) old_forms
          ∙ ap (λ g. map (form_of_node more p.terms) p.form_nodes ++ g ∷ []) (stays k parts)
          ∙ sym (map-append (form_of_node more p.terms) p.form_nodes (k ∷ []));
      terms = w.terms ∙ same_map (term_of_node p.forms p.terms) (term_of_node more p.terms) p.term_nodes
          (All-weaker (IsTermWithin (length p.forms) (length p.terms)) _ term_stays_too p.term_nodes w.term_parts);
      form_parts = All-weaker (IsFormWithin (length p.forms) (length p.terms)) _
          (form_wider _ _ (length more) (length p.terms) longer (omega arith)) (p.form_nodes ++ k ∷ [])
          (All-push (IsFormWithin (length p.forms) (length p.terms)) p.form_nodes k w.form_parts parts);
      term_parts = All-weaker (IsTermWithin (length p.forms) (length p.terms)) _
          (term_wider _ _ (length more) (length p.terms) longer (omega arith)) p.term_nodes w.term_parts;
      forms_once = once_more p.forms f w.forms_once fresh;
      terms_once = w.terms_once;
    }

-- a pool that is another with one formula's node more
pub grown_by_form : (p q : Pooled) (k : FormNode) → IsPool p → IsFormWithin (length p.forms) (length p.terms) k →
    ((i : ℕ) → slice_get p.form_nodes i ≡ Some k → ⊥) → q.form_nodes ≡ p.form_nodes ++ k ∷ [] →
    q.forms ≡ p.forms ++ form_of_node p.forms p.terms k ∷ [] → q.term_nodes ≡ p.term_nodes → q.terms ≡ p.terms →
    IsPool q × Grows p q
grown_by_form p q k w parts new a b c d =
    let same : with_form p k ≡ q = λ i. record {
      form_nodes = sym a i;
      forms = sym b i;
      term_nodes = sym c i;
      terms = sym d i;
    } in (subst IsPool same (whole_with_form p k w parts new), subst (Grows p) same (grows_by_form p k))

module _ (p : Pooled) (k : TermNode) where
  abbrev pub with_term : Pooled
  with_term = record {
    form_nodes = p.form_nodes;
    forms = p.forms;
    term_nodes = p.term_nodes ++ k ∷ [];
    terms = p.terms ++ term_of_node p.forms p.terms k ∷ [];
  }

  pub grows_by_term : Grows p with_term
  grows_by_term = record {
    form_nodes = λ i x h. h;
    forms = λ i x h. h;
    term_nodes = keeps_more p.term_nodes (k ∷ []);
    terms = keeps_more p.terms (term_of_node p.forms p.terms k ∷ []);
  }

  module _ (w : IsPool p) (parts : IsTermWithin (length p.forms) (length p.terms) k)
      (new : (i : ℕ) → slice_get p.term_nodes i ≡ Some k → ⊥) where
    abbrev t : CTerm
    t = term_of_node p.forms p.terms k

    abbrev more_terms : List CTerm
    more_terms = p.terms ++ t ∷ []

    longer_terms : length p.terms ≤ length more_terms
    longer_terms = omega (arith, length-append p.terms (t ∷ []))

    term_kept_by : (i : ℕ) → i < length p.terms → term_or p.terms i ≡ term_or more_terms i
    term_kept_by i h = sym (get_or-append p.terms (t ∷ []) (Const (pos 0)) i h)

    form_stays_too : (j : FormNode) → IsFormWithin (length p.forms) (length p.terms) j →
        form_of_node p.forms p.terms j ≡ form_of_node p.forms more_terms j
    form_stays_too =
        form_stays p.forms p.forms p.terms more_terms (length p.forms) (length p.terms) (λ i h. refl) term_kept_by

    old_term_stays : (j : TermNode) → IsTermWithin (length p.forms) (length p.terms) j →
        term_of_node p.forms p.terms j ≡ term_of_node p.forms more_terms j
    old_term_stays =
        term_stays p.forms p.forms p.terms more_terms (length p.forms) (length p.terms) (λ i h. refl) term_kept_by

    old_terms : p.terms ≡ map (term_of_node p.forms more_terms) p.term_nodes
    old_terms =
        w.terms ∙ same_map (term_of_node p.forms p.terms) (term_of_node p.forms more_terms) p.term_nodes
        (All-weaker (IsTermWithin (length p.forms) (length p.terms)) _ old_term_stays p.term_nodes w.term_parts)

    fresh_term : (i : ℕ) → slice_get p.terms i ≡ Some t → ⊥
    fresh_term i h =
        let at = ap (λ l. slice_get l i) (sym w.terms) ∙ h in
        let made = made_of (term_of_node p.forms p.terms) p.term_nodes i t at in
        let inside = at_place (IsTermWithin (length p.forms) (length p.terms)) p.term_nodes i made.0 w.term_parts made.1
        in
        new i (made.1 ∙ ap Some (same_term_node p.forms p.terms w.forms_once w.terms_once made.0 k inside parts made.2))

    pub whole_with_term : IsPool with_term
    whole_with_term = record {
      forms = w.forms ∙ same_map (form_of_node p.forms p.terms) (form_of_node p.forms more_terms) p.form_nodes
          (All-weaker (IsFormWithin (length p.forms) (length p.terms)) _ form_stays_too p.form_nodes w.form_parts);
      terms = ap (λ l. l ++ t ∷ []) old_terms
          ∙ ap (λ u. map (term_of_node p.forms more_terms) p.term_nodes ++ u ∷ []) (old_term_stays k parts)
          ∙ sym (map-append (term_of_node p.forms more_terms) p.term_nodes (k ∷ []));
      form_parts = All-weaker (IsFormWithin (length p.forms) (length p.terms)) _
          (form_wider _ _ (length p.forms) (length more_terms) (omega arith) longer_terms) p.form_nodes w.form_parts;
      term_parts = All-weaker (IsTermWithin (length p.forms) (length p.terms)) _
          (term_wider _ _ (length p.forms) (length more_terms) (omega arith) longer_terms) (p.term_nodes ++ k ∷ [])
          (All-push (IsTermWithin (length p.forms) (length p.terms)) p.term_nodes k w.term_parts parts);
      forms_once = w.forms_once;
      terms_once = once_more p.terms t w.terms_once fresh_term;
    }

-- a pool that is another with one term's node more
pub grown_by_term : (p q : Pooled) (k : TermNode) → IsPool p → IsTermWithin (length p.forms) (length p.terms) k →
    ((i : ℕ) → slice_get p.term_nodes i ≡ Some k → ⊥) → q.form_nodes ≡ p.form_nodes → q.forms ≡ p.forms →
    q.term_nodes ≡ p.term_nodes ++ k ∷ [] → q.terms ≡ p.terms ++ term_of_node p.forms p.terms k ∷ [] →
    IsPool q × Grows p q
grown_by_term p q k w parts new a b c d =
    let same : with_term p k ≡ q = λ i. record {
      form_nodes = sym a i;
      forms = sym b i;
      term_nodes = sym c i;
      terms = sym d i;
    } in (subst IsPool same (whole_with_term p k w parts new), subst (Grows p) same (grows_by_term p k))

-- a pool that holds what another does
pub same_pool : (p q : Pooled) → IsPool p → q.form_nodes ≡ p.form_nodes → q.forms ≡ p.forms →
    q.term_nodes ≡ p.term_nodes → q.terms ≡ p.terms → IsPool q
same_pool p q w a b c d =
    let same : p ≡ q = λ i. record {
      form_nodes = sym a i;
      forms = sym b i;
      term_nodes = sym c i;
      terms = sym d i;
    } in subst IsPool same w

-- entries as many as trees

pub form_within : (forms : List FormEntry) (terms : List TermEntry) (k : FormNode) →
    IsFormWithin (length forms) (length terms) k →
    IsFormWithin (length (form_trees forms)) (length (term_trees terms)) k
form_within forms terms k w =
    let some = sym (length-map forms (λ (e : FormEntry). e.tree)) in
    let more = sym (length-map terms (λ (e : TermEntry). e.tree)) in
    subst (λ n. IsFormWithin n (length (term_trees terms)) k) some
    (subst (λ m. IsFormWithin (length forms) m k) more w)

pub term_within : (forms : List FormEntry) (terms : List TermEntry) (k : TermNode) →
    IsTermWithin (length forms) (length terms) k →
    IsTermWithin (length (form_trees forms)) (length (term_trees terms)) k
term_within forms terms k w =
    let some = sym (length-map forms (λ (e : FormEntry). e.tree)) in
    let more = sym (length-map terms (λ (e : TermEntry). e.tree)) in
    subst (λ n. IsTermWithin n (length (term_trees terms)) k) some
    (subst (λ m. IsTermWithin (length forms) m k) more w)

-- a key put into a set and taken out again
pub taken_out : {X : Type 0} (xs ys zs : List X) (x : X) (n : ℕ) → n ≡ length xs → ys ≡ xs ++ x ∷ [] →
    zs ≡ take n ys → zs ≡ xs
taken_out xs ys zs x n e p q =
    q ∙ ap (λ l. take n l) p ∙ ap (λ k. take k (xs ++ x ∷ [])) e ∙ take-append_seam xs (x ∷ [])
