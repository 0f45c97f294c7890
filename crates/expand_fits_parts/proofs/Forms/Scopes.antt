-- Scopes whose words name and weigh no more than is there.
use Rattle.std.proofs.Common.{◌≡◌, ℕ, ◌^◌, ◌≤◌, ℤ, pos, List, [], ◌∷◌, map, length, Bool, true, false, cond}
use Rattle.std.proofs.Common.{not, ◌||◌, Option, Some, None, option_map, ◌⊎◌, inl, inr, refl, sym, ap, ◌∙◌}
use Rattle.std.proofs.Common.{subst, get_or, le_trans}
use Rattle.std.proofs.lemmas.Bool.{leb-true}
use Rattle.std.specs.Prelude.{nat_le}
use Rattle.std.specs.Map.{lookup}
use Rattle.std.specs.Option.{option_or}
use Rattle.std.specs.Str.{bytes_eq}
use Rattle.indexmap.specs.IndexMap.{insert_entry}
use Rattle.unity_syntax.specs.declared.expression.Expr.{Expr}
use Rattle.meaning_documents.specs.Names.{Bindings, Variable, slot_at}
use Rattle.meaning_documents.specs.Names.{variable_named}
use Rattle.names_laws.proofs.Inserts.{same_bytes, bytes_same, chosen, taken, skipped}
use Rattle.core_terms.specs.declared.trees.CTerm.{CTerm}
use Rattle.core_terms.specs.declared.trees.CForm.{CForm}
use Rattle.core_terms.specs.declared.trees.CTerm.TheVariants.{Slot}
use Rattle.core_terms.specs.declared.trees.Range.{Range}
use Rattle.core_terms.specs.declared.programs.CSlot.{CSlot}
use Rattle.core_terms.specs.declared.programs.CWrite.{CWrite}
use Rattle.core_terms.specs.Places.{form_names_only, term_names_only}
use Rattle.core_terms.specs.Weights.{form_weight, term_weights, slot_weight, place_weight}
use Rattle.core_terms.specs.Conditions.{is_below, FormFits, TermFits, WriteFits, StatementFits}
use Rattle.expand_rules.specs.declared.cores.Bound.{Bound}
use Rattle.expand_rules.specs.declared.cores.Formed.{Formed}
use Rattle.expand_rules.specs.Measures.{ends_weight}
use Rattle.expand_rules.specs.Forming.{Scope, as_truth, as_number, form_of, term_of, typed, varying, number_constant}
use Rattle.expand_rules.specs.Forming.{bound_formed, variable_formed, formed_or_zero, formed}
use Rattle.expand_rules.specs.Assigning.{Stated, stated, among, is_large_effect}
use Rattle.expand_rules.specs.Programs.{core_statement}
use Rattle.expand_correct.specs.Values.WeightLaws.{WriteWithin, EffectWithin, CoreWithin}
use Rattle.expand_correct.proofs.Values.Lightness.{expressions_within, fits_truth, fits_number}
use Rattle.expand_correct.proofs.Values.LightEffects.{assignments_within}
use Rattle.expand_fits_parts.specs.Forms.Naming.{any_word, SlotsPass, core_names_only, SeesOnly, WriteNames}
use Rattle.expand_fits_parts.specs.Forms.Naming.{EffectNames}
use Rattle.expand_fits_parts.specs.Forms.Fitting.{ScopeNames, ScopeFits}
use Rattle.expand_fits_parts.specs.Forms.FittingLaws.{FormulasFit, NumbersFit, InstancesFit, DefinitionsFit}
use Rattle.expand_fits_parts.proofs.Forms.Below.{lt_true, forms_below, terms_below}
use Rattle.expand_fits_parts.proofs.Forms.NamedForms.{names-Slot, names-Param, typed_fine, fine_constant, fine_truth}
use Rattle.expand_fits_parts.proofs.Forms.NamedForms.{fine_number}
use Rattle.expand_fits_parts.proofs.Forms.NamedForms.{Fine, expressions_name}
use Rattle.expand_fits_parts.proofs.Forms.NamedEffects.{assignments_name}
use Rattle.expand_fits_parts.proofs.Forms.AnyWords.{expressions_pass, assignments_pass}

-- words

module _ (slots params : ℕ → Bool) where
  abbrev pub FineOr : Option Formed → Type 0
  FineOr None = Unit {0}
  FineOr (Some a) = Fine slots params a

  pub or_fine : (a b : Option Formed) → FineOr a → FineOr b → FineOr (option_or a b)
  or_fine None b h i = i
  or_fine (Some a) b h i = h

  pub zero_fine : (a : Option Formed) → FineOr a → Fine slots params (formed_or_zero a)
  zero_fine None h = fine_constant slots params (pos 0)
  zero_fine (Some a) h = h

  plain_by : (v : Variable) (m : Option (ℤ × ℤ)) → SlotsPass slots v m →
      FineOr (option_map (λ slot. typed v (varying (Slot slot) (ends_weight v.range))) (slot_at v.first m None))
  plain_by v None h = typed_fine slots params v.is_truth (varying (Slot v.first) (ends_weight v.range))
      (names-Slot slots params v.first ∙ h)
  plain_by v (Some r) h = tt

  pub variable_fine : (m : Option Variable) → ((v : Variable) → m ≡ Some v → SlotsPass slots v v.indices) →
      FineOr (variable_formed m)
  variable_fine None h = tt
  variable_fine (Some v) h = plain_by v v.indices (h v refl)

  pub value_fine : (m : Option ℤ) → FineOr (option_map number_constant m)
  value_fine None = tt
  value_fine (Some z) = fine_constant slots params z

  bound_fine : (b : Bound) → ((n weight : ℕ) → b ≡ Bound.Param n weight → params n ≡ true) →
      Fine slots params (bound_formed b)
  bound_fine (Bound.Number z) h = fine_constant slots params z
  bound_fine (Bound.Param n weight) h = names-Param slots params n ∙ h n weight refl

  pub named_fine : (m : Option Bound) → ((n weight : ℕ) → m ≡ Some (Bound.Param n weight) → params n ≡ true) →
      FineOr (option_map bound_formed m)
  named_fine None h = tt
  named_fine (Some b) h = bound_fine b (λ n weight e. h n weight (ap (λ x. Some x) e))

  pub always_fine : (m : Option Formed) → ((a : Formed) → m ≡ Some a → Fine slots params a) → FineOr m
  always_fine None h = tt
  always_fine (Some a) h = h a refl

  pub sees_any : (s : Scope) → ScopeNames slots params s → SeesOnly slots params any_word any_word s
  sees_any s g = record {
    words = λ word p. zero_fine _ (or_fine _ _ (named_fine (lookup (bytes_eq word) s.bound) (λ n weight e.
        g.bound word n weight e))
        (or_fine _ _ (always_fine (lookup (bytes_eq word) s.always) (λ a e. g.always word a e))
        (or_fine _ _ (variable_fine (variable_named word s.variables) (λ v e. g.variables word v e))
        (value_fine (lookup (bytes_eq word) s.words)))));
    variables = λ word v p e. g.variables word v e;
  }

  pub formed_fine : (e : Expr) (s : Scope) → ScopeNames slots params s → Fine slots params (formed e s)
  formed_fine e s g = expressions_name slots params any_word any_word e s (expressions_pass e) (sees_any s g)

-- numbers alone are bound among the names of an instance

no_param : (bs : Bindings) (word : List ℕ) (n weight : ℕ) →
    lookup (bytes_eq word) (map (λ (x : List ℕ × ℤ). let p : List ℕ × Bound = (x.0, Bound.Number x.1) in p) bs) ≡
    Some (Bound.Param n weight) → ⊥
no_param [] word n weight e = cc e
no_param (b ∷ bs) word n weight e = by (bytes_eq word b.0) (no_param bs word n weight) e
  where
    by : (c : Bool) → (lookup (bytes_eq word)
        (map (λ (x : List ℕ × ℤ). let p : List ℕ × Bound = (x.0, Bound.Number x.1) in p) bs) ≡
        Some (Bound.Param n weight) → ⊥) → cond c (Some (Bound.Number b.1)) (lookup (bytes_eq word)
        (map (λ (x : List ℕ × ℤ). let p : List ℕ × Bound = (x.0, Bound.Number x.1) in p) bs)) ≡ Some
        (Bound.Param n weight) → ⊥
    by true rest f = cc f
    by false rest f = rest f

pub fits_among : (slots : List CSlot) (params : List Range) (s : Scope) (bs : Bindings) → ScopeFits slots params s →
    ScopeFits slots params (among s bs)
fits_among slots params s bs g = record {
  names = record {
    variables = g.names.variables;
    bound = λ word n weight e. absurd (no_param bs word n weight e);
    always = g.names.always;
  };
  weighs = record {
    variables = g.weighs.variables;
    bound = λ word n weight e. absurd (no_param bs word n weight e);
    always = g.weighs.always;
  };
}

-- always names

-- a value that is found after one is added is that one, or was there
pub found_after : {V : Type 0} (es : List (List ℕ × V)) (word other : List ℕ) (n m : V) →
    lookup (bytes_eq other) (insert_entry bytes_eq es word n) ≡ Some m →
    ((m ≡ n) × (other ≡ word)) ⊎ (lookup (bytes_eq other) es ≡ Some m)
found_after [] word other n m e = elim (chosen (bytes_eq other word) n m None e)
    as (λ x. ((m ≡ n) × (other ≡ word)) ⊎ (lookup (bytes_eq other) [] ≡ Some m)) [
      | inl new ↦ inl (new.1, same_bytes other word new.0)
      | inr old ↦ inr old.1
    ]
found_after {V} ((key, old) ∷ es) word other n m e = by (bytes_eq word key) (same_bytes word key)
    (found_after es word other n m) e
  where
    by : (b : Bool) → (b ≡ true → word ≡ key) → (lookup (bytes_eq other) (insert_entry bytes_eq es word n) ≡ Some m →
        ((m ≡ n) × (other ≡ word)) ⊎ (lookup (bytes_eq other) es ≡ Some m)) →
        lookup (bytes_eq other) (cond b ((key, n) ∷ es) ((key, old) ∷ insert_entry bytes_eq es word n)) ≡ Some m →
        ((m ≡ n) × (other ≡ word)) ⊎ (lookup (bytes_eq other) ((key, old) ∷ es) ≡ Some m)
    by true same known e = elim (chosen (bytes_eq other key) n m (lookup (bytes_eq other) es) e)
        as (λ x. ((m ≡ n) × (other ≡ word)) ⊎ (lookup (bytes_eq other) ((key, old) ∷ es) ≡ Some m)) [
          | inl new ↦ inl (new.1, same_bytes other key new.0 ∙ sym (same refl))
          | inr rest ↦ inr (skipped (bytes_eq other key) old (lookup (bytes_eq other) es) rest.0 ∙ rest.1)
        ]
    by false same known e =
        elim (chosen (bytes_eq other key) old m (lookup (bytes_eq other) (insert_entry bytes_eq es word n)) e)
        as (λ x. ((m ≡ n) × (other ≡ word)) ⊎ (lookup (bytes_eq other) ((key, old) ∷ es) ≡ Some m)) [
          | inl here ↦
              inr (taken (bytes_eq other key) old (lookup (bytes_eq other) es) here.0 ∙ sym (ap (λ x. Some x) here.1))
          | inr rest ↦ elim (known rest.1)
              as (λ x. ((m ≡ n) × (other ≡ word)) ⊎ (lookup (bytes_eq other) ((key, old) ∷ es) ≡ Some m)) [
                | inl new ↦ inl new
                | inr there ↦ inr (skipped (bytes_eq other key) old (lookup (bytes_eq other) es) rest.0 ∙ there)
              ]
        ]

pub inserted_found : {V : Type 0} (es : List (List ℕ × V)) (word : List ℕ) (n : V) →
    lookup (bytes_eq word) (insert_entry bytes_eq es word n) ≡ Some n
inserted_found [] word n = taken (bytes_eq word word) n None (bytes_same word word refl)
inserted_found {V} ((key, old) ∷ es) word n = by (bytes_eq word key) refl (inserted_found es word n)
  where
    by : (b : Bool) → bytes_eq word key ≡ b → lookup (bytes_eq word) (insert_entry bytes_eq es word n) ≡ Some n →
        lookup (bytes_eq word) (cond b ((key, n) ∷ es) ((key, old) ∷ insert_entry bytes_eq es word n)) ≡ Some n
    by true e known = taken (bytes_eq word key) n (lookup (bytes_eq word) es) e
    by false e known = skipped (bytes_eq word key) old
        (lookup (bytes_eq word) (insert_entry bytes_eq es word n)) e ∙ known

pub definitions_fit : DefinitionsFit
definitions_fit slots params s name e g =
    let a = formed e s in
    let named = formed_fine (is_below (length slots)) (is_below (length params)) e s g.names in
    let light = expressions_within (slot_weight slots) (place_weight params) e s g.weighs in
    record {
      names = record {
        variables = g.names.variables;
        bound = g.names.bound;
        always = λ word b f. elim (found_after s.always name word a b f) as (λ x. core_names_only
            (is_below (length slots)) (is_below (length params)) b.core ≡ true) [
              | inl new ↦ ap (λ x. core_names_only (is_below (length slots)) (is_below (length params)) x.core)
                  new.0 ∙ named
              | inr old ↦ g.names.always word b old
            ];
      };
      weighs = record {
        variables = g.weighs.variables;
        bound = g.weighs.bound;
        always = λ word b f. elim (found_after s.always name word a b f) as (λ x. CoreWithin (slot_weight slots)
            (place_weight params) b.core b.measure) [
              | inl new ↦ subst (λ (x : Formed). CoreWithin (slot_weight slots) (place_weight params) x.core x.measure)
                  (sym new.0) light
              | inr old ↦ g.weighs.always word b old
            ];
      };
    }

-- formulas, terms and statements

pub form_fits : (slots : List CSlot) (params : List Range) (f : CForm) (most : ℕ) →
    form_names_only (is_below (length slots)) (is_below (length params)) f ≡ true →
    form_weight (slot_weight slots) (place_weight params) f ≤ most → most ≤ 2 ^ 62 → FormFits slots params f
form_fits slots params f most h w l =
    let b = forms_below (length slots) (length params) f h in
    record { slots_exist = b.0; params_exist = b.1; weight = le_trans w l }

pub term_fits : (slots : List CSlot) (params : List Range) (t : CTerm) (most : ℕ) →
    term_names_only (is_below (length slots)) (is_below (length params)) t ≡ true →
    (term_weights (slot_weight slots) (place_weight params) t).most ≤ most → most ≤ 2 ^ 62 → TermFits slots params t
term_fits slots params t most h w l =
    let b = terms_below (length slots) (length params) t h in
    record { slots_exist = b.0; params_exist = b.1; weight = le_trans w l }

pub formulas_fit : FormulasFit
formulas_fit slots params s e g l = form_fits slots params (form_of (as_truth (formed e s)).core)
    (as_truth (formed e s)).measure.most
    (fine_truth (is_below (length slots)) (is_below (length params)) (formed e s)
    (formed_fine (is_below (length slots)) (is_below (length params)) e s g.names))
    (fits_truth (slot_weight slots) (place_weight params) (formed e s)
    (expressions_within (slot_weight slots) (place_weight params) e s g.weighs)) l

pub numbers_fit : NumbersFit
numbers_fit slots params s e g l = term_fits slots params (term_of (as_number (formed e s)).core)
    (as_number (formed e s)).measure.most
    (fine_number (is_below (length slots)) (is_below (length params)) (formed e s)
    (formed_fine (is_below (length slots)) (is_below (length params)) e s g.names))
    (fits_number (slot_weight slots) (place_weight params) (formed e s)
    (expressions_within (slot_weight slots) (place_weight params) e s g.weighs)).1 l

-- what is not too large weighs no more than the limit
light_by : (m limit : ℕ) (b : Bool) → (not (nat_le m limit) || b) ≡ false → m ≤ limit
light_by m limit b h = leb-true m limit (by (nat_le m limit) h)
  where
    by : (c : Bool) → (not c || b) ≡ false → c ≡ true
    by true f = refl
    by false f = cc f

module _ (slots : List CSlot) (most : ℕ) (l : most ≤ 2 ^ 62) where
  abbrev S : ℕ → Bool
  S = is_below (length slots)

  abbrev Z : ℕ → Bool
  Z = is_below 0

  write_fits : (w : CWrite) → WriteNames S Z w → WriteWithin (slot_weight slots) (place_weight []) most w →
      WriteFits slots w
  write_fits w n h = record {
    target = lt_true w.slot (length slots) n.target;
    condition = form_fits slots [] w.when most n.condition h.0 l;
    value = term_fits slots [] w.value most n.value h.1 l;
  }

pub statement_fits : (slots : List CSlot) (number : List ℕ → ℕ) (st : Stated) →
    EffectNames (is_below (length slots)) (is_below 0) st.effect →
    EffectWithin (slot_weight slots) (place_weight []) st.effect → is_large_effect st.effect ≡ false →
    StatementFits slots (core_statement number st)
statement_fits slots number st n h large =
    let l = light_by st.effect.count.most (2 ^ 62) (not (nat_le st.effect.count.size 65536)) large in
    record {
      outside = λ k d lt. form_fits slots [] (get_or st.effect.outside k d) st.effect.count.most (n.outside k d lt)
          (h.outside k d lt) l;
      writes = λ k d lt. write_fits slots st.effect.count.most l (get_or st.effect.writes k d) (n.writes k d lt)
          (h.writes k d lt);
    }

pub instances_fit : InstancesFit
instances_fit slots number s i g large =
    let inner = fits_among slots [] s i.bindings g in
    statement_fits slots number (stated s i)
    (assignments_name (is_below (length slots)) (is_below 0) any_word any_word i.assign (among s i.bindings)
    (assignments_pass i.assign) (sees_any (is_below (length slots)) (is_below 0) (among s i.bindings) inner.names))
    (assignments_within (slot_weight slots) (place_weight []) i.assign (among s i.bindings) inner.weighs) large
