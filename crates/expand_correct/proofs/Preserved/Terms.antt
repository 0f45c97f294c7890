-- Formulas of proof terms in core form are worth what those of the document are.
use Rattle.std.proofs.Common.{◌≡◌, ℕ, suc, ◌+◌, ℤ, List, [], ◌∷◌, ◌++◌, true, refl, sym, ap}
use Rattle.std.proofs.Common.{◌∙◌, subst, length}
use Rattle.case_tables.specs.declared.word_table.Word.{Word}
use Rattle.unity_syntax.specs.declared.expression.Expr.{Expr}
use Rattle.unity_syntax.specs.declared.term.Term.{Term}
use Rattle.unity_syntax.specs.declared.term.Term.TheOpen.{Term-F}
use Rattle.unity_syntax.specs.declared.document.Document.{Document}
use Rattle.unity_syntax.specs.TwoFolds.{TermLayers}
use Rattle.unity_syntax.proofs.TermFolds.{two_terms}
use Rattle.meaning_states.specs.State.{State, is_state}
use Rattle.meaning_documents.specs.Value.{value, truth}
use Rattle.meaning_documents.specs.Setting.{programs_among, setting_of, seen, slot_ranges}
use Rattle.meaning_documents.specs.Programs.{document_setting}
use Rattle.names_rules.specs.Scope.{Bounds, Params}
use Rattle.names_rules.specs.declared.named.Meaning.{Meaning}
use Rattle.names_rules.specs.Declarations.{some_of}
use Rattle.core_terms.specs.declared.documents.Ref.{Ref}
use Rattle.core_terms.specs.declared.documents.PTerm.{PTerm, roll-PTerm, fold-roll-PTerm}
use Rattle.core_terms.specs.declared.documents.PTerm.TheOpen.{PTerm-F}
use Rattle.core_terms.specs.declared.documents.PTerm.TheFolds.{map-PTerm}
use Rattle.core_terms.specs.declared.documents.PTerm.TheVariants.{Imply, From, Trans, Either, Exists, Induct, Psp}
use Rattle.core_terms.specs.declared.documents.PTerm.TheVariants.{Weaken, rolls-Imply, rolls-From, rolls-Trans}
use Rattle.core_terms.specs.declared.documents.PTerm.TheVariants.{rolls-Either, rolls-Exists, rolls-Induct, rolls-Psp}
use Rattle.core_terms.specs.declared.documents.PTerm.TheVariants.{rolls-Weaken}
use Rattle.core_terms.specs.declared.trees.CForm.{CForm}
use Rattle.core_terms.specs.declared.trees.CTerm.{CTerm}
use Rattle.core_terms.specs.declared.trees.Range.{Range}
use Rattle.core_terms.specs.Values.{term_value}
use Rattle.expand_declarations.specs.Texts.{Texts}
use Rattle.expand_declarations.specs.WordNumbers.{document_words}
use Rattle.expand_declarations.specs.Slots.{document_slots}
use Rattle.expand_declarations.specs.References.{step_params}
use Rattle.expand_rules.specs.Measures.{no_flaws}
use Rattle.expand_rules.proofs.FlawLaws.{flaws_first, flaws_second}
use Rattle.expand_rules.specs.declared.cores.Bound.{Bound}
use Rattle.expand_rules.specs.declared.cores.Formed.{Formed}
use Rattle.expand_rules.specs.Forming.{formed, as_number, term_of}
use Rattle.expand_correct.specs.Values.Worth.{values_of}
use Rattle.expand_rules.specs.Documents.{scope_of, within}
use Rattle.expand_correct.proofs.Values.Values.{formed_as_number, formed_law}
use Rattle.expand_correct.proofs.Values.DocumentValues.{are_bits, sees_within}
use Rattle.expand_correct.proofs.Values.SameSight.{formed_by_sight}
use Rattle.expand_correct.specs.Exact.Parts.{EachItem}
use Rattle.expand_correct.specs.Exact.Formulas.{IsExactFormula}
use Rattle.expand_correct.proofs.Exact.Formulas.{formulas_seen}
use Rattle.expand_documents.specs.from_expand_steps.Elements.{truth_in, number_in, form_in, term_in, flaws_in}
use Rattle.expand_documents.specs.from_expand_steps.ProofTerms.{Place, Terming, term_layer, termed, pair_term}
use Rattle.expand_documents.specs.from_expand_steps.ProofTerms.{param_bound}
use Rattle.expand_documents.specs.from_expand_steps.Steps.{param_bounds, step_place, claim_formulas, rule_formulas}
use Rattle.expand_documents.specs.from_expand_steps.Steps.{step_formulas, core_rule}
use Rattle.expand_documents.specs.Cores.{document_scope}
use Rattle.expand_correct.specs.Preserved.Terms.{core_layer, core_worths, Weighing, source_layer, source_worths}
use Rattle.expand_correct.specs.Preserved.Terms.{form_worth}
use Rattle.expand_correct.specs.Preserved.Terms.{truth_worth, TermsSay}
use Rattle.expand_correct.proofs.Preserved.Sights.{sees_alike, sees_alike_among}
use Rattle.expand_correct.proofs.Preserved.Faultless.{bodies_faultless}
use Rattle.expand_correct.proofs.Preserved.ExactPrograms.{none_fails}
use Rattle.expand_correct.proofs.Preserved.Claims.{formula_says, faultless_proof, faultless_step}

-- formulas that are exact, and in which nothing fails
record Sound (f : Formed) : Type 0 where
  exact : f.exact ≡ true
  near : f.measure.flaws ≡ no_flaws

abbrev AllSound : List Formed → Type 0
AllSound [] = Unit {0}
AllSound (f ∷ fs) = Sound f × AllSound fs

all_sound : (fs : List Formed) → EachItem IsExactFormula fs → flaws_in fs ≡ no_flaws → AllSound fs
all_sound [] x n = tt
all_sound (f ∷ fs) x n = (
  record { exact = x 0 f refl; near = flaws_first f.measure.flaws (flaws_in fs) n },
  all_sound fs (λ place g e. x (suc place) g e) (flaws_second f.measure.flaws (flaws_in fs) n),
)

sound_first : (fs gs : List Formed) → AllSound (fs ++ gs) → AllSound fs
sound_first [] gs h = tt
sound_first (f ∷ fs) gs h = (h.0, sound_first fs gs h.1)

sound_second : (fs gs : List Formed) → AllSound (fs ++ gs) → AllSound gs
sound_second [] gs h = h
sound_second (f ∷ fs) gs h = sound_second fs gs h.1

-- each kind of term
module _ (state zs : List ℤ) where
  abbrev rolled : (x : PTerm-F PTerm) (t : PTerm) → roll-PTerm x ≡ t →
      core_worths state zs t
      ≡ core_layer state zs (map-PTerm PTerm (List ℤ) (core_worths state zs) x)
  rolled x t same = ap (core_worths state zs) (sym same) ∙ fold-roll-PTerm (List ℤ) (core_layer state zs) x

  imply_worths : (p q : CForm) →
      core_worths state zs (Imply p q) ≡ form_worth state zs p ∷ form_worth state zs q ∷ []
  imply_worths p q = rolled (PTerm-F.Imply p q) (Imply p q) (rolls-Imply p q)

  from_worths : (r : Ref) → core_worths state zs (From r) ≡ []
  from_worths r = rolled (PTerm-F.From r) (From r) (rolls-From r)

  trans_worths : (t u : PTerm) →
      core_worths state zs (Trans t u) ≡ core_worths state zs t ++ core_worths state zs u
  trans_worths t u = rolled (PTerm-F.Trans t u) (Trans t u) (rolls-Trans t u)

  either_worths : (t u : PTerm) →
      core_worths state zs (Either t u) ≡ core_worths state zs t ++ core_worths state zs u
  either_worths t u = rolled (PTerm-F.Either t u) (Either t u) (rolls-Either t u)

  -- `trans` and `either`
  pair_worths : (which : Word) (t u : PTerm) →
      core_worths state zs (pair_term which t u) ≡ core_worths state zs t ++ core_worths state zs u
  pair_worths Word.Either t u = either_worths t u
  pair_worths _ t u = trans_worths t u

  exists_worths : (number : ℕ) (range : Range) (t : PTerm) →
      core_worths state zs (Exists number range t) ≡ core_worths state zs t
  exists_worths number range t =
      rolled (PTerm-F.Exists number range t) (Exists number range t) (rolls-Exists number range t)

  induct_worths : (number : ℕ) (range : Range) (measure : CTerm) (p q : CForm) (t : PTerm) →
      core_worths state zs (Induct number range measure p q t)
      ≡ term_value state zs measure ∷ form_worth state zs p ∷ form_worth state zs q ∷ core_worths state zs t
  induct_worths number range measure p q t = rolled (PTerm-F.Induct number range measure p q t)
      (Induct number range measure p q t) (rolls-Induct number range measure p q t)

  psp_worths : (t : PTerm) (r : Ref) → core_worths state zs (Psp t r) ≡ core_worths state zs t
  psp_worths t r = rolled (PTerm-F.Psp t r) (Psp t r) (rolls-Psp t r)

  weaken_worths : (p q : CForm) (t : PTerm) →
      core_worths state zs (Weaken p q t)
      ≡ form_worth state zs p ∷ form_worth state zs q ∷ core_worths state zs t
  weaken_worths p q t = rolled (PTerm-F.Weaken p q t) (Weaken p q t) (rolls-Weaken p q t)

two_lists : (x x' y y' : List ℤ) → x ≡ x' → y ≡ y' → (x ++ y) ≡ (x' ++ y')
two_lists x x' y y' h k = ap (λ v. v ++ y) h ∙ ap (λ v. x' ++ v) k

before_list : (x x' : ℤ) (y y' : List ℤ) → x ≡ x' → y ≡ y' → (x ∷ y) ≡ (x' ∷ y')
before_list x x' y y' h k = ap (λ v. v ∷ y) h ∙ ap (λ v. x' ∷ v) k

module _ (d : Document) (zs : List ℤ) (state : State)
    (h : is_state (slot_ranges (document_setting d).variables) state ≡ true) where
  number_says : (bs : List (List ℕ × Bound)) (e : Expr) →
      Sound (number_in (within (document_scope d.parts) bs) e) →
      term_value state zs (term_in (within (document_scope d.parts) bs) e)
      ≡ value e (seen (document_setting d) (values_of zs bs) state)
  number_says bs e sound =
      let s = within (document_scope d.parts) bs in
      let ps = programs_among d.parts in
      let t = within (scope_of ps) bs in
      let u = seen (setting_of ps) (values_of zs bs) state in
      let same = formed_by_sight e s t (sees_alike_among d.parts bs) in
      ap (λ f. term_value state zs (term_of (as_number f).core)) same
      ∙ (formed_as_number state zs (formed e t) (value e u)
      (formed_law state zs e t u (sees_within state zs ps bs (are_bits ps state h)))).value
      (sym (ap (λ f. (as_number f).exact) same) ∙ sound.exact)
      (sym (ap (λ f. (as_number f).measure.flaws) same) ∙ sound.near)

  truth_says : (bs : List (List ℕ × Bound)) (e : Expr) →
      Sound (truth_in (within (document_scope d.parts) bs) e) →
      form_worth state zs (form_in (within (document_scope d.parts) bs) e)
      ≡ truth_worth (document_setting d) state (values_of zs bs) e
  truth_says bs e sound = ap truth (formula_says d bs zs e sound.exact sound.near state h)

  abbrev place_at : Texts → List ℕ → List (List ℕ × Bound) → Bounds → Params → Place
  place_at words owner bs bounds params = record {
    words = words;
    owner = owner;
    scope = within (document_scope d.parts) bs;
    bounds = bounds;
    params = params;
  }

  abbrev Says : Terming → Weighing → Type 0
  Says f g = (words : Texts) (owner : List ℕ) (bs : List (List ℕ × Bound)) (bounds : Bounds) (params : Params)
      (number : ℕ) →
      (AllSound (f (place_at words owner bs bounds params) number).formulas →
      core_worths state zs (f (place_at words owner bs bounds params) number).core
      ≡ (g (values_of zs bs) number).values) ×
      ((f (place_at words owner bs bounds params) number).next ≡ (g (values_of zs bs) number).next)

  layer_says : TermLayers Says term_layer (source_layer (document_setting d) state zs)
  layer_says (Term-F.Imply at p q) words owner bs bounds params number = (
    λ sound. imply_worths state zs _ _ ∙ before_list _ _ _ _ (truth_says bs p sound.0)
        (before_list _ _ [] [] (truth_says bs q sound.1.0) refl),
    refl,
  )
  layer_says (Term-F.From at of) words owner bs bounds params number = (λ sound. from_worths state zs _, refl)
  layer_says (Term-F.Pair at which first second) words owner bs bounds params number =
      let c = place_at words owner bs bounds params in
      let t = first.0 c number in
      let u = second.0 c t.next in
      let one = first.2 words owner bs bounds params number in
      let two = second.2 words owner bs bounds params t.next in
      let moved = ap (λ n. second.1 (values_of zs bs) n) one.1 in (
        λ sound. pair_worths state zs which t.core u.core
            ∙ two_lists _ _ _ _ (one.0 (sound_first t.formulas u.formulas sound))
            (two.0 (sound_second t.formulas u.formulas sound) ∙ ap (λ w. w.values) moved),
        two.1 ∙ ap (λ w. w.next) moved,
      )
  layer_says (Term-F.Exists at name range of) words owner bs bounds params number =
      let inner = of.2 words owner ((name.text, param_bound number range) ∷ bs)
      ((name.text, Meaning.Param number) ∷ bounds) params (number + 1) in
      (λ sound. exists_worths state zs _ _ _ ∙ inner.0 sound, inner.1)
  layer_says (Term-F.Induct at name range measure p q of) words owner bs bounds params number =
      let inner = of.2 words owner ((name.text, param_bound number range) ∷ bs)
      ((name.text, Meaning.Param number) ∷ bounds) params (number + 1) in (
        λ sound. induct_worths state zs _ _ _ _ _ _ ∙ before_list _ _ _ _ (number_says bs measure sound.0)
            (before_list _ _ _ _ (truth_says bs p sound.1.0)
            (before_list _ _ _ _ (truth_says bs q sound.1.1.0) (inner.0 sound.1.1.1))),
        inner.1,
      )
  layer_says (Term-F.Psp at of by) words owner bs bounds params number =
      let inner = of.2 words owner bs bounds params number in
      (λ sound. psp_worths state zs _ _ ∙ inner.0 sound, inner.1)
  layer_says (Term-F.Weaken at p q of) words owner bs bounds params number =
      let inner = of.2 words owner bs bounds params number in (
        λ sound. weaken_worths state zs _ _ _ ∙ before_list _ _ _ _ (truth_says bs p sound.0)
            (before_list _ _ _ _ (truth_says bs q sound.1.0) (inner.0 sound.1.1)),
        inner.1,
      )

  term_says : (t : Term) → Says (termed t) (source_worths (document_setting d) state zs t)
  term_says t = two_terms Says term_layer (source_layer (document_setting d) state zs) layer_says t

pub terms_say : TermsSay
terms_say d named fault place at proof e number step f at_rule of same =
    let words = document_words d in
    let s = document_scope d.parts in
    let owner = proof.program.text in
    let ps = some_of step.params in
    let c = step_place words owner s step in
    let fine = faultless_step words owner s proof.steps
    (faultless_proof words s (document_slots words d.parts) [] d.parts (bodies_faultless d fault) place at proof e)
    number step f in
    let sound = sound_second (claim_formulas c.scope step.claim) (rule_formulas c step.rule)
    (all_sound (step_formulas c step)
    (formulas_seen d named s (sees_alike d.parts) words owner place at proof e number step f)
    (none_fails step.name.at (step_formulas c step) fine)) in (
      (termed of c (length c.params)).core,
      ap (core_rule c) same,
      λ zs state h. (term_says d zs state h of words owner (param_bounds ps) [] (step_params ps)
          (length (step_params ps))).0 (subst (λ r. AllSound (rule_formulas c r)) same sound),
    )
