-- The formulas in the proofs of a well-named document become exact.
use Rattle.std.proofs.Common.{◌≡◌, ℕ, ◌+◌, List, [], ◌∷◌, Bool, true, false, cond, Option, Some, None}
use Rattle.std.proofs.Common.{length, map, refl, ap, ◌∙◌}
use Rattle.std.specs.Prelude.{fold, take}
use Rattle.std.specs.Map.{lookup}
use Rattle.std.specs.Str.{bytes_eq}
use Rattle.indexmap.specs.IndexMap.{insert_entry}
use Rattle.case_tables.specs.declared.code_table.Code.{Code}
use Rattle.unity_syntax.specs.declared.expression.Expr.{Expr}
use Rattle.unity_syntax.specs.declared.term.Term.{Term}
use Rattle.unity_syntax.specs.declared.term.Term.TheOpen.{Term-F}
use Rattle.unity_syntax.specs.declared.proof.Param.{Param}
use Rattle.unity_syntax.specs.declared.proof.Claim.{Claim}
use Rattle.unity_syntax.specs.declared.proof.Rule.{Rule}
use Rattle.unity_syntax.specs.declared.proof.Step.{Step}
use Rattle.unity_syntax.specs.declared.proof.Proof.{Proof}
use Rattle.unity_syntax.specs.declared.document.Document.{Document}
use Rattle.unity_syntax.specs.TwoFolds.{TermLayers}
use Rattle.unity_syntax.proofs.TermFolds.{two_terms}
use Rattle.meaning_documents.specs.Setting.{programs_among}
use Rattle.names_rules.specs.declared.named.Meaning.{Meaning}
use Rattle.names_rules.specs.declared.named.Sort.{Sort}
use Rattle.names_rules.specs.Scope.{Scope as NameScope, Table, Bounds, Params, is_param, with_bound}
use Rattle.names_rules.specs.Reading.{Reading, earlier, beside, all_beside, binding, filled, needs, read, unless}
use Rattle.names_rules.specs.Reading.{same_sort}
use Rattle.names_rules.specs.Part.{run}
use Rattle.names_rules.specs.Declarations.{some_of}
use Rattle.names_rules.specs.Proofs.{Programs, Derived, proof_scope, boolean, number, ref_reading, term_layer}
use Rattle.names_rules.specs.Proofs.{term_part, param_part, claim_reading, rule_part, step_name, step_body, step_rest}
use Rattle.names_rules.specs.Proofs.{step_part}
use Rattle.names_rules.specs.WellNamed.{nothing_declared, part_of, proved_program, steps_reading}
use Rattle.names_laws.specs.StayingLaws.{StaysIn}
use Rattle.names_laws.specs.AttributeLaws.{ArraysVary}
use Rattle.names_laws.proofs.AttributeTheorems.{exact_where_faultless}
use Rattle.names_rules.proofs.Faults.{earlier_first, earlier_second}
use Rattle.names_laws.proofs.Inserts.{same_bytes}
use Rattle.expand_rules.specs.declared.cores.Bound.{Bound}
use Rattle.expand_rules.specs.Forming.{Scope, formed}
use Rattle.expand_rules.specs.Documents.{scope_of, within}
use Rattle.expand_correct.specs.Values.DocumentExact.{BindsAlike}
use Rattle.expand_correct.specs.Values.SightLaws.{SeeSame}
use Rattle.expand_correct.proofs.Values.SameSight.{formed_by_sight}
use Rattle.expand_correct.proofs.Values.Exactness.{expressions_exact}
use Rattle.expand_correct.proofs.Values.Agreeing.{document_agrees}
use Rattle.expand_declarations.specs.Texts.{Texts}
use Rattle.expand_declarations.specs.References.{step_params}
use Rattle.expand_documents.specs.from_expand_steps.ProofTerms.{Place, Terming, termed, param_bound}
use Rattle.expand_documents.specs.from_expand_steps.ProofTerms.{term_layer as form_term}
use Rattle.expand_documents.specs.from_expand_steps.Steps.{with_param_bound, param_bounds, claim_formulas}
use Rattle.expand_documents.specs.from_expand_steps.Steps.{rule_formulas}
use Rattle.expand_correct.specs.Exact.Parts.{EachItem, ProofStands, final_names}
use Rattle.expand_correct.specs.Exact.ByNames.{document_scope}
use Rattle.expand_correct.specs.Exact.Formulas.{IsExactFormula, ExactStep, FormulasByNames}
use Rattle.expand_correct.specs.Exact.Seen.{FormulasSeen}
use Rattle.expand_correct.proofs.Exact.Sights.{sees_within, sees_outside, document_seen}
use Rattle.expand_correct.proofs.Exact.Standing.{proofs_stand, parts_faultless, document_fault}
use Rattle.expand_correct.proofs.Exact.Statements.{everywhere_joined, everywhere_one}

-- lists

everywhere_none : {X : Type 0} (P : X → Type 0) → EachItem P []
everywhere_none P place x e = cc e

everywhere_two : {X : Type 0} (P : X → Type 0) (y z : X) → P y → P z → EachItem P (y ∷ z ∷ [])
everywhere_two P y z h k = everywhere_joined P (y ∷ []) (z ∷ []) (everywhere_one P y h) (everywhere_one P z k)

-- tables

-- what is neither in a table nor put there
not_inserted : {V : Type 0} (es : List (List ℕ × V)) (key : List ℕ) (v : V) (word : List ℕ) →
    lookup (bytes_eq word) (insert_entry bytes_eq es key v) ≡ None →
    (bytes_eq word key ≡ false) × (lookup (bytes_eq word) es ≡ None)
not_inserted {V = V} [] key v word h = by (bytes_eq word key) h
  where
    by : (b : Bool) → cond b (Some v) None ≡ None → (b ≡ false) × (let o : Option V = None in o ≡ None)
    by true e = cc e
    by false e = (refl, refl)
not_inserted {V = V} (e ∷ es) key v word h = by (bytes_eq key e.0) refl h (not_inserted es key v word)
  where
    apart : (b : Bool) (u : V) (o : Option V) → cond b (Some u) o ≡ None → (b ≡ false) × (o ≡ None)
    apart true u o k = cc k
    apart false u o k = (refl, k)

    beside_it : (b : Bool) (o : Option V) → b ≡ false → o ≡ None → cond b (Some e.1) o ≡ None
    beside_it true o k l = cc k
    beside_it false o k l = l

    by : (b : Bool) → bytes_eq key e.0 ≡ b →
        lookup (bytes_eq word) (cond b ((e.0, v) ∷ es) (e ∷ insert_entry bytes_eq es key v)) ≡ None →
        (lookup (bytes_eq word) (insert_entry bytes_eq es key v) ≡ None →
        (bytes_eq word key ≡ false) × (lookup (bytes_eq word) es ≡ None)) →
        (bytes_eq word key ≡ false) × (lookup (bytes_eq word) (e ∷ es) ≡ None)
    by true same k further =
        let both = apart (bytes_eq word e.0) v (lookup (bytes_eq word) es) k in (
          ap (bytes_eq word) (same_bytes key e.0 same) ∙ both.0,
          beside_it (bytes_eq word e.0) (lookup (bytes_eq word) es) both.0 both.1,
        )
    by false same k further =
        let both = apart (bytes_eq word e.0) e.1 (lookup (bytes_eq word) (insert_entry bytes_eq es key v)) k in
        let rest = further both.1 in
        (rest.0, beside_it (bytes_eq word e.0) (lookup (bytes_eq word) es) both.0 rest.1)

still_missing : {V : Type 0} (es : List (List ℕ × V)) (key : List ℕ) (v : V) (word : List ℕ) →
    bytes_eq word key ≡ false → lookup (bytes_eq word) es ≡ None →
    lookup (bytes_eq word) (insert_entry bytes_eq es key v) ≡ None
still_missing {V = V} [] key v word h k = by (bytes_eq word key) h
  where
    by : (b : Bool) → b ≡ false → cond b (Some v) None ≡ None
    by true e = cc e
    by false e = refl
still_missing {V = V} (e ∷ es) key v word h k = by (bytes_eq key e.0) (still_missing es key v word h)
  where
    apart : (b : Bool) (u : V) (o : Option V) → cond b (Some u) o ≡ None → (b ≡ false) × (o ≡ None)
    apart true u o l = cc l
    apart false u o l = (refl, l)

    beside_it : (b : Bool) (u : V) (o : Option V) → b ≡ false → o ≡ None → cond b (Some u) o ≡ None
    beside_it true u o l m = cc l
    beside_it false u o l m = m

    here : (bytes_eq word e.0 ≡ false) × (lookup (bytes_eq word) es ≡ None)
    here = apart (bytes_eq word e.0) e.1 (lookup (bytes_eq word) es) k

    by : (b : Bool) → (lookup (bytes_eq word) es ≡ None →
        lookup (bytes_eq word) (insert_entry bytes_eq es key v) ≡ None) →
        lookup (bytes_eq word) (cond b ((e.0, v) ∷ es) (e ∷ insert_entry bytes_eq es key v)) ≡ None
    by true further = beside_it (bytes_eq word e.0) v (lookup (bytes_eq word) es) here.0 here.1
    by false further = beside_it (bytes_eq word e.0) e.1 (lookup (bytes_eq word) (insert_entry bytes_eq es key v))
        here.0 (further here.1)

-- what is no parameter stands for none
abbrev MissingAlike : Params → List (List ℕ × Bound) → Type 0
MissingAlike params bs = (word : List ℕ) → lookup (bytes_eq word) params ≡ None → lookup (bytes_eq word) bs ≡ None

params_alike : (names : Table) (ps : List Param) (params : Params) (bs : List (List ℕ × Bound)) →
    MissingAlike params bs → MissingAlike (run (param_part names) params ps).after (fold with_param_bound bs ps)
params_alike names [] params bs h = h
params_alike names (p ∷ ps) params bs h = params_alike names ps
    (insert_entry bytes_eq params p.name.text (length params)) (with_param_bound bs p)
    (λ word e. let apart = not_inserted params p.name.text (length params) word e in
    still_missing bs p.name.text (param_bound (length bs) p.range) word apart.0 (h word apart.1))

-- inside a name that stands for a parameter
binds_inside : (n : NameScope) (bs : List (List ℕ × Bound)) → BindsAlike n bs → (name : List ℕ) (k m weight : ℕ) →
    BindsAlike (with_bound n name (Meaning.Param k)) ((name, Bound.Param m weight) ∷ bs)
binds_inside n bs binds name k m weight = record {
  numbers = λ word meaning. elim (bytes_eq word name) as
      (λ b. cond b (Some (Meaning.Param k)) (lookup (bytes_eq word) n.bounds) ≡ Some meaning →
      is_param meaning ≡ false →
      (z : _) × (cond b (Some (Bound.Param m weight)) (lookup (bytes_eq word) bs) ≡ Some (Bound.Number z))) [
        | true ↦ λ e h. absurd (no_number meaning e h)
        | false ↦ λ e h. binds.numbers word meaning e h
      ];
  free = λ word. elim (bytes_eq word name) as
      (λ b. cond b (Some (Meaning.Param k)) (lookup (bytes_eq word) n.bounds) ≡ None →
      lookup (bytes_eq word) n.params ≡ None →
      cond b (Some (Bound.Param m weight)) (lookup (bytes_eq word) bs) ≡ None) [
        | true ↦ λ e h. cc e
        | false ↦ λ e h. binds.free word e h
      ];
}
  where
    same : {x y : Meaning} → Some x ≡ Some y → x ≡ y
    same e = cc e

    no_number : (meaning : Meaning) → Some (Meaning.Param k) ≡ Some meaning → is_param meaning ≡ false → ⊥
    no_number meaning e h = cc (ap is_param (same e), h)

needs_nothing : (sort : Sort) (r : Reading) → (needs sort r).fault ≡ None → r.fault ≡ None
needs_nothing sort r h = earlier_first r.fault (unless (same_sort r.sort sort) Code.WrongType r.at) h

module _ (d : Document) (fault : (run part_of nothing_declared d.parts).fault ≡ None) (s : Scope)
    (see : SeeSame s (document_scope d)) where
  -- a place where names and expansion agree
  record Fits (n : NameScope) (bs : List (List ℕ × Bound)) : Type 0 where
    stays : StaysIn n.names (final_names d)
    vary : ArraysVary n.names
    binds : BindsAlike n bs

  fits_inside : (n : NameScope) (bs : List (List ℕ × Bound)) → Fits n bs → (name : List ℕ) (k m weight : ℕ) →
      Fits (with_bound n name (Meaning.Param k)) ((name, Bound.Param m weight) ∷ bs)
  fits_inside n bs fits name k m weight =
      record { stays = fits.stays; vary = fits.vary; binds = binds_inside n bs fits.binds name k m weight }

  formula_exact : (sort : Sort) (e : Expr) (n : NameScope) (bs : List (List ℕ × Bound)) → Fits n bs →
      (needs sort (read e n)).fault ≡ None →
      (formed e (within s bs)).exact ≡ true
  formula_exact sort e n bs fits h =
      let there = within (scope_of (programs_among d.parts)) bs in
      ap (λ x. x.exact) (formed_by_sight e (within s bs) there (sees_within s (document_scope d) see bs))
      ∙ expressions_exact e n there (document_agrees d.parts fault n bs fits.stays fits.binds)
      (exact_where_faultless e n fits.vary (needs_nothing sort (read e n) h))

  -- two formulas that are read without a fault
  two_exact : (p q : Expr) (n : NameScope) (bs : List (List ℕ × Bound)) → Fits n bs →
      (beside (boolean p n) (boolean q n)).fault ≡ None →
      ((formed p (within s bs)).exact ≡ true) ×
      ((formed q (within s bs)).exact ≡ true)
  two_exact p q n bs fits h = (
    formula_exact Sort.Boolean p n bs fits (earlier_first (boolean p n).fault (boolean q n).fault h),
    formula_exact Sort.Boolean q n bs fits (earlier_second (boolean p n).fault (boolean q n).fault h),
  )

  abbrev place_at : Texts → List ℕ → List (List ℕ × Bound) → Bounds → Params → Place
  place_at words owner bs bounds params = record {
    words = words;
    owner = owner;
    scope = within s bs;
    bounds = bounds;
    params = params;
  }

  -- terms

  abbrev Exactly : Derived → Terming → Type 0
  Exactly f g = (n : NameScope) (next : ℕ) (words : Texts) (owner : List ℕ) (bs : List (List ℕ × Bound))
      (bounds : Bounds) (params : Params) (number : ℕ) → Fits n bs → (f n next).fault ≡ None →
      EachItem IsExactFormula (g (place_at words owner bs bounds params) number).formulas

  module _ (programs : Programs) where
    layer_exact : TermLayers Exactly (term_layer programs) form_term
    layer_exact (Term-F.Imply at p q) n next words owner bs bounds params number fits h =
        let both = two_exact p q n bs fits h in everywhere_two IsExactFormula _ _ both.0 both.1
    layer_exact (Term-F.From at of) n next words owner bs bounds params number fits h =
        everywhere_none IsExactFormula
    layer_exact (Term-F.Pair at which first second) n next words owner bs bounds params number fits h =
        let p = first.0 n next in
        let q = second.0 n p.after in
        let t = first.1 (place_at words owner bs bounds params) number in
        let u = second.1 (place_at words owner bs bounds params) t.next in
        everywhere_joined IsExactFormula t.formulas u.formulas
        (first.2 n next words owner bs bounds params number fits (earlier_first p.fault q.fault h))
        (second.2 n p.after words owner bs bounds params t.next fits (earlier_second p.fault q.fault h))
    layer_exact (Term-F.Exists at name range of) n next words owner bs bounds params number fits h =
        let own = beside (binding n name (Meaning.Param next)) (filled [] range) in
        let inner = with_bound n name.text (Meaning.Param next) in
        of.2 inner (next + 1) words owner ((name.text, param_bound number range) ∷ bs)
        ((name.text, Meaning.Param number) ∷ bounds) params (number + 1) (fits_inside n bs fits name.text next number
        _) (earlier_second own.fault (of.0 inner (next + 1)).fault h)
    layer_exact (Term-F.Induct at name range measure p q of) n next words owner bs bounds params number fits h =
        let own = beside (binding n name (Meaning.Param next)) (filled [] range) in
        let two = beside (boolean p n) (boolean q n) in
        let counted = needs Sort.Number (read measure n) in
        let formulas = beside counted two in
        let inner = with_bound n name.text (Meaning.Param next) in
        let front = earlier_first (beside own formulas).fault (of.0 inner (next + 1)).fault h in
        let here = earlier_second own.fault formulas.fault front in
        let both = two_exact p q n bs fits (earlier_second counted.fault two.fault here) in
        everywhere_joined IsExactFormula (_ ∷ _ ∷ _ ∷ []) _
        (everywhere_joined IsExactFormula (_ ∷ []) (_ ∷ _ ∷ []) (everywhere_one IsExactFormula _
        (formula_exact Sort.Number measure n bs fits (earlier_first counted.fault two.fault here)))
        (everywhere_two IsExactFormula _ _ both.0 both.1))
        (of.2 inner (next + 1) words owner ((name.text, param_bound number range) ∷ bs)
        ((name.text, Meaning.Param number) ∷ bounds) params (number + 1) (fits_inside n bs fits name.text next number
        _) (earlier_second (beside own formulas).fault (of.0 inner (next + 1)).fault h))
    layer_exact (Term-F.Psp at of by) n next words owner bs bounds params number fits h =
        let p = of.0 n next in
        of.2 n next words owner bs bounds params number fits (earlier_first p.fault (ref_reading programs n by).fault
        h)
    layer_exact (Term-F.Weaken at p q of) n next words owner bs bounds params number fits h =
        let two = beside (boolean p n) (boolean q n) in
        let both = two_exact p q n bs fits (earlier_first two.fault (of.0 n next).fault h) in
        everywhere_joined IsExactFormula (_ ∷ _ ∷ []) _ (everywhere_two IsExactFormula _ _ both.0 both.1)
        (of.2 n next words owner bs bounds params number fits (earlier_second two.fault (of.0 n next).fault h))

    term_exact : (t : Term) → Exactly (term_part programs t) (termed t)
    term_exact t = two_terms Exactly (term_layer programs) form_term layer_exact t

    -- steps

    claim_exact : (claim : Claim) (n : NameScope) (bs : List (List ℕ × Bound)) → Fits n bs →
        (claim_reading n claim).fault ≡ None →
        EachItem IsExactFormula (claim_formulas (within s bs) claim)
    claim_exact (Claim.Defined at) n bs fits h = everywhere_none IsExactFormula
    claim_exact (Claim.Invariant at of) n bs fits h =
        everywhere_one IsExactFormula _ (formula_exact Sort.Boolean of n bs fits h)
    claim_exact (Claim.Stable at of) n bs fits h =
        everywhere_one IsExactFormula _ (formula_exact Sort.Boolean of n bs fits h)
    claim_exact (Claim.Constant at of) n bs fits h =
        everywhere_one IsExactFormula _ (formula_exact Sort.Boolean of n bs fits h)
    claim_exact (Claim.Fixed at of) n bs fits h =
        everywhere_one IsExactFormula _ (formula_exact Sort.Boolean of n bs fits h)
    claim_exact (Claim.Between at p which q) n bs fits h =
        let both = two_exact p q n bs fits h in everywhere_two IsExactFormula _ _ both.0 both.1

    rule_exact : (rule : Rule) (n : NameScope) (next : ℕ) (words : Texts) (owner : List ℕ)
        (bs : List (List ℕ × Bound)) (bounds : Bounds) (params : Params) → Fits n bs →
        (rule_part programs n next rule).fault ≡ None →
        EachItem IsExactFormula (rule_formulas (place_at words owner bs bounds params) rule)
    rule_exact (Rule.Text at with) n next words owner bs bounds params fits h = everywhere_none IsExactFormula
    rule_exact (Rule.Weaken at of) n next words owner bs bounds params fits h = everywhere_none IsExactFormula
    rule_exact (Rule.Pair at which first second) n next words owner bs bounds params fits h =
        everywhere_none IsExactFormula
    rule_exact (Rule.Superpose at of) n next words owner bs bounds params fits h = everywhere_none IsExactFormula
    rule_exact (Rule.Complete at first second third fourth) n next words owner bs bounds params fits h =
        everywhere_none IsExactFormula
    rule_exact (Rule.Term at of) n next words owner bs bounds params fits h =
        term_exact of n next words owner bs bounds params (length params) fits h

    step_exact : (names : Table) → StaysIn names (final_names d) → ArraysVary names → (steps : List (List ℕ))
        (words : Texts) (owner : List ℕ) (step : Step) → (step_part programs names steps step).fault ≡ None →
        ExactStep words owner s step
    step_exact names stays vary steps words owner step h =
        let ps = some_of step.params in
        let params = run (param_part names) [] ps in
        let n = proof_scope names params.after in
        let bs = param_bounds ps in
        let claimed = claim_reading n step.claim in
        let ruled = rule_part programs n (length n.params) step.rule in
        let using = all_beside (map (ref_reading programs n) (some_of step.using)) in
        let body = earlier_second params.fault (step_body programs n step).fault
        (earlier_second (step_name steps step).fault (step_rest programs names step).fault h) in
        let after = earlier ruled.fault using.fault in
        let fits : Fits n bs = record {
          stays = stays;
          vary = vary;
          binds = record {
            numbers = λ word m e. cc e;
            free = λ word e k. params_alike names ps [] [] (λ w f. refl) word k;
          };
        } in
        everywhere_joined IsExactFormula (claim_formulas (within s bs) step.claim)
        (rule_formulas (place_at words owner bs [] (step_params ps)) step.rule)
        (claim_exact step.claim n bs fits (earlier_first claimed.fault after body))
        (rule_exact step.rule n (length n.params) words owner bs [] (step_params ps) fits
        (earlier_first ruled.fault using.fault (earlier_second claimed.fault after body)))

  steps_exact : (words : Texts) (owner : List ℕ) (proof : Proof) → ProofStands (final_names d) proof →
      EachItem (ExactStep words owner s) proof.steps
  steps_exact words owner proof stands place step e =
      let before = stands.before in
      let f = step_part before.programs before.names in
      let proved = proved_program before proof.program in
      let listed = steps_reading before.programs before.names proof.steps in
      step_exact before.programs before.names stands.stays stands.vary (run f [] (take place proof.steps)).after words
      owner step (parts_faultless f [] proof.steps (earlier_second proved.fault listed.fault stands.faultless) place
      step e)

pub formulas_seen : FormulasSeen
formulas_seen d named s see words owner place at proof e =
    steps_exact d (document_fault d named) s (sees_outside s d see) words owner proof
    (proofs_stand d named place at proof e)

pub formulas_by_names : FormulasByNames
formulas_by_names d named = formulas_seen d named (document_scope d) (document_seen d)
