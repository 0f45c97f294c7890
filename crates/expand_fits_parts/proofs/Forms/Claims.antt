-- The parameters of a step, and its claim.
use Rattle.std.proofs.Common.{◌≡◌, ℕ, zero, suc, ◌+◌, ◌<◌, ◌≤◌, max, List, [], ◌∷◌, ◌++◌, map, length, Bool, true}
use Rattle.std.proofs.Common.{false}
use Rattle.std.proofs.Common.{cond, not, Option, Some, None, option_map, inl, inr, refl, sym, ap, ◌∙◌, subst, arith}
use Rattle.std.proofs.Common.{All}
use Rattle.std.proofs.Common.{ℤ}
use Rattle.std.specs.Prelude.{fold}
use Rattle.std.specs.Map.{lookup}
use Rattle.std.specs.Option.{is_some, option_or}
use Rattle.std.specs.Str.{bytes_eq}
use Rattle.std.proofs.lemmas.Bool.{lt-ltb}
use Rattle.std.proofs.lemmas.List.{length-append, append_assoc, append-nil}
use Rattle.std.proofs.lemmas.List.Elements.{All-nil, All-cons}
use Rattle.indexmap.specs.IndexMap.{insert_entry}
use Rattle.case_tables.specs.declared.code_table.Code.{Code}
use Rattle.unity_syntax.specs.declared.proof.Param.{Param}
use Rattle.unity_syntax.specs.declared.proof.Claim.{Claim}
use Rattle.unity_syntax.specs.declared.proof.Step.{Step}
use Rattle.unity_syntax.specs.declared.document.Part.{Part as DocumentPart}
use Rattle.names_rules.specs.declared.named.Meaning.{Meaning}
use Rattle.names_rules.specs.Scope.{Table, Params, found, bound_named, visible}
use Rattle.names_rules.specs.Reading.{binding, filled}
use Rattle.names_rules.specs.Part.{run}
use Rattle.names_rules.specs.Declarations.{some_of}
use Rattle.names_rules.specs.Proofs.{Programs, proof_scope, param_part, step_name, step_body, step_rest, step_part}
use Rattle.names_rules.specs.WellNamed.{Declared, nothing_declared, proved_program, part_of}
use Rattle.names_rules.specs.WellNamed.{schedule_reading}
use Rattle.names_rules.proofs.Faults.{earlier_first, earlier_second, unless_none}
use Rattle.names_laws.proofs.Mirrored.{not_some}
use Rattle.core_terms.specs.declared.trees.Range.{Range}
use Rattle.core_terms.specs.declared.trees.CForm.TheVariants.{Top, Bottom}
use Rattle.core_terms.specs.declared.programs.CSlot.{CSlot}
use Rattle.core_terms.specs.declared.programs.CProgram.{CProgram}
use Rattle.core_terms.specs.declared.documents.CProof.{CProof}
use Rattle.core_terms.specs.declared.documents.CStep.{CStep}
use Rattle.meaning_documents.specs.Value.{range_ends}
use Rattle.core_terms.specs.Weights.{range_weight, slot_weight, place_weight}
use Rattle.core_terms.specs.Conditions.{is_below, FormFits}
use Rattle.core_terms.proofs.WeightLaws.{weight-Top, weight-Bottom}
use Rattle.expand_declarations.specs.Texts.{Texts}
use Rattle.expand_declarations.specs.WordNumbers.{document_words}
use Rattle.expand_declarations.specs.Slots.{document_slots}
use Rattle.expand_declarations.specs.References.{param_range}
use Rattle.expand_rules.specs.declared.cores.Bound.{Bound}
use Rattle.expand_rules.specs.declared.cores.Formed.{Formed}
use Rattle.expand_rules.specs.Measures.{ends_weight}
use Rattle.expand_rules.specs.Forming.{Scope}
use Rattle.expand_correct.specs.from_expand_steps.ProofTerms.{param_bound}
use Rattle.expand_correct.specs.from_expand_steps.Steps.{with_param_bound, param_bounds, step_place, claim_p, claim_q}
use Rattle.expand_correct.specs.from_expand_steps.Steps.{claim_formulas}
use Rattle.expand_correct.specs.from_expand_steps.Steps.{rule_formulas, step_formulas, core_step, step_fault}
use Rattle.expand_correct.specs.from_expand_steps.Steps.{steps_fault, core_proof}
use Rattle.expand_correct.specs.from_expand_documents.Cores.{document_scope, core_proofs, core_document}
use Rattle.expand_correct.specs.from_expand_documents.Faults.{body_fault, with_part, bodies_fault, expansion_fault}
use Rattle.names_rules.specs.WellNamed.{IsWellNamed}
use Rattle.unity_syntax.specs.declared.document.Document.{Document}
use Rattle.expand_fits_parts.specs.Forms.Fitting.{ScopeFits}
use Rattle.expand_fits_parts.specs.Forms.StepLaws.{StepClaimFits, ClaimsFit}
use Rattle.expand_fits_parts.proofs.Forms.NamedForms.{names-Top, names-Bottom}
use Rattle.expand_fits_parts.proofs.Forms.Scopes.{found_after, inserted_found, form_fits, formulas_fit}
use Rattle.expand_fits_parts.proofs.Forms.Placed.{get_right}
use Rattle.expand_correct.proofs.Preserved.Faultless.{bodies_faultless}
use Rattle.expand_fits_parts.proofs.Forms.Bodies.{Smalls, small_elements, documents_fit}

abbrev Bounds : Type 0
Bounds = List (List ℕ × Bound)

-- the parameters of a scope have these ranges
abbrev pub BoundsFit : List Range → Bounds → Type 0
BoundsFit ranges bs = (word : List ℕ) (n weight : ℕ) → lookup (bytes_eq word) bs ≡ Some (Bound.Param n weight) →
    (n < length ranges) × (place_weight ranges n ≤ max 1 weight)

-- a place of ranges is one of more ranges
place_more : (ranges more : List Range) (n : ℕ) (limit : ℕ) → n < length ranges → place_weight ranges n ≤ limit →
    place_weight (ranges ++ more) n ≤ limit
place_more [] more n limit h k = absurd (omega (arith, h))
place_more (r ∷ ranges) more zero limit h k = k
place_more (r ∷ ranges) more (suc n) limit h k = place_more ranges more n limit (omega (arith, h)) k

pub bounds_more : (ranges more : List Range) (bs : Bounds) → BoundsFit ranges bs → BoundsFit (ranges ++ more) bs
bounds_more ranges more bs h word n weight e =
    let k = h word n weight e in
    let l = length-append ranges more in
    let a = k.0 in
    (omega (arith, a, l), place_more ranges more n (max 1 weight) k.0 k.1)

pub same_param : {m n v w : ℕ} → Bound.Param m v ≡ Bound.Param n w → (m ≡ n) × (v ≡ w)
same_param e = (cc e, cc e)

-- one more parameter, whose number is that of those before it
pub bound_added : (ranges : List Range) (bs : Bounds) (name : List ℕ) (ends : ℤ × ℤ) (r : Range) →
    (last : ℕ) → last ≡ length ranges → range_weight (Some r) ≡ ends_weight ends → BoundsFit ranges bs →
    BoundsFit (ranges ++ r ∷ []) (insert_entry bytes_eq bs name (Bound.Param last (ends_weight ends)))
bound_added ranges bs name ends r last long same h word n weight e =
    elim (found_after bs name word (Bound.Param last (ends_weight ends)) (Bound.Param n weight) e)
    as (λ x. (n < length (ranges ++ r ∷ [])) × (place_weight (ranges ++ r ∷ []) n ≤ max 1 weight)) [
      | inl new ↦
          let k = same_param new.0 in
          let number = k.0 in
          let weighs = k.1 in
          let wide = length-append ranges (r ∷ []) in
          let at : length ranges + 0 ≡ n = omega (arith, number, long) in
          let got : place_weight (ranges ++ r ∷ []) n ≡ range_weight (Some r) =
          ap (λ m. place_weight (ranges ++ r ∷ []) m) (sym at) ∙ ap (λ o. range_weight o)
          (get_right ranges (r ∷ []) 0) in
          (omega (arith, long, wide, number), omega (arith, got, same, weighs))
      | inr old ↦ bounds_more ranges (r ∷ []) bs h word n weight old
    ]

-- the parameters of a step

pub length_inserted : {V : Type 0} (es : List (List ℕ × V)) (name : List ℕ) (v : V) → lookup (bytes_eq name) es ≡ None →
    length (insert_entry bytes_eq es name v) ≡ suc (length es)
length_inserted [] name v e = refl
length_inserted {V} ((key, old) ∷ es) name v e = by (bytes_eq name key) e (length_inserted es name v)
  where
    by : (b : Bool) → cond b (Some old) (lookup (bytes_eq name) es) ≡ None →
        (lookup (bytes_eq name) es ≡ None → length (insert_entry bytes_eq es name v) ≡ suc (length es)) →
        length (cond b ((key, v) ∷ es) ((key, old) ∷ insert_entry bytes_eq es name v)) ≡ suc (suc (length es))
    by true f rest = cc f
    by false f rest = ap suc (rest f)

-- a word that has an entry has one after another is added
still : {V : Type 0} (es : List (List ℕ × V)) (name word : List ℕ) (v m : V) → lookup (bytes_eq word) es ≡ Some m →
    (k : V) × (lookup (bytes_eq word) (insert_entry bytes_eq es name v) ≡ Some k)
still [] name word v m e = cc e
still {V} ((key, old) ∷ es) name word v m e = by (bytes_eq name key) (still es name word v m)
  where
    first : (c : Bool) → cond c (Some old) (lookup (bytes_eq word) es) ≡ Some m →
        (k : V) × (cond c (Some v) (lookup (bytes_eq word) es) ≡ Some k)
    first true f = (v, refl)
    first false f = (m, f)

    second : (c : Bool) (more : Option V) → cond c (Some old) (lookup (bytes_eq word) es) ≡ Some m →
        (lookup (bytes_eq word) es ≡ Some m → (k : V) × (more ≡ Some k)) →
        (k : V) × (cond c (Some old) more ≡ Some k)
    second true more f rest = (old, refl)
    second false more f rest = rest f

    by : (b : Bool) → (lookup (bytes_eq word) es ≡ Some m →
        (k : V) × (lookup (bytes_eq word) (insert_entry bytes_eq es name v) ≡ Some k)) →
        (k : V) × (lookup (bytes_eq word) (cond b ((key, v) ∷ es) ((key, old) ∷ insert_entry bytes_eq es name v)) ≡
        Some k)
    by true rest = first (bytes_eq word key) e
    by false rest = second (bytes_eq word key) (lookup (bytes_eq word) (insert_entry bytes_eq es name v)) e rest

-- each word of the one has an entry in the other
abbrev Keys : Params → Bounds → Type 0
Keys params bs = (word : List ℕ) (b : Bound) → lookup (bytes_eq word) bs ≡ Some b →
    (k : ℕ) × (lookup (bytes_eq word) params ≡ Some k)

keys_added : (params : Params) (bs : Bounds) (name : List ℕ) (number : ℕ) (b : Bound) → Keys params bs →
    Keys (insert_entry bytes_eq params name number) (insert_entry bytes_eq bs name b)
keys_added params bs name number b h word c e = elim (found_after bs name word b c e)
    as (λ x. (k : ℕ) × (lookup (bytes_eq word) (insert_entry bytes_eq params name number) ≡ Some k)) [
      | inl new ↦ (
        number,
        ap (λ w. lookup (bytes_eq w) (insert_entry bytes_eq params name number)) new.1
            ∙ inserted_found params name number,
      )
      | inr old ↦ let k = h word c old in still params name word number k.0 k.1
    ]

fresh_bound : (params : Params) (bs : Bounds) (name : List ℕ) → Keys params bs →
    lookup (bytes_eq name) params ≡ None → lookup (bytes_eq name) bs ≡ None
fresh_bound params bs name h none = by (lookup (bytes_eq name) bs) (h name)
  where
    some_none : {x : ℕ} → Some x ≡ None → ⊥
    some_none f = cc f

    by : (o : Option Bound) → ((b : Bound) → o ≡ Some b → (k : ℕ) × (lookup (bytes_eq name) params ≡ Some k)) → o ≡ None
    by None g = refl
    by (Some b) g = let k = g b refl in absurd (some_none (sym k.1 ∙ none))

pub fresh_param : (names : Table) (params : Params) (name : List ℕ) → found (proof_scope names params) name ≡ None →
    lookup (bytes_eq name) params ≡ None
fresh_param names params name h = by (lookup (bytes_eq name) params) h
  where
    by : (o : Option ℕ) → option_or (option_map (λ number. bound_named (Meaning.Param number)) o)
        (visible None (lookup (bytes_eq name) names)) ≡ None → o ≡ None
    by None g = refl
    by (Some n) g = cc g

pub params_fit : (names : Table) (ps : List Param) (ranges : List Range) (params : Params) (bs : Bounds) →
    length bs ≡ length ranges → Keys params bs → BoundsFit ranges bs → (run (param_part names) params ps).fault ≡ None →
    BoundsFit (ranges ++ map param_range ps) (fold with_param_bound bs ps)
params_fit names [] ranges params bs long keys h fault =
    subst (λ rs. BoundsFit rs bs) (sym (append-nil ranges)) h
params_fit names (p ∷ ps) ranges params bs long keys h fault =
    let scope = proof_scope names params in
    let first = param_part names params p in
    let b = (binding scope p.name (Meaning.Param (length params))).fault in
    let none = fresh_param names params p.name.text (not_some (found scope p.name.text)
    (unless_none (not (is_some (found scope p.name.text))) Code.DeclaredTwice p.name.at
    (earlier_first b (filled [] p.range).fault
    (earlier_first first.fault (run (param_part names) first.after ps).fault fault)))) in
    let more = with_param_bound bs p in
    let l = length_inserted bs p.name.text (param_bound (length bs) p.range)
    (fresh_bound params bs p.name.text keys none) in
    let m = length-append ranges (param_range p ∷ []) in
    subst (λ rs. BoundsFit rs (fold with_param_bound more ps))
    (append_assoc ranges (param_range p ∷ []) (map param_range ps))
    (params_fit names ps (ranges ++ param_range p ∷ []) first.after more (omega (arith, l, m, long))
    (keys_added params bs p.name.text (length params) (param_bound (length bs) p.range) keys)
    (bound_added ranges bs p.name.text (range_ends [] p.range) (param_range p) (length bs) long refl h)
    (earlier_second first.fault (run (param_part names) first.after ps).fault fault))

-- where the parts of a step stand
pub step_scope_fits : (slots : List CSlot) (s : Scope) (params : List Range) (bs : Bounds) →
    ScopeFits slots params s → BoundsFit params bs → ScopeFits slots params (record s { bound = bs })
step_scope_fits slots s params bs g h = record {
  names = record {
    variables = g.names.variables;
    bound = λ word n weight e. lt-ltb n (length params) (h word n weight e).0;
    always = g.names.always;
  };
  weighs = record {
    variables = g.weighs.variables;
    bound = λ word n weight e. (h word n weight e).1;
    always = g.weighs.always;
  };
}

-- claims

pub smalls_left : (xs ys : List Formed) → Smalls (xs ++ ys) → Smalls xs
smalls_left [] ys h = tt
smalls_left (x ∷ xs) ys h = (h.0, smalls_left xs ys h.1)

top_fits : (slots : List CSlot) (params : List Range) → FormFits slots params Top
top_fits slots params = form_fits slots params Top 0 (names-Top (is_below (length slots)) (is_below (length params)))
    (let w = weight-Top (slot_weight slots) (place_weight params) in omega (arith, w)) (omega arith)

bottom_fits : (slots : List CSlot) (params : List Range) → FormFits slots params Bottom
bottom_fits slots params = form_fits slots params Bottom 0
    (names-Bottom (is_below (length slots)) (is_below (length params)))
    (let w = weight-Bottom (slot_weight slots) (place_weight params) in omega (arith, w)) (omega arith)

module _ (slots : List CSlot) (params : List Range) (s : Scope) (g : ScopeFits slots params s) where
  p_fits : (claim : Claim) → Smalls (claim_formulas s claim) → FormFits slots params (claim_p s claim)
  p_fits (Claim.Defined at) h = top_fits slots params
  p_fits (Claim.Invariant at of) h = formulas_fit slots params s of g h.0
  p_fits (Claim.Stable at of) h = formulas_fit slots params s of g h.0
  p_fits (Claim.Constant at of) h = formulas_fit slots params s of g h.0
  p_fits (Claim.Fixed at of) h = formulas_fit slots params s of g h.0
  p_fits (Claim.Between at p which q) h = formulas_fit slots params s p g h.0

  q_fits : (claim : Claim) → Smalls (claim_formulas s claim) → FormFits slots params (claim_q s claim)
  q_fits (Claim.Defined at) h = top_fits slots params
  q_fits (Claim.Invariant at of) h = bottom_fits slots params
  q_fits (Claim.Stable at of) h = bottom_fits slots params
  q_fits (Claim.Constant at of) h = bottom_fits slots params
  q_fits (Claim.Fixed at of) h = bottom_fits slots params
  q_fits (Claim.Between at p which q) h = formulas_fit slots params s q g h.1.0

module _ (words : Texts) (s : Scope) (slots : List CSlot) (Has : CStep → Type 0)
    (each : (owner : List ℕ) (programs : Programs) (names : Table) (step : Step) →
    (step_rest programs names step).fault ≡ None → step_fault words owner s step ≡ None →
    Has (core_step words owner s step)) where
  steps_have : (owner : List ℕ) (programs : Programs) (names : Table) (done : List (List ℕ)) (steps : List Step) →
      (run (step_part programs names) done steps).fault ≡ None → steps_fault words owner s steps ≡ None →
      All Has (map (core_step words owner s) steps)
  steps_have owner programs names done [] fault none = All-nil Has
  steps_have owner programs names done (step ∷ rest) fault none =
      let first = step_part programs names done step in
      let here = earlier_first first.fault (run (step_part programs names) first.after rest).fault fault in
      let whole = (step_rest programs names step).fault in
      All-cons Has (core_step words owner s step) (map (core_step words owner s) rest)
      (each owner programs names step (earlier_second (step_name done step).fault whole here)
      (earlier_first (step_fault words owner s step) (steps_fault words owner s rest) none))
      (steps_have owner programs names first.after rest
      (earlier_second first.fault (run (step_part programs names) first.after rest).fault fault)
      (earlier_second (step_fault words owner s step) (steps_fault words owner s rest) none))

  abbrev ProofHas : CProof → Type 0
  ProofHas c = All Has c.steps

  bodies_have : (d : Declared) (before : List CProgram) (parts : List DocumentPart) →
      (run part_of d parts).fault ≡ None →
      bodies_fault words s slots before parts ≡ None → All ProofHas (core_proofs words s parts)
  bodies_have d before [] fault none = All-nil ProofHas
  bodies_have d before (DocumentPart.Program at program ∷ rest) fault none =
      let p = part_of d (DocumentPart.Program at program) in
      let after = with_part words s slots before (DocumentPart.Program at program) in
      bodies_have p.after after rest (earlier_second p.fault (run part_of p.after rest).fault fault)
      (earlier_second (body_fault words s before (DocumentPart.Program at program))
      (bodies_fault words s slots after rest) none)
  bodies_have d before (DocumentPart.Proof at proof ∷ rest) fault none =
      let p = part_of d (DocumentPart.Proof at proof) in
      let here = earlier_first p.fault (run part_of p.after rest).fault fault in
      let steps = (run (step_part d.programs d.names) [] proof.steps).fault in
      All-cons ProofHas (core_proof words s proof) (core_proofs words s rest)
      (steps_have proof.program.text d.programs d.names [] proof.steps
      (earlier_second (proved_program d proof.program).fault steps here)
      (earlier_first (body_fault words s before (DocumentPart.Proof at proof))
      (bodies_fault words s slots before rest) none))
      (bodies_have p.after before rest (earlier_second p.fault (run part_of p.after rest).fault fault)
      (earlier_second (body_fault words s before (DocumentPart.Proof at proof))
      (bodies_fault words s slots before rest) none))

-- what each step of a well-named document has without a fault of its own, all have where the document has none
pub proofs_have : (d : Document) (Has : CStep → Type 0) → IsWellNamed d → expansion_fault d ≡ None →
    ((owner : List ℕ) (programs : Programs) (names : Table) (step : Step) →
    (step_rest programs names step).fault ≡ None →
    step_fault (document_words d) owner (document_scope d.parts) step ≡ None →
    Has (core_step (document_words d) owner (document_scope d.parts) step)) →
    All (λ c. All Has c.steps) (core_document d).proofs
proofs_have d Has named h each =
    let words = document_words d in
    let r = run part_of nothing_declared d.parts in
    bodies_have words (document_scope d.parts) (document_slots words d.parts) Has each nothing_declared []
    d.parts (earlier_first r.fault (schedule_reading r.after d.schedule).fault named) (bodies_faultless d h)

-- the parameters of a step without a fault of names have none
pub params_faultless : (programs : Programs) (names : Table) (step : Step) →
    (step_rest programs names step).fault ≡ None → (run (param_part names) [] (some_of step.params)).fault ≡ None
params_faultless programs names step fault =
    let ps = run (param_part names) [] (some_of step.params) in
    earlier_first ps.fault (step_body programs (proof_scope names ps.after) step).fault fault

step_fits : (words : Texts) (s : Scope) (slots : List CSlot) → ((params : List Range) → ScopeFits slots params s) →
    (owner : List ℕ) (names : Table) (step : Step) →
    (run (param_part names) [] (some_of step.params)).fault ≡ None → step_fault words owner s step ≡ None →
    StepClaimFits slots (core_step words owner s step)
step_fits words s slots g owner names step fault none =
    let place = step_place words owner s step in
    let params = map param_range (some_of step.params) in
    let bs = param_bounds (some_of step.params) in
    let fits = params_fit names (some_of step.params) [] [] [] refl (λ word b e. cc e) (λ word n weight e. cc e)
    fault in
    let small = smalls_left (claim_formulas place.scope step.claim) (rule_formulas place step.rule)
    (small_elements step.name.at (step_formulas place step) none) in
    let inner = step_scope_fits slots s params bs (g params) fits in
    record {
      p = p_fits slots params place.scope inner step.claim small;
      q = q_fits slots params place.scope inner step.claim small;
    }

pub claims_fit : ClaimsFit
claims_fit d named h = proofs_have d (StepClaimFits (core_document d).slots) named h
    (λ owner programs names step fault. step_fits (document_words d) (document_scope d.parts)
    (core_document d).slots (documents_fit d) owner names step (params_faultless programs names step fault))
