-- The proofs of a well-named document in core form.
use Rattle.std.proofs.Common.{◌≡◌, ℕ, List, [], ◌∷◌, map, true, false, not, Option, Some, None, is_some, refl, sym}
use Rattle.std.proofs.Common.{ap, subst, All}
use Rattle.std.specs.Prelude.{◌||◌}
use Rattle.std.specs.List.{flat_map, list_any}
use Rattle.std.specs.Str.{bytes_eq}
use Rattle.std.proofs.lemmas.List.Elements.{All-nil, All-cons, All-head, All-tail, All-map, All-weaker}
use Rattle.case_tables.specs.declared.code_table.Code.{Code}
use Rattle.case_tables.specs.declared.kind_table.Kind.{Kind}
use Rattle.case_tables.specs.declared.word_table.Word.{Word}
use Rattle.unity_syntax.specs.declared.proof.Claim.{Claim}
use Rattle.unity_syntax.specs.declared.proof.Param.{Param}
use Rattle.unity_syntax.specs.declared.proof.Step.{Step}
use Rattle.unity_syntax.specs.declared.proof.Proof.{Proof}
use Rattle.unity_syntax.specs.declared.document.Part.{Part}
use Rattle.unity_syntax.specs.declared.document.Document.{Document}
use Rattle.core_terms.specs.declared.trees.Range.{Range}
use Rattle.core_terms.specs.declared.trees.CForm.{CForm}
use Rattle.core_terms.specs.declared.documents.CProof.{CProof}
use Rattle.core_terms.specs.Conditions.{EachPair, IsRange, KindFits}
use Rattle.names_rules.specs.Scope.{Table}
use Rattle.names_rules.specs.Reading.{unless, earlier}
use Rattle.names_rules.specs.Declarations.{some_of}
use Rattle.names_rules.specs.Proofs.{Programs, takes_params, step_rest, step_part}
use Rattle.names_rules.specs.WellNamed.{Declared, nothing_declared, proved_program, steps_reading}
use Rattle.names_rules.specs.WellNamed.{part_of}
use Rattle.names_rules.proofs.Faults.{earlier_first, earlier_second, unless_none}
use Rattle.expand_declarations.specs.Texts.{Texts, step_texts, proof_texts, part_texts, document_texts}
use Rattle.expand_declarations.specs.WordNumbers.{document_words, word_number}
use Rattle.meaning_documents.specs.Steps.{between_kind, claim_kind, proofs_among}
use Rattle.expand_declarations.specs.References.{param_range}
use Rattle.expand_rules.specs.Forming.{Scope}
use Rattle.expand_correct.specs.from_expand_steps.Steps.{core_step, core_proof, claim_p, claim_q, step_place}
use Rattle.expand_correct.specs.Declared.WordLaws.{is_among}
use Rattle.expand_correct.proofs.Declared.Found.{numbers_tell, or_right}
use Rattle.expand_correct.proofs.Declared.Lists.{IsPart, each_part}
use Rattle.expand_correct.proofs.Declared.Slots.{each_part_texts}
use Rattle.expand_declarations.proofs.NearIndices.{parts_fault}
use Rattle.expand_declarations.proofs.Faultless.{each_of_run}
use Rattle.expand_correct.proofs.Declared.Names.{proofs_differ, steps_differ, params_have_ranges}
use Rattle.expand_correct.specs.from_expand_documents.Cores.{document_scope, core_proofs}
use Rattle.expand_fits_parts.specs.Conditions.ProofConditions.{ProofProgramsDiffer, StepNamesDiffer}
use Rattle.expand_fits_parts.specs.Conditions.ProofConditions.{ParametersHaveRanges, KindsFit}
use Rattle.expand_fits_parts.proofs.Conditions.Lists.{each_pair, pairs_of, pairs_with, pairs_map}
use Rattle.expand_fits_parts.proofs.Conditions.Programs.{itself}

-- proofs of a document are those of its text, one for each

pub all_proofs : (P : CProof → Type 0) (words : Texts) (s : Scope) (parts : List Part) →
    All (λ p. P (core_proof words s p)) (proofs_among parts) → All P (core_proofs words s parts)
all_proofs P words s [] h = All-nil P
all_proofs P words s (Part.Program at p ∷ rest) h = all_proofs P words s rest h
all_proofs P words s (Part.Proof at p ∷ rest) h =
    All-cons P (core_proof words s p) (core_proofs words s rest)
    (All-head (λ q. P (core_proof words s q)) p (proofs_among rest) h)
    (all_proofs P words s rest (All-tail (λ q. P (core_proof words s q)) p (proofs_among rest) h))

proofs_mapped : (words : Texts) (s : Scope) (parts : List Part) →
    core_proofs words s parts ≡ map (core_proof words s) (proofs_among parts)
proofs_mapped words s [] = refl
proofs_mapped words s (Part.Program at p ∷ rest) = proofs_mapped words s rest
proofs_mapped words s (Part.Proof at p ∷ rest) = ap (λ ps. core_proof words s p ∷ ps) (proofs_mapped words s rest)

-- the texts of a proof are among these
abbrev pub HasProof : Texts → Proof → Type 0
HasProof texts p = (t : List ℕ) → is_among (proof_texts p) t ≡ true → is_among texts t ≡ true

proofs_of_parts : (texts : Texts) (parts : List Part) → All (λ p. IsPart (part_texts p) texts) parts →
    All (HasProof texts) (proofs_among parts)
proofs_of_parts texts [] h = All-nil (HasProof texts)
proofs_of_parts texts (Part.Program at p ∷ rest) h =
    proofs_of_parts texts rest (All-tail (λ p. IsPart (part_texts p) texts) (Part.Program at p) rest h)
proofs_of_parts texts (Part.Proof at p ∷ rest) h = All-cons (HasProof texts) p (proofs_among rest)
    (All-head (λ p. IsPart (part_texts p) texts) (Part.Proof at p) rest h).among
    (proofs_of_parts texts rest (All-tail (λ p. IsPart (part_texts p) texts) (Part.Proof at p) rest h))

pub document_proofs : (d : Document) → All (HasProof (document_texts d)) (proofs_among d.parts)
document_proofs d = proofs_of_parts (document_texts d) d.parts (each_part_texts d)

-- the texts of a step are among these
abbrev pub HasStep : Texts → Step → Type 0
HasStep texts s = (t : List ℕ) → is_among (step_texts s) t ≡ true → is_among texts t ≡ true

pub proof_steps : (texts : Texts) (p : Proof) → HasProof texts p → All (HasStep texts) p.steps
proof_steps texts p h = All-weaker (λ s. IsPart (step_texts s) (flat_map step_texts p.steps)) (HasStep texts)
    (λ s k t among. h t (or_right (bytes_eq t p.program.text) (is_among (flat_map step_texts p.steps) t)
    (k.among t among))) p.steps (each_part step_texts p.steps)

-- names

pub proof_programs_differ : ProofProgramsDiffer
proof_programs_differ d h =
    let words = document_words d in let s = document_scope d.parts in let texts = document_texts d in
    subst (λ (ps : List CProof). EachPair (λ p r. p.program ≡ r.program → ⊥) ps)
    (sym (proofs_mapped words s d.parts))
    (each_pair (λ p r. p.program ≡ r.program → ⊥) (map (core_proof words s) (proofs_among d.parts))
    (pairs_map (λ p r. p.program ≡ r.program → ⊥) (core_proof words s) (proofs_among d.parts)
    (pairs_with (HasProof texts) (λ p q. p.program.text ≡ q.program.text → ⊥)
    (λ p q. word_number words p.program.text ≡ word_number words q.program.text → ⊥)
    (λ p q k l f e. f (numbers_tell texts p.program.text q.program.text
    (k p.program.text (itself p.program.text (flat_map step_texts p.steps)))
    (l q.program.text (itself q.program.text (flat_map step_texts q.steps))) e))
    (proofs_among d.parts) (document_proofs d)
    (pairs_of (λ p q. p.program.text ≡ q.program.text → ⊥) (proofs_among d.parts) (proofs_differ d h)))))

steps_apart : (d : Document) (p : Proof) → HasProof (document_texts d) p →
    EachPair (λ s t. s.name.text ≡ t.name.text → ⊥) p.steps →
    EachPair (λ s t. s.name ≡ t.name → ⊥) (core_proof (document_words d) (document_scope d.parts) p).steps
steps_apart d p has h =
    let words = document_words d in let texts = document_texts d in
    let core = core_step words p.program.text (document_scope d.parts) in
    each_pair (λ s t. s.name ≡ t.name → ⊥) (map core p.steps)
    (pairs_map (λ s t. s.name ≡ t.name → ⊥) core p.steps
    (pairs_with (HasStep texts) (λ s t. s.name.text ≡ t.name.text → ⊥)
    (λ s t. word_number words s.name.text ≡ word_number words t.name.text → ⊥)
    (λ s t k l f e. f (numbers_tell texts s.name.text t.name.text
    (k s.name.text (itself s.name.text _)) (l t.name.text (itself t.name.text _)) e))
    p.steps (proof_steps texts p has)
    (pairs_of (λ s t. s.name.text ≡ t.name.text → ⊥) p.steps h)))

both_all : {X : Type 0} (P Q R : X → Type 0) → ((x : X) → P x → Q x → R x) → (xs : List X) → All P xs → All Q xs →
    All R xs
both_all P Q R f [] p q = All-nil R
both_all P Q R f (x ∷ xs) p q = All-cons R x xs (f x (All-head P x xs p) (All-head Q x xs q))
    (both_all P Q R f xs (All-tail P x xs p) (All-tail Q x xs q))

pub step_names_differ : StepNamesDiffer
step_names_differ d h =
    let words = document_words d in let s = document_scope d.parts in
    all_proofs (λ p. EachPair (λ s t. s.name ≡ t.name → ⊥) p.steps) words s d.parts
    (both_all (HasProof (document_texts d)) (λ p. EachPair (λ s t. s.name.text ≡ t.name.text → ⊥) p.steps)
    (λ p. EachPair (λ s t. s.name ≡ t.name → ⊥) (core_proof words s p).steps) (λ p k e. steps_apart d p k e)
    (proofs_among d.parts) (document_proofs d) (steps_differ d h))

-- parameters

pub parameters_have_ranges : ParametersHaveRanges
parameters_have_ranges d h =
    let words = document_words d in let s = document_scope d.parts in
    all_proofs (λ p. All (λ s. All IsRange s.params) p.steps) words s d.parts
    (All-weaker (λ p. All (λ s. All (λ q. IsRange (param_range q)) (some_of s.params)) p.steps)
    (λ p. All (λ c. All IsRange c.params) (core_proof words s p).steps)
    (λ p k. All-map (λ c. All IsRange c.params) (core_step words p.program.text s) p.steps
    (All-weaker (λ t. All (λ q. IsRange (param_range q)) (some_of t.params))
    (λ t. All IsRange (map param_range (some_of t.params)))
    (λ t l. All-map IsRange param_range (some_of t.params) l) p.steps k))
    (proofs_among d.parts) (params_have_ranges d h))

-- kinds

-- a step that has parameters claims what may have them
abbrev Takes : Step → Type 0
Takes s = (not (is_some s.params) || takes_params s.claim) ≡ true

step_takes : (programs : Programs) (names : Table) (steps : List (List ℕ)) (s : Step) →
    (step_part programs names steps s).fault ≡ None → Takes s
step_takes programs names steps s h =
    let once = unless (not (list_any (bytes_eq s.name.text) steps)) Code.DeclaredTwice s.name.at in
    let params = unless (not (is_some s.params) || takes_params s.claim) Code.Arity s.name.at in
    unless_none (not (is_some s.params) || takes_params s.claim) Code.Arity s.name.at
    (earlier_second once params (earlier_first (earlier once params) (step_rest programs names s).fault h))

-- what holds of each part of a well-named document
abbrev PartTakes : Part → Type 0
PartTakes (Part.Program at p) = Unit {0}
PartTakes (Part.Proof at p) = All Takes p.steps

part_takes : (d : Declared) (p : Part) → (part_of d p).fault ≡ None → PartTakes p
part_takes d (Part.Program at p) h = tt
part_takes d (Part.Proof at p) h = each_of_run (step_part d.programs d.names) Takes (step_takes d.programs d.names) []
    p.steps (earlier_second (proved_program d p.program).fault (steps_reading d.programs d.names p.steps).fault h)

proofs_take : (parts : List Part) → All PartTakes parts → All (λ p. All Takes p.steps) (proofs_among parts)
proofs_take [] h = All-nil (λ p. All Takes p.steps)
proofs_take (Part.Program at p ∷ rest) h = proofs_take rest (All-tail PartTakes (Part.Program at p) rest h)
proofs_take (Part.Proof at p ∷ rest) h = All-cons (λ p. All Takes p.steps) p (proofs_among rest)
    (All-head PartTakes (Part.Proof at p) rest h) (proofs_take rest (All-tail PartTakes (Part.Proof at p) rest h))

no_params : (params : Option (Param × List Param)) → (not (is_some params) || false) ≡ true →
    map param_range (some_of params) ≡ []
no_params None h = refl
no_params (Some ps) h = cc h

between_fits : (which : Word) (params : List Range) (p q : CForm) → KindFits (between_kind which) params p q
between_fits which params p q = by (between_kind which) (never which)
  where
    -- these kinds stand between two formulas
    IsBetween : Kind → Type 0
    IsBetween Kind.Unless = Unit {0}
    IsBetween Kind.Ensures = Unit {0}
    IsBetween Kind.Leadsto = Unit {0}
    IsBetween Kind.Until = Unit {0}
    IsBetween Kind.Detects = Unit {0}
    IsBetween _ = ⊥

    never : (w : Word) → IsBetween (between_kind w)
    never Word.Unless = tt
    never Word.Ensures = tt
    never Word.Until = tt
    never Word.Detects = tt
    never _ = tt

    by : (k : Kind) → IsBetween k → KindFits k params p q
    by Kind.Unless h = tt
    by Kind.Ensures h = tt
    by Kind.Leadsto h = tt
    by Kind.Until h = tt
    by Kind.Detects h = tt
    by Kind.Defined h = absurd h
    by Kind.Invariant h = absurd h
    by Kind.Constant h = absurd h
    by Kind.Fixed h = absurd h

claim_fits : (c : Scope) (params : Option (Param × List Param)) (claim : Claim) →
    (not (is_some params) || takes_params claim) ≡ true →
    KindFits (claim_kind claim) (map param_range (some_of params)) (claim_p c claim) (claim_q c claim)
claim_fits c params (Claim.Defined at) h = (no_params params h, refl, refl)
claim_fits c params (Claim.Invariant at of) h = (no_params params h, refl)
claim_fits c params (Claim.Stable at of) h = tt
claim_fits c params (Claim.Constant at of) h = refl
claim_fits c params (Claim.Fixed at of) h = refl
claim_fits c params (Claim.Between at p which q) h = between_fits which (map param_range (some_of params)) _ _

pub kinds_fit : KindsFit
kinds_fit d h =
    let words = document_words d in let s = document_scope d.parts in
    all_proofs (λ p. All (λ c. KindFits c.kind c.params c.p c.q) p.steps) words s d.parts
    (All-weaker (λ p. All Takes p.steps)
    (λ p. All (λ c. KindFits c.kind c.params c.p c.q) (core_proof words s p).steps)
    (λ p k. All-map (λ c. KindFits c.kind c.params c.p c.q) (core_step words p.program.text s) p.steps
    (All-weaker Takes (λ t. let c = core_step words p.program.text s t in KindFits c.kind c.params c.p c.q)
    (λ t l. claim_fits (step_place words p.program.text s t).scope t.params t.claim l) p.steps k))
    (proofs_among d.parts)
    (proofs_take d.parts (each_of_run part_of PartTakes part_takes nothing_declared d.parts (parts_fault d h))))
