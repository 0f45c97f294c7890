-- Steps and proofs in core form.
use Rattle.std.specs.Prelude.{◌≡◌, ℕ, List, [], ◌∷◌, ◌++◌, map, fold, length, Option, None, Result, Ok, Err}
use Rattle.std.specs.Str.{bytes_eq}
use Rattle.indexmap.specs.IndexMap.{insert_entry}
use Rattle.unity_syntax.specs.declared.proof.Param.{Param}
use Rattle.unity_syntax.specs.declared.proof.Claim.{Claim}
use Rattle.unity_syntax.specs.declared.proof.Rule.{Rule}
use Rattle.unity_syntax.specs.declared.proof.Step.{Step}
use Rattle.unity_syntax.specs.declared.proof.Proof.{Proof}
use Rattle.core_terms.specs.declared.trees.CForm.{CForm}
use Rattle.core_terms.specs.declared.trees.CForm.TheVariants.{Top, Bottom}
use Rattle.core_terms.specs.declared.documents.CRule.{CRule}
use Rattle.core_terms.specs.declared.documents.CStep.{CStep}
use Rattle.core_terms.specs.declared.documents.CProof.{CProof}
use Rattle.case_tables.specs.declared.word_table.Word.{Word}
use Rattle.unity_syntax.specs.declared.term.Ref.{Ref as TextRef}
use Rattle.unity_syntax.specs.declared.term.Term.{Term}
use Rattle.names_rules.specs.declared.named.NameFault.{NameFault}
use Rattle.names_rules.specs.declared.known.Env.{Env}
use Rattle.names_rules.specs.Scope.{bounds, entries}
use Rattle.names_rules.specs.Answers.{Stops}
use Rattle.expand_expressions.specs.declared.places.Env.{Env as BoundEnv}
use Rattle.expand_expressions.specs.declared.places.Known.{Known}
use Rattle.expand_expressions.specs.Places.{variables_of}
use Rattle.names_rules.specs.Reading.{Fault, earlier}
use Rattle.names_rules.specs.Declarations.{some_of}
use Rattle.expand_rules.specs.declared.cores.Bound.{Bound}
use Rattle.expand_rules.specs.declared.cores.Formed.{Formed}
use Rattle.expand_rules.specs.Forming.{Scope}
use Rattle.expand_declarations.specs.Texts.{Texts}
use Rattle.expand_declarations.specs.WordNumbers.{word_number}
use Rattle.expand_declarations.specs.References.{step_params, param_range, param_names, text_rule, pair_rule}
use Rattle.expand_rules.specs.from_meaning_documents.Steps.{claim_kind}
use Rattle.expand_declarations.specs.References.{core_ref}
use Rattle.expand_steps.specs.Elements.{truth_in, form_in, element_fault}
use Rattle.expand_steps.specs.ProofTerms.{Place, Termed, param_bound, place, ref_in, termed}
use Rattle.expand_steps.specs.declared.terms.Here.{Here}

-- what the parameters of a step stand for
abbrev pub with_param_bound : List (List ℕ × Bound) → Param → List (List ℕ × Bound)
with_param_bound bs p = insert_entry bytes_eq bs p.name.text (param_bound (length bs) p.range)

abbrev pub param_bounds : List Param → List (List ℕ × Bound)
param_bounds ps = fold with_param_bound [] ps

-- where the parts of a step stand
abbrev pub step_place : Texts → List ℕ → Scope → Step → Place
step_place words owner s step = record {
  words = words;
  owner = owner;
  scope = record s { bound = param_bounds (some_of step.params) };
  bounds = [];
  params = step_params (some_of step.params);
}

-- `defined` says `Top` twice; the q of a claim of one condition is `Bottom`
abbrev pub claim_p : Scope → Claim → CForm
claim_p s (Claim.Defined at) = Top
claim_p s (Claim.Invariant at of) = form_in s of
claim_p s (Claim.Stable at of) = form_in s of
claim_p s (Claim.Constant at of) = form_in s of
claim_p s (Claim.Fixed at of) = form_in s of
claim_p s (Claim.Between at p which q) = form_in s p

abbrev pub claim_q : Scope → Claim → CForm
claim_q s (Claim.Defined at) = Top
claim_q s (Claim.Invariant at of) = Bottom
claim_q s (Claim.Stable at of) = Bottom
claim_q s (Claim.Constant at of) = Bottom
claim_q s (Claim.Fixed at of) = Bottom
claim_q s (Claim.Between at p which q) = form_in s q

abbrev pub claim_pair : Scope → Claim → CForm × CForm
claim_pair s claim = (claim_p s claim, claim_q s claim)

abbrev pub claim_formulas : Scope → Claim → List Formed
claim_formulas s (Claim.Defined at) = []
claim_formulas s (Claim.Invariant at of) = truth_in s of ∷ []
claim_formulas s (Claim.Stable at of) = truth_in s of ∷ []
claim_formulas s (Claim.Constant at of) = truth_in s of ∷ []
claim_formulas s (Claim.Fixed at of) = truth_in s of ∷ []
claim_formulas s (Claim.Between at p which q) = truth_in s p ∷ truth_in s q ∷ []

-- the names that a term binds have the numbers after those of the parameters
abbrev pub core_rule : Place → Rule → CRule
core_rule c (Rule.Text at with) = text_rule c.words c.bounds c.params with
core_rule c (Rule.Weaken at of) = CRule.WeakenStep (ref_in c of)
core_rule c (Rule.Pair at which first second) = pair_rule which (ref_in c first) (ref_in c second)
core_rule c (Rule.Superpose at of) = CRule.Superpose (ref_in c of)
core_rule c (Rule.Complete at first second third fourth) =
    CRule.Complete (ref_in c first) (ref_in c second) (ref_in c third) (ref_in c fourth)
core_rule c (Rule.Term at of) = CRule.Proof (termed of c (length c.params)).core

abbrev pub rule_formulas : Place → Rule → List Formed
rule_formulas c (Rule.Text at with) = []
rule_formulas c (Rule.Weaken at of) = []
rule_formulas c (Rule.Pair at which first second) = []
rule_formulas c (Rule.Superpose at of) = []
rule_formulas c (Rule.Complete at first second third fourth) = []
rule_formulas c (Rule.Term at of) = (termed of c (length c.params)).formulas

-- a step in core form, and its formulas in reading order
abbrev pub step_core : Place → Step → CStep
step_core c step = record {
  name = word_number c.words step.name.text;
  params = map param_range (some_of step.params);
  param_names = param_names c.words step;
  kind = claim_kind step.claim;
  p = claim_p c.scope step.claim;
  q = claim_q c.scope step.claim;
  rule = core_rule c step.rule;
  using = map (ref_in c) (some_of step.using);
}

abbrev pub step_formulas : Place → Step → List Formed
step_formulas c step = claim_formulas c.scope step.claim ++ rule_formulas c step.rule

-- a step in a proof of this program, where expressions see this
abbrev pub core_step : Texts → List ℕ → Scope → Step → CStep
core_step words owner s step = step_core (step_place words owner s step) step

abbrev pub step_fault : Texts → List ℕ → Scope → Step → Option Fault
step_fault words owner s step = element_fault step.name.at (step_formulas (step_place words owner s step) step)

-- the first fault of steps
abbrev pub steps_fault : Texts → List ℕ → Scope → List Step → Option Fault
steps_fault words owner s [] = None
steps_fault words owner s (step ∷ rest) = earlier (step_fault words owner s step) (steps_fault words owner s rest)

abbrev pub core_proof : Texts → Scope → Proof → CProof
core_proof words s proof = record {
  program = word_number words proof.program.text;
  steps = map (core_step words proof.program.text s) proof.steps;
}

abbrev pub proof_fault : Texts → Scope → Proof → Option Fault
proof_fault words s proof = steps_fault words proof.program.text s proof.steps

-- as the code stands

-- a step that is justified by two others
abbrev pub two_premises : Here → Env → Word → TextRef → TextRef → CRule
two_premises here names which first second = pair_rule which
    (core_ref here.words.now here.owner.now.text (bounds names) (entries here.params.now) first)
    (core_ref here.words.now here.owner.now.text (bounds names) (entries here.params.now) second)

-- a step that is justified by one of the program under this one
abbrev pub one_below : Here → Env → TextRef → CRule
one_below here names r =
    CRule.Superpose (core_ref here.words.now here.owner.now.text (bounds names) (entries here.params.now) r)

-- a step that is justified by four others
abbrev pub four_premises : Here → Env → TextRef → TextRef → TextRef → TextRef → CRule
four_premises here names first second third fourth = CRule.Complete
    (core_ref here.words.now here.owner.now.text (bounds names) (entries here.params.now) first)
    (core_ref here.words.now here.owner.now.text (bounds names) (entries here.params.now) second)
    (core_ref here.words.now here.owner.now.text (bounds names) (entries here.params.now) third)
    (core_ref here.words.now here.owner.now.text (bounds names) (entries here.params.now) fourth)

-- a term whose bound names have the numbers after those of the parameters
abbrev pub step_term : Here → Env → BoundEnv → Term → Termed
step_term here names env t = termed t (place here names env) (length (entries here.params.now))

-- a step with this claim and this rule
abbrev pub step_with : Here → Env → Step → CForm × CForm → CRule → CStep
step_with here names step claim rule = record {
  name = word_number here.words.now step.name.text;
  params = map param_range (some_of step.params);
  param_names = param_names here.words.now step;
  kind = claim_kind step.claim;
  p = claim.0;
  q = claim.1;
  rule = rule;
  using = map (core_ref here.words.now here.owner.now.text (bounds names) (entries here.params.now))
      (some_of step.using);
}

-- what expressions see outside all bound names
abbrev pub outer_scope : Known → Scope
outer_scope known = record {
  variables = variables_of (entries known.variables.now);
  words = entries known.values.now;
  always = entries known.always.now;
  bound = [];
}

-- a call that gives this, or stops at the first fault
abbrev pub Yields : {X : Type 0} → Result X NameFault → X → Option Fault → Type 0
Yields (Ok x) core fault = (x ≡ core) × (fault ≡ None)
Yields (Err e) core fault = Stops e fault

-- a call that adds these to a list, or stops at the first fault
abbrev pub Lists : {X : Type 0} → Result (Unit {0}) NameFault → List X → List X → List X → Option Fault → Type 0
Lists (Ok t) old new more fault = (new ≡ old ++ more) × (fault ≡ None)
Lists (Err e) old new more fault = Stops e fault
