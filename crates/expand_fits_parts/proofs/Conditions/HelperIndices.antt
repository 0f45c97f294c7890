-- No index of a helper is a variable: in a helper only parameters may stand, and no word of a table is one.
use Rattle.std.proofs.Common.{◌≡◌, ℕ, List, [], ◌∷◌, map, length, Bool, true, false, Option, Some, None, refl, sym}
use Rattle.std.proofs.Common.{subst, All}
use Rattle.std.specs.Prelude.{fold, option_map}
use Rattle.std.specs.Option.{option_or}
use Rattle.std.specs.Map.{lookup}
use Rattle.std.specs.Str.{bytes_eq}
use Rattle.std.proofs.lemmas.List.Elements.{All-nil, All-cons, All-head, All-tail, All-map, All-weaker}
use Rattle.case_tables.specs.declared.code_table.Code.{Code}
use Rattle.unity_syntax.specs.declared.name.Name.{Name}
use Rattle.unity_syntax.specs.declared.name.End.{End}
use Rattle.case_tables.specs.declared.symbol_table.Symbol.{Symbol}
use Rattle.unity_syntax.specs.declared.term.Inst.{Inst}
use Rattle.unity_syntax.specs.declared.proof.Param.{Param}
use Rattle.unity_syntax.specs.declared.proof.Rule.{Rule}
use Rattle.unity_syntax.specs.declared.proof.Step.{Step}
use Rattle.unity_syntax.specs.declared.document.Part.{Part}
use Rattle.core_terms.specs.Conditions.{IsIndex}
use Rattle.names_rules.specs.declared.named.Indices.{Indices}
use Rattle.names_rules.specs.declared.named.Meaning.{Meaning}
use Rattle.names_rules.specs.declared.named.Named.{Named}
use Rattle.names_rules.specs.Scope.{Table, Params, is_param, bound_named, visible}
use Rattle.names_rules.specs.Reading.{earlier, all_beside}
use Rattle.names_rules.specs.Part.{run}
use Rattle.names_rules.specs.Declarations.{some_of}
use Rattle.names_rules.specs.Proofs.{Programs, proof_scope, argument_word, argument_reading, param_part}
use Rattle.names_rules.specs.Proofs.{claim_reading, rule_part, step_name, step_body, step_rest, step_part, ref_reading}
use Rattle.names_rules.specs.WellNamed.{Declared, nothing_declared, proved_program, steps_reading, part_of}
use Rattle.names_rules.proofs.Faults.{earlier_first, earlier_second, unless_none}
use Rattle.names_laws.proofs.Tables.{Each, each_document}
use Rattle.expand_declarations.specs.WordNumbers.{document_words}
use Rattle.expand_declarations.specs.References.{with_param, step_params, word_arg, core_arg, text_rule}
use Rattle.expand_declarations.proofs.PairRules.{of_pair_rule}
use Rattle.expand_correct.specs.from_expand_steps.ProofTerms.{Place, ref_in}
use Rattle.expand_correct.specs.from_expand_steps.Steps.{step_place, core_rule, core_step, core_proof}
use Rattle.meaning_documents.specs.Steps.{proofs_among}
use Rattle.expand_declarations.proofs.NearIndices.{parts_fault}
use Rattle.expand_declarations.proofs.Faultless.{each_of_run}
use Rattle.expand_correct.specs.from_expand_documents.Cores.{document_scope}
use Rattle.expand_fits_parts.specs.Conditions.ArgumentConditions.{RuleIndexed, HelpersIndexed}
use Rattle.expand_fits_parts.proofs.Conditions.Proofs.{all_proofs}

-- no word of a table is a parameter

abbrev NoParam : Named → Type 0
NoParam n = is_param n.meaning ≡ false

no_params : (d : Declared) (parts : List Part) → Each NoParam d.names →
    Each NoParam (run part_of d parts).after.names
no_params d parts h = each_document NoParam (λ program names v. refl) (λ n program k. k) (λ sort number. refl)
    (λ program at r. refl) d parts h

-- parameters

params_after : (names : Table) (params : Params) (ps : List Param) →
    (run (param_part names) params ps).after ≡ fold with_param params ps
params_after names params [] = refl
params_after names params (p ∷ ps) = params_after names (with_param params p) ps

-- indices

both : (b : Bool) → b ≡ true → b ≡ false → ⊥
both true h k = cc k
both false h k = cc h

word_index : (names : Table) → Each NoParam names → (name : Name) (offset : Option (Symbol × ℕ)) (o : Option ℕ)
    (n : Option Named) → lookup (bytes_eq name.text) names ≡ n →
    (argument_word Indices.Helper name (option_or (option_map (λ number. bound_named (Meaning.Param number)) o)
    (visible None n))).fault ≡ None → IsIndex (word_arg offset o)
word_index names none name offset (Some k) n e h = tt
word_index names none name offset None None e h = cc h
word_index names none name offset None (Some n) e h = absurd (both (is_param n.meaning)
    (unless_none (is_param n.meaning) Code.Unknown name.at h) (none name.text n e))

end_index : (names : Table) (params : Params) → Each NoParam names → (e : End) →
    (argument_reading Indices.Helper (proof_scope names params) e).fault ≡ None → IsIndex (core_arg [] params e)
end_index names params none (End.Number at minus number) h = tt
end_index names params none (End.Word at name offset) h = word_index names none name offset
    (lookup (bytes_eq name.text) params) (lookup (bytes_eq name.text) names) refl h

abbrev Indexed : Params → List End → Type 0
Indexed params es = All (λ e. IsIndex (core_arg [] params e)) es

ends_indexed : (names : Table) (params : Params) → Each NoParam names → (es : List End) →
    (all_beside (map (argument_reading Indices.Helper (proof_scope names params)) es)).fault ≡ None →
    Indexed params es
ends_indexed names params none [] h = All-nil (λ e. IsIndex (core_arg [] params e))
ends_indexed names params none (e ∷ es) h =
    let of = argument_reading Indices.Helper (proof_scope names params) in
    let rest = all_beside (map of es) in
    All-cons (λ e. IsIndex (core_arg [] params e)) e es
    (end_index names params none e (earlier_first (of e).fault rest.fault h))
    (ends_indexed names params none es (earlier_second (of e).fault rest.fault h))

-- rules of the text

abbrev WithIndexed : Params → Option Inst → Type 0
WithIndexed params None = Unit {0}
WithIndexed params (Some helper) = Indexed params (some_of helper.indices)

abbrev TextIndexed : Params → Rule → Type 0
TextIndexed params (Rule.Text at with) = WithIndexed params with
TextIndexed params (Rule.Weaken at of) = Unit {0}
TextIndexed params (Rule.Pair at which first second) = Unit {0}
TextIndexed params (Rule.Superpose at of) = Unit {0}
TextIndexed params (Rule.Complete at first second third fourth) = Unit {0}
TextIndexed params (Rule.Term at of) = Unit {0}

rule_text : (programs : Programs) (names : Table) (params : Params) → Each NoParam names → (next : ℕ) (rule : Rule) →
    (rule_part programs (proof_scope names params) next rule).fault ≡ None → TextIndexed params rule
rule_text programs names params none next (Rule.Text at None) h = tt
rule_text programs names params none next (Rule.Text at (Some helper)) h =
    ends_indexed names params none (some_of helper.indices) h
rule_text programs names params none next (Rule.Weaken at of) h = tt
rule_text programs names params none next (Rule.Pair at which first second) h = tt
rule_text programs names params none next (Rule.Superpose at of) h = tt
rule_text programs names params none next (Rule.Complete at first second third fourth) h = tt
rule_text programs names params none next (Rule.Term at of) h = tt

abbrev StepIndexed : Step → Type 0
StepIndexed step = TextIndexed (step_params (some_of step.params)) step.rule

step_indexed : (programs : Programs) (names : Table) → Each NoParam names → (steps : List (List ℕ)) (s : Step) →
    (step_part programs names steps s).fault ≡ None → StepIndexed s
step_indexed programs names none steps s h =
    let params = run (param_part names) [] (some_of s.params) in
    let place = proof_scope names params.after in
    let body = step_body programs place s in
    let claim = claim_reading place s.claim in
    let rule = rule_part programs place (length params.after) s.rule in
    let others = all_beside (map (ref_reading programs place) (some_of s.using)) in
    let i = earlier_second params.fault body.fault
    (earlier_second (step_name steps s).fault (step_rest programs names s).fault h) in
    let j = earlier_first rule.fault others.fault
    (earlier_second claim.fault (earlier rule.fault others.fault) i) in
    subst (λ (x : Params). TextIndexed x s.rule) (params_after names [] (some_of s.params))
    (rule_text programs names params.after none (length params.after) s.rule j)

-- parts

abbrev PartIndexed : Part → Type 0
PartIndexed (Part.Program at p) = Unit {0}
PartIndexed (Part.Proof at p) = All StepIndexed p.steps

part_indexed : (d : Declared) → Each NoParam d.names → (p : Part) → (part_of d p).fault ≡ None → PartIndexed p
part_indexed d none (Part.Program at p) h = tt
part_indexed d none (Part.Proof at p) h = each_of_run (step_part d.programs d.names) StepIndexed
    (step_indexed d.programs d.names none) [] p.steps
    (earlier_second (proved_program d p.program).fault (steps_reading d.programs d.names p.steps).fault h)

parts_indexed : (d : Declared) (parts : List Part) → Each NoParam d.names → (run part_of d parts).fault ≡ None →
    All PartIndexed parts
parts_indexed d [] none h = All-nil PartIndexed
parts_indexed d (p ∷ rest) none h =
    let r = part_of d p in
    let more = run part_of r.after rest in
    All-cons PartIndexed p rest (part_indexed d none p (earlier_first r.fault more.fault h))
    (parts_indexed r.after rest (no_params d (p ∷ []) none) (earlier_second r.fault more.fault h))

proofs_indexed : (parts : List Part) → All PartIndexed parts → All (λ p. All StepIndexed p.steps) (proofs_among parts)
proofs_indexed [] h = All-nil (λ p. All StepIndexed p.steps)
proofs_indexed (Part.Program at p ∷ rest) h = proofs_indexed rest (All-tail PartIndexed (Part.Program at p) rest h)
proofs_indexed (Part.Proof at p ∷ rest) h = All-cons (λ p. All StepIndexed p.steps) p (proofs_among rest)
    (All-head PartIndexed (Part.Proof at p) rest h)
    (proofs_indexed rest (All-tail PartIndexed (Part.Proof at p) rest h))

-- rules in core form

text_indexed : (c : Place) → c.bounds ≡ [] → (with : Option Inst) → WithIndexed c.params with →
    RuleIndexed (text_rule c.words c.bounds c.params with)
text_indexed c outside None h = tt
text_indexed c outside (Some helper) h = All-map IsIndex (core_arg c.bounds c.params) (some_of helper.indices)
    (subst (λ b. All (λ e. IsIndex (core_arg b c.params e)) (some_of helper.indices)) (sym outside) h)

rule_indexed : (c : Place) → c.bounds ≡ [] → (rule : Rule) → TextIndexed c.params rule → RuleIndexed (core_rule c rule)
rule_indexed c outside (Rule.Text at with) h = text_indexed c outside with h
rule_indexed c outside (Rule.Weaken at of) h = tt
rule_indexed c outside (Rule.Pair at which first second) h =
    of_pair_rule RuleIndexed which (ref_in c first) (ref_in c second) (λ name. tt) tt
rule_indexed c outside (Rule.Superpose at of) h = tt
rule_indexed c outside (Rule.Complete at first second third fourth) h = tt
rule_indexed c outside (Rule.Term at of) h = tt

pub helpers_indexed : HelpersIndexed
helpers_indexed d h =
    let words = document_words d in let s = document_scope d.parts in
    all_proofs (λ p. All (λ c. RuleIndexed c.rule) p.steps) words s d.parts
    (All-weaker (λ p. All StepIndexed p.steps) (λ p. All (λ c. RuleIndexed c.rule) (core_proof words s p).steps)
    (λ p k. All-map (λ c. RuleIndexed c.rule) (core_step words p.program.text s) p.steps
    (All-weaker StepIndexed (λ t. RuleIndexed (core_step words p.program.text s t).rule)
    (λ t l. rule_indexed (step_place words p.program.text s t) refl t.rule l) p.steps k))
    (proofs_among d.parts)
    (proofs_indexed d.parts (parts_indexed nothing_declared d.parts (λ word n e. cc e) (parts_fault d h))))
