-- The names that the terms of well-named steps bind have the numbers after those of the parameters.
use Rattle.std.proofs.Common.{◌≡◌, ℕ, suc, ◌+◌, List, [], ◌∷◌, map, length, Bool, true, false, cond, not, Option}
use Rattle.std.proofs.Common.{Some, None}
use Rattle.std.proofs.Common.{is_some, refl, sym, ap, ◌∙◌, subst, arith, All}
use Rattle.std.specs.Prelude.{if◌then◌else◌, IsSome, fold, option_map}
use Rattle.std.specs.Option.{option_or}
use Rattle.std.specs.Map.{lookup}
use Rattle.std.specs.Str.{bytes_eq}
use Rattle.std.proofs.lemmas.List.Elements.{All-nil, All-cons, All-head, All-tail, All-map, All-weaker}
use Rattle.indexmap.specs.IndexMap.{insert_entry}
use Rattle.case_tables.specs.declared.code_table.Code.{Code}
use Rattle.unity_syntax.specs.declared.term.Inst.{Inst}
use Rattle.unity_syntax.specs.declared.proof.Param.{Param}
use Rattle.unity_syntax.specs.declared.proof.Rule.{Rule}
use Rattle.unity_syntax.specs.declared.proof.Step.{Step}
use Rattle.unity_syntax.specs.declared.document.Part.{Part}
use Rattle.names_rules.specs.declared.named.Meaning.{Meaning}
use Rattle.names_rules.specs.Scope.{Table, Params, found, bound_named, visible}
use Rattle.names_rules.specs.Reading.{binding, filled}
use Rattle.names_rules.specs.Part.{run}
use Rattle.names_rules.specs.Declarations.{some_of}
use Rattle.names_rules.specs.Proofs.{Programs, proof_scope, param_part, step_name, step_body, step_rest, step_part}
use Rattle.names_rules.specs.WellNamed.{Declared, nothing_declared, proved_program, steps_reading, part_of}
use Rattle.names_rules.proofs.Faults.{earlier_first, earlier_second, unless_none}
use Rattle.expand_declarations.specs.Texts.{Texts}
use Rattle.expand_declarations.specs.WordNumbers.{document_words}
use Rattle.expand_declarations.specs.References.{with_param, step_params, param_range, text_rule}
use Rattle.expand_declarations.proofs.PairRules.{of_pair_rule}
use Rattle.expand_rules.specs.Forming.{Scope}
use Rattle.expand_correct.specs.from_expand_steps.ProofTerms.{Place, termed, ref_in}
use Rattle.expand_correct.specs.from_expand_steps.Steps.{step_place, core_rule, core_step, core_proof}
use Rattle.meaning_documents.specs.Steps.{proofs_among}
use Rattle.expand_declarations.proofs.NearIndices.{parts_fault}
use Rattle.expand_declarations.proofs.Faultless.{each_of_run}
use Rattle.expand_correct.specs.from_expand_documents.Cores.{document_scope}
use Rattle.expand_fits_parts.specs.Conditions.TermConditions.{RuleIsNumbered, TermsNumbered}
use Rattle.expand_fits_parts.proofs.Conditions.Proofs.{all_proofs}
use Rattle.expand_fits_parts.proofs.Conditions.Terms.{counted}

-- parameters

put : {V : Type 0} (c : Bool) (v : V) (o : Option V) → cond c (Some v) o ≡ None → o ≡ None
put true v o h = cc h
put false v o h = h

pub entered_length : {V : Type 0} (es : List (List ℕ × V)) (word : List ℕ) (v : V) → lookup (bytes_eq word) es ≡ None →
    length (insert_entry bytes_eq es word v) ≡ suc (length es)
entered_length [] word v h = refl
entered_length (e ∷ es) word v h = by (bytes_eq word e.0) h (entered_length es word v)
  where
    by : (b : Bool) → cond b (Some e.1) (lookup (bytes_eq word) es) ≡ None →
        (lookup (bytes_eq word) es ≡ None → length (insert_entry bytes_eq es word v) ≡ suc (length es)) →
        length (if b then (e.0, v) ∷ es else e ∷ insert_entry bytes_eq es word v) ≡ suc (suc (length es))
    by true f rest = cc f
    by false f rest = ap suc (rest f)

pub new_param : (names : Table) (params : Params) (p : Param) → (param_part names params p).fault ≡ None →
    lookup (bytes_eq p.name.text) params ≡ None
new_param names params p h =
    let s = proof_scope names params in
    by (lookup (bytes_eq p.name.text) params)
    (unless_none (not (is_some (found s p.name.text))) Code.DeclaredTwice p.name.at
    (earlier_first (binding s p.name (Meaning.Param (length params))).fault (filled [] p.range).fault h))
  where
    by : (o : Option ℕ) →
        not (is_some (option_or (option_map (λ number. bound_named (Meaning.Param number)) o)
        (visible None (lookup (bytes_eq p.name.text) names)))) ≡ true → o ≡ None
    by None f = refl
    by (Some k) f = cc f

params_length : (names : Table) (params : Params) (ps : List Param) →
    (run (param_part names) params ps).fault ≡ None →
    length (fold with_param params ps) ≡ length params + length ps
params_length names params [] h = omega arith
params_length names params (p ∷ ps) h =
    let r = param_part names params p in
    let more = run (param_part names) (with_param params p) ps in
    let rest = params_length names (with_param params p) ps (earlier_second r.fault more.fault h) in
    let one = entered_length params p.name.text (length params)
    (new_param names params p (earlier_first r.fault more.fault h)) in
    omega arith

-- the parameters of a step have names of their own
abbrev Apart : Step → Type 0
Apart step = length (step_params (some_of step.params)) ≡ length (some_of step.params)

step_apart : (programs : Programs) (names : Table) (steps : List (List ℕ)) (s : Step) →
    (step_part programs names steps s).fault ≡ None → Apart s
step_apart programs names steps s h =
    let params = run (param_part names) [] (some_of s.params) in
    let all = params_length names [] (some_of s.params)
    (earlier_first params.fault (step_body programs (proof_scope names params.after) s).fault
    (earlier_second (step_name steps s).fault (step_rest programs names s).fault h)) in
    all ∙ (omega arith)

abbrev PartApart : Part → Type 0
PartApart (Part.Program at p) = Unit {0}
PartApart (Part.Proof at p) = All Apart p.steps

part_apart : (d : Declared) (p : Part) → (part_of d p).fault ≡ None → PartApart p
part_apart d (Part.Program at p) h = tt
part_apart d (Part.Proof at p) h = each_of_run (step_part d.programs d.names) Apart (step_apart d.programs d.names) []
    p.steps (earlier_second (proved_program d p.program).fault (steps_reading d.programs d.names p.steps).fault h)

pub proofs_apart : (parts : List Part) → All PartApart parts → All (λ p. All Apart p.steps) (proofs_among parts)
proofs_apart [] h = All-nil (λ p. All Apart p.steps)
proofs_apart (Part.Program at p ∷ rest) h = proofs_apart rest (All-tail PartApart (Part.Program at p) rest h)
proofs_apart (Part.Proof at p ∷ rest) h = All-cons (λ p. All Apart p.steps) p (proofs_among rest)
    (All-head PartApart (Part.Proof at p) rest h) (proofs_apart rest (All-tail PartApart (Part.Proof at p) rest h))

-- rules

is_there : {X : Type 0} (o : Option X) (x : X) → o ≡ Some x → IsSome o
is_there o x e = subst (λ q. IsSome q) (sym e) refl

text_numbered : (c : Place) (with : Option Inst) (n : ℕ) → RuleIsNumbered n (text_rule c.words c.bounds c.params with)
text_numbered c None n = tt
text_numbered c (Some helper) n = tt

rule_numbered : (c : Place) (rule : Rule) → RuleIsNumbered (length c.params) (core_rule c rule)
rule_numbered c (Rule.Text at with) = text_numbered c with (length c.params)
rule_numbered c (Rule.Weaken at of) = tt
rule_numbered c (Rule.Pair at which first second) =
    of_pair_rule (RuleIsNumbered (length c.params)) which (ref_in c first) (ref_in c second) (λ name. tt) tt
rule_numbered c (Rule.Superpose at of) = tt
rule_numbered c (Rule.Complete at first second third fourth) = tt
rule_numbered c (Rule.Term at of) =
    is_there _ (termed of c (length c.params)).next (counted of c (length c.params)).numbers

length_mapped : {X Y : Type 0} (f : X → Y) (xs : List X) → length (map f xs) ≡ length xs
length_mapped f [] = refl
length_mapped f (x ∷ xs) = ap suc (length_mapped f xs)

step_numbered : (words : Texts) (owner : List ℕ) (s : Scope) (step : Step) → Apart step →
    let c = core_step words owner s step in RuleIsNumbered (length c.params) c.rule
step_numbered words owner s step h =
    subst (λ n. RuleIsNumbered n (core_step words owner s step).rule)
    (h ∙ sym (length_mapped param_range (some_of step.params)))
    (rule_numbered (step_place words owner s step) step.rule)

pub terms_numbered : TermsNumbered
terms_numbered d h =
    let words = document_words d in let s = document_scope d.parts in
    all_proofs (λ p. All (λ c. RuleIsNumbered (length c.params) c.rule) p.steps) words s d.parts
    (All-weaker (λ p. All Apart p.steps)
    (λ p. All (λ c. RuleIsNumbered (length c.params) c.rule) (core_proof words s p).steps)
    (λ p k. All-map (λ c. RuleIsNumbered (length c.params) c.rule) (core_step words p.program.text s) p.steps
    (All-weaker Apart (λ t. let c = core_step words p.program.text s t in RuleIsNumbered (length c.params) c.rule)
    (λ t l. step_numbered words p.program.text s t l) p.steps k))
    (proofs_among d.parts)
    (proofs_apart d.parts (each_of_run part_of PartApart part_apart nothing_declared d.parts (parts_fault d h))))
