-- The parameters that arguments name.
use Rattle.std.proofs.Common.{◌≡◌, ℕ, suc, ◌+◌, ◌<◌, List, [], ◌∷◌, map, length, Bool, true, false, cond, Option}
use Rattle.std.proofs.Common.{Some, None, nat_eq, nat_lt, refl, sym, ap, subst, arith, All}
use Rattle.std.specs.Prelude.{if◌then◌else◌, IsTrue, ◌||◌, fold}
use Rattle.std.specs.Option.{option_or, option_and_then}
use Rattle.std.specs.Map.{lookup}
use Rattle.std.specs.Str.{bytes_eq}
use Rattle.std.proofs.lemmas.List.Elements.{All-nil, All-cons, All-head, All-tail, All-append, All-map, All-weaker}
use borrow.Author.Tests.{ltb-false}
use Rattle.indexmap.specs.IndexMap.{insert_entry}
use Rattle.case_tables.specs.declared.word_table.Word.{Word}
use Rattle.unity_syntax.specs.declared.name.End.{End}
use Rattle.unity_syntax.specs.declared.name.Range.{Range as TextRange}
use Rattle.unity_syntax.specs.declared.term.Inst.{Inst}
use Rattle.unity_syntax.specs.declared.term.Ref.{Ref as TextRef}
use Rattle.unity_syntax.specs.declared.term.Term.{Term}
use Rattle.unity_syntax.specs.declared.term.Term.TheOpen.{Term-F}
use Rattle.unity_syntax.specs.declared.proof.Param.{Param}
use Rattle.unity_syntax.specs.declared.proof.Rule.{Rule}
use Rattle.unity_syntax.specs.declared.proof.Step.{Step}
use Rattle.unity_syntax.specs.declared.document.Part.{Part}
use Rattle.unity_syntax.specs.declared.document.Document.{Document}
use Rattle.unity_syntax.specs.TwoFolds.{TermLayers}
use Rattle.unity_syntax.proofs.TermFolds.{two_terms}
use Rattle.core_terms.specs.declared.documents.Arg.{Arg}
use Rattle.core_terms.specs.declared.documents.CStep.{CStep}
use Rattle.core_terms.specs.declared.documents.PTerm.{PTerm}
use Rattle.core_terms.specs.declared.documents.PTerm.TheVariants.{Imply, From, Trans, Either, Exists, Induct, Psp}
use Rattle.core_terms.specs.declared.documents.PTerm.TheVariants.{Weaken}
use Rattle.core_terms.specs.Conditions.{Parts, parts_step, parts_of, also, arg_names_only, is_below}
use Rattle.names_rules.specs.declared.named.Meaning.{Meaning}
use Rattle.names_rules.specs.Scope.{Table, Params}
use Rattle.names_rules.specs.Part.{run}
use Rattle.names_rules.specs.Declarations.{some_of}
use Rattle.names_rules.specs.Proofs.{Programs, proof_scope, param_part, step_name, step_body, step_rest, step_part}
use Rattle.names_rules.specs.WellNamed.{Declared, IsWellNamed, nothing_declared, proved_program, steps_reading}
use Rattle.names_rules.specs.WellNamed.{part_of, param_number}
use Rattle.names_rules.proofs.Faults.{earlier_first, earlier_second}
use Rattle.expand_declarations.specs.Texts.{Texts}
use Rattle.expand_declarations.specs.WordNumbers.{document_words}
use Rattle.expand_declarations.specs.References.{with_param, step_params, param_range, text_rule}
use Rattle.expand_declarations.specs.References.{names_layer, term_names, param_named, word_arg, core_arg}
use Rattle.expand_declarations.proofs.PairRules.{of_pair_rule}
use Rattle.expand_rules.specs.Forming.{Scope}
use Rattle.expand_correct.specs.from_expand_steps.ProofTerms.{Place, Terming, term_layer, termed, pair_term, ref_in}
use Rattle.expand_correct.specs.from_expand_steps.ProofTerms.{with_bound_name}
use Rattle.expand_correct.specs.from_expand_steps.Steps.{step_place, core_rule, core_step, core_proof}
use Rattle.meaning_documents.specs.Steps.{proofs_among}
use Rattle.expand_correct.proofs.Declared.Found.{or_right}
use Rattle.expand_declarations.proofs.NearIndices.{parts_fault}
use Rattle.expand_declarations.proofs.Faultless.{each_of_run}
use Rattle.expand_correct.specs.from_expand_documents.Cores.{document_scope, core_document}
use Rattle.expand_fits_parts.specs.Conditions.StepConditions.{ArgsNamed, RuleNamed, UsingNamed, RulesNamed}
use Rattle.expand_fits_parts.proofs.Conditions.Proofs.{all_proofs}
use Rattle.expand_fits_parts.proofs.Conditions.Numbering.{entered_length, new_param}
use Rattle.expand_fits_parts.proofs.Conditions.Terms.{at-Imply, at-From, at-Trans, at-Either, at-Exists, at-Induct}
use Rattle.expand_fits_parts.proofs.Conditions.Terms.{at-Psp}
use Rattle.expand_fits_parts.proofs.Conditions.Terms.{at-Weaken}
use Rattle.expand_fits_parts.proofs.Conditions.Terms.{number_same}

-- parameters

pub lt_true : (a b : ℕ) → a < b → nat_lt a b ≡ true
lt_true a b h = by (nat_lt a b) refl
  where
    by : (x : Bool) → nat_lt a b ≡ x → nat_lt a b ≡ true
    by true e = e
    by false e = absurd (let k = ltb-false a b e in omega arith)

-- each number is below this one
abbrev pub Under : ℕ → Params → Type 0
Under n es = All (λ e. e.1 < n) es

entered_under : (n : ℕ) (es : Params) (word : List ℕ) (v : ℕ) → Under n es → v < n →
    Under n (insert_entry bytes_eq es word v)
entered_under n [] word v h k = All-cons (λ e. e.1 < n) (word, v) [] k (All-nil (λ e. e.1 < n))
entered_under n (e ∷ es) word v h k =
    by (bytes_eq word e.0) (entered_under n es word v (All-tail (λ x. x.1 < n) e es h) k)
  where
    by : (b : Bool) → Under n (insert_entry bytes_eq es word v) →
        Under n (if b then (e.0, v) ∷ es else e ∷ insert_entry bytes_eq es word v)
    by true rest = All-cons (λ x. x.1 < n) (e.0, v) es k (All-tail (λ x. x.1 < n) e es h)
    by false rest = All-cons (λ x. x.1 < n) e (insert_entry bytes_eq es word v) (All-head (λ x. x.1 < n) e es h) rest

-- parameters with numbers below their count
abbrev Numbered : Params → ℕ → Type 0
Numbered es n = (length es ≡ n) × Under n es

params_under : (names : Table) (params : Params) (ps : List Param) (n : ℕ) → Numbered params n →
    (run (param_part names) params ps).fault ≡ None → Numbered (fold with_param params ps) (n + length ps)
params_under names params [] n k h = let same : n ≡ n + 0 = omega arith in subst (Numbered params) same k
params_under names params (p ∷ ps) n k h =
    let r = param_part names params p in
    let more = run (param_part names) (with_param params p) ps in
    let one = entered_length params p.name.text (length params)
    (new_param names params p (earlier_first r.fault more.fault h)) in
    let size = k.0 in
    let next : length (with_param params p) ≡ suc n = omega arith in
    let small : length params < suc n = omega arith in
    let under = entered_under (suc n) params p.name.text (length params)
    (All-weaker (λ e. e.1 < n) (λ e. e.1 < suc n) (λ e l. omega arith) params k.1) small in
    let same : suc n + length ps ≡ n + length (p ∷ ps) = omega arith in
    subst (Numbered (fold with_param (with_param params p) ps)) same
    (params_under names (with_param params p) ps (suc n) (next, under) (earlier_second r.fault more.fault h))

abbrev pub Fits : Step → Type 0
Fits step = Under (length (some_of step.params)) (step_params (some_of step.params))

step_fits : (programs : Programs) (names : Table) (steps : List (List ℕ)) (s : Step) →
    (step_part programs names steps s).fault ≡ None → Fits s
step_fits programs names steps s h =
    let params = run (param_part names) [] (some_of s.params) in
    let all = params_under names [] (some_of s.params) 0 (refl, All-nil (λ e. e.1 < 0))
    (earlier_first params.fault (step_body programs (proof_scope names params.after) s).fault
    (earlier_second (step_name steps s).fault (step_rest programs names s).fault h)) in
    let same : 0 + length (some_of s.params) ≡ length (some_of s.params) = omega arith in
    subst (λ n. Under n (step_params (some_of s.params))) same all.1

abbrev PartFits : Part → Type 0
PartFits (Part.Program at p) = Unit {0}
PartFits (Part.Proof at p) = All Fits p.steps

part_fits : (d : Declared) (p : Part) → (part_of d p).fault ≡ None → PartFits p
part_fits d (Part.Program at p) h = tt
part_fits d (Part.Proof at p) h = each_of_run (step_part d.programs d.names) Fits (step_fits d.programs d.names) []
    p.steps (earlier_second (proved_program d p.program).fault (steps_reading d.programs d.names p.steps).fault h)

proofs_fit : (parts : List Part) → All PartFits parts → All (λ p. All Fits p.steps) (proofs_among parts)
proofs_fit [] h = All-nil (λ p. All Fits p.steps)
proofs_fit (Part.Program at p ∷ rest) h = proofs_fit rest (All-tail PartFits (Part.Program at p) rest h)
proofs_fit (Part.Proof at p ∷ rest) h = All-cons (λ p. All Fits p.steps) p (proofs_among rest)
    (All-head PartFits (Part.Proof at p) rest h) (proofs_fit rest (All-tail PartFits (Part.Proof at p) rest h))

found_under : (n : ℕ) (es : Params) (word : List ℕ) (k : ℕ) → Under n es → lookup (bytes_eq word) es ≡ Some k → k < n
found_under n [] word k h e = cc e
found_under n (x ∷ es) word k h e =
    by (bytes_eq word x.0) (found_under n es word k (All-tail (λ e. e.1 < n) x es h)) e
  where
    by : (b : Bool) → (lookup (bytes_eq word) es ≡ Some k → k < n) →
        cond b (Some x.1) (lookup (bytes_eq word) es) ≡ Some k → k < n
    by true rest f = let same : x.1 ≡ k = cc in subst (λ j. j < n) same (All-head (λ e. e.1 < n) x es h)
    by false rest f = rest f

-- arguments

-- what a word means at a place is visible
abbrev pub Sees : (ℕ → Bool) → Place → Type 0
Sees v c = (word : List ℕ) (k : ℕ) → param_named c.bounds c.params word ≡ Some k → v k ≡ true

arg_seen : (v : ℕ → Bool) (c : Place) → Sees v c → (e : End) → IsTrue (arg_names_only v (core_arg c.bounds c.params e))
arg_seen v c h (End.Number at minus number) = refl
arg_seen v c h (End.Word at name offset) = by (param_named c.bounds c.params name.text) (h name.text)
  where
    by : (o : Option ℕ) → ((k : ℕ) → o ≡ Some k → v k ≡ true) → IsTrue (arg_names_only v (word_arg offset o))
    by None f = refl
    by (Some k) f = f k refl

each_arg : (v : ℕ → Bool) (c : Place) → Sees v c → (es : List End) →
    ArgsNamed v (map (core_arg c.bounds c.params) es)
each_arg v c h [] = All-nil (λ a. IsTrue (arg_names_only v a))
each_arg v c h (e ∷ es) = All-cons (λ a. IsTrue (arg_names_only v a)) (core_arg c.bounds c.params e)
    (map (core_arg c.bounds c.params) es) (arg_seen v c h e) (each_arg v c h es)

pub ref_seen : (v : ℕ → Bool) (c : Place) → Sees v c → (r : TextRef) → ArgsNamed v (ref_in c r).args
ref_seen v c h r = each_arg v c h (some_of r.args)

also_first : (n : ℕ) (v : ℕ → Bool) (k : ℕ) → n ≡ k → also n v k ≡ true
also_first n v k e = subst (λ j. also n v j ≡ true) e (ap (λ b. b || v n) (number_same n))

bound_seen : (v : ℕ → Bool) (c : Place) (name : List ℕ) (n : ℕ) (range : TextRange) → Sees v c →
    Sees (also n v) (with_bound_name c name n range)
bound_seen v c name n range h word k e = by (bytes_eq word name) e
  where
    by : (b : Bool) → option_or (option_and_then param_number (cond b (Some (Meaning.Param n))
        (lookup (bytes_eq word) c.bounds))) (lookup (bytes_eq word) c.params) ≡ Some k → also n v k ≡ true
    by true f = let same : n ≡ k = cc in also_first n v k same
    by false f = or_right (nat_eq n k) (v k) (h word k f)

-- terms

abbrev Seen : Type 0
Seen = (ℕ → Bool) → Parts

abbrev Pairing : Type 0
Pairing = (ℕ → Bool) × List Arg

abbrev OneNamed : Pairing → Type 0
OneNamed e = ArgsNamed e.0 e.1

abbrev TermNamed : (ℕ → Bool) → PTerm → Type 0
TermNamed v t = All OneNamed (parts_of t v).args

named_as : (v : ℕ → Bool) (t : PTerm) (f : Seen) → parts_of t ≡ f → All OneNamed (f v).args → TermNamed v t
named_as v t f e h = subst (λ (g : Seen). All OneNamed (g v).args) (sym e) h

both_named : (which : Word) (v : ℕ → Bool) (t u : PTerm) → TermNamed v t → TermNamed v u →
    TermNamed v (pair_term which t u)
both_named which v t u h k =
    let all = All-append OneNamed (parts_of t v).args (parts_of u v).args h k in
    by which (named_as v (Either t u) _ (at-Either Seen parts_step t u) all)
    (named_as v (Trans t u) _ (at-Trans Seen parts_step t u) all)
  where
    by : (w : Word) → TermNamed v (Either t u) → TermNamed v (Trans t u) → TermNamed v (pair_term w t u)
    by Word.Either e f = e
    by _ e f = f

one_named : (v : ℕ → Bool) (c : Place) → Sees v c → (r : TextRef) → All OneNamed ((v, (ref_in c r).args) ∷ [])
one_named v c h r = All-cons OneNamed (v, (ref_in c r).args) [] (ref_seen v c h r) (All-nil OneNamed)

abbrev Names : Terming → Texts → Type 0
Names m ts = (c : Place) (n : ℕ) (v : ℕ → Bool) → Sees v c → TermNamed v (m c n).core

layer : TermLayers Names term_layer names_layer
layer (Term-F.Imply at p q) c n v h = named_as v (Imply _ _) _ (at-Imply Seen parts_step _ _) (All-nil OneNamed)
layer (Term-F.From at of) c n v h =
    named_as v (From (ref_in c of)) _ (at-From Seen parts_step (ref_in c of)) (one_named v c h of)
layer (Term-F.Pair at which first second) c n v h =
    let t = first.0 c n in let u = second.0 c t.next in
    both_named which v t.core u.core (first.2 c n v h) (second.2 c t.next v h)
layer (Term-F.Exists at name range of) c n v h =
    let inner = of.0 (with_bound_name c name.text n range) (n + 1) in
    named_as v (Exists n _ inner.core) _ (at-Exists Seen parts_step n _ inner.core)
    (of.2 (with_bound_name c name.text n range) (n + 1) (also n v) (bound_seen v c name.text n range h))
layer (Term-F.Induct at name range measure p q of) c n v h =
    let inner = of.0 (with_bound_name c name.text n range) (n + 1) in
    named_as v (Induct n _ _ _ _ inner.core) _ (at-Induct Seen parts_step n _ _ _ _ inner.core)
    (of.2 (with_bound_name c name.text n range) (n + 1) (also n v) (bound_seen v c name.text n range h))
layer (Term-F.Psp at of by) c n v h =
    let inner = of.0 c n in
    named_as v (Psp inner.core (ref_in c by)) _ (at-Psp Seen parts_step inner.core (ref_in c by))
    (All-append OneNamed (parts_of inner.core v).args ((v, (ref_in c by).args) ∷ []) (of.2 c n v h)
    (one_named v c h by))
layer (Term-F.Weaken at p q of) c n v h =
    let inner = of.0 c n in
    named_as v (Weaken _ _ inner.core) _ (at-Weaken Seen parts_step _ _ inner.core) (of.2 c n v h)

term_named : (t : Term) → Names (termed t) (term_names t)
term_named t = two_terms Names term_layer names_layer layer t

-- rules

text_named : (v : ℕ → Bool) (c : Place) → Sees v c → (with : Option Inst) →
    RuleNamed v (text_rule c.words c.bounds c.params with)
text_named v c h None = tt
text_named v c h (Some helper) = each_arg v c h (some_of helper.indices)

rule_named : (v : ℕ → Bool) (c : Place) → Sees v c → (rule : Rule) → RuleNamed v (core_rule c rule)
rule_named v c h (Rule.Text at with) = text_named v c h with
rule_named v c h (Rule.Weaken at of) = tt
rule_named v c h (Rule.Pair at which first second) =
    of_pair_rule (RuleNamed v) which (ref_in c first) (ref_in c second) (λ name. tt) tt
rule_named v c h (Rule.Superpose at of) = tt
rule_named v c h (Rule.Complete at first second third fourth) = tt
rule_named v c h (Rule.Term at of) = term_named of c _ v h

-- steps

pub length_mapped : {X Y : Type 0} (f : X → Y) (xs : List X) → length (map f xs) ≡ length xs
length_mapped f [] = refl
length_mapped f (x ∷ xs) = ap suc (length_mapped f xs)

pub step_sees : (words : Texts) (owner : List ℕ) (s : Scope) (step : Step) → Fits step →
    Sees (is_below (length (core_step words owner s step).params)) (step_place words owner s step)
step_sees words owner s step h word k e =
    let small = found_under (length (some_of step.params)) (step_params (some_of step.params)) word k h e in
    let same = length_mapped param_range (some_of step.params) in
    lt_true k (length (map param_range (some_of step.params))) (rw same small)

pub all_refs : (v : ℕ → Bool) (c : Place) → Sees v c → (rs : List TextRef) →
    All (λ r. ArgsNamed v r.args) (map (ref_in c) rs)
all_refs v c h [] = All-nil (λ r. ArgsNamed v r.args)
all_refs v c h (r ∷ rs) = All-cons (λ x. ArgsNamed v x.args) (ref_in c r) (map (ref_in c) rs) (ref_seen v c h r)
    (all_refs v c h rs)

-- what holds of each step whose parameters have numbers below their count
pub all_steps : (P : CStep → Type 0) (d : Document) → IsWellNamed d →
    ((owner : List ℕ) (t : Step) → Fits t → P (core_step (document_words d) owner (document_scope d.parts) t)) →
    All (λ p. All P p.steps) (core_document d).proofs
all_steps P d h f =
    let words = document_words d in let s = document_scope d.parts in
    all_proofs (λ p. All P p.steps) words s d.parts
    (All-weaker (λ p. All Fits p.steps) (λ p. All P (core_proof words s p).steps)
    (λ p k. All-map P (core_step words p.program.text s) p.steps
    (All-weaker Fits (λ t. P (core_step words p.program.text s t)) (λ t l. f p.program.text t l) p.steps k))
    (proofs_among d.parts)
    (proofs_fit d.parts (each_of_run part_of PartFits part_fits nothing_declared d.parts (parts_fault d h))))

pub using_named : UsingNamed
using_named d h =
    let words = document_words d in let s = document_scope d.parts in
    all_steps (λ c. All (λ r. ArgsNamed (is_below (length c.params)) r.args) c.using) d h
    (λ owner t k. all_refs (is_below (length (core_step words owner s t).params)) (step_place words owner s t)
    (step_sees words owner s t k) (some_of t.using))

pub rules_named : RulesNamed
rules_named d h =
    let words = document_words d in let s = document_scope d.parts in
    all_steps (λ c. RuleNamed (is_below (length c.params)) c.rule) d h
    (λ owner t k. rule_named (is_below (length (core_step words owner s t).params)) (step_place words owner s t)
    (step_sees words owner s t k) t.rule)
