-- Each parameter of a step and each name that its term binds has a word.
use Rattle.std.proofs.Common.{◌≡◌, ℕ, suc, ◌+◌, List, [], ◌∷◌, ◌++◌, map, length, Some, None, refl, sym, ap, ◌∙◌, arith}
use Rattle.std.proofs.lemmas.List.{length-append}
use Rattle.unity_syntax.specs.declared.proof.Param.{Param}
use Rattle.unity_syntax.specs.declared.proof.Rule.{Rule}
use Rattle.unity_syntax.specs.declared.term.Term.{Term}
use Rattle.unity_syntax.specs.declared.term.Term.TheOpen.{Term-F}
use Rattle.unity_syntax.specs.declared.term.Term.TheFolds.{map-Term}
use Rattle.unity_syntax.specs.TwoFolds.{Related}
use Rattle.unity_syntax.proofs.TermFolds.{two_terms}
use Rattle.names_rules.specs.Declarations.{some_of}
use Rattle.core_terms.specs.declared.trees.Range.{Range}
use Rattle.core_terms.specs.declared.documents.CStep.{CStep}
use Rattle.core_terms.specs.Conditions.{bound_ranges, rule_ranges}
use Rattle.expand_declarations.specs.Texts.{Texts}
use Rattle.expand_declarations.specs.WordNumbers.{document_words, word_number}
use Rattle.expand_declarations.specs.Numbers.{core_range}
use Rattle.expand_declarations.specs.References.{param_range, names_layer, term_names, rule_names}
use Rattle.expand_declarations.proofs.PairRules.{of_pair_rule}
use Rattle.expand_correct.specs.from_expand_steps.Elements.{form_in, term_in}
use Rattle.expand_correct.specs.from_expand_steps.ProofTerms.{Place, Terming, fixed_ends, with_bound_name, ref_in}
use Rattle.expand_correct.specs.from_expand_steps.ProofTerms.{term_layer, termed}
use Rattle.expand_correct.specs.from_expand_steps.Steps.{step_place, core_rule}
use Rattle.expand_correct.specs.from_expand_documents.Cores.{document_scope}
use Rattle.expand_fits_parts.specs.Forms.StepLaws.{NamesCounted}
use Rattle.expand_fits_parts.proofs.Forms.Claims.{proofs_have}
use Rattle.expand_fits_parts.proofs.Forms.TermParts.{ranges-Imply, ranges-From, ranges-Exists, ranges-Induct}
use Rattle.expand_fits_parts.proofs.Forms.TermParts.{ranges-Psp}
use Rattle.expand_fits_parts.proofs.Forms.TermParts.{ranges-Weaken, pair_parts}

-- a term binds as many names as ranges

abbrev AsMany : Terming → Texts → Type 0
AsMany m names = (c : Place) (next : ℕ) → length names ≡ length (bound_ranges (m c next).core)

no_more : (all : List Range) → all ≡ [] → 0 ≡ length all
no_more all e = sym (ap length e)

one_more : (n : ℕ) (r : Range) (rs all : List Range) → n ≡ length rs → all ≡ r ∷ rs → suc n ≡ length all
one_more n r rs all h e = ap suc h ∙ sym (ap length e)

as_many : (n : ℕ) (rs all : List Range) → n ≡ length rs → all ≡ rs → n ≡ length all
as_many n rs all h e = h ∙ sym (ap length e)

both_many : (xs ys : Texts) (rs ss all : List Range) → length xs ≡ length rs → length ys ≡ length ss →
    all ≡ rs ++ ss → length (xs ++ ys) ≡ length all
both_many xs ys rs ss all h k e =
    let l : length all ≡ length (rs ++ ss) = ap length e in
    let a = length-append xs ys in
    let b = length-append rs ss in
    omega (arith, h, k, l, a, b)

layer : (y : Term-F (Related AsMany)) → AsMany (term_layer (map-Term (Related AsMany) Terming (λ r. r.0) y))
    (names_layer (map-Term (Related AsMany) Texts (λ r. r.1) y))
layer (Term-F.Imply at p q) c next = no_more _ (ranges-Imply (form_in c.scope p) (form_in c.scope q))
layer (Term-F.From at of) c next = no_more _ (ranges-From (ref_in c of))
layer (Term-F.Pair at which x y) c next =
    let t = x.0 c next in
    let u = y.0 c t.next in
    both_many x.1 y.1 (bound_ranges t.core) (bound_ranges u.core) _ (x.2 c next) (y.2 c t.next)
    (pair_parts which t.core u.core).ranges
layer (Term-F.Exists at name range x) c next =
    let inner = with_bound_name c name.text next range in
    let t = x.0 inner (next + 1) in
    one_more (length x.1) _ (bound_ranges t.core) _ (x.2 inner (next + 1))
    (ranges-Exists next (core_range (fixed_ends range)) t.core)
layer (Term-F.Induct at name range measure p q x) c next =
    let inner = with_bound_name c name.text next range in
    let t = x.0 inner (next + 1) in
    one_more (length x.1) _ (bound_ranges t.core) _ (x.2 inner (next + 1))
    (ranges-Induct next (core_range (fixed_ends range)) (term_in c.scope measure) (form_in c.scope p)
    (form_in c.scope q) t.core)
layer (Term-F.Psp at x by) c next =
    as_many (length x.1) (bound_ranges (x.0 c next).core) _ (x.2 c next) (ranges-Psp (x.0 c next).core (ref_in c by))
layer (Term-F.Weaken at p q x) c next =
    as_many (length x.1) (bound_ranges (x.0 c next).core) _ (x.2 c next)
    (ranges-Weaken (form_in c.scope p) (form_in c.scope q) (x.0 c next).core)

terms_bind : (t : Term) → AsMany (termed t) (term_names t)
terms_bind t = two_terms AsMany term_layer names_layer layer t

-- and so does a rule

rule_binds : (c : Place) (rule : Rule) → length (rule_names rule) ≡ length (rule_ranges (core_rule c rule))
rule_binds c (Rule.Text at None) = refl
rule_binds c (Rule.Text at (Some helper)) = refl
rule_binds c (Rule.Weaken at of) = refl
rule_binds c (Rule.Pair at which r s) =
    of_pair_rule (λ rule. 0 ≡ length (rule_ranges rule)) which (ref_in c r) (ref_in c s) (λ name. refl) refl
rule_binds c (Rule.Superpose at of) = refl
rule_binds c (Rule.Complete at r s t u) = refl
rule_binds c (Rule.Term at of) = terms_bind of c (length c.params)

mapped : {X Y : Type 0} (f : X → Y) (xs : List X) → length (map f xs) ≡ length xs
mapped f [] = refl
mapped f (x ∷ xs) = ap suc (mapped f xs)

words_counted : (words : Texts) (ps : List Param) (names : Texts) (rs : List Range) → length names ≡ length rs →
    length (map (word_number words) (map (λ p. p.name.text) ps ++ names)) ≡ length (map param_range ps) + length rs
words_counted words ps names rs h =
    let texts : Texts = map (λ p. p.name.text) ps in
    let a = mapped (word_number words) (texts ++ names) in
    let b = length-append texts names in
    let c : length texts ≡ length ps = mapped (λ p. p.name.text) ps in
    let d = mapped param_range ps in
    omega (arith, a, b, c, d, h)

pub names_counted : NamesCounted
names_counted d named h = proofs_have d
    (λ (step : CStep). length step.param_names ≡ length step.params + length (rule_ranges step.rule)) named h
    (λ owner programs names step fault none.
    let place = step_place (document_words d) owner (document_scope d.parts) step in
    words_counted (document_words d) (some_of step.params) (rule_names step.rule)
    (rule_ranges (core_rule place step.rule)) (rule_binds place step.rule))
