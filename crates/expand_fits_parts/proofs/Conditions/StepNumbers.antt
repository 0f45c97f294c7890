-- The numbers in the arguments of steps.
use Rattle.std.proofs.Common.{◌≡◌, ℕ, ◌+◌, List, [], ◌∷◌, ◌++◌, length, Bool, Some, None, sym, subst, All}
use Rattle.std.proofs.lemmas.List.Elements.{All-nil, All-cons, All-append, All-map, All-weaker}
use Rattle.case_tables.specs.declared.word_table.Word.{Word}
use Rattle.unity_syntax.specs.declared.name.End.{End}
use Rattle.unity_syntax.specs.declared.term.Ref.{Ref as TextRef}
use Rattle.unity_syntax.specs.declared.term.Term.{Term}
use Rattle.unity_syntax.specs.declared.term.Term.TheOpen.{Term-F}
use Rattle.unity_syntax.specs.declared.proof.Rule.{Rule}
use Rattle.unity_syntax.specs.TwoFolds.{TermLayers}
use Rattle.unity_syntax.proofs.TermFolds.{two_terms}
use Rattle.core_terms.specs.declared.documents.Ref.{Ref}
use Rattle.core_terms.specs.declared.documents.Arg.{Arg}
use Rattle.core_terms.specs.declared.documents.PTerm.{PTerm}
use Rattle.core_terms.specs.declared.documents.PTerm.TheVariants.{Imply, From, Trans, Either, Exists, Induct, Psp}
use Rattle.core_terms.specs.declared.documents.PTerm.TheVariants.{Weaken}
use Rattle.core_terms.specs.Conditions.{ArgFits, Parts, parts_step, parts_of, also, rule_refs}
use Rattle.names_rules.specs.Declarations.{some_of}
use Rattle.expand_declarations.specs.WordNumbers.{document_words}
use Rattle.expand_declarations.proofs.PairRules.{of_pair_rule}
use Rattle.expand_correct.specs.from_expand_steps.ProofTerms.{Place, Terming, term_layer, termed, pair_term, ref_in}
use Rattle.expand_correct.specs.from_expand_steps.ProofTerms.{with_bound_name}
use Rattle.expand_correct.specs.from_expand_steps.Steps.{step_place, core_rule, core_step, core_proof}
use Rattle.meaning_documents.specs.Steps.{proofs_among}
use Rattle.expand_correct.specs.from_expand_documents.Cores.{document_scope}
use Rattle.expand_fits_parts.specs.Conditions.ArgumentConditions.{EndFits, ends_layer, term_ends, rule_ends}
use Rattle.expand_fits_parts.specs.Conditions.ArgumentConditions.{StepLiterals}
use Rattle.expand_fits_parts.specs.Conditions.ArgumentConditions.{RuleArgumentsFit, StepNumbersFit, StepsFit}
use Rattle.expand_fits_parts.proofs.Conditions.Proofs.{all_proofs}
use Rattle.expand_fits_parts.proofs.Conditions.ArgumentNumbers.{arguments_fit}
use Rattle.expand_fits_parts.proofs.Conditions.TermNumbers.{RefFits, AllFit, left_ends, right_ends, terms_fit}
use Rattle.expand_fits_parts.proofs.Conditions.Terms.{at-Imply, at-From, at-Trans, at-Either, at-Exists, at-Induct}
use Rattle.expand_fits_parts.proofs.Conditions.Terms.{at-Psp}
use Rattle.expand_fits_parts.proofs.Conditions.Terms.{at-Weaken}

abbrev Seen : Type 0
Seen = (ℕ → Bool) → Parts

abbrev Pairing : Type 0
Pairing = (ℕ → Bool) × List Arg

abbrev OneFits : Pairing → Type 0
OneFits e = All ArgFits e.1

abbrev TermFits : (ℕ → Bool) → PTerm → Type 0
TermFits v t = All OneFits (parts_of t v).args

fits_as : (v : ℕ → Bool) (t : PTerm) (f : Seen) → parts_of t ≡ f → All OneFits (f v).args → TermFits v t
fits_as v t f e h = subst (λ (g : Seen). All OneFits (g v).args) (sym e) h

both_fit : (which : Word) (v : ℕ → Bool) (t u : PTerm) → TermFits v t → TermFits v u →
    TermFits v (pair_term which t u)
both_fit which v t u h k =
    let all = All-append OneFits (parts_of t v).args (parts_of u v).args h k in
    by which (fits_as v (Either t u) _ (at-Either Seen parts_step t u) all)
    (fits_as v (Trans t u) _ (at-Trans Seen parts_step t u) all)
  where
    by : (w : Word) → TermFits v (Either t u) → TermFits v (Trans t u) → TermFits v (pair_term w t u)
    by Word.Either e f = e
    by _ e f = f

one_fits : (v : ℕ → Bool) (c : Place) (r : TextRef) → All EndFits (some_of r.args) →
    All OneFits ((v, (ref_in c r).args) ∷ [])
one_fits v c r h = All-cons OneFits (v, (ref_in c r).args) [] (arguments_fit c.bounds c.params r.args h)
    (All-nil OneFits)

abbrev Bounded : Terming → List End → Type 0
Bounded m es = All EndFits es → (c : Place) (n : ℕ) (v : ℕ → Bool) → TermFits v (m c n).core

layer : TermLayers Bounded term_layer ends_layer
layer (Term-F.Imply at p q) h c n v = fits_as v (Imply _ _) _ (at-Imply Seen parts_step _ _) (All-nil OneFits)
layer (Term-F.From at of) h c n v =
    fits_as v (From (ref_in c of)) _ (at-From Seen parts_step (ref_in c of)) (one_fits v c of h)
layer (Term-F.Pair at which first second) h c n v =
    let t = first.0 c n in let u = second.0 c t.next in
    both_fit which v t.core u.core (first.2 (left_ends first.1 second.1 h) c n v)
    (second.2 (right_ends first.1 second.1 h) c t.next v)
layer (Term-F.Exists at name range of) h c n v =
    let inner = of.0 (with_bound_name c name.text n range) (n + 1) in
    fits_as v (Exists n _ inner.core) _ (at-Exists Seen parts_step n _ inner.core)
    (of.2 h (with_bound_name c name.text n range) (n + 1) (also n v))
layer (Term-F.Induct at name range measure p q of) h c n v =
    let inner = of.0 (with_bound_name c name.text n range) (n + 1) in
    fits_as v (Induct n _ _ _ _ inner.core) _ (at-Induct Seen parts_step n _ _ _ _ inner.core)
    (of.2 h (with_bound_name c name.text n range) (n + 1) (also n v))
layer (Term-F.Psp at of by) h c n v =
    let inner = of.0 c n in
    fits_as v (Psp inner.core (ref_in c by)) _ (at-Psp Seen parts_step inner.core (ref_in c by))
    (All-append OneFits (parts_of inner.core v).args ((v, (ref_in c by).args) ∷ [])
    (of.2 (left_ends of.1 (some_of by.args) h) c n v) (one_fits v c by (right_ends of.1 (some_of by.args) h)))
layer (Term-F.Weaken at p q of) h c n v =
    let inner = of.0 c n in
    fits_as v (Weaken _ _ inner.core) _ (at-Weaken Seen parts_step _ _ inner.core) (of.2 h c n v)

term_fits : (t : Term) → Bounded (termed t) (term_ends t)
term_fits t = two_terms Bounded term_layer ends_layer layer t

-- rules

one_ref : (c : Place) (r : TextRef) → All EndFits (some_of r.args) → AllFit (ref_in c r ∷ [])
one_ref c r h = All-cons RefFits (ref_in c r) [] (arguments_fit c.bounds c.params r.args h) (All-nil RefFits)

-- two references, before others
two_refs : (c : Place) (r s : TextRef) (more : List Ref) → All EndFits (some_of r.args ++ some_of s.args) →
    AllFit more → AllFit (ref_in c r ∷ ref_in c s ∷ more)
two_refs c r s more h rest = All-cons RefFits (ref_in c r) (ref_in c s ∷ more)
    (arguments_fit c.bounds c.params r.args (left_ends (some_of r.args) (some_of s.args) h))
    (All-cons RefFits (ref_in c s) more
    (arguments_fit c.bounds c.params s.args (right_ends (some_of r.args) (some_of s.args) h)) rest)

rule_fits : (c : Place) (rule : Rule) → All EndFits (rule_ends rule) → RuleArgumentsFit (core_rule c rule)
rule_fits c (Rule.Text at None) h = tt
rule_fits c (Rule.Text at (Some helper)) h = arguments_fit c.bounds c.params helper.indices h
rule_fits c (Rule.Weaken at of) h = tt
rule_fits c (Rule.Pair at which first second) h =
    of_pair_rule RuleArgumentsFit which (ref_in c first) (ref_in c second) (λ name. tt) tt
rule_fits c (Rule.Superpose at of) h = tt
rule_fits c (Rule.Complete at first second third fourth) h = tt
rule_fits c (Rule.Term at of) h = λ v. term_fits of h c (length c.params) v

refs_fit : (c : Place) (rule : Rule) → All EndFits (rule_ends rule) → AllFit (rule_refs (core_rule c rule))
refs_fit c (Rule.Text at None) h = All-nil RefFits
refs_fit c (Rule.Text at (Some helper)) h = All-nil RefFits
refs_fit c (Rule.Weaken at of) h = one_ref c of h
refs_fit c (Rule.Pair at which first second) h =
    let all = two_refs c first second [] h (All-nil RefFits) in
    of_pair_rule (λ rule. AllFit (rule_refs rule)) which (ref_in c first) (ref_in c second) (λ name. all) all
refs_fit c (Rule.Superpose at of) h = one_ref c of h
refs_fit c (Rule.Complete at first second third fourth) h =
    let begin = some_of first.args ++ some_of second.args in
    let end = some_of third.args ++ some_of fourth.args in
    two_refs c first second (ref_in c third ∷ ref_in c fourth ∷ []) (left_ends begin end h)
    (two_refs c third fourth [] (right_ends begin end h) (All-nil RefFits))
refs_fit c (Rule.Term at of) h = terms_fit of h c (length c.params)

pub steps_fit : StepsFit
steps_fit d h =
    let words = document_words d in let s = document_scope d.parts in
    all_proofs (λ p. All StepNumbersFit p.steps) words s d.parts
    (All-weaker (λ p. All StepLiterals p.steps) (λ p. All StepNumbersFit (core_proof words s p).steps)
    (λ p k. All-map StepNumbersFit (core_step words p.program.text s) p.steps
    (All-weaker StepLiterals (λ t. StepNumbersFit (core_step words p.program.text s t))
    (λ t l. let c = step_place words p.program.text s t in record {
      rule = rule_fits c t.rule l.rule;
      refs = refs_fit c t.rule l.rule;
      using = All-map RefFits (ref_in c) (some_of t.using)
          (All-weaker (λ r. All EndFits (some_of r.args)) (λ r. RefFits (ref_in c r))
          (λ r m. arguments_fit c.bounds c.params r.args m) (some_of t.using) l.using);
    }) p.steps k))
    (proofs_among d.parts) h.steps)
