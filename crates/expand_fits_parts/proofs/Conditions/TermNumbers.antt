-- The numbers in the references of terms.
use Rattle.std.proofs.Common.{◌≡◌, ℕ, ◌+◌, List, [], ◌∷◌, ◌++◌, sym, subst, All}
use Rattle.std.proofs.lemmas.List.Elements.{All-nil, All-cons, All-head, All-tail, All-append}
use Rattle.case_tables.specs.declared.word_table.Word.{Word}
use Rattle.unity_syntax.specs.declared.name.End.{End}
use Rattle.unity_syntax.specs.declared.term.Ref.{Ref as TextRef}
use Rattle.unity_syntax.specs.declared.term.Term.TheOpen.{Term-F}
use Rattle.unity_syntax.specs.TwoFolds.{TermLayers}
use Rattle.unity_syntax.proofs.TermFolds.{two_terms}
use Rattle.core_terms.specs.declared.documents.Ref.{Ref}
use Rattle.core_terms.specs.declared.documents.PTerm.{PTerm}
use Rattle.core_terms.specs.declared.documents.PTerm.TheVariants.{Imply, From, Trans, Either, Exists, Induct, Psp}
use Rattle.core_terms.specs.declared.documents.PTerm.TheVariants.{Weaken}
use Rattle.core_terms.specs.Conditions.{ArgFits, refs_step, term_refs}
use Rattle.names_rules.specs.Declarations.{some_of}
use Rattle.expand_correct.specs.from_expand_steps.ProofTerms.{Place, Terming, term_layer, pair_term, ref_in}
use Rattle.expand_correct.specs.from_expand_steps.ProofTerms.{with_bound_name}
use Rattle.expand_fits_parts.specs.Conditions.ArgumentConditions.{EndFits, ends_layer, TermArgumentsFit}
use Rattle.expand_fits_parts.proofs.Conditions.ArgumentNumbers.{arguments_fit}
use Rattle.expand_fits_parts.proofs.Conditions.Terms.{at-Imply, at-From, at-Trans, at-Either, at-Exists, at-Induct}
use Rattle.expand_fits_parts.proofs.Conditions.Terms.{at-Psp}
use Rattle.expand_fits_parts.proofs.Conditions.Terms.{at-Weaken}

abbrev pub RefFits : Ref → Type 0
RefFits r = All ArgFits r.args

abbrev pub AllFit : List Ref → Type 0
AllFit rs = All RefFits rs

pub left_ends : (xs ys : List End) → All EndFits (xs ++ ys) → All EndFits xs
left_ends [] ys h = All-nil EndFits
left_ends (x ∷ xs) ys h = All-cons EndFits x xs (All-head EndFits x (xs ++ ys) h)
    (left_ends xs ys (All-tail EndFits x (xs ++ ys) h))

pub right_ends : (xs ys : List End) → All EndFits (xs ++ ys) → All EndFits ys
right_ends [] ys h = h
right_ends (x ∷ xs) ys h = right_ends xs ys (All-tail EndFits x (xs ++ ys) h)

fits_as : (t : PTerm) (rs : List Ref) → term_refs t ≡ rs → AllFit rs → AllFit (term_refs t)
fits_as t rs e h = subst (λ (xs : List Ref). AllFit xs) (sym e) h

both_fit : (which : Word) (t u : PTerm) → AllFit (term_refs t) → AllFit (term_refs u) →
    AllFit (term_refs (pair_term which t u))
both_fit which t u h k =
    let all = All-append RefFits (term_refs t) (term_refs u) h k in
    by which (fits_as (Either t u) _ (at-Either (List Ref) refs_step t u) all)
    (fits_as (Trans t u) _ (at-Trans (List Ref) refs_step t u) all)
  where
    by : (w : Word) → AllFit (term_refs (Either t u)) → AllFit (term_refs (Trans t u)) →
        AllFit (term_refs (pair_term w t u))
    by Word.Either e f = e
    by _ e f = f

one_fits : (c : Place) (r : TextRef) → All EndFits (some_of r.args) → AllFit (ref_in c r ∷ [])
one_fits c r h = All-cons RefFits (ref_in c r) [] (arguments_fit c.bounds c.params r.args h) (All-nil RefFits)

abbrev Bounded : Terming → List End → Type 0
Bounded m es = All EndFits es → (c : Place) (n : ℕ) → AllFit (term_refs (m c n).core)

layer : TermLayers Bounded term_layer ends_layer
layer (Term-F.Imply at p q) h c n = fits_as (Imply _ _) [] (at-Imply (List Ref) refs_step _ _) (All-nil RefFits)
layer (Term-F.From at of) h c n =
    fits_as (From (ref_in c of)) _ (at-From (List Ref) refs_step (ref_in c of)) (one_fits c of h)
layer (Term-F.Pair at which first second) h c n =
    let t = first.0 c n in let u = second.0 c t.next in
    both_fit which t.core u.core (first.2 (left_ends first.1 second.1 h) c n)
    (second.2 (right_ends first.1 second.1 h) c t.next)
layer (Term-F.Exists at name range of) h c n =
    let inner = of.0 (with_bound_name c name.text n range) (n + 1) in
    fits_as (Exists n _ inner.core) _ (at-Exists (List Ref) refs_step n _ inner.core)
    (of.2 h (with_bound_name c name.text n range) (n + 1))
layer (Term-F.Induct at name range measure p q of) h c n =
    let inner = of.0 (with_bound_name c name.text n range) (n + 1) in
    fits_as (Induct n _ _ _ _ inner.core) _ (at-Induct (List Ref) refs_step n _ _ _ _ inner.core)
    (of.2 h (with_bound_name c name.text n range) (n + 1))
layer (Term-F.Psp at of by) h c n =
    let inner = of.0 c n in
    fits_as (Psp inner.core (ref_in c by)) _ (at-Psp (List Ref) refs_step inner.core (ref_in c by))
    (All-append RefFits (term_refs inner.core) (ref_in c by ∷ []) (of.2 (left_ends of.1 (some_of by.args) h) c n)
    (one_fits c by (right_ends of.1 (some_of by.args) h)))
layer (Term-F.Weaken at p q of) h c n =
    let inner = of.0 c n in
    fits_as (Weaken _ _ inner.core) _ (at-Weaken (List Ref) refs_step _ _ inner.core) (of.2 h c n)

pub terms_fit : TermArgumentsFit
terms_fit t h c n = two_terms Bounded term_layer ends_layer layer t h c n
