-- What each kind of term becomes, one equation for each; and formulas one after the other.
use Rattle.std.proofs.Common.{◌≡◌, ℕ, List, [], ◌∷◌, ◌++◌, Bool, true, false, Result, Ok, Err}
use Rattle.std.proofs.Common.{refl, sym, ap, ◌∙◌}
use Rattle.std.specs.Prelude.{◌||◌}
use Rattle.std.proofs.lemmas.List.Folds.{list_any-append}
use Rattle.case_tables.specs.declared.word_table.Word.{Word}
use Rattle.unity_syntax.specs.declared.term.Term
use Rattle.unity_syntax.specs.declared.term.Term.{Term, fold-roll-Term}
use Rattle.unity_syntax.specs.declared.term.Term.TheOpen.{Term-F}
use Rattle.unity_syntax.specs.declared.term.Term.TheVariants.{rolls-Pair}
use Rattle.core_terms.specs.declared.documents.PTerm.{PTerm}
use Rattle.names_rules.specs.declared.named.NameFault.{NameFault}
use Rattle.expand_rules.specs.declared.cores.Formed.{Formed}
use Rattle.expand_rules.specs.declared.cores.Flaws.{Flaws}
use Rattle.expand_rules.specs.Measures.{both_flaws}
use Rattle.expand_rules.specs.Limits.{is_too_large}
use Rattle.expand_rules.proofs.FlawLaws.{flaws_assoc}
use Rattle.expand_steps.specs.Elements.{flaws_in, some_too_large, StopsLarge, GivesOne}
use Rattle.expand_steps.specs.ProofTerms.{Place, Terming, Termed, Terms, term_layer, termed}

pub termed-Pair : (at : ℕ) (which : Word) (first second : Term) (c : Place) (next : ℕ) →
    termed (Term.Pair at which first second) c next ≡
    term_layer (Term-F.Pair at which (termed first) (termed second)) c next
termed-Pair at which first second c next =
    ap (λ x. termed x c next) (sym (rolls-Pair at which first second)) ∙
    ap (λ m. m c next) (fold-roll-Term Terming term_layer (Term-F.Pair at which first second))

pub flaws-append : (fs gs : List Formed) → flaws_in (fs ++ gs) ≡ both_flaws (flaws_in fs) (flaws_in gs)
flaws-append [] gs = refl
flaws-append (f ∷ fs) gs = ap (both_flaws f.measure.flaws) (flaws-append fs gs)
    ∙ flaws_assoc f.measure.flaws (flaws_in fs) (flaws_in gs)

pub large-append : (fs gs : List Formed) → some_too_large (fs ++ gs) ≡ (some_too_large fs || some_too_large gs)
large-append fs gs = list_any-append is_too_large fs gs

-- formulas, and further ones
pub noted_both : (old middle new : Flaws) (fs gs : List Formed) → middle ≡ both_flaws old (flaws_in fs) →
    new ≡ both_flaws middle (flaws_in gs) → new ≡ both_flaws old (flaws_in (fs ++ gs))
noted_both old middle new fs gs m n = n ∙ ap (λ x. both_flaws x (flaws_in gs)) m
    ∙ sym (flaws_assoc old (flaws_in fs) (flaws_in gs)) ∙ ap (both_flaws old) (sym (flaws-append fs gs))

or_none : (a b : Bool) → a ≡ false → b ≡ false → (a || b) ≡ false
or_none true b h k = h
or_none false b h k = k

pub fits_both : (fs gs : List Formed) → some_too_large fs ≡ false → some_too_large gs ≡ false →
    some_too_large (fs ++ gs) ≡ false
fits_both fs gs h k = large-append fs gs ∙ or_none (some_too_large fs) (some_too_large gs) h k

or_first : (a b : Bool) → a ≡ true → (a || b) ≡ true
or_first true b h = refl
or_first false b h = cc h

or_second : (a b : Bool) → b ≡ true → (a || b) ≡ true
or_second true b h = refl
or_second false b h = h

pub stops_first : (e : NameFault) (front : ℕ) (fs gs : List Formed) → StopsLarge e front (some_too_large fs) →
    StopsLarge e front (some_too_large (fs ++ gs))
stops_first NameFault.Memory front fs gs s = tt
stops_first (NameFault.Fault code at) front fs gs s =
    (s.0, s.1, large-append fs gs ∙ or_first (some_too_large fs) (some_too_large gs) s.2)

pub stops_later : (e : NameFault) (front : ℕ) (fs gs : List Formed) → StopsLarge e front (some_too_large gs) →
    StopsLarge e front (some_too_large (fs ++ gs))
stops_later NameFault.Memory front fs gs s = tt
stops_later (NameFault.Fault code at) front fs gs s =
    (s.0, s.1, large-append fs gs ∙ or_second (some_too_large fs) (some_too_large gs) s.2)

-- a term whose formulas follow these
pub terms_after : (r : Result PTerm NameFault) (next front : ℕ) (old middle new : Flaws) (fs : List Formed)
    (t : Termed) → middle ≡ both_flaws old (flaws_in fs) → some_too_large fs ≡ false →
    Terms r next front middle new t → Terms r next front old new (record t { formulas = fs ++ t.formulas })
terms_after (Ok core) next front old middle new fs t m h given = (
  record {
    same = given.0.same;
    noted = noted_both old middle new fs t.formulas m given.0.noted;
    fits = fits_both fs t.formulas h given.0.fits;
  },
  given.1,
)
terms_after (Err e) next front old middle new fs t m h stops = stops_later e front fs t.formulas stops

-- what is made after other formulas
pub expands_after : {X : Type 0} (r : Result X NameFault) (core : X) (front : ℕ) (old middle new : Flaws)
    (fs gs : List Formed) → middle ≡ both_flaws old (flaws_in fs) → some_too_large fs ≡ false →
    GivesOne r core front middle new gs → GivesOne r core front old new (fs ++ gs)
expands_after (Ok x) core front old middle new fs gs m h given = record {
  same = given.same;
  noted = noted_both old middle new fs gs m given.noted;
  fits = fits_both fs gs h given.fits;
}
expands_after (Err e) core front old middle new fs gs m h stops = stops_later e front fs gs stops
