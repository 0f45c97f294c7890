-- The record that a term derives, from what is concluded where its bound names are parameters too.
use Rattle.std.proofs.Common.{◌≡◌, ℕ, ℤ, List, [], ◌∷◌, ◌++◌, map, length, Bool, true, false, ◌&&◌}
use Rattle.std.proofs.Common.{Option, Some, None, Ok, IsTrue, refl, sym, ap, ◌∙◌, subst, append-nil, arith}
use Rattle.std.specs.Prelude.{All}
use Rattle.std.specs.Option.{IsSome}
use Rattle.std.specs.List.{list_all}
use Rattle.std.proofs.lemmas.Bool.{ltb-true}
use Rattle.std.proofs.lemmas.List.Elements.{All-append}
use Rattle.case_tables.specs.declared.code_table.Code.{Code}
use Rattle.core_terms.specs.Conditions.{IsRange, NumbersBoundNames, TermWellScoped, bound_ranges, is_below, parts_of}
use Rattle.core_terms.specs.declared.documents.PTerm.{PTerm}
use Rattle.core_terms.specs.declared.programs.CSlot.{CSlot}
use Rattle.core_terms.specs.declared.trees.CForm.{CForm}
use Rattle.core_terms.specs.declared.trees.Range.{Range}
use Rattle.fair_rounds.specs.Records.{holding, are_in_ranges, Stands}
use Rattle.fair_rounds.specs.declared.records.Record.{Record}
use Rattle.rules_table.proofs.BoundNames.{FormSees, TermSees, numbered, term_well}
use Rattle.rules_table.proofs.DeriveSound.{lows, lows_in, both_in, in_front}
use Rattle.rules_table.proofs.EachLaws.{from_all}
use Rattle.rules_table.proofs.NumberLaws.{same_length}
use Rattle.rules_table.proofs.RowEquations.{concluded-is, derive-is}
use Rattle.rules_table.proofs.SiteLaws.{went_on, concluded_is}
use Rattle.rules_table.proofs.TermSound.{term_sound}
use Rattle.rules_table.specs.Conclusion.{Conclusion}
use Rattle.rules_table.specs.Limits.{fits, is_provable}
use Rattle.rules_table.specs.Sound.{AreFull, BookStands, IsSite}
use Rattle.rules_table.specs.Table.{Site, needs, goals_of, concluded}
use Rattle.rules_table.specs.Terms.{is_well_bound, term_of, derive_of, all_ranges, leads_record}
use Rattle.rules_table.specs.Validity.{AllValid}
use Rattle.rules_table.specs.declared.led.Led.{Led}
use Rattle.meaning_executions.specs.Execution.{System}
use Rattle.meaning_executions.specs.Properties.{Test, LeadsTo}
use Rattle.leadsto_rules.proofs.RangeLaws.{parts_ranges}
use Rattle.leadsto_rules.proofs.VisibleLaws.{Depends, term_depends}
use Rattle.leadsto_rules.specs.Deriving.{narrowed, narrowed_row}
use Rattle.leadsto_rules.specs.Leading.{IsTermIn}

pub same_forms : (fs : List CForm) → map (λ (f : CForm). f) fs ≡ fs
same_forms [] = refl
same_forms (f ∷ fs) = ap (λ gs. f ∷ gs) (same_forms fs)

-- p and q are the same, and so is what is concluded
pub narrowed_is : (slots : List CSlot) (ranges params : List Range) (bound : ℕ) (made : Record) (forms : List CForm) →
    concluded slots ranges (narrowed params bound made) forms
    ≡ narrowed_row params bound (concluded slots ranges made forms)
narrowed_is slots ranges params bound made forms =
    concluded-is slots ranges (narrowed params bound made) forms
    ∙ go ((fits slots ranges made.p && fits slots ranges made.q) && list_all (is_provable slots ranges) forms)
    ∙ ap (narrowed_row params bound) (sym (concluded-is slots ranges made forms))
  where
    go : (b : Bool) → needs b Code.FormulaTooLarge
        (Ok (record { made = narrowed params bound made; goals = goals_of ranges forms }))
        ≡ narrowed_row params bound
        (needs b Code.FormulaTooLarge (Ok (record { made = made; goals = goals_of ranges forms })))
    go true = refl
    go false = refl

is_some_of : (o : Option ℕ) → IsSome o → (n : ℕ) × (o ≡ Some n)
is_some_of None t = cc
is_some_of (Some n) t = (n, refl)

-- a term's bound names have their ranges
pub names_bound : (slots : List CSlot) (params : List Range) (t : PTerm) →
    TermWellScoped slots (params ++ bound_ranges t) (is_below (length params)) t → NumbersBoundNames (length params) t →
    IsTrue (is_well_bound (params ++ bound_ranges t) t) × AreFull (bound_ranges t)
names_bound slots params t sees numbers =
    let visible : ℕ → Bool = is_below (length params) in
    let number = is_some_of (numbered t (length params)) numbers in
    let well = term_well t (params ++ bound_ranges t) params [] visible number.0 number.1
    (λ k h. ltb-true k (length params) h)
    (record {
      forms = from_all FormSees (parts_of t visible).forms sees.form_names;
      terms = from_all TermSees (parts_of t visible).terms sees.term_names;
      ranges = from_all IsRange (parts_of t visible).ranges sees.ranges_are;
    })
    (ap (λ b. params ++ b) (sym (append-nil (bound_ranges t)))) in
    (well.well, well.full)

-- the ranges of all names are such, and the term's parts fit
pub all_are_ranges : (slots : List CSlot) (params : List Range) (t : PTerm) → All IsRange params →
    TermWellScoped slots (params ++ bound_ranges t) (is_below (length params)) t → All IsRange
    (params ++ bound_ranges t)
all_are_ranges slots params t are sees =
    All-append IsRange params (bound_ranges t) are
    (subst (λ rs. All IsRange rs) (parts_ranges t (is_below (length params))) sees.ranges_are)

pub sees_parts : (slots : List CSlot) (params : List Range) (t : PTerm) →
    TermWellScoped slots (params ++ bound_ranges t) (is_below (length params)) t →
    IsTermIn slots (params ++ bound_ranges t) t
sees_parts slots params t sees =
    (is_below (length params), record { forms = sees.forms; terms = sees.terms; ranges_are = sees.ranges_are })

-- that what a term gives stands

-- what depends on the step's parameters alone is worth the same, whatever the bound names are
same_test : (params : List Range) (e d : List ℤ) (f : CForm) → IsTrue (are_in_ranges params e) →
    Depends (is_below (length params)) f → holding (e ++ d) f ≡ holding e f
same_test params e d f inside own = λ i s. own s (e ++ d) e (λ n t.
    let less = ltb-true n (length params) t in
    let long = same_length params e inside in in_front e d n (omega (arith, less, long))) i

-- of tests that are the same
leads_alike : {x : System} {bound : ℕ} {p q : Test} (p' q' : Test) → p ≡ p' → q ≡ q' → LeadsTo x p q bound →
    LeadsTo x p' q' bound
leads_alike {x} {bound} {p} {q} p' q' e f h =
    subst (λ t. LeadsTo x p' t bound) f (subst (λ t. LeadsTo x t q bound) e h)

-- the record that a term gives stands
pub derived_stands : (site : Site) → IsSite site → (book : List Record) → BookStands site book → (t : PTerm) →
    TermWellScoped site.slots (all_ranges site t) (is_below (length site.params)) t → NumbersBoundNames
    (length site.params) t →
    (d : Conclusion) → derive_of site t book ≡ Ok d → AllValid site.slots d.goals →
    Stands site.slots site.program d.made
derived_stands site good book stands t sees numbers d e valid =
    let ranges : List Range = all_ranges site t in
    let part = went_on (term_of site ranges book t) (λ l. concluded site.slots ranges (leads_record site l) l.forms) d
    (sym (derive-is site t book) ∙ e) in
    let l : Led = part.0 in
    let is = concluded_is site.slots ranges (leads_record site l) l.forms d part.2 in
    let shown = subst (λ (x : Conclusion). AllValid site.slots x.goals) is valid in
    let bound = names_bound site.slots site.params t sees numbers in
    let own = term_depends site ranges book (is_below (length site.params)) t sees l part.1 in
    subst (λ (x : Conclusion). Stands site.slots site.program x.made) (sym is)
    (λ n inside.
    let more : List ℤ = lows (bound_ranges t) in
    let led = term_sound site good book stands t ranges bound.0 l part.1 shown (n ++ more)
    (both_in site.params (bound_ranges t) n more inside (lows_in (bound_ranges t) bound.1)) in
    leads_alike _ _ (same_test site.params n more l.p inside own.p) (same_test site.params n more l.q inside own.q)
    led)
