-- The record that a step gets is kept: it stands, and what it stands under holds throughout.
use Rattle.std.proofs.Common.{◌≡◌, ℕ, nat_eq, ℤ, List, [], ◌∷◌, ◌++◌, Bool, not, ◌&&◌, ◌||◌}
use Rattle.std.proofs.Common.{Option, Some, None, Result, Ok, Err, IsTrue, refl, sym, ap, ◌∙◌, subst, length}
use Rattle.std.proofs.Common.{append-nil, max}
use Rattle.std.specs.Prelude.{IsSome, ⊤}
use Rattle.std.specs.List.{list_all, find}
use Rattle.std.proofs.lemmas.Bool.{eqb-true, ltb-true}
use Rattle.case_tables.specs.declared.kind_table.Kind.{Kind}
use Rattle.case_tables.specs.declared.rule_table.RuleName.{RuleName}
use Rattle.case_tables.specs.declared.code_table.Code.{Code}
use Rattle.meaning_states.specs.State.{is_state}
use Rattle.meaning_states.proofs.StepTheorems.{and_left, and_right, both_true}
use Rattle.meaning_executions.specs.Properties.{IsInvariant}
use Rattle.core_terms.specs.declared.trees.Range.{Range}
use Rattle.core_terms.specs.declared.trees.CForm.{CForm}
use Rattle.core_terms.specs.declared.trees.CForm.TheVariants.{Top, Bottom}
use Rattle.core_terms.specs.declared.programs.CSlot.{CSlot}
use Rattle.core_terms.specs.declared.programs.CProgram.{CProgram}
use Rattle.core_terms.specs.declared.documents.Helper.{Helper}
use Rattle.core_terms.specs.declared.documents.Ref.{Ref}
use Rattle.core_terms.specs.declared.documents.PTerm.{PTerm, out-PTerm}
use Rattle.core_terms.specs.declared.documents.PTerm.TheOpen.{PTerm-F}
use Rattle.core_terms.specs.declared.documents.CRule.{CRule}
use Rattle.core_terms.specs.declared.documents.CStep.{CStep}
use Rattle.core_terms.specs.Folding.{and_form, or_form}
use Rattle.core_terms.specs.Trees.{same_form}
use Rattle.core_terms.specs.Values.{form_value}
use Rattle.core_terms.specs.Steps.{slot_ranges}
use Rattle.core_terms.specs.Conditions.{IsRange, IsProgram, KindFits, IsStep, RuleWellScoped, parts_of}
use Rattle.core_terms.specs.Conditions.{is_below}
use Rattle.core_terms.specs.Conditions.{bound_ranges, rule_ranges}
use Rattle.core_terms.proofs.SameLaws.{same_form_is}
use Rattle.core_terms.proofs.BoolLaws.{le_passes}
use Rattle.fair_rounds.specs.declared.records.Record.{Record}
use Rattle.fair_rounds.specs.from_executor.CoreSystem.{core_system}
use Rattle.fair_rounds.specs.Records.{holding, meets, are_in_ranges, KindStands, Stands, IsKept}
use Rattle.layer_laws.proofs.lemmas_from_meaning_laws.StandingTheorems.{unless_narrows, ensures_narrows}
use Rattle.fair_rounds.proofs.RecordTheorems.{invariant_kept}
use Rattle.rules_table.specs.declared.led.Led.{Led}
use Rattle.rules_table.specs.Conclusion.{Conclusion}
use Rattle.rules_table.specs.Validity.{AllValid}
use Rattle.rules_table.specs.Forms.{imply}
use Rattle.rules_table.specs.Table.{Site, needs, go_on, under_with, goals_of, record_of, concluded, claims_defined}
use Rattle.rules_table.specs.Table.{is_invariant, is_unless, is_ensures, defined_forms, defined_of, invariant_forms}
use Rattle.rules_table.specs.Table.{invariant_of, unless_forms, unless_of, is_helper, helper_forms, ensures_of}
use Rattle.rules_table.specs.Table.{weaken_of, pair_kinds, shown_forms, first_helper, ending}
use Rattle.rules_table.specs.Table.{is_part_pair, fixed_forms, fixed_of}
use Rattle.rules_table.specs.Table.{union_defined_of, union_invariant_of, union_unless_of, union_ensures_of}
use Rattle.rules_table.specs.Table.{instance_of}
use Rattle.rules_table.specs.Terms.{known, found, referred, term_of, all_ranges, leads_record, derive_of}
use Rattle.rules_table.specs.Sound.{NamesNoParameter, NameNoParameter, NamesBelow, AreFull, IsSite, IsPremise}
use Rattle.rules_table.specs.Sound.{BookStands}
use Rattle.rules_table.specs.Sound.{IsUnionOf}
use Rattle.rules_table.specs.Sound.{IsPartPremise, HoldThroughout}
use Rattle.rules_table.specs.Further.{is_leadsto, record_within, complete_of, pair_by}
use Rattle.rules_table.specs.Walk.{Around, has_end, suits_term, is_kind, is_empty, used, suits, text_of}
use Rattle.rules_table.specs.Walk.{same_again, again_of, proof_of, part_record, first_part, second_part, serves_union}
use Rattle.rules_table.specs.Walk.{serves_after, united, program_of, superposed, applied}
use Rattle.rules_table.specs.Walk.{claims, step_site, rule_of, has_defined, is_first}
use Rattle.rules_table.specs.Layers.{is_layer, names_old, helper_over, is_carried, starts_below, record_over}
use Rattle.rules_table.specs.Layers.{superpose_of}
use Rattle.rules_table.proofs.NamedLaws.{below_none, fitting}
use Rattle.rules_table.proofs.EachLaws.{Each, from_all, found_in, each_at}
use Rattle.rules_table.proofs.BoundNames.{FormSees, TermSees, numbered, term_well}
use Rattle.rules_table.specs.WalkLaws.{StandsOver}
use Rattle.rules_table.proofs.SiteLaws.{met, went_on, concluded_is, closed_all}
use Rattle.rules_table.proofs.KindLaws.{invariant_is, ensures_is, leadsto_is, same_kind}
use Rattle.rules_table.proofs.PairLaws.{given_kind, given_helper, of_two, of_pair_by, given_kind_is}
use Rattle.rules_table.proofs.PairLaws.{four_given}
use Rattle.rules_table.proofs.TextSound.{defined_sound, invariant_sound, unless_sound, fixed_sound}
use Rattle.rules_table.proofs.EnsuresSound.{ensures_sound}
use Rattle.rules_table.proofs.CalcSound.{of_one, weaken_sound, instance_sound, instance_is}
use Rattle.rules_table.proofs.FurtherSound.{complete_sound, pair_by_sound}
use Rattle.rules_table.proofs.DeriveSound.{derive_sound, lows, lows_in}
use Rattle.rules_table.proofs.UnionSound.{union_defined_sound, union_invariant_sound, union_unless_sound}
use Rattle.rules_table.proofs.UnionSound.{union_ensures_sound, under_holds, union_shows}
use Rattle.rules_table.proofs.LayerLaws.{OfOther, row_met, other_given, layer_given}
use Rattle.rules_table.proofs.LayerSound.{superpose_sound, superpose_begins, superpose_shows}
use Rattle.rules_table.proofs.UnderLaws.{Holding, none_holding, both_holding, both_closed, each_closed, term_under}

-- an answer, where there is one, is this record with these formulas
abbrev pub Gives : Result Conclusion Code → List Range → Record → List CForm → Type 0
Gives answer ranges made forms =
    (x : Conclusion) → answer ≡ Ok x → x ≡ (record { made = made; goals = goals_of ranges forms })

end_gives : (slots : List CSlot) (ranges : List Range) (made : Record) (forms : List CForm) →
    Gives (concluded slots ranges made forms) ranges made forms
end_gives slots ranges made forms x e = concluded_is slots ranges made forms x e

need_gives : (b : Bool) (code : Code) (rest : Result Conclusion Code) (ranges : List Range) (made : Record)
    (forms : List CForm) → Gives rest ranges made forms → Gives (needs b code rest) ranges made forms
need_gives b code rest ranges made forms gives x e = gives x (met b code rest x e).1

-- a record that was made in the table's form
abbrev pub made_of : Site → Kind → CForm → CForm → List CForm → Option Helper → ℕ → Record
made_of site kind p q more helper bound = record (record_of site kind p q more helper) { bound = bound }

-- what is kept of a step's record
pub record Settled (site : Site) (kind : Kind) (r : Record) : Type 0 where
  pub stands : Stands site.slots site.program r
  pub under : IsInvariant (core_system site.slots site.program) (meets site.slots r.under)
  pub closed : NameNoParameter r.under
  pub params : r.params ≡ site.params
  pub program : r.program ≡ site.program.name
  pub kind_is : r.kind ≡ kind

settled : (site : Site) → IsSite site → HoldThroughout site site.using → (kind : Kind) (p q : CForm)
    (more : List CForm)
    (helper : Option Helper) (bound : ℕ) → Holding site more → (r : Record) →
    r ≡ made_of site kind p q more helper bound → Stands site.slots site.program r → Settled site kind r
settled site good using kind p q more helper bound holds r is stands = record {
  stands = stands;
  under = subst (λ (m : Record). IsInvariant (core_system site.slots site.program) (meets site.slots m.under))
      (sym is)
      (under_holds site good more using holds.throughout);
  closed = subst (λ (m : Record). NameNoParameter m.under) (sym is)
      (each_closed [] (site.using ++ more) tt (both_closed site.using more good.closed holds.closed));
  params = ap (λ (m : Record). m.params) is;
  program = ap (λ (m : Record). m.program) is;
  kind_is = ap (λ (m : Record). m.kind) is;
}

-- by what an answer gives
settled_by : (site : Site) → IsSite site → HoldThroughout site site.using → (kind : Kind) (p q : CForm)
    (more : List CForm) (helper : Option Helper) (bound : ℕ) → Holding site more → (answer : Result Conclusion Code)
    (ranges : List Range) (forms : List CForm) →
    Gives answer ranges (made_of site kind p q more helper bound) forms → (x : Conclusion) → answer ≡ Ok x →
    Stands site.slots site.program x.made → Settled site kind x.made
settled_by site good using kind p q more helper bound holds answer ranges forms gives x e stands =
    settled site good using kind p q more helper bound holds x.made (ap (λ (y : Conclusion). y.made) (gives x e))
    stands

-- what is known of each record of the book
pub record RecordGood (slots : List CSlot) (programs : List CProgram) (a : Record) : Type 0 where
  pub kept : (c : CProgram) → find (λ b. nat_eq b.name a.program) programs ≡ Some c → IsKept slots c a
  pub closed : NameNoParameter a.under
  pub fits : KindFits a.kind a.params a.p a.q
  pub names : NamesBelow (length a.params) a.p

known_is : (o : Option Record) (a : Record) → known o ≡ Ok a → o ≡ Some a
known_is None a e = cc
known_is (Some b) a e = let same : b ≡ a = cc in ap (λ r. Some r) same

found_good : (P : Record → Type 0) (book : List Record) → Each P book → (r : Ref) (a : Record) →
    found book r ≡ Ok a → P a
found_good P book each r a e =
    let test : Record → Bool = λ b. nat_eq b.program r.program && nat_eq b.name r.step in
    let at = found_in test book a (known_is (find test book) a e) in
    each_at P book each at.place a at.there

invariant_params : (k : Kind) (params : List Range) (p q : CForm) → k ≡ Kind.Invariant → KindFits k params p q →
    params ≡ []
invariant_params Kind.Invariant params p q e fits = fits.0
invariant_params _ params p q e fits = cc

pub defined_params : (k : Kind) (params : List Range) (p q : CForm) → k ≡ Kind.Defined → KindFits k params p q →
    params ≡ []
defined_params Kind.Defined params p q e fits = fits.0
defined_params _ params p q e fits = cc

pub no_params : (params : List Range) → params ≡ [] → IsTrue (are_in_ranges params [])
no_params params e = subst (λ rs. IsTrue (are_in_ranges rs [])) (sym e) refl

is_some_of : (o : Option ℕ) → IsSome o → (n : ℕ) × (o ≡ Some n)
is_some_of None t = cc
is_some_of (Some n) t = (n, refl)

full_ranges : (rs : List Range) → Each IsRange rs → AreFull rs
full_ranges [] each = tt
full_ranges (r ∷ rs) each = (le_passes r.lo r.hi each.0.some, full_ranges rs each.1)

-- a premise under the step's own name stands as it did, where U holds too
again_kind : (site : Site) → NameNoParameter site.using → (a : Record) (e : List ℤ) → (k : Kind) → IsTrue (has_end k) →
    KindStands k site.slots site.program a e →
    KindStands k site.slots site.program (record_of site k a.p a.q a.under a.helper) e
again_kind site closed a e Kind.Unless ends stands =
    unless_narrows (core_system site.slots site.program) (meets site.slots a.under)
    (meets site.slots (under_with site a.under)) (holding e a.p) (holding e a.q) (of_one site closed a.under) stands
again_kind site closed a e Kind.Ensures ends stands = record {
  choice = stands.choice;
  ensured = ensures_narrows (core_system site.slots site.program) (meets site.slots a.under)
      (meets site.slots (under_with site a.under)) (holding e a.p) (holding e a.q) stands.choice
      (of_one site closed a.under) stands.ensured;
  named = stands.named;
}
again_kind site closed a e _ ends stands = cc

again_stands : (site : Site) → IsSite site → (a : Record) → IsTrue (has_end a.kind) → IsPremise site a →
    (r : Record) → r ≡ record_of site a.kind a.p a.q a.under a.helper → Stands site.slots site.program r
again_stands site good a ends premise r is =
    subst (λ (m : Record). Stands site.slots site.program m) (sym is) (λ e inside.
    again_kind site good.closed a e a.kind ends
    (premise.stands e (subst (λ rs. IsTrue (are_in_ranges rs e)) (sym premise.params) inside)))

-- a term that gives a step of another kind than leadsto
not_leads : (t : PTerm-F PTerm) (k : Kind) → (IsTrue (is_leadsto k) → ⊥) → IsTrue (suits_term t k) →
    IsTrue (has_end k)
not_leads (PTerm-F.From r) Kind.Leadsto other suited = absurd (other refl)
not_leads (PTerm-F.From r) _ other suited = suited
not_leads _ k other suited = absurd (other suited)

-- a program and one of its steps, where U is what its `using` gives
module _ (seen : Around) (c : CProgram) (named : find (λ b. nat_eq b.name c.name) seen.programs ≡ Some c)
    (book : List Record) (goods : Each (RecordGood seen.slots seen.programs) book) where
  abbrev slots : List CSlot
  slots = seen.slots

  abbrev programs : List CProgram
  programs = seen.programs

  program_named : (a : Record) → IsTrue (nat_eq a.program c.name) →
      find (λ b. nat_eq b.name a.program) programs ≡ Some c
  program_named a t = ap (λ n. find (λ b. nat_eq b.name n) programs) (eqb-true a.program c.name t) ∙ named

  -- what `using` gives
  pub used_good : (refs : List Ref) (fs : List CForm) → used c book refs ≡ Ok fs → (site : Site) →
      site.slots ≡ slots → site.program ≡ c → Holding site fs
  used_good [] fs e site i j =
      let same : [] ≡ fs = cc in subst (λ gs. Holding site gs) same (none_holding site)
  used_good (r ∷ rest) fs e site i j =
      let one = went_on (found book r) (λ a.
      needs (nat_eq a.program c.name) Code.OtherProgram
      (needs (is_invariant a.kind && is_empty r.args) Code.NotInvariant
      (go_on (used c book rest) (λ gs. Ok (a.p ∷ gs))))) fs e in
      let a : Record = one.0 in
      let two = met (nat_eq a.program c.name) Code.OtherProgram
      (needs (is_invariant a.kind && is_empty r.args) Code.NotInvariant
      (go_on (used c book rest) (λ gs. Ok (a.p ∷ gs)))) fs one.2 in
      let three = met (is_invariant a.kind && is_empty r.args) Code.NotInvariant
      (go_on (used c book rest) (λ gs. Ok (a.p ∷ gs))) fs two.1 in
      let four = went_on (used c book rest) (λ gs. Ok (a.p ∷ gs)) fs three.1 in
      let good = found_good (RecordGood slots programs) book goods r a one.1 in
      let is = invariant_is a.kind (and_left (is_invariant a.kind) (is_empty r.args) three.0) in
      let none = invariant_params a.kind a.params a.p a.q is good.fits in
      let holds = invariant_kept slots c a [] is (no_params a.params none) (good.kept c (program_named a two.0)) in
      let rest_holds = used_good rest four.0 four.1 site i j in
      let closed : NamesNoParameter a.p =
      below_none a.p (subst (λ rs. NamesBelow (length rs) a.p) none good.names) in
      let here : IsInvariant (core_system site.slots site.program) (holding [] a.p) =
      subst (λ ss. IsInvariant (core_system ss site.program) (holding [] a.p)) (sym i)
      (subst (λ b. IsInvariant (core_system slots b) (holding [] a.p)) (sym j) holds) in
      let same : a.p ∷ four.0 ≡ fs = let given = four.2 in cc in
      subst (λ gs. Holding site gs) same (record {
        closed = (closed, rest_holds.closed);
        throughout = λ first choices later run place s there.
            both_true (form_value s [] a.p) (list_all (λ f. form_value s [] f) four.0)
            (here first choices later run place s there)
            (rest_holds.throughout first choices later run place s there);
      })

  module _ (step : CStep) (fits : IsStep slots step) (using : List CForm)
      (good : IsSite (step_site slots c step using))
      (holds : HoldThroughout (step_site slots c step using) using) where
    abbrev pub site : Site
    site = step_site slots c step using

    abbrev x : Conclusion → Record
    x y = y.made

    -- the instance of a record that a reference finds
    under_kept : (r : Ref) (a : Record) → found book r ≡ Ok a → IsTrue (nat_eq a.program c.name) → Holding site
        a.under
    under_kept r a e t =
        let known = found_good (RecordGood slots programs) book goods r a e in
        let kept = known.kept c (program_named a t) in
        record {
          closed = known.closed;
          throughout = λ first choices later run place s there.
              and_right (is_state (slot_ranges slots) s) (list_all (λ f. form_value s [] f) a.under)
              (kept.under first choices later run place s there);
        }

    pub referred_holding : (ranges : List Range) (serves : Kind → Bool) (r : Ref) (b : Record) →
        referred site ranges book serves r ≡ Ok b → Holding site b.under
    referred_holding ranges serves r b e =
        let one = went_on (found book r) (λ a. needs (nat_eq a.program c.name) Code.OtherProgram
        (needs (serves a.kind) Code.WrongKind (instance_of site ranges a r.args))) b e in
        let a : Record = one.0 in
        let two = met (nat_eq a.program c.name) Code.OtherProgram
        (needs (serves a.kind) Code.WrongKind (instance_of site ranges a r.args)) b one.2 in
        let three = met (serves a.kind) Code.WrongKind (instance_of site ranges a r.args) b two.1 in
        let is = instance_is site ranges a r.args b three.1 in
        subst (λ (m : Record). Holding site m.under) is.1 (under_kept r a one.1 two.0)

    pub book_stands : BookStands site book
    book_stands r a e t =
        ((found_good (RecordGood slots programs) book goods r a e).kept c (program_named a t)).stands

    pub referred_premise : (serves : Kind → Bool) (r : Ref) (b : Record) →
        referred site step.params book serves r ≡ Ok b → IsTrue (serves b.kind) × IsPremise site b
    referred_premise serves r b e =
        let one = went_on (found book r) (λ a. needs (nat_eq a.program c.name) Code.OtherProgram
        (needs (serves a.kind) Code.WrongKind (instance_of site step.params a r.args))) b e in
        let a : Record = one.0 in
        let two = met (nat_eq a.program c.name) Code.OtherProgram
        (needs (serves a.kind) Code.WrongKind (instance_of site step.params a r.args)) b one.2 in
        let three = met (serves a.kind) Code.WrongKind (instance_of site step.params a r.args) b two.1 in
        let is = instance_is site step.params a r.args b three.1 in
        let params : b.params ≡ step.params = sym (ap (λ (m : Record). m.params) is.1) in (
          subst (λ (m : Record). IsTrue (serves m.kind)) is.1 three.0,
          record {
            params = params;
            stands = λ n inside.
                instance_sound site step.params a r.args b (book_stands r a one.1 two.0) three.1 n
                (subst (λ rs. IsTrue (are_in_ranges rs n)) params inside);
          },
        )

    none : Holding site []
    none = none_holding site

    text_case : (k : Kind) → (y : Conclusion) → text_of seen.starts site step k ≡ Ok y → AllValid slots y.goals →
        Settled site k y.made
    unfolding defined_of invariant_of unless_of fixed_of
    text_case Kind.Defined y e valid =
        settled_by site good holds Kind.Defined Top Top [] None 0 none (defined_of site (seen.starts c)) step.params
        (defined_forms site)
        (need_gives (seen.starts c) Code.NoStart _ step.params _ (defined_forms site) (end_gives slots step.params _
        (defined_forms site))) y e
        (defined_sound site good (seen.starts c) y e valid)
    text_case Kind.Invariant y e valid =
        settled_by site good holds Kind.Invariant step.p Bottom [] None 0 none (invariant_of site step.p) step.params
        (invariant_forms site step.p) (end_gives slots step.params _ (invariant_forms site step.p)) y e
        (invariant_sound site good step.p y e valid)
    text_case Kind.Unless y e valid =
        settled_by site good holds Kind.Unless step.p step.q [] None 0 none (unless_of site step.p step.q) step.params
        (unless_forms site step.p step.q) (end_gives slots step.params _ (unless_forms site step.p step.q)) y e
        (unless_sound site good step.p step.q y e valid)
    text_case Kind.Fixed y e valid =
        settled_by site good holds Kind.Fixed step.p Bottom [] None 0 none (fixed_of site step.p) step.params
        (fixed_forms site step.p) (end_gives slots step.params _ (fixed_forms site step.p)) y e
        (fixed_sound site good step.p y e valid)
    text_case _ y e valid = cc

    ensures_case : (h : Helper) → (y : Conclusion) → ensures_of site step.p step.q h ≡ Ok y → AllValid slots y.goals →
        Settled site Kind.Ensures y.made
    unfolding ensures_of
    ensures_case h y e valid =
        let forms : List CForm = unless_forms site step.p step.q ++ helper_forms site step.p step.q h in
        settled_by site good holds Kind.Ensures step.p step.q [] (Some h) 0 none (ensures_of site step.p step.q h)
        step.params forms
        (need_gives (is_helper site h) Code.NoSuchStatement _ step.params _ forms
        (end_gives slots step.params _ forms)) y e
        (ensures_sound site good step.p step.q h y e valid)

    weaken_case : (a : Record) → IsPremise site a → Holding site a.under → (y : Conclusion) →
        weaken_of site a step.q ≡ Ok y → AllValid slots y.goals → Settled site a.kind y.made
    unfolding weaken_of
    weaken_case a premise under y e valid =
        let forms : List CForm = imply (using ++ (a.q ∷ [])) step.q ∷ [] in
        settled_by site good holds a.kind a.p step.q a.under a.helper 0 under (weaken_of site a step.q)
        step.params forms
        (need_gives (is_unless a.kind || is_ensures a.kind) Code.WrongKind _ step.params _ forms
        (end_gives slots step.params _ forms)) y e
        (weaken_sound site good a step.q premise y e valid)

    -- a record that stands is kept
    abbrev Keeps : Kind → Result Conclusion Code → Type 0
    Keeps kind answer = (x : Conclusion) → answer ≡ Ok x → Stands slots c x.made → Settled site kind x.made

    need_keeps : (kind : Kind) (asked : Bool) (code : Code) (rest : Result Conclusion Code) → Keeps kind rest →
        Keeps kind (needs asked code rest)
    need_keeps kind asked code rest keeps x e stands = keeps x (met asked code rest x e).1 stands

    pair_case : (k : Kind) (which : RuleName) (a b : Record) → IsPremise site a → IsPremise site b →
        Holding site a.under → Holding site b.under → (y : Conclusion) → pair_by site k which a b ≡ Ok y →
        AllValid slots y.goals → Settled site (given_kind k which b.kind) y.made
    pair_case k which a b pa pb ua ub y e valid =
        let kind : Kind = given_kind k which b.kind in
        let helper : Option Helper = given_helper k which b.helper in
        of_pair_by (Keeps kind) site a b k which (λ code. λ (x : Conclusion) f stands. cc) (need_keeps kind)
        (λ p q bound. settled_by site good holds kind p q (a.under ++ b.under) helper bound
        (both_holding site a.under b.under ua ub)
        (concluded slots step.params (of_two site kind helper p q bound a b) []) step.params []
        (end_gives slots step.params _ [])) y e
        (pair_by_sound k which site good a b pa pb y e valid)

    complete_case : (a b d f : Record) → IsPremise site a → IsPremise site b → IsPremise site d → IsPremise site f →
        Holding site a.under → Holding site b.under → Holding site d.under → Holding site f.under →
        (y : Conclusion) → complete_of site a b d f ≡ Ok y → AllValid slots y.goals → Settled site Kind.Leadsto y.made
    unfolding complete_of
    complete_case a b d f pa pb pd pf ua ub ud uf y e valid =
        let more : List CForm = (a.under ++ b.under) ++ (d.under ++ f.under) in
        let p : CForm = and_form a.p d.p in
        let q : CForm = or_form (and_form b.p f.p) b.q in
        need_keeps Kind.Leadsto _ Code.WrongKind _ (need_keeps Kind.Leadsto _ Code.MiddleDiffers _
        (need_keeps Kind.Leadsto _ Code.BoundTooLarge _
        (settled_by site good holds Kind.Leadsto p q more None (max a.bound d.bound)
        (both_holding site (a.under ++ b.under) (d.under ++ f.under) (both_holding site a.under b.under ua ub)
        (both_holding site d.under f.under ud uf))
        (concluded slots step.params (record_within site Kind.Leadsto p q more (max a.bound d.bound)) []) step.params
        [] (end_gives slots step.params _ [])))) y e
        (complete_sound site good a b d f pa pb pd pf y e valid)

    -- `from R` for an unless or an ensures
    again_case : IsTrue (has_end step.kind) → (y : Conclusion) → (t : PTerm-F PTerm) →
        again_of site step book t ≡ Ok y → AllValid slots y.goals →
        Settled site step.kind y.made
    again_case ends y (PTerm-F.From r) e valid =
        let one = went_on (referred site step.params book (is_kind step.kind) r) (same_again site) y e in
        let a : Record = one.0 in
        let premise = referred_premise (is_kind step.kind) r a one.1 in
        let under = referred_holding step.params (is_kind step.kind) r a one.1 in
        let gives = end_gives slots step.params (record_of site a.kind a.p a.q a.under a.helper) [] in
        let made = ap (λ (z : Conclusion). z.made) (gives y one.2) in
        subst (λ k. Settled site k y.made) (same_kind step.kind a.kind premise.0)
        (settled site good holds a.kind a.p a.q a.under a.helper 0 under y.made made
        (again_stands site good a
        (subst (λ k. IsTrue (has_end k)) (sym (same_kind step.kind a.kind premise.0)) ends) premise.1 y.made made))
    again_case ends y _ e valid = cc

    -- a proof term
    derive_case : (t : PTerm) → RuleWellScoped slots (step.params ++ bound_ranges t) (is_below (length step.params))
        (length step.params) (CRule.Proof t) → (y : Conclusion) → derive_of site t book ≡ Ok y →
        y.made.p ≡ step.p → y.made.q ≡ step.q → AllValid slots y.goals → Settled site Kind.Leadsto y.made
    unfolding derive_of
    derive_case t sees y e p_is q_is valid =
        let visible : ℕ → Bool = is_below (length step.params) in
        let number = is_some_of (numbered t (length step.params)) sees.1 in
        let well = term_well t (all_ranges site t) step.params [] visible number.0 number.1
        (λ k h. ltb-true k (length step.params) h)
        (record {
          forms = from_all FormSees (parts_of t visible).forms sees.0.form_names;
          terms = from_all TermSees (parts_of t visible).terms sees.0.term_names;
          ranges = from_all IsRange (parts_of t visible).ranges sees.0.ranges_are;
        })
        (ap (λ b. step.params ++ b) (sym (append-nil (bound_ranges t)))) in
        let few_p : NamesBelow (length step.params) y.made.p =
        subst (λ f. NamesBelow (length step.params) f) (sym p_is) (fitting slots step.params step.p fits.p) in
        let few_q : NamesBelow (length step.params) y.made.q =
        subst (λ f. NamesBelow (length step.params) f) (sym q_is) (fitting slots step.params step.q fits.q) in
        let part = went_on (term_of site (all_ranges site t) book t)
        (λ l. concluded slots (all_ranges site t) (leads_record site l) l.forms) y e in
        let l : Led = part.0 in
        let gives = end_gives slots (all_ranges site t) (leads_record site l) l.forms in
        settled site good holds Kind.Leadsto l.p l.q l.under None l.bound
        (term_under site (all_ranges site t) book (referred_holding (all_ranges site t)) t l part.1) y.made
        (ap (λ (z : Conclusion). z.made) (gives y part.2))
        (derive_sound site good book book_stands t well.well well.full y e few_p few_q valid)

    proof_case : (t : PTerm) → RuleWellScoped slots (step.params ++ bound_ranges t) (is_below (length step.params))
        (length step.params) (CRule.Proof t) → IsTrue (suits_term (out-PTerm t) step.kind) → (y : Conclusion) →
        (k : Kind) → step.kind ≡ k → proof_of site step book k t ≡ Ok y → y.made.p ≡ step.p → y.made.q ≡ step.q →
        AllValid slots y.goals →
        Settled site step.kind y.made
    proof_case t sees suited y Kind.Leadsto same e p_is q_is valid =
        subst (λ k. Settled site k y.made) (sym same) (derive_case t sees y e p_is q_is valid)
    proof_case t sees suited y _ same e p_is q_is valid =
        again_case (not_leads (out-PTerm t) step.kind (λ l. let also = leadsto_is step.kind l in cc) suited) y
        (out-PTerm t) e valid

    -- the instance of a record of a part
    part_good : (part : ℕ) (f : CProgram) → find (λ b. nat_eq b.name part) programs ≡ Some f →
        (serves : Kind → Bool) (r : Ref) (b : Record) → part_record site book (Some part) serves r ≡ Ok b →
        IsTrue (serves b.kind) × IsPartPremise site f b × NameNoParameter b.under
    unfolding instance_of
    part_good part f there serves r b e =
        let one = went_on (found book r) (λ a. needs (nat_eq a.program part) Code.OtherProgram
        (needs (serves a.kind) Code.WrongKind (instance_of site step.params a r.args))) b e in
        let a : Record = one.0 in
        let two = met (nat_eq a.program part) Code.OtherProgram
        (needs (serves a.kind) Code.WrongKind (instance_of site step.params a r.args)) b one.2 in
        let three = met (serves a.kind) Code.WrongKind (instance_of site step.params a r.args) b two.1 in
        let is = instance_is site step.params a r.args b three.1 in
        let params : b.params ≡ step.params = sym (ap (λ (m : Record). m.params) is.1) in
        let known = found_good (RecordGood slots programs) book goods r a one.1 in
        let kept = known.kept f (ap (λ n. find (λ b. nat_eq b.name n) programs) (eqb-true a.program part two.0)
        ∙ there) in (
          subst (λ (m : Record). IsTrue (serves m.kind)) is.1 three.0,
          record {
            params = params;
            stands = λ n inside.
                instance_sound (record site { program = f }) step.params a r.args b kept.stands three.1 n
                (subst (λ rs. IsTrue (are_in_ranges rs n)) params inside);
          },
          subst (λ (m : Record). NameNoParameter m.under) is.1 known.closed,
        )

    full : AreFull step.params
    full = full_ranges step.params (from_all IsRange step.params fits.params)

    -- what a union's record stands under
    union_under : (a b : Record) → NameNoParameter a.under → NameNoParameter b.under → (made : Record) →
        (y : Conclusion) →
        y ≡ (record { made = made; goals = goals_of step.params (shown_forms site a b) }) → AllValid slots y.goals →
        Holding site (a.under ++ b.under)
    union_under a b ca cb made y is valid =
        let closed = both_closed a.under b.under ca cb in
        record {
          closed = closed;
          throughout = union_shows site good (lows step.params) (lows_in step.params full) a b closed holds
              (subst (λ (z : Conclusion). AllValid slots z.goals) is valid);
        }

    -- a rule of unions, by what it gives
    union_settled : (kind : Kind) (p q : CForm) (helper : Option Helper) (a b : Record) → NameNoParameter a.under →
        NameNoParameter b.under → (answer : Result Conclusion Code) →
        Gives answer step.params (made_of site kind p q (a.under ++ b.under) helper 0) (shown_forms site a b) →
        (y : Conclusion) → answer ≡ Ok y → AllValid slots y.goals → Stands slots c y.made → Settled site kind y.made
    union_settled kind p q helper a b ca cb answer gives y e valid stands =
        settled_by site good holds kind p q (a.under ++ b.under) helper 0
        (union_under a b ca cb (made_of site kind p q (a.under ++ b.under) helper 0) y (gives y e) valid) answer
        step.params (shown_forms site a b) gives y e stands

    united_case : (f g : CProgram) → IsUnionOf site f g → (a b : Record) → IsPartPremise site f a → IsPartPremise site g
        b →
        NameNoParameter a.under → NameNoParameter b.under → (k : Kind) → (y : Conclusion) →
        united seen.starts site k a b ≡ Ok y →
        AllValid slots y.goals → Settled site k y.made
    unfolding union_defined_of union_invariant_of union_unless_of union_ensures_of
    united_case f g parts a b pa pb ca cb Kind.Defined y e valid =
        union_settled Kind.Defined Top Top None a b ca cb (union_defined_of site (seen.starts c) a b)
        (need_gives (is_part_pair site a b) Code.OtherProgram _ step.params _ (shown_forms site a b)
        (need_gives (claims_defined a.kind && claims_defined b.kind) Code.WrongKind _ step.params _
        (shown_forms site a b)
        (need_gives (seen.starts c) Code.NoStart _ step.params _ (shown_forms site a b)
        (end_gives slots step.params _ (shown_forms site a b))))) y e valid
        (union_defined_sound site good f g parts (seen.starts c) a b pa pb y e valid)
    united_case f g parts a b pa pb ca cb Kind.Invariant y e valid =
        union_settled Kind.Invariant a.p Bottom None a b ca cb (union_invariant_of site a b)
        (need_gives (is_part_pair site a b) Code.OtherProgram _ step.params _ (shown_forms site a b)
        (need_gives ((is_invariant a.kind && is_unless b.kind) || (is_unless a.kind && is_invariant b.kind))
        Code.WrongKind
        _ step.params _ (shown_forms site a b)
        (need_gives (same_form a.p b.p && same_form (ending a b) Bottom) Code.MiddleDiffers _ step.params _
        (shown_forms site a b) (end_gives slots step.params _ (shown_forms site a b))))) y e valid
        (union_invariant_sound site good f g parts a b pa pb y e valid)
    united_case f g parts a b pa pb ca cb Kind.Unless y e valid =
        union_settled Kind.Unless a.p a.q None a b ca cb (union_unless_of site a b)
        (need_gives (is_part_pair site a b) Code.OtherProgram _ step.params _ (shown_forms site a b)
        (need_gives (is_unless a.kind && is_unless b.kind) Code.WrongKind _ step.params _ (shown_forms site a b)
        (need_gives (same_form a.p b.p && same_form a.q b.q) Code.MiddleDiffers _ step.params _ (shown_forms site a b)
        (end_gives slots step.params _ (shown_forms site a b))))) y e valid
        (union_unless_sound site good f g parts a b pa pb y e valid)
    united_case f g parts a b pa pb ca cb Kind.Ensures y e valid =
        union_settled Kind.Ensures a.p a.q (first_helper a b) a b ca cb (union_ensures_of site a b)
        (need_gives (is_part_pair site a b) Code.OtherProgram _ step.params _ (shown_forms site a b)
        (need_gives ((is_ensures a.kind && is_unless b.kind) || (is_unless a.kind && is_ensures b.kind))
        Code.WrongKind
        _ step.params _ (shown_forms site a b)
        (need_gives (same_form a.p b.p && same_form a.q b.q) Code.MiddleDiffers _ step.params _ (shown_forms site a b)
        (end_gives slots step.params _ (shown_forms site a b))))) y e valid
        (union_ensures_sound site good f g parts a b pa pb y e valid)
    united_case f g parts a b pa pb ca cb _ y e valid = cc

    -- the parts of a union, as programs
    abbrev pub PartsAre : Option (ℕ × ℕ) → Type 0
    PartsAre None = ⊤
    PartsAre (Some parts) = (f : CProgram) × (g : CProgram) ×
        (find (λ b. nat_eq b.name parts.0) programs ≡ Some f) ×
        (find (λ b. nat_eq b.name parts.1) programs ≡ Some g) × IsUnionOf site f g

    union_case : (o : Option (ℕ × ℕ)) → PartsAre o → (r s : Ref) → (y : Conclusion) →
        go_on (part_record site book (first_part o) (serves_union step.kind) r) (λ a.
        go_on (part_record site book (second_part o) (serves_after step.kind a.kind) s) (λ b.
        united seen.starts site step.kind a b)) ≡ Ok y → AllValid slots y.goals → Settled site step.kind y.made
    union_case None are r s y e valid =
        let one = went_on (part_record site book None (serves_union step.kind) r) (λ a.
        go_on (part_record site book None (serves_after step.kind a.kind) s) (λ b. united seen.starts site step.kind a
        b)) y e in
        let two = went_on (found book r) (λ a. Err Code.OtherProgram) one.0 one.1 in
        let refused = two.2 in
        cc
    union_case (Some parts) are r s y e valid =
        let one = went_on (part_record site book (Some parts.0) (serves_union step.kind) r) (λ a.
        go_on (part_record site book (Some parts.1) (serves_after step.kind a.kind) s) (λ b.
        united seen.starts site step.kind a b)) y e in
        let a : Record = one.0 in
        let two = went_on (part_record site book (Some parts.1) (serves_after step.kind a.kind) s) (λ b.
        united seen.starts site step.kind a b) y one.2 in
        let b : Record = two.0 in
        let first = part_good parts.0 are.0 are.2 (serves_union step.kind) r a one.1 in
        let second = part_good parts.1 are.1 are.3 (serves_after step.kind a.kind) s b two.1 in
        united_case are.0 are.1 are.4 a b first.1 second.1 first.2 second.2 step.kind y two.2 valid

    -- the instance of a record of another program
    other_good : (f : CProgram) → (serves : Kind → Bool) (r : Ref) (b : Record) → OfOther site book serves r b →
        program_of programs b.program ≡ Some f →
        IsPartPremise site f b × NameNoParameter b.under × IsInvariant (core_system slots f) (meets slots b.under)
    unfolding instance_of
    other_good f serves r b other there =
        let a : Record = other.a in
        let is = instance_is site step.params a r.args b other.gives in
        let params : b.params ≡ step.params = sym (ap (λ (m : Record). m.params) is.1) in
        let known = found_good (RecordGood slots programs) book goods r a other.there in
        let kept = known.kept f (ap (λ (m : Record). find (λ d. nat_eq d.name m.program) programs) is.1 ∙ there) in (
          record {
            params = params;
            stands = λ n inside.
                instance_sound (record site { program = f }) step.params a r.args b kept.stands other.gives n
                (subst (λ rs. IsTrue (are_in_ranges rs n)) params inside);
          },
          subst (λ (m : Record). NameNoParameter m.under) is.1 known.closed,
          subst (λ (m : Record). IsInvariant (core_system slots f) (meets slots m.under)) is.1 kept.under,
        )

    -- what the layer's record gives is kept
    superpose_settled : IsProgram slots c → (f : CProgram) → IsProgram slots f → (a : Record) → IsPartPremise site f a →
        NameNoParameter a.under → IsInvariant (core_system slots f) (meets slots a.under) → (y : Conclusion) →
        superpose_of site f a ≡ Ok y → AllValid slots y.goals → Settled site a.kind y.made
    unfolding superpose_of
    superpose_settled layer f under a premise closed always y e valid =
        let forms : List CForm = starts_below site f ∷ [] in
        let made : Record = record_over site f a in
        settled_by site good holds a.kind a.p a.q a.under (helper_over c f a.helper) a.bound
        (record {
          closed = closed;
          throughout = superpose_shows site good layer f under (lows step.params) (lows_in step.params full) a y e valid
              holds always;
        })
        (superpose_of site f a) step.params forms
        (need_gives (not (nat_eq a.program c.name)) Code.OtherProgram _ step.params made forms
        (need_gives (is_carried a.kind) Code.WrongKind _ step.params made forms
        (need_gives (is_layer c f) Code.NotALayer _ step.params made forms
        (need_gives (names_old c f a) Code.NamesNewVariable _ step.params made forms
        (end_gives slots step.params made forms))))) y e
        (superpose_sound site good layer f under a premise y e valid)

    superpose_case : Each (IsProgram slots) programs → (r : Ref) → (y : Conclusion) →
        superposed seen site step book r ≡ Ok y → AllValid slots y.goals → Settled site step.kind y.made
    superpose_case all r y e valid =
        let row = layer_given seen site step book r y e in
        let other = other_given site book (is_kind step.kind) r row.a row.referred in
        let given = other_good row.f (is_kind step.kind) r row.a other row.program in
        let below = found_in (λ b. nat_eq b.name row.a.program) programs row.f row.program in
        let mine = found_in (λ b. nat_eq b.name c.name) programs c named in
        subst (λ k. Settled site k y.made) (same_kind step.kind row.a.kind other.serving)
        (superpose_settled (each_at (IsProgram slots) programs all mine.place c mine.there) row.f
        (each_at (IsProgram slots) programs all below.place row.f below.there) row.a given.0 given.1 given.2 y row.gives
        valid)

    -- a step's rule, where the derived p and q are the step's
    pub applied_case : Each (IsProgram slots) programs → PartsAre c.parts → (rule : CRule) →
        RuleWellScoped slots (step.params ++ rule_ranges rule) (is_below (length step.params)) (length step.params)
        rule →
        IsTrue (suits seen.version rule step.kind) → (y : Conclusion) → applied seen site step book rule ≡ Ok y →
        y.made.p ≡ step.p → y.made.q ≡ step.q → AllValid slots y.goals → Settled site step.kind y.made
    applied_case all parts CRule.Text sees suited y e p_is q_is valid = text_case step.kind y e valid
    applied_case all parts (CRule.TextWith h) sees suited y e p_is q_is valid =
        subst (λ k. Settled site k y.made) (sym (ensures_is step.kind suited)) (ensures_case h y e valid)
    applied_case all parts (CRule.WeakenStep r) sees suited y e p_is q_is valid =
        let one = went_on (referred site step.params book (is_kind step.kind) r) (λ a. weaken_of site a step.q) y e in
        let premise = referred_premise (is_kind step.kind) r one.0 one.1 in
        subst (λ k. Settled site k y.made) (same_kind step.kind one.0.kind premise.0)
        (weaken_case one.0 premise.1 (referred_holding step.params (is_kind step.kind) r one.0 one.1) y one.2 valid)
    applied_case all parts (CRule.Pair which r s) sees suited y e p_is q_is valid =
        let kinds : Kind × Kind = pair_kinds which step.kind in
        let one = went_on (referred site step.params book (is_kind kinds.0) r) (λ a.
        go_on (referred site step.params book (is_kind kinds.1) s) (λ b. pair_by site step.kind which a b)) y e in
        let two = went_on (referred site step.params book (is_kind kinds.1) s)
        (λ b. pair_by site step.kind which one.0 b) y one.2 in
        let first = referred_premise (is_kind kinds.0) r one.0 one.1 in
        let second = referred_premise (is_kind kinds.1) s two.0 two.1 in
        subst (λ k. Settled site k y.made) (given_kind_is seen.version which two.0.kind step.kind second.0 suited)
        (pair_case step.kind which one.0 two.0 first.1 second.1
        (referred_holding step.params (is_kind kinds.0) r one.0 one.1)
        (referred_holding step.params (is_kind kinds.1) s two.0 two.1) y two.2 valid)
    applied_case all parts (CRule.Union r s) sees suited y e p_is q_is valid = union_case c.parts parts r s y e valid
    applied_case all parts (CRule.Superpose r) sees suited y e p_is q_is valid = superpose_case all r y e valid
    applied_case all parts (CRule.Complete r s t u) sees suited y e p_is q_is valid =
        let leads : Kind → Bool = is_kind Kind.Leadsto in
        let ends : Kind → Bool = is_kind Kind.Unless in
        let row = four_given site book r s t u y e in
        subst (λ k. Settled site k y.made) (sym (leadsto_is step.kind suited))
        (complete_case row.a row.b row.c row.d (referred_premise leads r row.a row.first).1
        (referred_premise ends s row.b row.second).1 (referred_premise leads t row.c row.third).1
        (referred_premise ends u row.d row.fourth).1 (referred_holding step.params leads r row.a row.first)
        (referred_holding step.params ends s row.b row.second) (referred_holding step.params leads t row.c row.third)
        (referred_holding step.params ends u row.d row.fourth) y row.gives valid)
    applied_case all parts (CRule.Proof t) sees suited y e p_is q_is valid =
        proof_case t sees suited y step.kind refl e p_is q_is valid

fits_as : (k l : Kind) (ps qs : List Range) (p q f g : CForm) → k ≡ l → ps ≡ qs → p ≡ f → q ≡ g → KindFits l qs f g →
    KindFits k ps p q
fits_as k l ps qs p q f g i j m n fits =
    subst (λ a. KindFits a ps p q) (sym i)
    (subst (λ a. KindFits l a p q) (sym j) (subst (λ a. KindFits l qs a q) (sym m)
    (subst (λ a. KindFits l qs f a) (sym n) fits)))

-- a step that got its record by the table, with all its conditions
module _ (seen : Around) (c : CProgram) (named : find (λ b. nat_eq b.name c.name) seen.programs ≡ Some c)
    (book : List Record) (goods : Each (RecordGood seen.slots seen.programs) book) (step : CStep)
    (fits : IsStep seen.slots step) (all : Each (IsProgram seen.slots) seen.programs)
    (site_good : (using : List CForm) → NameNoParameter using → IsSite (step_site seen.slots c step using))
    (parts : (using : List CForm) (good : IsSite (step_site seen.slots c step using))
    (holds : HoldThroughout (step_site seen.slots c step using) using) →
    PartsAre seen c named book goods step fits using good holds c.parts) where
  -- what the step's conditions say
  record Ruled (x : Conclusion) : Type 0 where
    using : List CForm
    holding : Holding (step_site seen.slots c step using) using
    suited : IsTrue (suits seen.version step.rule step.kind)
    applies : applied seen (step_site seen.slots c step using) step book step.rule ≡ Ok x
    p_is : x.made.p ≡ step.p
    q_is : x.made.q ≡ step.q

  ruled : (x : Conclusion) → rule_of seen c step book ≡ Ok x → Ruled x
  unfolding rule_of
  ruled x e =
      let named_kind = met (is_first step.kind || has_defined c.name book) Code.DefinedMissing
      (go_on (used c book step.using) (λ using.
      needs (suits seen.version step.rule step.kind) Code.WrongKind
      (go_on (applied seen (step_site seen.slots c step using) step book step.rule) (λ y.
      needs (claims step y) Code.ConclusionDiffers (Ok y))))) x e in
      let u = went_on (used c book step.using) (λ using.
      needs (suits seen.version step.rule step.kind) Code.WrongKind
      (go_on (applied seen (step_site seen.slots c step using) step book step.rule) (λ y.
      needs (claims step y) Code.ConclusionDiffers (Ok y)))) x named_kind.1 in
      let using : List CForm = u.0 in
      let suited = met (suits seen.version step.rule step.kind) Code.WrongKind
      (go_on (applied seen (step_site seen.slots c step using) step book step.rule) (λ y.
      needs (claims step y) Code.ConclusionDiffers (Ok y))) x u.2 in
      let a = went_on (applied seen (step_site seen.slots c step using) step book step.rule) (λ y.
      needs (claims step y) Code.ConclusionDiffers (Ok y)) x suited.1 in
      let claimed = met (claims step a.0) Code.ConclusionDiffers (Ok a.0) x a.2 in
      let same : a.0 ≡ x = let given = claimed.1 in cc in
      let claims_x : IsTrue (claims step x) = subst (λ y. IsTrue (claims step y)) same claimed.0 in
      record {
        using = using;
        holding = used_good seen c named book goods step.using using u.1 (step_site seen.slots c step using) refl refl;
        suited = suited.0;
        applies = a.1 ∙ ap (λ y. Ok y) same;
        p_is = same_form_is x.made.p step.p
            (and_left (same_form x.made.p step.p) (same_form x.made.q step.q) claims_x);
        q_is = same_form_is x.made.q step.q
            (and_right (same_form x.made.p step.p) (same_form x.made.q step.q) claims_x);
      }

  pub step_good : (x : Conclusion) → rule_of seen c step book ≡ Ok x → AllValid seen.slots x.goals →
      RecordGood seen.slots seen.programs x.made × (x.made.program ≡ c.name)
  step_good x e valid =
      let u = ruled x e in
      let good = site_good u.using u.holding.closed in
      let s = applied_case seen c named book goods step fits u.using good u.holding.throughout all
      (parts u.using good u.holding.throughout) step.rule fits.rule u.suited x u.applies u.p_is u.q_is valid in (
        record {
          kept = λ b there.
              let one : Some c ≡ Some b =
              sym named ∙ ap (λ n. find (λ d. nat_eq d.name n) seen.programs) (sym s.program) ∙ there in
              let is : c ≡ b = cc in
              subst (λ d. IsKept seen.slots d x.made) is (record { stands = s.stands; under = s.under });
          closed = s.closed;
          fits = fits_as x.made.kind step.kind x.made.params step.params x.made.p x.made.q step.p step.q s.kind_is
              s.params
              u.p_is u.q_is fits.kind;
          names = subst (λ rs. NamesBelow (length rs) x.made.p) (sym s.params)
              (subst (λ f. NamesBelow (length step.params) f) (sym u.p_is)
              (fitting seen.slots step.params step.p fits.p));
        },
        s.program,
      )

  -- the program of a step by `superpose` is a layer over the one that the step refers to
  pub step_stands_over : (x : Conclusion) → rule_of seen c step book ≡ Ok x → AllValid seen.slots x.goals →
      (r : Ref) → step.rule ≡ CRule.Superpose r → StandsOver seen.slots seen.programs c r
  step_stands_over x e valid r is =
      let u = ruled x e in
      let site : Site = step_site seen.slots c step u.using in
      let good = site_good u.using u.holding.closed in
      let full = full_ranges step.params (from_all IsRange step.params fits.params) in
      let row = layer_given seen site step book r x
      (subst (λ rule. applied seen site step book rule ≡ Ok x) is u.applies) in
      let other = other_given site book (is_kind step.kind) r row.a row.referred in
      let same = instance_is site step.params other.a r.args row.a other.gives in
      let test : Record → Bool = λ b. nat_eq b.program r.program && nat_eq b.name r.step in
      let at = found_in test book other.a (known_is (find test book) other.a other.there) in
      let program = eqb-true other.a.program r.program
      (and_left (nat_eq other.a.program r.program) (nat_eq other.a.name r.step) at.passes) in
      let below = found_in (λ b. nat_eq b.name row.a.program) seen.programs row.f row.program in
      let mine = found_in (λ b. nat_eq b.name c.name) seen.programs c named in
      record {
        below = row.f;
        named = ap (λ n. program_of seen.programs n) (sym program)
            ∙ ap (λ (m : Record). program_of seen.programs m.program) same.1 ∙ row.program;
        layer = (row_met site row.f row.a x row.gives).layer;
        begins = λ s start.
            superpose_begins site good (each_at (IsProgram seen.slots) seen.programs all mine.place c mine.there) row.f
            (each_at (IsProgram seen.slots) seen.programs all below.place row.f below.there) (lows step.params)
            (lows_in step.params full) row.a x row.gives valid s start
            (closed_all s (lows step.params) u.using u.holding.closed
            (u.holding.throughout s [] [] (record { starts = start; steps = tt }) 0 s refl));
      }
