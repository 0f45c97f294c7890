-- What `text` gives stands.
use Rattle.std.proofs.Common.{◌≡◌, ℕ, zero, suc, ℤ, List, [], ◌∷◌, ◌++◌, map, true, not, ◌&&◌, Some, None, IsTrue}
use Rattle.std.proofs.Common.{refl, sym, ap, ◌∙◌, subst, slice_get}
use Rattle.std.specs.List.{list_all}
use Rattle.case_tables.specs.declared.kind_table.Kind.{Kind}
use Rattle.core_terms.proofs.FoldingLaws.{value-or_form, value-not_form}
use Rattle.core_terms.specs.Folding.{or_form, not_form}
use Rattle.core_terms.specs.Conditions.{StatementFits}
use Rattle.core_terms.specs.Steps.{slot_ranges, core_step}
use Rattle.core_terms.specs.Values.{form_value}
use Rattle.core_terms.specs.declared.programs.CSlot.{CSlot}
use Rattle.core_terms.specs.declared.programs.CStmt.{CStmt}
use Rattle.core_terms.specs.declared.trees.CForm.{CForm}
use Rattle.core_terms.specs.declared.trees.CForm.TheVariants.{Top, Bottom}
use Rattle.layer_laws.specs.from_meaning_laws.Stands.{UnlessStands, EachDefinedStep}
use Rattle.fair_rounds.specs.Records.{holding, are_in_ranges, meets, Stands}
use Rattle.fair_rounds.specs.from_executor.CoreSystem.{core_system}
use Rattle.fair_rounds.specs.declared.records.Record.{Record}
use Rattle.rules_table.proofs.EachLaws.{from_all, each_at}
use Rattle.rules_table.proofs.FormLaws.{imply_gives, all_join}
use Rattle.rules_table.proofs.SiteLaws.{defined_exact, met, concluded_is, AreValid, are_valid, valid_at}
use Rattle.rules_table.proofs.SiteLaws.{chosen_statement, meets_means, kept_after, closed_value}
use Rattle.rules_table.specs.Conclusion.{Conclusion}
use Rattle.fixed_points.specs.from_wp_substitution.Exact.{next_passes}
use Rattle.rules_table.specs.Forms.{imply}
use Rattle.fixed_points.specs.from_wp_substitution.Preconditions.{defined_form}
use Rattle.fixed_points.specs.FixedForms.{fixed_part}
use Rattle.fixed_points.proofs.WriteLaws.{led_back}
use Rattle.fixed_points.proofs.FormLaws.{part_exact}
use Rattle.rules_table.specs.Sound.{IsSite, StandsWhereValid, UnlessSound, InvariantSound, DefinedSound, FixedSound}
use Rattle.rules_table.specs.Table.{unless_of, invariant_of, defined_of, fixed_of, Site, under_with, record_of}
use Rattle.rules_table.specs.Table.{concluded}
use Rattle.rules_table.specs.Table.{kept_form, unless_forms, invariant_forms, defined_forms, fixed_forms}
use Rattle.rules_table.specs.Validity.{AllValid}
use Rattle.meaning_states.proofs.StepTheorems.{and_left, and_right, both_true}
use Rattle.meaning_states.specs.State.{is_state}
use Rattle.meaning_executions.specs.Execution.{Act}
use Rattle.meaning_executions.specs.Properties.{but_not}
use Rattle.case_tables.specs.declared.code_table.Code.{Code}

-- what stands of a conclusion stands of what was concluded
pub given : (site : Site) (made : Record) (forms : List CForm) → (AreValid site.slots site.params forms →
    Stands site.slots site.program made) →
    StandsWhereValid site (concluded site.slots site.params made forms)
given site made forms stands d e valid =
    let is = concluded_is site.slots site.params made forms d e in
    subst (λ (x : Conclusion). Stands site.slots site.program x.made) (sym is)
    (stands (are_valid site.slots site.params forms (subst (λ (x : Conclusion). AllValid site.slots x.goals) is
    valid)))

-- p and not q, as formulas and as a test
pub but_not_forms : (s e : List ℤ) (p q : CForm) → IsTrue (but_not (holding e p) (holding e q) s) →
    IsTrue (list_all (λ f. form_value s e f) (p ∷ not_form q ∷ []))
but_not_forms s e p q h =
    both_true (form_value s e p) (form_value s e (not_form q) && true) (and_left (form_value s e p)
    (not (form_value s e q)) h)
    (both_true (form_value s e (not_form q)) true (value-not_form s e q ∙ and_right (form_value s e p)
    (not (form_value s e q)) h) refl)

-- valid obligations of each statement keep what is claimed
pub keeps : (site : Site) → IsSite site → (before : List CForm) (q : CForm) →
    AreValid site.slots site.params (map (kept_form site before q) site.program.statements) →
    (e : List ℤ) → IsTrue (are_in_ranges site.params e) → (more : List CForm) →
    EachDefinedStep (core_system site.slots site.program) (meets site.slots (under_with site more))
    (λ now next. IsTrue (list_all (λ f. form_value now e f) before) → IsTrue (form_value next e q))
keeps site good before q valid e inside more choice now next first second step holds =
    let i = chosen_statement site.slots site.program.statements choice now next step in
    let here = meets_means site good.closed more now first in
    let there = meets_means site good.closed more next second in
    kept_after site good before q site.params i.0 choice i.1 (valid_at site.slots site.params
    (kept_form site before q) site.program.statements valid choice i.0 i.1)
    e inside now next here.state (here.using e) (there.using e) holds i.2

pub unless_stands : (site : Site) → IsSite site → (p q : CForm) →
    AreValid site.slots site.params (unless_forms site p q) →
    (e : List ℤ) → IsTrue (are_in_ranges site.params e) → (more : List CForm) →
    UnlessStands (core_system site.slots site.program) (meets site.slots (under_with site more)) (holding e p)
    (holding e q)
unless_stands site good p q valid e inside more choice now next first second step holds =
    sym (value-or_form next e p q) ∙ keeps site good (p ∷ not_form q ∷ []) (or_form p q) valid e inside more choice
    now next first second step (but_not_forms now e p q holds)

pub unless_sound : UnlessSound
unfolding unless_of
unless_sound site good p q = given site (record_of site Kind.Unless p q [] None) (unless_forms site p q)
    (λ valid e inside. unless_stands site good p q valid e inside [])

pub invariant_sound : InvariantSound
unfolding invariant_of
invariant_sound site good p =
    given site (record_of site Kind.Invariant p Bottom [] None) (invariant_forms site p) (λ valid e inside. record {
      starts = λ s first meet.
          let here = meets_means site good.closed [] s meet in
          imply_gives s e (site.using ++ (site.program.initially ∷ [])) p (valid.0 s e here.state inside)
          (all_join (λ f. form_value s e f) site.using (site.program.initially ∷ []) (here.using e)
          (both_true (form_value s e site.program.initially) true
          (closed_value s e site.program.initially good.initially ∙ and_right (is_state (slot_ranges site.slots) s)
          (form_value s [] site.program.initially) first) refl));
      keeps = λ choice now next first second step holds.
          keeps site good (p ∷ []) p valid.1 e inside [] choice now next first second step
          (both_true (form_value now e p) true holds refl);
    })

act_of : (slots : List CSlot) (ss : List CStmt) (choice : ℕ) (act : Act) →
    slice_get (map (core_step slots) ss) choice ≡ Some act →
    (i : CStmt) × (slice_get ss choice ≡ Some i) × (core_step slots i ≡ act)
act_of slots [] choice act e = cc
act_of slots (i ∷ is) zero act e = let same : core_step slots i ≡ act = cc in (i, refl, same)
act_of slots (i ∷ is) (suc choice) act e = act_of slots is choice act e

pub defined_sound : DefinedSound
unfolding defined_of
defined_sound site good starts d e valid =
    let made : Record = record_of site Kind.Defined Top Top [] None in
    let asked = met starts Code.NoStart (concluded site.slots site.params made (defined_forms site)) d e in
    given site made (defined_forms site) (λ all n inside state choice act meet there none.
    let i = act_of site.slots site.program.statements choice act there in
    let here = meets_means site good.closed [] state meet in
    let shown = imply_gives state n site.using (defined_form site.slots i.0)
    (valid_at site.slots site.params (λ (s : CStmt). imply site.using (defined_form site.slots s))
    site.program.statements all choice i.0 i.1 state n here.state inside) (here.using n) in
    let passes : IsTrue (next_passes (λ t. true) (core_step site.slots i.0 state)) =
    sym (defined_exact site good choice i.0 i.1 state n) ∙ shown in
    let fails : IsTrue (next_passes (λ t. true) None) = subst (λ o. IsTrue (next_passes (λ t. true) o))
    (ap (λ (f : Act). f state) i.2 ∙ none) passes in
    cc) d asked.1 valid

pub fixed_sound : FixedSound
unfolding fixed_of
fixed_sound site good p =
    given site (record_of site Kind.Fixed p Bottom [] None) (fixed_forms site p)
    (λ valid e inside state meet holds choice act there.
    let i = act_of site.slots site.program.statements choice act there in
    let here = meets_means site good.closed [] state meet in
    let fits = each_at (StatementFits site.slots) site.program.statements
    (from_all (StatementFits site.slots) site.program.statements good.statements) choice i.0 i.1 in
    let shown = imply_gives state e (site.using ++ (p ∷ [])) (fixed_part site.slots i.0)
    (valid_at site.slots site.params
    (λ (s : CStmt). imply (site.using ++ (p ∷ [])) (fixed_part site.slots s)) site.program.statements valid choice
    i.0 i.1 state e here.state inside)
    (all_join (λ f. form_value state e f) site.using (p ∷ []) (here.using e)
    (both_true (form_value state e p) true holds refl)) in
    ap (λ (f : Act). f state) (sym i.2)
    ∙ led_back (core_step site.slots i.0 state) state (sym (part_exact site.slots i.0 fits state e here.state) ∙ shown))
