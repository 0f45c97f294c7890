-- What is too large is refused.
use Rattle.std.proofs.Common.{◌≡◌, ℕ, ◌<◌, ◌^◌, Bool, true, false, List, [], ◌∷◌, nat_le, Option, Some, None, refl}
use Rattle.std.proofs.Common.{◌∙◌, sym, ap, subst, Err, arith}
use Rattle.std.specs.List.{list_all}
use Rattle.std.proofs.lemmas.Bool.{lt-leb}
use Rattle.case_tables.specs.declared.code_table.Code.{Code}
use Rattle.core_terms.specs.declared.trees.Range.{Range}
use Rattle.core_terms.specs.declared.trees.CForm.{CForm, fold-roll-CForm}
use Rattle.core_terms.specs.declared.trees.CForm.TheOpen.{CForm-F}
use Rattle.core_terms.specs.declared.trees.CForm.TheVariants.{Top, Bottom, And, rolls-Top, rolls-Bottom}
use Rattle.core_terms.specs.declared.programs.CSlot.{CSlot}
use Rattle.core_terms.specs.declared.programs.CStmt.{CStmt}
use Rattle.core_terms.specs.Sizes.{form_size, term_size, form_nodes}
use Rattle.core_terms.specs.Folding.{truth_of, truth_or, not_form}
use Rattle.core_terms.proofs.KnownLaws.{known_folded_form}
use Rattle.obligations.specs.declared.branches.Obligation.{Obligation}
use Rattle.obligations.specs.Obligations.{weight_of}
use Rattle.obligations.specs.Plain.{height_of}
use Rattle.wp_substitution.specs.declared.pooled.WpError.{WpError}
use Rattle.wp_substitution.specs.Preconditions.{all_of, defined_form, form_after, wp_form}
use Rattle.wp_substitution.specs.Oversized.{IsOversized}
use Rattle.wp_substitution.proofs.OversizedLaws.{or_second_large, wp_large}
use Rattle.fixed_points.specs.FixedForms.{fixed_part}
use Rattle.fixed_points.proofs.LargeLaws.{part_large}
use Rattle.rules_table.specs.Forms.{imply}
use Rattle.rules_table.specs.Limits.{is_provable}
use Rattle.rules_table.specs.Validity.{goal_obligation}
use Rattle.safety_rules.specs.declared.places.RuleError.{RuleError}
use Rattle.safety_rules.specs.Errors.{precondition_error}
use Rattle.safety_rules.specs.Goals.{Added}
use Rattle.safety_rules.proofs.AnswerLaws.{first_false, second_false}

-- a formula whose truth is known is folded to one node
nodes-Top : form_nodes Top ≡ 1
nodes-Top = ap form_nodes (sym rolls-Top) ∙ fold-roll-CForm ℕ ℕ form_size term_size CForm-F.Top

nodes-Bottom : form_nodes Bottom ≡ 1
nodes-Bottom = ap form_nodes (sym rolls-Bottom) ∙ fold-roll-CForm ℕ ℕ form_size term_size CForm-F.Bottom

-- a folded formula of more than one node has no truth that is known
open_where_large : (f : CForm) (m : Option Bool) → 65536 < form_nodes (truth_or m f) → m ≡ None
open_where_large f None h = refl
open_where_large f (Some true) h =
    let one : 65536 < 1 = subst (λ n. 65536 < n) nodes-Top h in
    absurd (omega (arith, one))
open_where_large f (Some false) h =
    let one : 65536 < 1 = subst (λ n. 65536 < n) nodes-Bottom h in
    absurd (omega (arith, one))

-- a weakest precondition with more nodes than an obligation may have is as folding leaves it
pub wp_oversized : (slots : List CSlot) (s : CStmt) (q : CForm) → 65536 < form_nodes (wp_form slots s q) →
    IsOversized (wp_form slots s q)
wp_oversized slots s q h =
    let whole : CForm = And (defined_form slots s) (form_after s.writes q) in
    record { unknown = known_folded_form whole ∙ open_where_large whole (truth_of whole) h; nodes = h }

implied_large : (fs : List CForm) (q : CForm) → IsOversized q → IsOversized (imply fs q)
implied_large [] q large = large
implied_large (f ∷ fs) q large = or_second_large (not_form (all_of (f ∷ fs))) q large

not_provable : (slots : List CSlot) (params : List Range) (f : CForm) → IsOversized f →
    is_provable slots params f ≡ false
not_provable slots params f large =
    let goal = goal_obligation slots params f in
    second_false (nat_le (height_of goal) 960) _
    (first_false (nat_le (form_nodes f) 65536) (nat_le (weight_of goal) (2 ^ 62))
    (lt-leb (form_nodes f) 65536 large.nodes))

module _ (slots : List CSlot) (params : List Range) (T : Type 0) (old new : List Obligation) where
  refused : (f : CForm) → IsOversized f →
      Added {T = T} (Err (RuleError.Fault Code.FormulaTooLarge)) old new slots params (f ∷ [])
  refused f large = (
    refl,
    first_false (is_provable slots params f) (list_all (is_provable slots params) [])
        (not_provable slots params f large),
  )

  -- the obligation of a statement that is defined in too large a formula is refused
  pub defined_refused : (using : List CForm) (s : CStmt) → IsOversized (defined_form slots s) →
      Added {T = T} (Err (RuleError.Fault Code.FormulaTooLarge)) old new slots params
      (imply using (defined_form slots s) ∷ [])
  defined_refused using s large = refused _ (implied_large using (defined_form slots s) large)

  pub kept_refused : (premises : List CForm) (q : CForm) (s : CStmt) → IsOversized (defined_form slots s) →
      Added {T = T} (Err (RuleError.Fault Code.FormulaTooLarge)) old new slots params
      (imply premises (wp_form slots s q) ∷ [])
  kept_refused premises q s large = refused _ (implied_large premises (wp_form slots s q) (wp_large slots s q large))

  -- the obligation of a statement whose weakest precondition is too large is refused
  pub precondition_refused : (premises : List CForm) (q : CForm) (s : CStmt) (e : WpError) →
      (e ≡ WpError.TooLarge → 65536 < form_nodes (wp_form slots s q)) →
      Added {T = T} (Err (precondition_error e)) old new slots params (imply premises (wp_form slots s q) ∷ [])
  precondition_refused premises q s WpError.TooLarge large =
      refused _ (implied_large premises (wp_form slots s q) (wp_oversized slots s q (large refl)))
  precondition_refused premises q s WpError.Memory large = tt

  pub fixed_refused : (premises : List CForm) (s : CStmt) → IsOversized (defined_form slots s) →
      Added {T = T} (Err (RuleError.Fault Code.FormulaTooLarge)) old new slots params
      (imply premises (fixed_part slots s) ∷ [])
  fixed_refused premises s large = refused _ (implied_large premises (fixed_part slots s) (part_large slots s large))
