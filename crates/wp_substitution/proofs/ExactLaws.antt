-- The formulas of statements hold exactly where they should.
use Rattle.std.proofs.Common.{◌≡◌, ◌<◌, ℤ, List, [], length, Bool, true, false, cond, ◌&&◌, Some, None, All, IsTrue}
use Rattle.std.proofs.Common.{refl, ap, ◌∙◌, arith}
use Rattle.std.proofs.lemmas.List.Elements.{All-weaker}
use Rattle.meaning_states.specs.State.{State, is_state}
use Rattle.meaning_states.specs.Step.{is_defined, written}
use Rattle.core_terms.specs.declared.trees.CTerm.TheVariants.{Param}
use Rattle.core_terms.specs.declared.trees.CForm.{CForm}
use Rattle.core_terms.specs.declared.programs.CSlot.{CSlot}
use Rattle.core_terms.specs.declared.programs.CStmt.{CStmt}
use Rattle.core_terms.specs.Values.{form_value}
use Rattle.core_terms.specs.Steps.{slot_ranges, core_writes}
use Rattle.core_terms.specs.Conditions.{WriteFits, StatementFits}
use Rattle.core_terms.proofs.PartLaws.{value-Param}
use Rattle.core_terms.proofs.FoldingLaws.{value-and_form}
use Rattle.core_terms.proofs.ReplacingLaws.{form_replaced}
use Rattle.wp_substitution.specs.Preconditions.{defined_form, slot_after, form_after, wp_form}
use Rattle.wp_substitution.specs.Exact.{next_passes, HoldsWhereDefined, HoldsBefore}
use Rattle.wp_substitution.proofs.NeedLaws.{defined_here}
use Rattle.wp_substitution.proofs.AfterLaws.{length_of_state, slot_holds}
use Rattle.wp_substitution.proofs.NamedLaws.{defined_params, slot_params}
use Rattle.wp_substitution.proofs.ClosedLaws.{form_closed, term_closed}

defined_value : (slots : List CSlot) (c : CStmt) → StatementFits slots c → (s p : List ℤ) →
    form_value s p (defined_form slots c) ≡ is_defined (slot_ranges slots) (core_writes s c)
defined_value slots c fits s p =
    form_closed s p [] (defined_form slots c) (defined_params slots c fits) ∙ defined_here s slots c

passes_any : (b : Bool) (next : State) → b ≡ next_passes (λ t. true) (cond b (Some next) None)
passes_any true next = refl
passes_any false next = refl

passes_both : (b : Bool) (test : State → Bool) (next : State) (v : Bool) → v ≡ test next →
    (b && v) ≡ next_passes test (cond b (Some next) None)
passes_both true test next v e = e
passes_both false test next v e = refl

pub definedness : (slots : List CSlot) (c : CStmt) → StatementFits slots c →
    HoldsWhereDefined slots c (defined_form slots c)
definedness slots c fits s p =
    defined_value slots c fits s p
    ∙ passes_any (is_defined (slot_ranges slots) (core_writes s c)) (written s (core_writes s c))

after_value : (slots : List CSlot) (c : CStmt) (q : CForm) → StatementFits slots c → (s p : List ℤ) →
    IsTrue (is_state (slot_ranges slots) s) →
    form_value s p (form_after c.writes q) ≡ form_value (written s (core_writes s c)) p q
after_value slots c q fits s p is =
    let same = length_of_state slots s is in
    let within : All (λ w. w.slot < length s) c.writes =
    All-weaker (WriteFits slots) (λ w. w.slot < length s) (λ w g. let h = g.target in omega (arith, h, same)) c.writes
    fits.writes in
    form_replaced s p (written s (core_writes s c)) p (slot_after c.writes) (λ n. Param n)
    (λ n. term_closed s p [] (slot_after c.writes n) (slot_params slots c n fits) ∙ slot_holds s c within n)
    (λ n. value-Param s p n) q

pub precondition : (slots : List CSlot) (c : CStmt) (q : CForm) → StatementFits slots c →
    HoldsBefore slots c q (wp_form slots c q)
precondition slots c q fits s p is =
    let next = written s (core_writes s c) in
    value-and_form s p (defined_form slots c) (form_after c.writes q)
    ∙ ap (λ b. b && form_value s p (form_after c.writes q)) (defined_value slots c fits s p)
    ∙ passes_both (is_defined (slot_ranges slots) (core_writes s c)) (λ t. form_value t p q) next
    (form_value s p (form_after c.writes q)) (after_value slots c q fits s p is)
