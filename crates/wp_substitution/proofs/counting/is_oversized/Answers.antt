use Rattle.std.proofs.Common.{◌≡◌, List, ◌&&◌, min, nat_lt, true, ap, sym, ◌∙◌}
use Rattle.std.specs.Prelude.{All}
use Rattle.std.specs.List.{list_any}
use Rattle.std.proofs.lemmas.Bool.{OnTrue_from}
use Rattle.core_terms.specs.declared.programs.CSlot.{CSlot}
use Rattle.core_terms.specs.declared.programs.CWrite.{CWrite}
use Rattle.core_terms.specs.Conditions.{WriteFits}
use Rattle.wp_substitution.specs.Preconditions.{defined_form}
use Rattle.wp_substitution.specs.Oversized.{IsOversized, is_open, pair_count}
use Rattle.wp_substitution.proofs.OversizedLaws.{pairs_large, past_counted}
use Rattle.wp_substitution.proofs.counting.is_oversized.Goals as goal

pub returns-clause-large : goal.returns-clause-large
returns-clause-large c =
    let writes : List CWrite = c.args.s.now.writes in
    let named : list_any is_open writes ≡ true =
    ap (list_any is_open) (sym c.as_slice-writes.ensures) ∙ sym c.any_open.ensures ∙ c.if-not-any_open.false in
    let count : c.in_ok-count_pairs.field-0 ≡ min (pair_count writes) 65537 =
    c.in_ok-count_pairs.ensures ∙ ap (λ ws. min (pair_count ws) 65537) c.as_slice-writes.ensures in
    OnTrue_from (nat_lt 65536 c.in_ok-count_pairs.field-0)
    ((slots : List CSlot) → All (WriteFits slots) writes → IsOversized (defined_form slots c.args.s.now))
    (λ h slots fits. pairs_large slots c.args.s.now fits
    (ap (λ b. b && nat_lt 65536 (pair_count writes)) named ∙ sym (past_counted (pair_count writes))
    ∙ ap (nat_lt 65536) (sym count) ∙ h))
