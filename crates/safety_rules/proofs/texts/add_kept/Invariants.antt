use Rattle.std.proofs.Common.{◌≡◌, Some, None, take}
use Rattle.std.specs.Prelude.{slice_get}
use Rattle.core_terms.specs.declared.programs.CStmt.{CStmt}
use Rattle.wp_substitution.specs.Preconditions.{wp_form}
use Rattle.wp_substitution.specs.Joined.{joined_all}
use Rattle.rules_table.specs.Forms.{imply}
use Rattle.safety_rules.specs.Premises.{PremisesAreLight}
use Rattle.safety_rules.proofs.AnswerLaws.{AddedFor}
use Rattle.safety_rules.proofs.texts.add_kept.Given as goal

abbrev pub invariant-loop-s : goal.invariant-loop-s
invariant-loop-s l = record {
  added : AddedFor l.pl.slots.now l.pl.params.now
      (λ (s : CStmt). imply l.premises (wp_form l.pl.slots.now s (imply l.pl.using.now l.q)))
      (take l.s-index l.s-items) l.initial.goals l.goals;
  whole : l.whole ≡ joined_all None l.premises;
  light : PremisesAreLight l.whole;
  there : slice_get l.pool.forms l.id.place ≡ Some (imply l.pl.using.now l.q);
}
