use Rattle.std.proofs.Common.{take}
use Rattle.core_terms.specs.declared.programs.CStmt.{CStmt}
use Rattle.fixed_points.specs.FixedForms.{fixed_part}
use Rattle.rules_table.specs.Forms.{imply}
use Rattle.safety_rules.proofs.AnswerLaws.{AddedFor}
use Rattle.safety_rules.proofs.fixing.add_fixed.Given as goal

abbrev pub invariant-loop-s : goal.invariant-loop-s
invariant-loop-s l =
    AddedFor l.pl.slots.now l.pl.params.now
    (λ (s : CStmt). imply l.premises (fixed_part l.pl.slots.now s))
    (take l.s-index l.s-items) l.initial.goals l.goals
