use Rattle.std.proofs.Common.{take}
use Rattle.safety_rules.specs.from_rules_table.Forms.{imply}
use Rattle.safety_rules.proofs.AnswerLaws.{AddedFor}
use Rattle.union_theorem.proofs.shown.add_shown.Given as goal

abbrev pub invariant-loop-f : goal.invariant-loop-f
invariant-loop-f l =
    AddedFor l.pl.slots.now l.pl.params.now (imply l.pl.using.now) (take l.f-index l.forms) l.initial.goals l.goals
