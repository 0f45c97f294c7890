use Rattle.std.proofs.Common.{◌≡◌, Some, filter, take}
use Rattle.std.specs.Prelude.{slice_get}
use Rattle.rules_table.specs.Forms.{imply}
use Rattle.rules_table.specs.Table.{helped_form}
use Rattle.safety_rules.specs.Answers.{site_of}
use Rattle.safety_rules.proofs.AnswerLaws.{AddedFor}
use Rattle.safety_rules.specs.Helpers.{may_mean}
use Rattle.safety_rules.proofs.ensuring.add_helped.Given as goal

abbrev pub invariant-loop-s : goal.invariant-loop-s
invariant-loop-s l = record {
  added : AddedFor l.pl.slots.now l.pl.params.now (helped_form (site_of l.pl) l.p l.q l.h)
      (filter (may_mean l.h) (take l.s-index l.s-items)) l.initial.goals l.goals;
  there : slice_get l.pool.forms l.id.place ≡ Some (imply l.pl.using.now l.q);
}
