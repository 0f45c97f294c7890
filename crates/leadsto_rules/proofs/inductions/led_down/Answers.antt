use Rattle.leadsto_rules.proofs.InductionLaws.{light}
use Rattle.leadsto_rules.proofs.inductions.led_down.Goals as goal

pub at_measure-requires : goal.at_measure-requires
at_measure-requires c = light c.args.pl.now.slots.now c.args.ranges.now c.args.i.now c.requires.induction

pub below_measure-requires : goal.below_measure-requires
below_measure-requires c = light c.args.pl.now.slots.now c.args.ranges.now c.args.i.now c.requires.induction
