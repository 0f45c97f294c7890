use Rattle.safety_rules.specs.Answers.{site_of}
use Rattle.safety_rules.specs.Instances.{RecordFits}
use Rattle.safety_rules.proofs.InstanceLaws.{record_stands}
use Rattle.leadsto_rules.specs.References.{FitsIn}
use Rattle.leadsto_rules.proofs.ReferredLaws.{found_has, instance_row, row_fits}
use Rattle.leadsto_rules.proofs.references.referred.Goals as goal

pub instance_for-requires-clause-record : goal.instance_for-requires-clause-record
instance_for-requires-clause-record c =
    found_has (RecordFits c.args.pl.now.slots.now) c.args.book.now c.args.r.now c.in-Some.a.now c.requires.book
    c.in-Some.ensures

pub returns-in-Some-clause-fits : goal.returns-in-Some-clause-fits
returns-in-Some-clause-fits c =
    record_stands (FitsIn c.args.pl.now.slots.now c.args.ranges.now) c.instance_for.result
    (instance_row (site_of c.args.pl.now) c.args.ranges.now c.args.purpose c.as_slice.result.now c.in-Some.a.now)
    (row_fits (site_of c.args.pl.now) c.args.ranges.now c.args.purpose c.as_slice.result.now c.in-Some.a.now
    c.requires.ranges
    (found_has (RecordFits c.args.pl.now.slots.now) c.args.book.now c.args.r.now c.in-Some.a.now c.requires.book
    c.in-Some.ensures)) c.instance_for.ensures
