use Rattle.std.proofs.Common.{drop}
use Rattle.expand_steps.specs.Steps.{outer_scope}
use Rattle.quantified_assign.proofs.BodyLaws.{BodiesAhead}
use Rattle.quantified_assign.proofs.bodies.add_bodies.Given as goal

abbrev pub invariant-loop-part : goal.invariant-loop-part
invariant-loop-part l = BodiesAhead l.making.words.now (outer_scope l.making.known.now) l.making.slots.now
    l.programs l.proofs (drop l.part-index l.parts) l.initial.programs l.initial.proofs l.parts
