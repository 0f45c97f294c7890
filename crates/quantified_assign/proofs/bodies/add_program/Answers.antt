use Rattle.quantified_assign.proofs.bodies.add_program.Goals as goal

pub returns-in-Union : goal.returns-in-Union
returns-in-Union c = rw c.in-Union.is c.add_union.ensures
