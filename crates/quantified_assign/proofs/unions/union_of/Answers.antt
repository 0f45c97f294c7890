use Rattle.std.proofs.Common.{subst, sym}
use Rattle.quantified_assign.specs.Bodies.{HasLight}
use Rattle.quantified_assign.proofs.BodyLaws.{found_light}
use Rattle.quantified_assign.proofs.unions.union_of.Goals as goal

pub sized_union-requires-clause-first : goal.sized_union-requires-clause-first
sized_union-requires-clause-first c = subst HasLight (sym c.find_program-first.ensures)
    (found_light c.number.result c.args.programs.now c.requires)

pub sized_union-requires-clause-second : goal.sized_union-requires-clause-second
sized_union-requires-clause-second c = subst HasLight (sym c.find_program-second.ensures)
    (found_light c.number-2.result c.args.programs.now c.requires)
