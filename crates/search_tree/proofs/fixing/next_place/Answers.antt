use Rattle.std.proofs.Common.{arith}
use Rattle.search_tree.proofs.FixingLaws.{first-in, inside-in}
use Rattle.search_tree.proofs.fixing.next_place.Goals as goal

pub first_naming-requires : goal.first_naming-requires
first_naming-requires c =
    first-in c.args.vs.now c.args.branch.now c.args.taken c.args.fixing.now c.args.facts.now c.requires.fixing
    c.requires.some c.requires.facts

pub returns-clause-inside : goal.returns-clause-inside
returns-clause-inside c =
    inside-in c.args.vs.now c.args.branch.now c.args.taken c.args.fixing.now c.args.facts.now c.first_naming.result
    c.requires.fixing c.requires.some c.requires.facts c.first_naming.ensures

pub returns-clause-room : goal.returns-clause-room
returns-clause-room c =
    let inside =
    inside-in c.args.vs.now c.args.branch.now c.args.taken c.args.fixing.now c.args.facts.now c.first_naming.result
    c.requires.fixing c.requires.some c.requires.facts c.first_naming.ensures in
    let room = c.requires.room in omega (arith, inside, room)
