use Rattle.std.proofs.Common.{refl}
use Rattle.search_tree.proofs.FixingLaws.{read-low, read-high, fixed-next}
use Rattle.search_tree.proofs.fixing.fix.Goals as goal

pub fix_by-requires-clause-low : goal.fix_by-requires-clause-low
fix_by-requires-clause-low c =
    read-low c.args.vs.now c.args.branch.now c.args.taken c.args.fixing.now c.args.facts.now c.next_place-place.result
    c.index-facts-place.result c.requires.fixing c.requires.some c.requires.facts c.next_place-place.ensures.first
    c.index-facts-place.is

pub fix_by-requires-clause-high : goal.fix_by-requires-clause-high
fix_by-requires-clause-high c =
    read-high c.args.vs.now c.args.branch.now c.args.taken c.args.fixing.now c.args.facts.now
    c.next_place-place.result c.index-facts-place-2.result c.requires.fixing c.requires.some c.requires.facts
    c.next_place-place.ensures.first c.index-facts-place-2.is

pub returns : goal.returns
returns c =
    fixed-next c.args.vs.now c.args.branch.now c.args.taken c.args.fixing.now c.fix_by.new.fixing c.args.facts.now
    c.next_place-place.result _ c.index-facts-place.result c.index-facts-place-2.result c.requires.fixing
    c.requires.some c.requires.facts c.next_place-place.ensures.first c.index-facts-place.is c.index-facts-place-2.is
    refl c.in_ok-fix_by.ensures
