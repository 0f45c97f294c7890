use Rattle.std.proofs.Common.{refl, sym, ap, ◌∙◌}
use Rattle.obligations.specs.Reach.{bounds_refute}
use Rattle.linear_prover.proofs.ChainLaws.{refuted-at, refuted-plain, refuted-none, sum-chain, any-at}
use Rattle.linear_prover.proofs.reach.sum_against.Goals as goal

pub pairs_against-requires-clause-plain : goal.pairs_against-requires-clause-plain
pairs_against-requires-clause-plain c =
    refuted-plain c.args.facts.now c.index-facts-place.result
    (refuted-at c.args.count c.args.facts.now c.args.bounds.now c.in-Some.place c.index-facts-place.result
    c.requires.bounds c.requires.exact
    c.in-Some.ensures c.index-facts-place.is).1

pub returns-in_ok-one_sum-in-Some-clause-chain : goal.returns-in_ok-one_sum-in-Some-clause-chain
returns-in_ok-one_sum-in-Some-clause-chain c =
    sum-chain c.args.count c.args.facts.now c.args.bounds.now c.in-Some.place _ c.index-facts-place.result
    c.in_ok-pairs-in-Some.pairs
    c.in_ok-one_sum-in-Some.field-0 c.requires.bounds c.requires.exact c.in-Some.ensures c.index-facts-place.is refl
    c.in_ok-pairs-in-Some.ensures c.in_ok-one_sum-in-Some.ensures

pub returns-in-None-clause-reach : goal.returns-in-None-clause-reach
returns-in-None-clause-reach c =
    sym (refuted-none c.args.count c.args.facts.now c.args.facts.now c.args.bounds.now c.requires.bounds
    c.requires.exact) ∙ c.in-None.ensures

pub returns-in_ok-one_sum-in-Some-clause-reach : goal.returns-in_ok-one_sum-in-Some-clause-reach
returns-in_ok-one_sum-in-Some-clause-reach c =
    let at = refuted-at c.args.count c.args.facts.now c.args.bounds.now c.in-Some.place c.index-facts-place.result
    c.requires.bounds c.requires.exact c.in-Some.ensures c.index-facts-place.is in
    any-at (bounds_refute c.args.facts.now) c.args.facts.now c.in-Some.place c.index-facts-place.result at.0 at.1
