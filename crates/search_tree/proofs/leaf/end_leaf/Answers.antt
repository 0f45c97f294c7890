use Rattle.std.specs.Prelude.{◌≡◌, false, true, Option, List, IfSome, MatchOption}
use Rattle.std.proofs.Common.{refl, subst}
use Rattle.obligations.specs.declared.certificates.Node.{Node}
use Rattle.obligations.specs.Reach.{some_out_of_reach}
use Rattle.linear_prover.specs.Chains.{ClosesShortly}
use Rattle.search_tree.proofs.FixingLaws.{fixing-exact, fixing-closes, fixing-meets}
use Rattle.search_tree.proofs.leaf.end_leaf.Goals as goal

pub reach_chain-requires-clause-exact : goal.reach_chain-requires-clause-exact
reach_chain-requires-clause-exact c =
    fixing-exact c.args.vs.now c.args.scope.now c.args.branch.now c.args.fixing c.as_slice-known.result.now
    c.count_of.result c.requires.scope c.requires.fixing c.as_slice-known.ensures c.count_of.ensures

pub returns-in-Some : goal.returns-in-Some
returns-in-Some c =
    fixing-closes c.args.vs.now c.args.scope.now c.args.branch.now c.args.fixing c.as_slice-known.result.now
    c.count_of.result c.in-Some.chain c.args.trail.now c.finish_after.new.trail c.in_ok-ended-in-Some.ended
    c.requires.scope c.requires.fixing c.requires.none c.as_slice-known.ensures c.count_of.ensures
    (subst (λ (o : Option (List Node)). IfSome o (ClosesShortly c.count_of.result c.as_slice-known.result.now))
    c.in-Some.is c.in_ok-chain.ensures.chain) c.in_ok-ended-in-Some.ensures

pub returns : goal.returns
returns c =
    fixing-meets c.args.vs.now c.args.branch.now c.args.fixing c.as_slice-known.result.now c.as_slice.result.now
    c.in_ok-values-in-None.values _ c.args.trail.now c.args.trail.now c.requires.fixing c.requires.none
    c.as_slice-known.ensures c.as_slice.ensures refl
    (subst (λ (o : Option (List Node)). MatchOption o (some_out_of_reach c.as_slice-known.result.now ≡ false)
    (λ ns. some_out_of_reach c.as_slice-known.result.now ≡ true)) c.in-None.is c.in_ok-chain.ensures.reach)
    c.in_ok-values-in-None.ensures
