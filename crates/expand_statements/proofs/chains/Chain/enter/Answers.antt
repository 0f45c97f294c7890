use Rattle.std.proofs.Common.{◌∷◌, [], ◌++◌, ap, ◌∙◌, map}
use Rattle.expand_statements.specs.declared.chains.Chain.{Chain}
use Rattle.expand_statements.specs.Chains.{chain_range}
use Rattle.expand_statements.proofs.StandingLaws.{standing_entered}
use Rattle.expand_statements.proofs.chains.Chain.enter.Goals as goal

pub returns-clause-items : goal.returns-clause-items
returns-clause-items c =
    let made : Chain = record { names = c.push.new.self; ranges = c.push-2.new.self } in
    standing_entered c.args.self.now made c.args.name c.args.range.now c.requires c.in_ok-push.ensures.ok
    (c.in_ok-push-2.ensures.ok ∙ ap (λ r. c.args.self.now.ranges ++ r ∷ []) (c.nest_range-nested.ensures
    ∙ ap (λ (ns : _). chain_range (map (λ n. n.now.text) ns) c.args.range.now) c.as_slice.ensures))
