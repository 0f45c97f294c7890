use Rattle.std.proofs.Common.{◌≡◌, [], drop, map}
use Rattle.expand_rules.specs.Assigning.{among, effect_of}
use Rattle.expand_rules.specs.Lists.{statement_fault}
use Rattle.expand_statements.specs.Chains.{bound_inside}
use Rattle.expand_statements.specs.Visiting.{scope_among}
use Rattle.expand_statements.proofs.FaultLaws.{fault_from}
use Rattle.expand_statements.proofs.checking.all_flaws.Given as goal

abbrev pub invariant-loop-values : goal.invariant-loop-values
invariant-loop-values l =
    statement_fault l.label (map (λ vs. effect_of l.a (among (scope_among l.known [])
    (bound_inside [] (map (λ n. n.now.text) l.names) vs))) l.list) ≡
    fault_from l.label l.flaws (map (λ vs. effect_of l.a (among (scope_among l.known [])
    (bound_inside [] (map (λ n. n.now.text) l.names) vs))) (drop l.values-index l.list))
