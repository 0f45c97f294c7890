use Rattle.std.proofs.Common.{◌+◌, ℤ, List, ◌++◌, ◌∷◌, [], take, ap, sym, ◌∙◌, arith, w64, to_z, of_z}
use Rattle.core_terms.specs.declared.trees.Range.{Range}
use Rattle.rules_table.specs.Numbers.{args_from}
use Rattle.leadsto_rules.proofs.ArgLaws.{one_more}
use Rattle.leadsto_rules.proofs.disjunctions.arguments.Goals as goal

pub loop-place-preserved : goal.loop-place-preserved
loop-place-preserved c =
    let ranges : List Range = c.args.i.now.ranges.now in
    let z : ℤ = to_z w64 (of_z w64 c.args.number) in
    let more = one_more c.args.i.now.name z ranges c.loop-place.place (c.loop-place.place + 1) (omega arith)
    c.loop-place-test.true in
    c.in_ok-push.ensures.ok ∙ ap (λ xs. xs ++ c.in_ok-argument.field-0 ∷ []) c.loop-place.invariant
    ∙ ap (λ a. args_from 0 c.args.i.now.name z (take c.loop-place.place ranges) ++ a ∷ []) c.in_ok-argument.ensures
    ∙ sym more
