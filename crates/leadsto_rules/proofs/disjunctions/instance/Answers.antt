use Rattle.std.proofs.Common.{◌≡◌, ◌≤◌, ◌^◌, List, length, ap, sym, subst, ◌∙◌, arith, w64, to_z, of_z}
use Rattle.std.specs.Prelude.{All}
use Rattle.std.proofs.lemmas.Int.{to_z-of_z}
use Rattle.std.proofs.lemmas.Result.{IfOk-weaker}
use Rattle.core_terms.specs.Replacing.{IsSmallArg, form_at}
use Rattle.core_terms.specs.Weights.{plain_weight}
use Rattle.core_terms.specs.declared.trees.Range.{Range}
use Rattle.rules_table.specs.Numbers.{args_from}
use Rattle.leadsto_rules.proofs.ArgLaws.{count_arguments, small_arguments, instance_light}
use Rattle.leadsto_rules.proofs.disjunctions.instance.Goals as goal

pub with_params-requires-clause-params : goal.with_params-requires-clause-params
with_params-requires-clause-params c =
    let ranges : List Range = c.args.i.now.ranges.now in
    let same = c.as_slice.ensures ∙ c.in_ok-args.ensures in
    let long : length c.as_slice.result.now ≡ length ranges =
    ap length same ∙ count_arguments c.args.i.now.name (to_z w64 (of_z w64 c.args.number)) ranges 0 in
    let few = c.requires.formula.params in
    omega (arith, long, few)

pub with_params-requires-clause-small : goal.with_params-requires-clause-small
with_params-requires-clause-small c =
    let ranges : List Range = c.args.i.now.ranges.now in
    let fits = to_z-of_z w64 c.args.number c.ranges.number in
    subst (λ xs. All IsSmallArg xs)
    (sym (c.as_slice.ensures ∙ c.in_ok-args.ensures ∙ ap (λ y. args_from 0 c.args.i.now.name y ranges) fits))
    (small_arguments c.args.i.now.name c.args.number ranges c.requires.number)

pub returns-clause-weight : goal.returns-clause-weight
returns-clause-weight c =
    let ranges : List Range = c.args.i.now.ranges.now in
    let fits = to_z-of_z w64 c.args.number c.ranges.number in
    let same = c.as_slice.ensures ∙ c.in_ok-args.ensures ∙ ap (λ y. args_from 0 c.args.i.now.name y ranges) fits in
    IfOk-weaker c.new.result _ _
    (λ f e. subst (λ g. plain_weight g ≤ 2 ^ 126)
    (sym (e ∙ c.in_ok-with_params.ensures.tree ∙ ap (λ xs. form_at xs c.args.i.now.form.now) same))
    (instance_light c.args.i.now.name c.args.number ranges c.args.i.now.form.now c.requires.number
    c.requires.formula.light)) c.new.ensures
