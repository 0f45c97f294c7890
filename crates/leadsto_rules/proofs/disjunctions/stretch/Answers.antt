use Rattle.std.proofs.Common.{ℤ, subst, w64}
use Rattle.std.specs.Option.{IfSome}
use Rattle.std.proofs.lemmas.Int.{to_z-of_z}
use Rattle.leadsto_rules.specs.Stretches.{IsTruthOn}
use Rattle.rules_table.specs.Numbers.{args_from}
use Rattle.leadsto_rules.proofs.ArgLaws.{number_put}
use Rattle.leadsto_rules.proofs.disjunctions.stretch.Goals as goal

pub returns-then-i-clause-truth : goal.returns-then-i-clause-truth
returns-then-i-clause-truth c =
    let i = c.args.i.now in
    subst (λ z. IfSome c.truth_on.result
    (λ s. IsTruthOn (λ (y : ℤ). args_from 0 i.name y i.ranges.now) z s.reach i.form.now s.holds))
    (to_z-of_z w64 c.args.number c.ranges.number)
    (c.truth_on.ensures.truth (λ (y : ℤ). args_from 0 i.name y i.ranges.now)
    (λ y. number_put i.name y i.ranges.now c.if-i.true))
