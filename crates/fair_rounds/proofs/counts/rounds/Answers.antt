use Rattle.std.proofs.Common.{◌≡◌, ◌^◌, ◌<◌, ◌≤◌, [], length, take, arith, ap, ◌∙◌}
use Rattle.std.proofs.lemmas.List.{take_all}
use Rattle.meaning_laws.specs.from_meaning_executions.Rounds as meaning
use Rattle.fair_rounds.proofs.CountLaws.{few_rounds}
use Rattle.fair_rounds.proofs.counts.rounds.Goals as goal

pub returns : goal.returns
returns c =
    let all = c.rounds.ensures _ c.loop-choice.invariant.stands in
    let whole : take c.loop-choice.choice-index c.args.choices.now ≡ c.args.choices.now =
    take_all c.loop-choice.choice-index c.args.choices.now c.loop-choice-test.false in
    let are : meaning.rounds (take c.loop-choice.choice-index c.args.choices.now) c.loop-choice.count.instances ≡
    meaning.rounds c.args.choices.now c.args.k =
    ap (λ cs. meaning.rounds cs c.loop-choice.count.instances) whole
    ∙ ap (meaning.rounds c.args.choices.now) c.loop-choice.invariant.instances in
    let few : meaning.rounds c.args.choices.now c.args.k ≤ length c.args.choices.now =
    few_rounds c.args.k [] c.args.choices.now in
    let fits : length c.args.choices.now < 2 ^ 64 = omega arith in
    omega arith
