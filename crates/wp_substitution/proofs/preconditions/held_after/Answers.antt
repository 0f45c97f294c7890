use Rattle.std.proofs.Common.{arith}
use Rattle.std.proofs.lemmas.Result.{IfOk-weaker}
use Rattle.wp_substitution.proofs.LightLaws.{after_light}
use Rattle.wp_substitution.proofs.preconditions.held_after.Goals as goal

pub form_after-requires-clause-weight : goal.form_after-requires-clause-weight
form_after-requires-clause-weight c = let h = after_light c.args.q.now c.requires.weight in omega (arith, h)

pub returns-clause-weight : goal.returns-clause-weight
returns-clause-weight c =
    let h = after_light c.args.q.now c.requires.weight in
    IfOk-weaker c.form_after.result _ _ (λ f k. omega (arith, h, k)) c.form_after.ensures.weight
