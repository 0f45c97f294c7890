use Rattle.std.proofs.Common.{None, ap, ◌∙◌}
use Rattle.std.proofs.lemmas.Result.{IfOk-weaker}
use Rattle.wp_substitution.specs.Joined.{joined_all}
use Rattle.rules_table.specs.Forms.{imply}
use Rattle.safety_rules.specs.Premises.{implied_by}
use Rattle.safety_rules.proofs.UsableLaws.{all_light, pushed_usable, imply-is}
use Rattle.safety_rules.proofs.weakening.follows.Goals as goal

pub joined-requires : goal.joined-requires
joined-requires c =
    all_light c.args.pl.now.slots.now c.args.pl.now.params.now c.as_slice.result.now
    (pushed_usable c.args.pl.now.slots.now c.args.pl.now.params.now c.args.pl.now.using.now c.args.q.now
    c.as_slice.result.now (c.as_slice.ensures ∙ c.in_ok-premises.ensures) c.requires.place.using c.requires.q)

pub returns : goal.returns
returns c =
    let are = c.as_slice.ensures ∙ c.in_ok-premises.ensures in
    let whole = c.in_ok-whole.ensures.whole ∙ ap (joined_all None) are in
    let tree = ap (λ w. implied_by w c.in_ok-r.r) whole ∙ imply-is _ c.in_ok-r.r ∙ ap (imply _) c.in_ok-r.ensures in
    IfOk-weaker c.imply.result _ _ (λ f h. h ∙ tree) c.imply.ensures.tree
