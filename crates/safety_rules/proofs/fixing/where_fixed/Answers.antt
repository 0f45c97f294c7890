use Rattle.std.proofs.Common.{ap, ◌∙◌}
use Rattle.std.proofs.lemmas.Result.{IfOk-weaker}
use Rattle.rules_table.specs.Forms.{imply}
use Rattle.safety_rules.specs.Premises.{implied_by}
use Rattle.safety_rules.proofs.UsableLaws.{all_light, imply-is}
use Rattle.safety_rules.proofs.fixing.where_fixed.Goals as goal

pub joined-requires : goal.joined-requires
joined-requires c =
    all_light c.args.pl.now.slots.now c.args.pl.now.params.now c.args.premises.now c.requires.premises

pub returns : goal.returns
returns c =
    let tree = ap (λ w. implied_by w c.in_ok-form.form) c.in_ok-premises.ensures.whole
    ∙ imply-is c.args.premises.now c.in_ok-form.form
    ∙ ap (imply c.args.premises.now) c.in_ok-form.ensures.tree in
    IfOk-weaker c.imply.result _ _ (λ f h. h ∙ tree) c.imply.ensures.tree
