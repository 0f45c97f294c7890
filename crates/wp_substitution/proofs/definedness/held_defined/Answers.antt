use Rattle.std.proofs.Common.{◌∙◌}
use Rattle.std.proofs.lemmas.Result.{IfOk-weaker}
use Rattle.wp_substitution.proofs.JoinedLaws.{needs_joined}
use Rattle.wp_substitution.proofs.definedness.held_defined.Goals as goal

pub returns-clause-tree : goal.returns-clause-tree
returns-clause-tree c =
    let tree = needs_joined c.args.slots.now c.args.s.now c.new-all.result.whole c.add_outside.new.all.whole
    c.add_writes.new.all.whole c.add_pairs.new.all.whole c.as_slice.result.now c.as_slice-2.result.now
    c.as_slice-3.result.now c.new-all.ensures.whole c.as_slice.ensures c.as_slice-2.ensures c.as_slice-3.ensures
    c.in_ok-add_outside.ensures.whole c.in_ok-add_writes.ensures.whole c.in_ok-add_pairs.ensures.whole in
    IfOk-weaker c.into_form.result _ _ (λ f h. h ∙ tree) c.into_form.ensures
