use Rattle.std.proofs.Common.{ap, sym, subst, ◌∙◌}
use Rattle.std.proofs.lemmas.Result.{IfOk-weaker}
use Rattle.safety_rules.specs.Foldable.{IsFoldable, gathered_or}
use Rattle.safety_rules.proofs.JoinLaws.{gathered_whole, none_foldable}
use Rattle.safety_rules.proofs.gathering.gathered.Goals as goal

pub returns-in-Some-clause-tree : goal.returns-in-Some-clause-tree
returns-in-Some-clause-tree c =
    ap (gathered_or c.args.joining) (sym c.in-Some.is)
    ∙ gathered_whole c.args.joining c.loop-f.whole c.args.forms.now c.loop-f.f-index c.loop-f-test.false
    c.loop-f.invariant.whole

pub returns-in-None-clause-tree : goal.returns-in-None-clause-tree
returns-in-None-clause-tree c =
    let tree = c.none.ensures ∙ ap (gathered_or c.args.joining) (sym c.in-None.is)
    ∙ gathered_whole c.args.joining c.loop-f.whole c.args.forms.now c.loop-f.f-index c.loop-f-test.false
    c.loop-f.invariant.whole in
    IfOk-weaker c.new.result _ _ (λ f h. h ∙ tree) c.new.ensures

pub returns-in-None-clause-foldable : goal.returns-in-None-clause-foldable
returns-in-None-clause-foldable c =
    IfOk-weaker c.new.result _ _
    (λ f h. subst IsFoldable (sym (h ∙ c.none.ensures)) (none_foldable c.args.joining)) c.new.ensures
