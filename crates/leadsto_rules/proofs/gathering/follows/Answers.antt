use Rattle.std.proofs.Common.{◌++◌, ◌∷◌, [], ap, ◌∙◌}
use Rattle.std.proofs.lemmas.Result.{IfOk-weaker}
use Rattle.rules_table.specs.Forms.{imply}
use Rattle.leadsto_rules.proofs.NodeLaws.{premises_foldable, some_premise}
use Rattle.leadsto_rules.proofs.gathering.follows.Goals as goal

pub implied-requires-clause-premises : goal.implied-requires-clause-premises
implied-requires-clause-premises c =
    premises_foldable c.args.pl.now.slots.now c.args.pl.now.params.now c.args.pl.now.using.now c.as_slice.result.now
    c.args.p.now (c.as_slice.ensures ∙ c.in_ok-premises.ensures) c.requires.place.using c.requires.p

pub implied-requires-clause-some : goal.implied-requires-clause-some
implied-requires-clause-some c =
    some_premise c.args.pl.now.using.now c.as_slice.result.now c.args.p.now
    (c.as_slice.ensures ∙ c.in_ok-premises.ensures)

pub returns : goal.returns
returns c =
    let are = c.as_slice.ensures ∙ c.in_ok-premises.ensures in
    let tree = ap (λ fs. imply fs c.in_ok-q.q) are
    ∙ ap (imply (c.args.pl.now.using.now ++ c.args.p.now ∷ [])) c.in_ok-q.ensures in
    IfOk-weaker c.implied.result _ _ (λ f h. h ∙ tree) c.implied.ensures
