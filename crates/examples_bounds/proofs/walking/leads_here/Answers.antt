use Rattle.std.proofs.Common.{[], sym, ◌∙◌}
use Rattle.std.proofs.lemmas.Result.{IfOk-weaker}
use Rattle.examples_bounds.proofs.LoopLaws.{always, vacuous}
use Rattle.examples_bounds.proofs.StepLaws.{readable_slots, readable_weight}
use Rattle.examples_bounds.proofs.walking.leads_here.Goals as goal

pub holds-requires-clause-slots : goal.holds-requires-clause-slots
holds-requires-clause-slots c =
    readable_slots c.args.claim.now.slots.now c.args.state.now c.args.claim.now.params.now c.args.claim.now.p.now
    c.requires.state c.requires.claim.p_readable

pub holds-requires-clause-weight : goal.holds-requires-clause-weight
holds-requires-clause-weight c =
    readable_weight c.args.claim.now.slots.now c.args.state.now c.args.claim.now.params.now c.args.claim.now.p.now
    c.requires.state c.requires.claim.p_readable

pub returns-then-not-holds : goal.returns-then-not-holds
returns-then-not-holds c = always _ (λ h. vacuous _ _ (sym c.holds.ensures ∙ c.if-not-holds.true) h)

pub returns : goal.returns
returns c =
    IfOk-weaker c.comes.result _ _
    (λ b known. (
      λ t h. (known [] c.new-count.ensures.empty).0 t,
      λ follows. (known [] c.new-count.ensures.empty).1 (follows (sym c.holds.ensures ∙ c.if-not-holds.false)),
    ))
    c.comes.ensures
