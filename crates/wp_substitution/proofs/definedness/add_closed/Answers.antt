use Rattle.std.proofs.Common.{cond, Some, ap, sym, ◌∙◌}
use Rattle.core_terms.specs.declared.trees.CForm.TheVariants.{Bottom}
use Rattle.wp_substitution.proofs.AgreeLaws.{closed_joined}
use Rattle.wp_substitution.proofs.definedness.add_closed.Goals as goal

pub returns-in_ok-fail-clause-whole : goal.returns-in_ok-fail-clause-whole
returns-in_ok-fail-clause-whole c =
    let all = c.args.all.now in
    c.in_ok-fail.ensures.whole
    ∙ sym (closed_joined all.whole all.truth c.args.writes.now c.requires.settled c.requires.known.truth
    c.requires.known.folded c.requires.closed
    ∙ ap (λ b. cond b all.whole (Some Bottom)) (sym c.in_ok-agree.ensures ∙ c.if-not-branch.true))

pub returns-else-not-branch-clause-whole : goal.returns-else-not-branch-clause-whole
returns-else-not-branch-clause-whole c =
    let all = c.args.all.now in
    sym (closed_joined all.whole all.truth c.args.writes.now c.requires.settled c.requires.known.truth
    c.requires.known.folded c.requires.closed
    ∙ ap (λ b. cond b all.whole (Some Bottom)) (sym c.in_ok-agree.ensures ∙ c.if-not-branch.false))
