use Rattle.std.proofs.Common.{subst, sym, ◌∙◌}
use Rattle.std.proofs.lemmas.List.Elements.{All-get_or}
use Rattle.core_terms.specs.Conditions.{StatementFits}
use Rattle.fixed_points.proofs.forming.add_parts.Goals as goal

pub fixed_part-requires : goal.fixed_part-requires
fixed_part-requires c =
    subst (λ t. StatementFits c.args.slots.now t) (sym (c.get.ensures ∙ c.s-item.is))
    (All-get_or (StatementFits c.args.slots.now) c.args.statements.now c.loop-s.s-index c.s-item.result
    c.loop-s-test.true c.requires.fits)
