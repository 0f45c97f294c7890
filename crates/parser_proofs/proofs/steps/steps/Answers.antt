use Rattle.std.proofs.Common.{refl, rules}
use Rattle.unity_syntax.specs.Grammar.{step_}
use Rattle.unity_syntax.specs.View.{view_step}
use Rattle.unity_syntax.proofs.Productions.{all_productions}
use Rattle.parser_expressions.proofs.Repetition.{takes_token}
use Rattle.parser_proofs.proofs.ItemForms.{is_step}
use Rattle.parser_proofs.proofs.steps.steps.Goals as goal

pub repeated-requires : goal.repeated-requires
unfolding all_productions
repeated-requires c = λ k. (
  search rules,
  (
    search rules,
    λ text x later p.
        takes_token view_step step_ c.args.depth refl refl text x later (search rules),
  ),
)

pub returns : goal.returns
unfolding all_productions
returns c = c.repeated.ensures view_step step_ c.args.depth is_step (λ text r p. search rules)
