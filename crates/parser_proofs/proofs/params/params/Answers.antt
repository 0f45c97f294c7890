use Rattle.std.proofs.Common.{refl, rules}
use Rattle.unity_syntax.specs.Grammar.{param_}
use Rattle.unity_syntax.specs.View.{view_param}
use Rattle.unity_syntax.proofs.Productions.{all_productions}
use Rattle.parser_expressions.proofs.Repetition.{takes_token}
use Rattle.parser_proofs.proofs.ItemForms.{is_param}
use Rattle.parser_proofs.proofs.params.params.Goals as goal

pub listed-requires : goal.listed-requires
unfolding all_productions
listed-requires c = λ k. (
  search rules,
  (
    search rules,
    λ text x later p.
        takes_token view_param param_ c.args.depth refl refl text x later (search rules),
  ),
)

pub returns : goal.returns
unfolding all_productions
returns c = c.listed.ensures view_param param_ c.args.depth is_param (λ text r p. search rules)
