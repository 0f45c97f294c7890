use Rattle.std.proofs.Common.{refl, rules}
use Rattle.unity_syntax.specs.Grammar.{name_}
use Rattle.unity_syntax.specs.View.{view_name}
use Rattle.unity_syntax.proofs.Productions.{all_productions}
use Rattle.parser_expressions.proofs.ItemForms.{is_name}
use Rattle.parser_expressions.proofs.Repetition.{takes_token}
use Rattle.parser_expressions.proofs.ranges.names.Goals as goal

pub listed-requires : goal.listed-requires
unfolding all_productions
listed-requires c = λ k. (
  search rules,
  (
    search rules,
    λ text x later p.
        takes_token view_name name_ c.args.depth refl refl text x later (search rules),
  ),
)

pub returns : goal.returns
unfolding all_productions
returns c = c.listed.ensures view_name name_ c.args.depth is_name (λ text r p. search rules)
