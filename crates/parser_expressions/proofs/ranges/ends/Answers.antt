use Rattle.std.proofs.Common.{refl, rules}
use Rattle.unity_syntax.specs.Grammar.{end_}
use Rattle.unity_syntax.specs.View.{view_end}
use Rattle.unity_syntax.proofs.Productions.{all_productions}
use Rattle.parser_expressions.proofs.ItemForms.{is_end}
use Rattle.parser_expressions.proofs.Repetition.{takes_token}
use Rattle.parser_expressions.proofs.ranges.ends.Goals as goal

pub listed-requires : goal.listed-requires
unfolding all_productions
listed-requires c = λ k. (
  search rules,
  (
    search rules,
    λ text x later p.
        takes_token view_end end_ c.args.depth refl refl text x later (search rules),
  ),
)

pub returns : goal.returns
unfolding all_productions
returns c = c.listed.ensures view_end end_ c.args.depth is_end (λ text r p. search rules)
