use Rattle.std.proofs.Common.{refl, rules}
use Rattle.unity_syntax.specs.Grammar.{init_}
use Rattle.unity_syntax.specs.View.{view_init}
use Rattle.unity_syntax.proofs.Productions.{all_productions}
use Rattle.parser_expressions.proofs.Repetition.{takes_token}
use Rattle.parser_programs.proofs.ItemForms.{is_init}
use Rattle.parser_programs.proofs.declarations.inits.Goals as goal

pub listed-requires : goal.listed-requires
unfolding all_productions
listed-requires c = λ k. (
  search rules,
  (
    search rules,
    λ text x later p.
        takes_token view_init init_ c.args.depth refl refl text x later (search rules),
  ),
)

pub returns : goal.returns
unfolding all_productions
returns c = c.listed.ensures view_init init_ c.args.depth is_init (λ text r p. search rules)
