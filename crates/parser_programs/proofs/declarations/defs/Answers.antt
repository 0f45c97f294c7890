use Rattle.std.proofs.Common.{refl, rules}
use Rattle.unity_syntax.specs.Grammar.{def_}
use Rattle.unity_syntax.specs.View.{view_def}
use Rattle.unity_syntax.proofs.Productions.{all_productions}
use Rattle.parser_expressions.proofs.Repetition.{takes_token}
use Rattle.parser_programs.proofs.ItemForms.{is_def}
use Rattle.parser_programs.proofs.declarations.defs.Goals as goal

pub repeated-requires : goal.repeated-requires
unfolding all_productions
repeated-requires c = λ k. (
  search rules,
  (
    search rules,
    λ text x later p.
        takes_token view_def def_ c.args.depth refl refl text x later (search rules),
  ),
)

pub returns : goal.returns
unfolding all_productions
returns c = c.repeated.ensures view_def def_ c.args.depth is_def (λ text r p. search rules)
