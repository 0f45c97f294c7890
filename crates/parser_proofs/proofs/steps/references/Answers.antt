use Rattle.std.proofs.Common.{refl, rules}
use Rattle.unity_syntax.specs.Grammar.{ref_}
use Rattle.unity_syntax.specs.View.{view_ref}
use Rattle.unity_syntax.proofs.Productions.{all_productions}
use Rattle.parser_expressions.proofs.Repetition.{takes_token}
use Rattle.parser_proofs.proofs.ItemForms.{is_reference}
use Rattle.parser_proofs.proofs.steps.references.Goals as goal

pub listed-requires : goal.listed-requires
unfolding all_productions
listed-requires c = λ k. (
  search rules,
  (
    search rules,
    λ text x later p.
        takes_token view_ref ref_ c.args.depth refl refl text x later (search rules),
  ),
)

pub returns : goal.returns
unfolding all_productions
returns c = c.listed.ensures view_ref ref_ c.args.depth is_reference (λ text r p. search rules)
