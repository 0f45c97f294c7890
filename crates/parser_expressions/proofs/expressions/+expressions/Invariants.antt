use Rattle.std.proofs.Common.{◌+◌, ◌*◌}
use Rattle.grammar_theory.specs.Ebnf.{both}
use Rattle.grammar_theory.specs.Reader.{count}
use Rattle.unity_syntax.specs.Grammar.{atom_, product_, plus_or_minus_, operator_}
use Rattle.unity_syntax.specs.View.{view_signed, view_factor, view_expr}
use Rattle.parser_expressions.specs.Joints.{joined_unit_}
use Rattle.parser_expressions.specs.Gives.{remaining}
use Rattle.parser_expressions.proofs.Repetition.{Items}
use Rattle.parser_expressions.proofs.expressions.+expressions.Given as goal

abbrev pub decreases-contents : goal.decreases-contents
decreases-contents l = 32 * l.depth + 27

abbrev pub decreases-quantified : goal.decreases-quantified
decreases-quantified l = 32 * l.depth + 26

abbrev pub decreases-pred : goal.decreases-pred
decreases-pred l = 32 * l.depth + 24

abbrev pub decreases-joined : goal.decreases-joined
decreases-joined l = 32 * l.depth + 22

abbrev pub decreases-joined_by : goal.decreases-joined_by
decreases-joined_by l = 32 * l.depth + 21

abbrev pub decreases-more_units : goal.decreases-more_units
decreases-more_units l = 32 * l.depth + 20

abbrev pub decreases-next_unit : goal.decreases-next_unit
decreases-next_unit l = 32 * l.depth + 18

abbrev pub decreases-unit : goal.decreases-unit
decreases-unit l = 32 * l.depth + 16

abbrev pub decreases-compare : goal.decreases-compare
decreases-compare l = 32 * l.depth + 14

abbrev pub decreases-sum : goal.decreases-sum
decreases-sum l = 32 * l.depth + 12

abbrev pub decreases-more_products : goal.decreases-more_products
decreases-more_products l = 32 * l.depth + 11

abbrev pub decreases-next_product : goal.decreases-next_product
decreases-next_product l = 32 * l.depth + 10

abbrev pub decreases-product : goal.decreases-product
decreases-product l = 32 * l.depth + 9

abbrev pub decreases-more_factors : goal.decreases-more_factors
decreases-more_factors l = 32 * l.depth + 8

abbrev pub decreases-next_factor : goal.decreases-next_factor
decreases-next_factor l = 32 * l.depth + 7

abbrev pub decreases-atom : goal.decreases-atom
decreases-atom l = 32 * l.depth + 6

abbrev pub decreases-word : goal.decreases-word
decreases-word l = 32 * l.depth + 4

abbrev pub decreases-parentheses : goal.decreases-parentheses
decreases-parentheses l = 32 * l.depth + 2

abbrev pub decreases-index : goal.decreases-index
decreases-index l = 32 * l.depth + 2

abbrev pub invariant-more_units-items : goal.invariant-more_units-items
invariant-more_units-items l = Items view_expr (joined_unit_ l.by) l.depth (remaining l.fn.text) l.found
    (remaining l.rest)

abbrev pub decreases-more_units-items : goal.decreases-more_units-items
decreases-more_units-items l = count (remaining l.rest)

abbrev pub invariant-more_products-items : goal.invariant-more_products-items
invariant-more_products-items l = Items (view_signed view_expr) (both plus_or_minus_ product_) l.depth
    (remaining l.fn.text) l.found (remaining l.rest)

abbrev pub decreases-more_products-items : goal.decreases-more_products-items
decreases-more_products-items l = count (remaining l.rest)

abbrev pub invariant-more_factors-items : goal.invariant-more_factors-items
invariant-more_factors-items l = Items (view_factor view_expr) (both operator_ atom_) l.depth (remaining l.fn.text)
    l.found (remaining l.rest)

abbrev pub decreases-more_factors-items : goal.decreases-more_factors-items
decreases-more_factors-items l = count (remaining l.rest)
