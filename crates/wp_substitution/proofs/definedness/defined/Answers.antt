use Rattle.std.proofs.Common.{ap, ◌∙◌}
use Rattle.core_terms.specs.Values.{form_value}
use Rattle.wp_substitution.proofs.LightLaws.{outside_light, writes_light}
use Rattle.wp_substitution.proofs.ExactLaws.{definedness}
use Rattle.wp_substitution.proofs.definedness.defined.Goals as goal

pub held_defined-requires-clause-outside : goal.held_defined-requires-clause-outside
held_defined-requires-clause-outside c = outside_light c.args.slots.now c.args.s.now c.requires

pub held_defined-requires-clause-writes : goal.held_defined-requires-clause-writes
held_defined-requires-clause-writes c = writes_light c.args.slots.now c.args.s.now c.requires

pub returns-clause-meaning : goal.returns-clause-meaning
returns-clause-meaning c state params =
    ap (form_value state params) (c.in_ok-owned_form.ensures ∙ c.in_ok-held_defined.ensures.tree)
    ∙ definedness c.args.slots.now c.args.s.now c.requires state params
