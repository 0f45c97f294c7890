use Rattle.std.proofs.Common.{◌∙◌}
use Rattle.certificate_events.proofs.SectionLaws.{nodes_some}
use Rattle.certificate_events.proofs.places.nodes.Goals as goal

pub returns-else-place-eq0 : goal.returns-else-place-eq0
returns-else-place-eq0 c = c.node.ensures ∙ nodes_some c.args.place.now c.args.sign c.if-place-eq0.false
