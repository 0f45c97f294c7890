use Rattle.std.proofs.Common.{subst, []}
use Rattle.names_rules.specs.declared.named.Indices.{Indices}
use Rattle.names_rules.specs.Scope.{Bounds, entries}
use Rattle.names_rules.specs.Proofs.{arguments_reading, proof_scope}
use Rattle.names_rules.specs.Answers.{Notes}
use Rattle.ranges_types.proofs.documents.choice.Goals as goal

pub returns : goal.returns
returns c = subst (λ (b : Bounds). Notes c.arguments.result c.args.table.now c.arguments.new.table
    (arguments_reading Indices.Schedule (record (proof_scope (entries c.args.t.now.names) []) { bounds = b })
    c.args.i.now.indices))
    c.outside.ensures c.arguments.ensures
