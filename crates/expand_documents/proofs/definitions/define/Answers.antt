use Rattle.std.proofs.Common.{List, subst}
use Rattle.expand_rules.specs.declared.cores.Bound.{Bound}
use Rattle.expand_rules.specs.Forming.{formed}
use Rattle.names_rules.specs.Scope.{entries}
use Rattle.expand_documents.specs.AlwaysNames.{MakesElement, definition_scope}
use Rattle.std.proofs.Common.{ℕ}
use Rattle.expand_documents.proofs.definitions.define.Goals as goal

pub element-requires : goal.element-requires
element-requires c = record { always = c.requires.always.each; slots = c.requires.variables.each }

pub returns : goal.returns
returns c = subst (λ (bound : List (List ℕ × Bound)). MakesElement c.element.result (formed c.args.d.now.of
    (record (definition_scope (entries c.args.variables.now) (entries c.args.values.now) (entries c.args.always.now))
    { bound = bound })) c.args.d.now.name.at) c.outside.ensures c.element.ensures
