use Rattle.std.proofs.Common.{drop}
use Rattle.names_rules.specs.Scope.{entries}
use Rattle.expand_documents.specs.AlwaysNames.{definition_scope}
use Rattle.expand_documents.proofs.DefinitionLaws.{DefinedAhead}
use Rattle.expand_documents.proofs.definitions.add_definitions.Given as goal

abbrev pub invariant-loop-d : goal.invariant-loop-d
invariant-loop-d l =
    DefinedAhead (definition_scope (entries l.variables) (entries l.values) (entries l.always)) (drop l.d-index l.ds)
    (definition_scope (entries l.variables) (entries l.values) (entries l.initial.always)) l.ds
