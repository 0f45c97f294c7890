use Rattle.std.proofs.Common.{drop}
use Rattle.names_rules.specs.Scope.{entries}
use Rattle.expand_documents.specs.AlwaysNames.{definition_scope}
use Rattle.quantified_assign.proofs.HeadingLaws.{HeadingsAhead}
use Rattle.quantified_assign.proofs.headings.add_headings.Given as goal

abbrev pub invariant-loop-i : goal.invariant-loop-i
invariant-loop-i l =
    HeadingsAhead (definition_scope (entries l.variables) (entries l.values) (entries l.always)) l.i (drop l.i l.parts)
    (definition_scope (entries l.variables) (entries l.values) (entries l.initial.always)) l.parts
