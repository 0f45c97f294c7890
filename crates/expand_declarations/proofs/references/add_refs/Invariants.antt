use Rattle.std.proofs.Common.{◌≡◌, ◌++◌, map, take}
use Rattle.names_rules.specs.Scope.{bounds, entries}
use Rattle.expand_declarations.specs.References.{core_ref}
use Rattle.expand_declarations.proofs.references.add_refs.Given as goal

abbrev pub invariant-loop-r : goal.invariant-loop-r
invariant-loop-r l = l.list ≡ l.initial.list
    ++ map (core_ref l.words l.owner.text (bounds l.env) (entries l.params)) (take l.r-index l.refs)
