use Rattle.std.proofs.Common.{◌≡◌, ◌++◌, map, take}
use Rattle.names_rules.specs.Scope.{bounds, entries}
use Rattle.expand_declarations.specs.References.{core_arg}
use Rattle.expand_declarations.proofs.references.add_args.Given as goal

abbrev pub invariant-loop-end : goal.invariant-loop-end
invariant-loop-end l =
    l.args ≡ l.initial.args ++ map (core_arg (bounds l.env) (entries l.params)) (take l.end-index l.ends)
