use Rattle.std.proofs.Common.{◌≡◌, ◌++◌, [], map, take}
use Rattle.expand_expressions.specs.from_meaning_documents.Value.{end_value}
use Rattle.expand_declarations.proofs.schedules.add_indices.Given as goal

abbrev pub invariant-loop-end : goal.invariant-loop-end
invariant-loop-end l = l.indices ≡ l.initial.indices ++ map (end_value []) (take l.end-index l.ends)
