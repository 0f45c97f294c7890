use Rattle.std.proofs.Common.{◌≡◌, drop}
use Rattle.core_terms.specs.Replacing.{arg_values}
use Rattle.meaning_executions.specs.Counting.{ints_eq}
use Rattle.trace_watch.proofs.helpers.are_indices.Given as goal

abbrev pub invariant-loop-place : goal.invariant-loop-place
invariant-loop-place l =
    ints_eq (drop l.place l.indices) (arg_values l.values (drop l.place l.args))
    ≡ ints_eq l.indices (arg_values l.values l.args)
