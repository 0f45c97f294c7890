use Rattle.std.proofs.Common.{◌≡◌, drop}
use Rattle.std.specs.List.{position_from}
use Rattle.fair_rounds.specs.Records.{names_statement}
use Rattle.trace_watch.proofs.helpers.place_named.Given as goal

abbrev pub invariant-loop-place : goal.invariant-loop-place
invariant-loop-place l =
    position_from (names_statement l.helper l.values) l.place (drop l.place l.statements)
    ≡ position_from (names_statement l.helper l.values) 0 l.statements
