use Rattle.std.proofs.Common.{◌≡◌, drop, map, None}
use Rattle.expand_statements.specs.Chains.{last_from}
use Rattle.expand_statements.proofs.chains.level_of.Given as goal

abbrev pub invariant-loop-place : goal.invariant-loop-place
invariant-loop-place l =
    last_from l.level l.place l.name.text (map (λ n. n.now.text) (drop l.place l.names)) ≡
    last_from None 0 l.name.text (map (λ n. n.now.text) l.names)
