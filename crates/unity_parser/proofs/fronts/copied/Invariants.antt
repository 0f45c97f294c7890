use Rattle.std.proofs.Common.{◌≡◌, take}
use Rattle.unity_parser.proofs.fronts.copied.Given as goal

abbrev pub invariant-tokens : goal.invariant-tokens
invariant-tokens l = l.copy ≡ take l.token-index l.tokens
