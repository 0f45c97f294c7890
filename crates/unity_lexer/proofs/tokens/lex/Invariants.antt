use Rattle.std.proofs.Common.{◌-◌, ◌≤◌, length, drop}
use Rattle.unity_lexer.specs.Tokens.{Tokenizes}
use Rattle.unity_lexer.proofs.tokens.lex.Given as goal

abbrev pub invariant-loop-at : goal.invariant-loop-at
invariant-loop-at l = record {
  reads : Tokenizes 0 l.bytes l.tokens l.at (drop l.at l.bytes);
  within : l.at ≤ length l.bytes;
}

abbrev pub decreases-loop-at : goal.decreases-loop-at
decreases-loop-at l = length l.bytes - l.at
