use Rattle.unity_lexer.proofs.OneAnswer.{IsTokens-unique, IsTokens-no_fault, IsLexing-unique}
use Rattle.unity_lexer.proofs.laws.one_reading.Goals as goal

pub returns : goal.returns
returns c = record { tokens = IsTokens-unique; either = IsTokens-no_fault; reading = IsLexing-unique }
