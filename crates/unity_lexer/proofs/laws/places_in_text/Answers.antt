use Rattle.unity_lexer.proofs.SomeAnswer.{IsTokens-in_order, IsTokens-spelled, FirstBad-inside}
use Rattle.unity_lexer.proofs.laws.places_in_text.Goals as goal

pub returns : goal.returns
returns c = record { order = IsTokens-in_order; spelled = IsTokens-spelled; fault = FirstBad-inside }
