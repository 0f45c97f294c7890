use Rattle.unity_lexer.proofs.SomeAnswer as answer
use Rattle.unity_lexer.proofs.laws.some_reading.Goals as goal

pub returns : goal.returns
returns c = answer.some_reading
