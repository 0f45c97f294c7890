use Rattle.unity_syntax.proofs.LaterWords.{no_later_words}
use Rattle.unity_syntax.proofs.reading.no_later_word.Goals as goal

pub returns : goal.returns
returns c = no_later_words
