use Rattle.upgraded_texts.proofs.Documents.{number_is_inside, upgraded_is_as_long, second_comes_back, upgraded_is_read}
use Rattle.upgraded_texts.proofs.texts.text_laws.Goals as goal

pub returns-clause-inside : goal.returns-clause-inside
returns-clause-inside c = number_is_inside

pub returns-clause-size : goal.returns-clause-size
returns-clause-size c = upgraded_is_as_long

pub returns-clause-second : goal.returns-clause-second
returns-clause-second c = second_comes_back

pub returns-clause-read : goal.returns-clause-read
returns-clause-read c = upgraded_is_read
