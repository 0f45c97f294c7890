use Rattle.cli_words.proofs.Decimals.{numbers_are_decimal}
use Rattle.cli_words.proofs.laws.number_laws.Goals as goal

pub returns : goal.returns
returns c = numbers_are_decimal
