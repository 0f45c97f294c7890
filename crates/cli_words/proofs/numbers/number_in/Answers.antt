use Rattle.std.proofs.Common.{rules, ◌≡◌, true}
use Rattle.cli_words.specs.Numbers as numbers
use Rattle.cli_words.proofs.Decimals.{past_most}
use Rattle.cli_words.proofs.numbers.number_in.Goals as goal

pub returns-in-Err-clause-value : goal.returns-in-Err-clause-value
returns-in-Err-clause-value c =
    let plain : numbers.is_plain c.args.word.now ≡ true = search rules in
    past_most c.args.most c.args.word.now c.ranges.most.fits plain c.in-Err.ensures.value.0
