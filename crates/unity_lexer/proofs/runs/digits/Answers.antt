use Rattle.std.proofs.Common.{◌≡◌, ◌+◌, ◌-◌, ◌*◌, ◌<◌, ◌^◌, ℕ, true, length, get_or, arith, rules}
use Rattle.std.specs.Char.{is_ascii_digit, digit_value}
use Rattle.std.proofs.lemmas.Grind.{common_steps}
use Rattle.std.proofs.lemmas.Int.Digits.{digits_value_more}
use Rattle.unity_lexer.proofs.runs.digits.Goals as goal

digit-value : (b : ℕ) → is_ascii_digit b ≡ true → digit_value b ≡ b - 48
digit-value b h = grind (arith, common_steps)

pub loop-len-preserved : goal.loop-len-preserved
loop-len-preserved c = record {
  within = grind (arith, common_steps);
  passed = grind (arith, common_steps);
  value =
      let i = c.loop-len.len in
      let b = get_or c.args.text.now i 0 in
      let within : i < length c.args.text.now = grind (arith, common_steps) in
      let is_digit : is_ascii_digit b ≡ true = search (rules, c.if-is_ascii_digit.ensures) in
      omega (
        arith,
        c.from.ensures,
        digits_value_more 10
            c.args.text.now i within,
        digit-value b is_digit,
      );
}
