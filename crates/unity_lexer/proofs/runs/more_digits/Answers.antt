use Rattle.std.proofs.Common.{◌≡◌, ◌+◌, ◌-◌, ◌*◌, ◌<◌, ◌^◌, ℕ, min, true, length, get_or, arith, rules}
use Rattle.std.specs.Char.{is_ascii_digit, digit_value}
use Rattle.std.proofs.lemmas.Grind.{common_steps}
use Rattle.std.proofs.lemmas.Int.Digits.{digits_value_more}
use Rattle.unity_lexer.proofs.runs.more_digits.Goals as goal

digit-value : (b : ℕ) → is_ascii_digit b ≡ true → digit_value b ≡ b - 48
digit-value b h = grind (arith, common_steps)

-- a value kept below 2^64, times ten and with a digit
kept : (v d : ℕ) → min (min (min v (2 ^ 64 - 1) * 10) (2 ^ 64 - 1) + d) (2 ^ 64 - 1) ≡ min (v * 10 + d) (2 ^ 64 - 1)
kept v d = omega arith

pub loop-len-preserved : goal.loop-len-preserved
loop-len-preserved c = record {
  within = grind (arith, common_steps);
  passed = grind (arith, common_steps);
  value =
      let i = c.loop-len.len in
      let b = get_or c.args.text.now i 0 in
      let within : i < length c.args.text.now = grind (arith, common_steps) in
      let is_digit : is_ascii_digit b ≡ true = search (rules, c.if-is_ascii_digit.ensures) in
      omega (
        arith,
        c.saturating_add-value.ensures,
        c.saturating_mul.ensures,
        c.from.ensures,
        digits_value_more 10
            c.args.text.now i within,
        digit-value b is_digit,
      );
}
