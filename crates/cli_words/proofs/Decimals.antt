-- Words that are numbers are the decimals of these.
use Rattle.std.proofs.Common.{◌≡◌, ◌<◌, ◌≤◌, ◌^◌, ℕ, Bool, true, false, cond, not, ◌&&◌, nat_eq, nat_le, List, []}
use Rattle.std.proofs.Common.{◌∷◌, length, get_or, decimal, Some, None, arith, rules, refl}
use Rattle.std.proofs.Common.{sym, ap, ◌∙◌, subst}
use Rattle.std.specs.List.{list_all}
use Rattle.std.specs.Str.Parse.{AllDigits, IsNumeral, digits_value, without_leading_plus}
use Rattle.std.specs.Int.{IsInRange}
use Rattle.std.proofs.lemmas.Bool.{leb-true, le-leb, ne_eqb, eq-eqb, eqb-true}
use Rattle.std.proofs.Common.{drop, zero, suc}
use Rattle.std.proofs.lemmas.Str.Parse.{digit_from_value}
use Rattle.std.proofs.lemmas.Str.Parse.{IsNumeralModel}
use Rattle.std.proofs.lemmas.Str.{digit_value_digit}
use Rattle.std.proofs.lemmas.Fmt.{decimal-digits_value, digits_decimal, digits_value-decimal, decimal_nonempty}
use Rattle.std.proofs.lemmas.Fmt.{first_decimal}
use Rattle.std.proofs.lemmas.Fmt.{decimal_digit}
use Rattle.cli_words.specs.Numbers.{is_digit, has_no_byte, has_leading_zero, is_plain, number_in}
use Rattle.cli_words.specs.Laws.{NumbersAreDecimal}

-- both sides of a conjunction
first_of_both : (a b : Bool) → (a && b) ≡ true → a ≡ true
first_of_both true b h = refl
first_of_both false b h = cc

second_of_both : (a b : Bool) → (a && b) ≡ true → b ≡ true
second_of_both true b h = h
second_of_both false b h = cc

digit_in_range : (b : ℕ) → is_digit b ≡ true → IsInRange 48 57 b
digit_in_range b h = (
  leb-true 48 b (first_of_both (nat_le 48 b) (nat_le b 57) h),
  leb-true b 57 (second_of_both (nat_le 48 b) (nat_le b 57) h),
)

range_is_digit : (b : ℕ) → IsInRange 48 57 b → is_digit b ≡ true
range_is_digit b h = search (rules, h)

all_digits : (word : List ℕ) → list_all is_digit word ≡ true → AllDigits 10 word
all_digits [] h = tt
all_digits (b ∷ rest) h =
    let inside = digit_in_range b (first_of_both (is_digit b) (list_all is_digit rest) h) in
    let value = digit_value_digit b inside in
    let low = inside.0 in let high = inside.1 in
    (omega arith, all_digits rest (second_of_both (is_digit b) (list_all is_digit rest) h))

each_digit : (word : List ℕ) → AllDigits 10 word → list_all is_digit word ≡ true
each_digit [] h = refl
each_digit (b ∷ rest) h = both_true (range_is_digit b (digit_from_value b h.0)) (each_digit rest h.1)
  where
    both_true : {a c : Bool} → a ≡ true → c ≡ true → (a && c) ≡ true
    both_true {c = c} p q = ap (λ x. x && c) p ∙ q

pub plain_numeral : (word : List ℕ) → is_plain word ≡ true → IsNumeral 10 word
plain_numeral [] h = cc
plain_numeral (b ∷ rest) h = (
  omega arith,
  all_digits (b ∷ rest)
      (first_of_both (list_all is_digit (b ∷ rest)) (not (has_leading_zero (b ∷ rest))) h),
)

pub plain_no_plus : (word : List ℕ) → is_plain word ≡ true → without_leading_plus word ≡ word
plain_no_plus [] h = cc
plain_no_plus (b ∷ rest) h =
    let digits = first_of_both (list_all is_digit (b ∷ rest)) (not (has_leading_zero (b ∷ rest))) h in
    let inside = digit_in_range b (first_of_both (is_digit b) (list_all is_digit rest) digits) in
    let low = inside.0 in
    let other : nat_eq b 43 ≡ false = ne_eqb b 43 (λ e. omega (arith, low, e)) in
    ap (λ x. drop (cond x 1 0) (b ∷ rest)) other

-- a number that is too great for 64 bits is too great
pub past_most : (most : ℕ) (word : List ℕ) → most < 2 ^ 64 → is_plain word ≡ true →
    (IsNumeral 10 (without_leading_plus word) × (digits_value 10 (without_leading_plus word) < 2 ^ 64) → ⊥) →
    None ≡ number_in most word
past_most most word small plain none = go (nat_le (digits_value 10 word) most) refl
  where
    go : (b : Bool) → nat_le (digits_value 10 word) most ≡ b → None ≡ number_in most word
    go false e = sym (ap (λ x. cond (x && nat_le (digits_value 10 word) most) (Some (digits_value 10 word)) None) plain
        ∙ ap (λ x. cond (true && x) (Some (digits_value 10 word)) None) e)
    go true e =
        let low = leb-true (digits_value 10 word) most e in
        let value : digits_value 10 word < 2 ^ 64 = omega (arith, low, small) in
        absurd (none (subst (λ ds. IsNumeral 10 ds × (digits_value 10 ds < 2 ^ 64)) (sym (plain_no_plus word plain))
        (plain_numeral word plain, value)))

own : IsNumeralModel (AllDigits 10) (digits_value 10)
own = record { to = λ ds h. h; from = λ ds h. h; same = λ ds h. refl }

not_true : (b : Bool) → not b ≡ true → b ≡ false
not_true false h = refl
not_true true h = cc

-- a word with no leading zero is 0 alone where it begins with 0
alone : (word : List ℕ) → has_leading_zero word ≡ false → get_or word 0 0 ≡ 48 → length word ≡ 1
alone [] h e = cc
alone (b ∷ []) h e = refl
alone (b ∷ c ∷ rest) h e = let same : nat_eq b 48 ≡ true = eq-eqb b 48 e in cc

no_leading_zero : (word : List ℕ) → is_plain word ≡ true → has_leading_zero word ≡ false
no_leading_zero [] h = cc
no_leading_zero (b ∷ rest) h =
    not_true (has_leading_zero (b ∷ rest)) (second_of_both (list_all is_digit (b ∷ rest)) _ h)

plain_is_decimal : (word : List ℕ) → is_plain word ≡ true → digits_value 10 word < 2 ^ 64 →
    word ≡ decimal (digits_value 10 word)
plain_is_decimal word h value =
    let numeral = plain_numeral word h in
    sym (decimal-digits_value own word numeral.1 numeral.0 (alone word (no_leading_zero word h)) value)

-- ---- and back: a decimal is plain

has_items : (word : List ℕ) → 0 < length word → has_no_byte word ≡ false
has_items [] h = absurd (omega arith)
has_items (b ∷ rest) h = refl

zero_alone : (word : List ℕ) → (get_or word 0 0 ≡ 48 → length word ≡ 1) → has_leading_zero word ≡ false
zero_alone [] h = refl
zero_alone (b ∷ rest) h = go (nat_eq b 48) refl rest h
  where
    go : (t : Bool) → nat_eq b 48 ≡ t → (more : List ℕ) → (b ≡ 48 → length (b ∷ more) ≡ 1) →
        (t && not (has_no_byte more)) ≡ false
    go false e more k = refl
    go true e [] k = refl
    go true e (c ∷ cs) k = let one = k (eqb-true b 48 e) in absurd (omega (arith, one))

first_of_decimal : (n : ℕ) → n < 2 ^ 64 → get_or (decimal n) 0 0 ≡ 48 → length (decimal n) ≡ 1
first_of_decimal zero small e = ap length (decimal_digit 0 (omega arith))
first_of_decimal (suc n) small e =
    let first = first_decimal (suc n) (omega arith) small in absurd (omega (arith, first, e))

decimal_is_plain : (n : ℕ) → n < 2 ^ 64 → is_plain (decimal n) ≡ true
decimal_is_plain n small =
    let some = has_items (decimal n) (decimal_nonempty n small) in
    let digits = each_digit (decimal n) (digits_decimal own n small) in
    let first = zero_alone (decimal n) (first_of_decimal n small) in
    ap (λ b. not b && (list_all is_digit (decimal n) && not (has_leading_zero (decimal n)))) some
    ∙ ap (λ b. b && not (has_leading_zero (decimal n))) digits ∙ ap not first

found_below : (most n : ℕ) (word : List ℕ) → number_in most word ≡ Some n → most < 2 ^ 64 →
    (word ≡ decimal n) × (n ≤ most)
found_below most n word e small = go (is_plain word) refl (nat_le (digits_value 10 word) most) refl e
  where
    go : (p : Bool) → is_plain word ≡ p → (b : Bool) → nat_le (digits_value 10 word) most ≡ b →
        cond (p && b) (Some (digits_value 10 word)) None ≡ Some n → (word ≡ decimal n) × (n ≤ most)
    go false h b k some = cc
    go true h false k some = cc
    go true h true k some =
        let low = leb-true (digits_value 10 word) most k in
        let same : digits_value 10 word ≡ n = cc in (
          subst (λ m. word ≡ decimal m) same (plain_is_decimal word h (omega (arith, low, small))),
          subst (λ m. m ≤ most) same low,
        )

pub numbers_are_decimal : NumbersAreDecimal
numbers_are_decimal most n word small = (
  λ e. found_below most n word e small,
  λ h.
      let few : n < 2 ^ 64 = omega (arith, h.1, small) in
      let plain = decimal_is_plain n few in
      let value : digits_value 10 (decimal n) ≡ n = digits_value-decimal own n few in
      ap (number_in most) h.0
      ∙ ap (λ b. cond (b && nat_le (digits_value 10 (decimal n)) most) (Some (digits_value 10 (decimal n))) None) plain
      ∙ ap (λ m. cond (true && nat_le m most) (Some m) None) value
      ∙ ap (λ b. cond (true && b) (Some n) None) (le-leb n most h.1),
)
