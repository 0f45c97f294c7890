-- A text of version 1 is a document without `div` and `mod`.
use Rattle.std.proofs.Common.{◌≡◌, ◌==◌, ℕ, Bool, false, List, [], ◌∷◌, refl, sym, ap, ◌∙◌, subst}
use Rattle.grammar_theory.specs.Ebnf.{Terminal}
use Rattle.case_tables.specs.declared.symbol_table.Symbol.{Symbol}
use Rattle.case_tables.specs.declared.symbol_table.Symbol.TheVariants.{Assign}
use Rattle.case_tables.specs.declared.word_table.Word.{Word}
use Rattle.case_tables.specs.declared.word_table.Word.TheVariants.{Unity}
use Rattle.unity_syntax.specs.declared.token.Token.{Token}
use Rattle.unity_syntax.specs.declared.token.TokenKind.{TokenKind}
use Rattle.unity_syntax.specs.Classes.{class_of, class_of_reserved, says_later, symbol, terminals}
use Rattle.upgraded_texts.proofs.Versions.{Begins, begins}
use Rattle.plain_quotients.specs.Laws.{EarlierHasOnlyTimes, FirstHasOnlyTimes}
use Rattle.plain_quotients.proofs.Choices.{IsNot, NoClass, choices_none}
use Rattle.plain_quotients.proofs.TreeLaws.{divisions, document_only}

-- no token of such a text is of the class of one of the two words

word_is_not : (w : Word) → IsNot divisions (class_of_reserved false w)
word_is_not Unity = refl
word_is_not w = refl

symbol_is_not : (s : Symbol) → IsNot divisions (symbol s)
symbol_is_not Assign = refl
symbol_is_not s = refl

kind_is_not : (k : TokenKind) → IsNot divisions (class_of false k)
kind_is_not TokenKind.Word = refl
kind_is_not (TokenKind.Number value) = refl
kind_is_not (TokenKind.Reserved w) = word_is_not w
kind_is_not (TokenKind.Symbol s) = symbol_is_not s

none_is : (bytes : List ℕ) (ts : List Token) → NoClass divisions (terminals false bytes ts)
none_is bytes [] = tt
none_is bytes (t ∷ ts) = (kind_is_not t.kind, none_is bytes ts)

-- the number of the version is that of the second token

abbrev second_value : List Terminal → ℕ
second_value (x ∷ y ∷ rest) = y.value
second_value _ = 0

first_says : (later : Bool) (bytes : List ℕ) (tokens : List Token) →
    second_value (terminals later bytes tokens) ≡ 1 → says_later tokens ≡ false
first_says later bytes [] e = refl
first_says later bytes (t ∷ []) e = refl
first_says later bytes (t ∷ u ∷ rest) e = ap (λ n. n == 2) e

pub earlier_has_only_times : EarlierHasOnlyTimes
earlier_has_only_times bytes d is first =
    document_only d (choices_none divisions is.parsed.0
    (subst (λ b. NoClass divisions (terminals b bytes is.tokens)) (sym first) (none_is bytes is.tokens)))

pub first_has_only_times : FirstHasOnlyTimes
first_has_only_times bytes d is one =
    let later : Bool = says_later is.tokens in
    let front : Begins d (terminals later bytes is.tokens) = begins d (terminals later bytes is.tokens) is.parsed.0 in
    earlier_has_only_times bytes d is
    (first_says later bytes is.tokens (ap second_value front.split ∙ front.value_is ∙ one))
