-- What tokens say in a section of certificates.
use Rattle.std.specs.Prelude.{Bool, if◌then◌else◌, List, map}
use Rattle.case_tables.specs.declared.word_table.Word.{Word}
use Rattle.case_tables.specs.declared.symbol_table.Symbol.{Symbol}
use Rattle.unity_syntax.specs.declared.token.TokenKind.{TokenKind}
use Rattle.unity_syntax.specs.declared.token.Token.{Token}
use Rattle.certificate_events.specs.declared.signs.Sign.{Sign}

-- a reserved word; the later version alone has some of them
abbrev pub sign_of_word : Bool → Word → Sign
sign_of_word later Word.End = Sign.End
sign_of_word later Word.Case = Sign.Case
sign_of_word later Word.Split = Sign.Split
sign_of_word later Word.Sum = Sign.Sum
sign_of_word later Word.Round = Sign.Round
sign_of_word later Word.Quot = if later then Sign.Quot else Sign.Other
sign_of_word later Word.Share = if later then Sign.Share else Sign.Other
sign_of_word later _ = Sign.Other

-- a symbol
abbrev pub sign_of_symbol : Symbol → Sign
sign_of_symbol Symbol.Minus = Sign.Minus
sign_of_symbol Symbol.Times = Sign.Times
sign_of_symbol Symbol.Colon = Sign.Colon
sign_of_symbol Symbol.Semicolon = Sign.Semicolon
sign_of_symbol _ = Sign.Other

-- a token
abbrev pub sign_of : Bool → TokenKind → Sign
sign_of later TokenKind.Word = Sign.Other
sign_of later (TokenKind.Number n) = Sign.Number n
sign_of later (TokenKind.Reserved w) = sign_of_word later w
sign_of later (TokenKind.Symbol s) = sign_of_symbol s

-- tokens
abbrev pub signs : Bool → List Token → List Sign
signs later ts = map (λ t. sign_of later t.kind) ts
