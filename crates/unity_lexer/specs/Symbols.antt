-- The longest symbol at the front of a text, by its first bytes.
use Rattle.std.specs.Prelude.{ℕ, Bool, false, ◌==◌, ◌&&◌, List, [], ◌∷◌, Option, None, Some, if◌then◌else◌}
use Rattle.case_tables.specs.declared.symbol_table.Symbol.{Symbol}
use Rattle.case_tables.specs.declared.symbol_table.Symbol.TheVariants as symbol

-- whether this byte comes first
abbrev pub next_is : ℕ → List ℕ → Bool
next_is byte [] = false
next_is byte (b ∷ _) = b == byte

-- the longer symbol where this byte comes first, and else the shorter one, with their lengths
abbrev pub lengthened : List ℕ → ℕ → Symbol → Symbol → Symbol × ℕ
lengthened rest byte longer shorter = if next_is byte rest then (longer, 2) else (shorter, 1)

-- whether these two bytes come first
abbrev pub next_are : ℕ → ℕ → List ℕ → Bool
next_are byte second [] = false
next_are byte second (b ∷ bs) = b == byte && next_is second bs

-- after `:`
abbrev pub after_colon : List ℕ → Symbol × ℕ
after_colon rest = if next_is 61 rest then (symbol.Assign, 2) else lengthened rest 58 symbol.DoubleColon symbol.Colon

-- after `<`
abbrev pub after_less : List ℕ → Symbol × ℕ
after_less rest =
    if next_are 124 124 rest then (symbol.OpenParallel, 3)
    else (if next_are 91 93 rest then (symbol.OpenChoice, 3)
    else lengthened rest 61 symbol.AtMost symbol.Below)

-- after `|`, which is no symbol alone
abbrev pub after_bar : List ℕ → Option (Symbol × ℕ)
after_bar rest =
    if next_is 62 rest then Some (symbol.CloseQuantified, 2)
    else (if next_is 124 rest then Some (symbol.Parallel, 2)
    else None)

-- after `/`, which is no symbol alone
abbrev pub after_slash : List ℕ → Option (Symbol × ℕ)
after_slash rest = if next_is 61 rest then Some (symbol.NotEqual, 2) else None

-- the symbol that a first byte and the rest of the text begin with
abbrev pub symbol_after : ℕ → List ℕ → Option (Symbol × ℕ)
symbol_after first rest =
    if first == 58 then Some (after_colon rest)
    else (if first == 46 then Some (lengthened rest 46 symbol.DotDot symbol.Dot)
    else (if first == 44 then Some (symbol.Comma, 1)
    else (if first == 59 then Some (symbol.Semicolon, 1)
    else (if first == 40 then Some (symbol.OpenParenthesis, 1)
    else (if first == 41 then Some (symbol.CloseParenthesis, 1)
    else (if first == 91 then Some (lengthened rest 93 symbol.Box symbol.OpenBracket)
    else (if first == 93 then Some (symbol.CloseBracket, 1)
    else (if first == 123 then Some (symbol.OpenBrace, 1)
    else (if first == 125 then Some (symbol.CloseBrace, 1)
    else (if first == 60 then Some (after_less rest)
    else (if first == 124 then after_bar rest
    else (if first == 126 then Some (symbol.Tilde, 1)
    else (if first == 62 then Some (lengthened rest 61 symbol.AtLeast symbol.Above)
    else (if first == 61 then Some (lengthened rest 62 symbol.Implies symbol.Equal)
    else (if first == 47 then after_slash rest
    else (if first == 43 then Some (symbol.Plus, 1)
    else (if first == 45 then Some (symbol.Minus, 1)
    else (if first == 42 then Some (symbol.Times, 1)
    else None))))))))))))))))))

-- the longest symbol with which the text begins, and its length
abbrev pub first_symbol : List ℕ → Option (Symbol × ℕ)
first_symbol [] = None
first_symbol (first ∷ rest) = symbol_after first rest
