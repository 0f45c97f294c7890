-- The numbers in arguments.
use Rattle.std.proofs.Common.{ℕ, ◌≤◌, ◌^◌, List, [], ◌∷◌, map, Bool, true, false, Option, Some, None, arith, All}
use Rattle.std.proofs.Common.{unsigned_abs}
use Rattle.std.specs.Prelude.{pos, ◌+ℤ◌, ◌-ℤ◌}
use Rattle.std.proofs.lemmas.Int.{ints}
use Rattle.std.proofs.lemmas.List.Elements.{All-nil, All-cons, All-head, All-tail}
use Rattle.case_tables.specs.declared.symbol_table.Symbol.{Symbol}
use Rattle.unity_syntax.specs.declared.name.End.{End}
use Rattle.meaning_documents.specs.Value.{signed, plus}
use Rattle.core_terms.specs.Conditions.{ArgFits}
use Rattle.names_rules.specs.Declarations.{some_of}
use Rattle.names_rules.specs.Scope.{Bounds, Params}
use Rattle.expand_declarations.specs.References.{core_arg, word_arg, param_named}
use Rattle.expand_fits_parts.specs.Conditions.ArgumentConditions.{OffsetFits, EndFits, ArgumentsFit}

small_signed : (minus : Bool) (n most : ℕ) → n ≤ most → unsigned_abs (signed minus (pos n)) ≤ most
small_signed true n most h = omega (arith, ints)
small_signed false n most h = omega (arith, ints)

small_less : (n most : ℕ) → n ≤ most → unsigned_abs (pos 0 -ℤ pos n) ≤ most
small_less n most h = omega (arith, ints)

small_more : (n most : ℕ) → n ≤ most → unsigned_abs (pos 0 +ℤ pos n) ≤ most
small_more n most h = omega (arith, ints)

small_plus : (symbol : Symbol) (n most : ℕ) → n ≤ most → unsigned_abs (plus (pos 0) symbol (pos n)) ≤ most
small_plus symbol n most h = by symbol (small_less n most h) (small_more n most h)
  where
    by : (s : Symbol) → unsigned_abs (pos 0 -ℤ pos n) ≤ most → unsigned_abs (pos 0 +ℤ pos n) ≤ most →
        unsigned_abs (plus (pos 0) s (pos n)) ≤ most
    by Symbol.Minus less more = less
    by _ less more = more

small_zero : (most : ℕ) → unsigned_abs (pos 0) ≤ most
small_zero most = omega (arith, ints)

word_fits : (offset : Option (Symbol × ℕ)) (o : Option ℕ) → OffsetFits offset → ArgFits (word_arg offset o)
word_fits offset None h = tt
word_fits None (Some k) h = small_zero (2 ^ 62)
word_fits (Some offset) (Some k) h = small_plus offset.0 offset.1 (2 ^ 62) h

arg_fits : (bounds : Bounds) (params : Params) (e : End) → EndFits e → ArgFits (core_arg bounds params e)
arg_fits bounds params (End.Number at minus number) h = small_signed minus number (2 ^ 62) h
arg_fits bounds params (End.Word at name offset) h = word_fits offset (param_named bounds params name.text) h

each_fits : (bounds : Bounds) (params : Params) (es : List End) → All EndFits es →
    All ArgFits (map (core_arg bounds params) es)
each_fits bounds params [] h = All-nil ArgFits
each_fits bounds params (e ∷ es) h = All-cons ArgFits (core_arg bounds params e) (map (core_arg bounds params) es)
    (arg_fits bounds params e (All-head EndFits e es h)) (each_fits bounds params es (All-tail EndFits e es h))

pub arguments_fit : ArgumentsFit
arguments_fit bounds params args h = each_fits bounds params (some_of args) h
