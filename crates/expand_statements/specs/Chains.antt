-- The lists around an item, as chains of nested ranges.
use Rattle.std.specs.Prelude.{ℕ, suc, ℤ, pos, List, [], ◌∷◌, map, Bool, true, false, cond, Option, Some, None}
use Rattle.std.specs.Str.{bytes_eq}
use Rattle.case_tables.specs.declared.symbol_table.Symbol.{Symbol}
use Rattle.unity_syntax.specs.declared.name.End.{End}
use Rattle.unity_syntax.specs.declared.name.Range.{Range}
use Rattle.meaning_documents.specs.Names.{Bindings}
use Rattle.expand_counting.specs.declared.ranges.NestEnd.{NestEnd}
use Rattle.expand_counting.specs.declared.ranges.NestRange.{NestRange}
use Rattle.expand_counting.specs.Nests.{instances}

-- the names that lists bind, the outermost first
abbrev pub BoundNames : Type 0
BoundNames = List (List ℕ)

-- the last place of a name among those from a place on, after one that was found before
abbrev pub last_from : Option ℕ → ℕ → List ℕ → BoundNames → Option ℕ
last_from found place name [] = found
last_from found place name (n ∷ ns) = last_from (cond (bytes_eq name n) (Some place) found) (suc place) name ns

abbrev pub last_place : List ℕ → BoundNames → Option ℕ
last_place name ns = last_from None 0 name ns

-- `-` stands between a name and a number; else it is `+`
abbrev pub is_minus : Symbol → Bool
is_minus Symbol.Minus = true
is_minus _ = false

-- an end of a range, with the level of the list that binds its name
abbrev pub word_end : Option ℕ → Option (Symbol × ℕ) → NestEnd
word_end level None = record { level = level; minus = false; number = 0 }
word_end level (Some o) = record { level = level; minus = is_minus o.0; number = o.1 }

abbrev pub chain_end : BoundNames → End → NestEnd
chain_end ns (End.Number at minus number) = record { level = None; minus = minus; number = number }
chain_end ns (End.Word at name offset) = word_end (last_place name.text ns) offset

abbrev pub chain_range : BoundNames → Range → NestRange
chain_range ns r = record { low = chain_end ns r.low; high = chain_end ns r.high }

-- names with numbers, both the outermost first, inside other bindings; 0 where a number is missing
abbrev pub bound_inside : Bindings → BoundNames → List ℤ → Bindings
bound_inside b [] zs = b
bound_inside b (n ∷ ns) [] = bound_inside ((n, pos 0) ∷ b) ns []
bound_inside b (n ∷ ns) (z ∷ zs) = bound_inside ((n, z) ∷ b) ns zs

-- the bindings in which an item stands inside lists
abbrev pub standing : BoundNames → List NestRange → List Bindings
standing ns rs = map (bound_inside [] ns) (instances rs [])
