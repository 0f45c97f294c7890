-- A document in version 2, and its text.
use Rattle.std.specs.Prelude.{ℕ, suc, List, ◌∷◌, ◌++◌, take, drop}
use Rattle.unity_syntax.specs.declared.document.Document.{Document}

-- the document with 2 as its version's number
abbrev pub upgraded : Document → Document
upgraded d = record d { number = 2 }

-- its text: the byte at the number's place is `2`, and all others are as they are
abbrev pub upgraded_text : List ℕ → Document → List ℕ
upgraded_text bytes d = take d.number_at bytes ++ 50 ∷ drop (suc d.number_at) bytes
