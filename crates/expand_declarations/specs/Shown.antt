-- The slots of which a program's traces tell.
use Rattle.std.specs.Prelude.{ℕ, ◌+◌, List, [], ◌∷◌, map, cond, Bool, nat_eq}
use Rattle.std.specs.List.{list_any}
use Rattle.unity_syntax.specs.declared.declaration.Var.{Var}
use Rattle.core_terms.specs.declared.programs.CSlot.{CSlot}
use Rattle.expand_declarations.specs.Texts.{Texts}
use Rattle.expand_declarations.specs.WordNumbers.{word_number}

-- the places of the items that pass a test, where the first item has this place
abbrev pub places_from : {X : Type 0} → (X → Bool) → ℕ → List X → List ℕ
places_from test place [] = []
places_from test place (x ∷ xs) =
    cond (test x) (place ∷ places_from test (place + 1) xs) (places_from test (place + 1) xs)

-- the numbers of the names that are declared
abbrev pub declared_names : Texts → List Var → List ℕ
declared_names words vs = map (λ v. word_number words v.name.text) vs

-- whether a slot is one of a variable with one of these names
abbrev pub is_slot_of : List ℕ → CSlot → Bool
is_slot_of names s = list_any (nat_eq s.name) names

-- the slots of declared variables, each once, in the order of the slots
abbrev pub shown_slots : Texts → List Var → List CSlot → List ℕ
shown_slots words vs slots = places_from (is_slot_of (declared_names words vs)) 0 slots
