-- The numbers of names, as the code keeps them.
use Rattle.std.specs.Prelude.{◌≡◌, ℕ, ◌-◌, ◌^◌, ◌<◌, List, [], Option, Some, None, cond}
use Rattle.std.specs.Prelude.{Bool, true, nat_eq, nat_le, fold, length}
use Rattle.std.specs.List.{list_all}
use Rattle.std.specs.Map.{lookup}
use Rattle.indexmap.specs.IndexMap.{IndexMap}
use Rattle.names_rules.specs.declared.named.Meaning.{Meaning}
use Rattle.names_rules.specs.Reading.{Words}
use Rattle.names_rules.specs.WellNamed.{variable_place, always_place, bound_place, program_place}
use Rattle.names_rules.specs.WellNamed.{with_place, places, meaning_at}
use Rattle.ranges_types.specs.declared.indexing.Index.{Index}
use Rattle.ranges_types.specs.declared.numbering.NameKind.{NameKind}

-- the place at which a name of a kind is declared
abbrev pub place_of : NameKind → Meaning → Option ℕ
place_of NameKind.Variable = variable_place
place_of NameKind.Always = always_place
place_of NameKind.Bound = bound_place
place_of NameKind.Program = program_place

-- places with those of further words
abbrev pub with_places : NameKind → List ℕ → Words → List ℕ
with_places kind places words = fold (λ found w. with_place found (place_of kind w.1)) places words

-- the meaning that a map of the code gives a place
abbrev pub meaning_in : {S : Type 0} → IndexMap ℕ Meaning S → ℕ → Option Meaning
meaning_in m at = lookup (nat_eq at) m.entries

-- a call that gives a place a meaning
abbrev pub Means : {S : Type 0} → IndexMap ℕ Meaning S → IndexMap ℕ Meaning S → ℕ → Meaning → Type 0
Means old new at meaning = (q : ℕ) → meaning_in new q ≡ cond (nat_eq at q) (Some meaning) (meaning_in old q)

-- the greatest number that a call answers
abbrev pub greatest_number : ℕ
greatest_number = 2 ^ 32 - 1

-- a parameter's number or a word's value is one that a call may answer
abbrev pub is_small_meaning : Meaning → Bool
is_small_meaning (Meaning.Param number) = nat_le number greatest_number
is_small_meaning (Meaning.Value number) = nat_le number greatest_number
is_small_meaning _ = true

abbrev pub are_small_words : Words → Bool
are_small_words words = list_all (λ w. is_small_meaning w.1) words

-- the same of the meaning of a word, where there is one
abbrev pub MeaningIsSmall : Option Meaning → Type 0
MeaningIsSmall None = Unit {0}
MeaningIsSmall (Some meaning) = is_small_meaning meaning ≡ true

-- these are the places of a kind, so few that a call may answer each number
pub record ArePlaces (kind : NameKind) (found : List ℕ) (words : Words) : Type 0 where
  pub all : found ≡ places (place_of kind) words
  pub few : length found < 2 ^ 32

-- the places of a kind that an index keeps
abbrev pub places_in : Index → NameKind → List ℕ
places_in n NameKind.Variable = n.variables.keys
places_in n NameKind.Always = n.always.keys
places_in n NameKind.Bound = n.bound.keys
places_in n NameKind.Program = n.programs.keys

-- an index of these words: what each means, and the places of declarations by kind
pub record Indexes (n : Index) (words : Words) : Type 0 where
  pub meanings : (at : ℕ) → meaning_in n.meanings at ≡ meaning_at words at
  pub small : are_small_words words ≡ true
  pub numbered : (kind : NameKind) → ArePlaces kind (places_in n kind) words

-- an index that holds nothing
pub record IsEmpty (n : Index) : Type 0 where
  pub meanings : n.meanings.entries ≡ []
  pub variables : n.variables.keys ≡ []
  pub always : n.always.keys ≡ []
  pub bound : n.bound.keys ≡ []
  pub programs : n.programs.keys ≡ []
