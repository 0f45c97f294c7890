-- Parts of a document that declare something: what is known after them.
use Rattle.std.specs.Prelude.{List, [], ◌∷◌, ◌++◌, Option, None}
use Rattle.names_rules.specs.declared.named.Sort.{Sort}
use Rattle.names_rules.specs.Reading.{Fault, Words, Reading, plain, earlier}

-- a part: its first fault, its words, and what is known after it
pub record Part (S : Type 0) : Type 0 where
  pub fault : Option Fault
  pub words : Words
  pub after : S

-- nothing stands here
abbrev pub nothing : {S : Type 0} → S → Part S
nothing s = record { fault = None; words = []; after = s }

-- a reading, after which this is known
abbrev pub quiet : {S : Type 0} → S → Reading → Part S
quiet s r = record { fault = r.fault; words = r.words; after = s }

-- what is read in a part, after which this is known
abbrev pub leaving : {S T : Type 0} → T → Part S → Part T
leaving t p = record { fault = p.fault; words = p.words; after = t }

-- what is read in a part, where nothing that is known after it counts
abbrev pub part_reading : {S : Type 0} → Part S → Reading
part_reading p = record (plain Sort.Number) { fault = p.fault; words = p.words }

-- p, and then what is read with what is known after p
abbrev pub before : {S T : Type 0} → Part S → (S → Part T) → Part T
before p f = record {
  fault = earlier p.fault (f p.after).fault;
  words = p.words ++ (f p.after).words;
  after = (f p.after).after;
}

-- parts in turn
abbrev pub run : {S X : Type 0} → (S → X → Part S) → S → List X → Part S
run f s [] = nothing s
run f s (x ∷ xs) = before (f s x) (λ t. run f t xs)
