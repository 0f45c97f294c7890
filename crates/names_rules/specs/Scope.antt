-- What is visible at a place of a document, and what a word means there.
use Rattle.std.specs.Prelude.{ℕ, pos, List, [], ◌∷◌, map, drop, Bool, true, false, cond, not, ◌||◌, nat_eq, Option}
use Rattle.std.specs.Prelude.{Some, None, option_map}
use Rattle.std.specs.Borrow.{Bor}
use Rattle.std.specs.Map.{lookup}
use Rattle.std.specs.Option.{option_or}
use Rattle.std.specs.Str.{bytes_eq}
use Rattle.indexmap.specs.IndexMap.{IndexMap}
use Rattle.indexmap.specs.IndexSet.{IndexSet}
use Rattle.names_rules.specs.declared.named.Meaning.{Meaning}
use Rattle.names_rules.specs.declared.named.Sort.{Sort}
use Rattle.names_rules.specs.declared.named.Span.{Span}
use Rattle.names_rules.specs.declared.named.Named.{Named}
use Rattle.names_rules.specs.declared.known.Known.{Known}
use Rattle.names_rules.specs.declared.known.Env.{Env, fold-Env}
use Rattle.names_rules.specs.declared.known.Env.TheOpen.{Env-F}

-- words with what they are, in the order of their first declarations
abbrev pub Table : Type 0
Table = List (List ℕ × Named)

-- names that quantifiers and proof terms bind, the innermost first
abbrev pub Bounds : Type 0
Bounds = List (List ℕ × Meaning)

-- parameters with their numbers
abbrev pub Params : Type 0
Params = List (List ℕ × ℕ)

-- where a word stands: the words that the document so far declares, the parameters of the step, the bound names around
-- the place, the always names of the section that are still to be defined, and the program, or none in a proof
pub record Scope : Type 0 where
  pub names : Table
  pub params : Params
  pub bounds : Bounds
  pub pending : List (List ℕ)
  pub program : Option ℕ

-- no range
abbrev pub no_span : Span
no_span = record { low = pos 0; high = pos 0 }

-- a plain name of a type that is no variable
abbrev pub plainly_named : Meaning → Sort → Bool → ℕ → Named
plainly_named meaning sort constant program = record {
  meaning = meaning;
  sort = sort;
  range = no_span;
  indices = None;
  constant = constant;
  program = program;
}

-- whether a meaning is that of a parameter
abbrev pub is_param : Meaning → Bool
is_param (Meaning.Param number) = true
is_param _ = false

-- whether a meaning is that of a variable
abbrev pub is_variable : Meaning → Bool
is_variable (Meaning.Variable at) = true
is_variable _ = false

-- whether a meaning is that of a word of an enumeration
abbrev pub is_value : Meaning → Bool
is_value (Meaning.Value number) = true
is_value _ = false

-- a bound name is a constant number, and a parameter is a number
abbrev pub bound_named : Meaning → Named
bound_named meaning = plainly_named meaning Sort.Number (not (is_param meaning)) 0

-- a variable or an always name is visible in the program that declares it, a word of an enumeration in every program
-- after it, and all are in a proof
abbrev pub is_visible : Option ℕ → Named → Bool
is_visible None n = true
is_visible (Some program) n = is_value n.meaning || nat_eq n.program program

-- a declared word, where it is visible
abbrev pub visible : Option ℕ → Option Named → Option Named
visible program None = None
visible program (Some n) = cond (is_visible program n) (Some n) None

-- what a word means: a bound name, a parameter, or a declared word
abbrev pub found : Scope → List ℕ → Option Named
found s word = option_or (option_map bound_named (lookup (bytes_eq word) s.bounds))
    (option_or (option_map (λ number. bound_named (Meaning.Param number)) (lookup (bytes_eq word) s.params))
    (visible s.program (lookup (bytes_eq word) s.names)))

-- the same place, with one more bound name inside
abbrev pub with_bound : Scope → List ℕ → Meaning → Scope
with_bound s word meaning = record s { bounds = (word, meaning) ∷ s.bounds }

-- a table of the code, as a list of words with what they are
abbrev pub seen_entries : {V : Type 0} → List (Bor (List ℕ) × V) → List (List ℕ × V)
seen_entries {V} es = map (λ (e : Bor (List ℕ) × V). let p : List ℕ × V = (e.0.now, e.1) in p) es

abbrev pub entries : {V S : Type 0} → IndexMap (Bor (List ℕ)) V S → List (List ℕ × V)
entries m = seen_entries m.entries

-- a set of words of the code, as a list
abbrev pub seen_keys : {S : Type 0} → IndexSet (Bor (List ℕ)) S → List (List ℕ)
seen_keys s = map (λ (k : Bor (List ℕ)). k.now) s.keys

abbrev pub known_params : {S : Type 0} → Option (Bor (IndexMap (Bor (List ℕ)) ℕ S)) → Params
known_params None = []
known_params (Some params) = entries params.now

abbrev pub bound_step : Env-F Bounds → Bounds
bound_step Env-F.Empty = []
bound_step (Env-F.Inside name meaning outer) = (name.now.text, meaning) ∷ outer.now

abbrev pub bounds : Env → Bounds
bounds = fold-Env Bounds bound_step

-- the place that the code stands at
abbrev pub scope : Known → Env → Scope
scope k env = record {
  names = entries k.names.now;
  params = known_params k.params;
  bounds = bounds env;
  pending = map (λ d. d.name.text) (drop k.defined k.definitions.now);
  program = k.program;
}
