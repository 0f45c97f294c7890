-- What stands before a program's statements.
use Rattle.std.specs.Prelude.{ℕ, ◌+◌, ℤ, pos, List, [], ◌∷◌, ◌++◌, Option, Some, None, Bool, true, false, cond, not}
use Rattle.std.specs.Prelude.{◌&&◌, nat_eq, length, map}
use Rattle.std.specs.Int.RustNames.{int_le}
use Rattle.std.specs.List.{list_any}
use Rattle.std.specs.Map.{lookup}
use Rattle.std.specs.Str.{bytes_eq}
use Rattle.std.specs.Option.{is_some}
use Rattle.indexmap.specs.IndexMap.{insert_entry}
use Rattle.unity_syntax.specs.from_case_tables.declared.code_table.Code.{Code}
use Rattle.unity_syntax.specs.declared.name.Name.{Name}
use Rattle.unity_syntax.specs.declared.name.End.{End}
use Rattle.unity_syntax.specs.declared.name.Range.{Range}
use Rattle.unity_syntax.specs.declared.declaration.Plain.{Plain}
use Rattle.unity_syntax.specs.declared.declaration.VarType.{VarType}
use Rattle.unity_syntax.specs.declared.declaration.Var.{Var}
use Rattle.unity_syntax.specs.declared.declaration.Def.{Def}
use Rattle.unity_syntax.specs.declared.declaration.Init.{Init}
use Rattle.unity_syntax.specs.declared.declaration.InitValue.{InitValue}
use Rattle.unity_syntax.specs.declared.program.Initially.{Initially}
use Rattle.std.specs.Ordering.{int_eq}
use Rattle.names_rules.specs.declared.named.Meaning.{Meaning}
use Rattle.names_rules.specs.declared.named.Sort.{Sort}
use Rattle.names_rules.specs.declared.named.Span.{Span}
use Rattle.names_rules.specs.declared.named.Named.{Named}
use Rattle.names_rules.specs.Scope.{Scope, Table, found, no_span, plainly_named, is_variable, is_value}
use Rattle.names_rules.specs.Reading.{Reading, earlier, unless, plain, demanded, beside, needs, mark, faulty, same_sort}
use Rattle.names_rules.specs.Reading.{signed, filled, read}
use Rattle.names_rules.specs.Part.{Part, nothing, quiet, before, run}

-- the items of a list that may be absent, and of a list that is not empty where it is there
abbrev pub items_of : {T : Type 0} → Option (List T) → List T
items_of None = []
items_of (Some list) = list

abbrev pub some_of : {T : Type 0} → Option (T × List T) → List T
some_of None = []
some_of (Some list) = list.0 ∷ list.1

-- a place in a program outside its definitions and its bound names
abbrev pub program_scope : ℕ → Table → Scope
program_scope program names =
    record { names = names; params = []; bounds = []; pending = []; program = Some program }

-- a table in which a word has this meaning
abbrev pub with_named : Table → List ℕ → Named → Table
with_named names word n = insert_entry bytes_eq names word n

-- whether the document so far has a word as a variable, an always name or a word of an enumeration
abbrev pub is_declared : Table → List ℕ → Bool
is_declared names word = is_some (lookup (bytes_eq word) names)

-- a word of an enumeration, or an always name, which no name before it is
abbrev pub declare : Table → Name → Named → Part Table
declare names name n = record {
  fault = unless (not (is_declared names name.text)) Code.DeclaredTwice name.at;
  words = (name.at, n.meaning) ∷ [];
  after = with_named names name.text n;
}

-- enumerations

abbrev pub value_named : Sort → ℕ → Named
value_named sort number = plainly_named (Meaning.Value number) sort true 0

-- whether a meaning is the value with this number
abbrev pub is_value_of : ℕ → Meaning → Bool
is_value_of number (Meaning.Value own) = nat_eq own number
is_value_of number _ = false

-- whether a word is the value with this number of an enumeration
abbrev pub is_word_of : Sort → ℕ → Option Named → Bool
is_word_of sort number None = false
is_word_of sort number (Some n) = is_value_of number n.meaning && same_sort n.sort sort

-- whether the words are those of an enumeration, from this number on
abbrev pub are_words : Table → Sort → ℕ → List Name → Bool
are_words names sort number [] = true
are_words names sort number (w ∷ ws) =
    is_word_of sort number (lookup (bytes_eq w.text) names) && are_words names sort (number + 1) ws

-- whether the last word of an enumeration has this number
abbrev pub is_last : Sort → ℕ → Bool
is_last (Sort.Words at last) number = nat_eq last number
is_last _ number = false

-- the type of a word
abbrev pub sort_or : Option Named → Sort → Sort
sort_or None sort = sort
sort_or (Some n) sort = n.sort

-- the type of an enumeration: that of an equal one, where there is one before
abbrev pub known_sort : Table → Name → Sort
known_sort names first = sort_or (lookup (bytes_eq first.text) names) Sort.Number

abbrev pub is_repeated : Table → Name → List Name → Bool
is_repeated names first rest = is_last (known_sort names first) (length rest)
    && are_words names (known_sort names first) 0 (first ∷ rest)

abbrev pub words_sort : Table → Name → List Name → Sort
words_sort names first rest = cond (is_repeated names first rest) (known_sort names first)
    (Sort.Words first.at (length rest))

-- words of an enumeration that stands here first, from this number on
abbrev pub enumerated : Sort → ℕ → Table → List Name → Part Table
enumerated sort number names [] = nothing names
enumerated sort number names (w ∷ ws) =
    before (declare names w (value_named sort number)) (λ more. enumerated sort (number + 1) more ws)

-- words of an enumeration that is written again, from this number on
abbrev pub repeated : ℕ → List Name → Reading
repeated number [] = plain Sort.Number
repeated number (w ∷ ws) =
    beside (mark (value_named Sort.Number number) w.at None) (repeated (number + 1) ws)

abbrev pub words_part : Table → Name → List Name → Part Table
words_part names first rest = cond (is_repeated names first rest) (quiet names (repeated 0 (first ∷ rest)))
    (enumerated (Sort.Words first.at (length rest)) 0 names (first ∷ rest))

-- types

abbrev pub end_number : End → ℤ
end_number (End.Number at minus number) = signed minus number
end_number (End.Word at name offset) = pos 0

abbrev pub span_of : Range → Span
span_of r = record { low = end_number r.low; high = end_number r.high }

abbrev pub plain_sort : Table → Plain → Sort
plain_sort names (Plain.Boolean at) = Sort.Boolean
plain_sort names (Plain.Range at range) = Sort.Number
plain_sort names (Plain.Words at first rest) = words_sort names first rest

abbrev pub plain_span : Plain → Span
plain_span (Plain.Range at range) = span_of range
plain_span _ = no_span

abbrev pub plain_part : Table → Plain → Part Table
plain_part names (Plain.Boolean at) = nothing names
plain_part names (Plain.Range at range) = quiet names (filled [] range)
plain_part names (Plain.Words at first rest) = words_part names first rest

abbrev pub type_part : Table → VarType → Part Table
type_part names (VarType.Plain at of) = plain_part names of
type_part names (VarType.Array at range of) = before (quiet names (filled [] range)) (λ more. plain_part more of)

-- variables

abbrev pub element_type : VarType → Plain
element_type (VarType.Plain at of) = of
element_type (VarType.Array at range of) = of

abbrev pub type_indices : VarType → Option Span
type_indices (VarType.Plain at of) = None
type_indices (VarType.Array at range of) = Some (span_of range)

-- a variable as it is declared here, in this program
abbrev pub variable_named : ℕ → Table → Var → Named
variable_named program names v = record {
  meaning = Meaning.Variable v.name.at;
  sort = plain_sort names (element_type v.kind);
  range = plain_span (element_type v.kind);
  indices = type_indices v.kind;
  constant = false;
  program = program;
}

abbrev pub same_span : Span → Span → Bool
same_span a b = int_eq a.low b.low && int_eq a.high b.high

abbrev pub same_indices : Option Span → Option Span → Bool
same_indices None None = true
same_indices (Some a) (Some b) = same_span a b
same_indices _ _ = false

-- whether two variables have one type
abbrev pub same_type : Named → Named → Bool
same_type a b = same_sort a.sort b.sort && (same_span a.range b.range && same_indices a.indices b.indices)

-- whether a variable may be declared in this program under a name that is this before
abbrev pub may_declare : ℕ → Option Named → Bool
may_declare program None = true
may_declare program (Some old) = is_variable old.meaning && not (nat_eq old.program program)

-- the variable that is declared: the one that is there, or a new one
abbrev pub declared : Named → Option Named → Named
declared new None = new
declared new (Some old) = record old { program = new.program }

-- whether a variable that is there has the type that is written here
abbrev pub means_alike : Named → Option Named → Bool
means_alike new None = true
means_alike new (Some old) = same_type old new

-- a variable's name, and then its type; another type than before is found out at the type's end
abbrev pub variable_as : Table → Var → Option Named → Named → Part Table
variable_as names v old new = before
    (record {
      fault = unless (may_declare new.program old) Code.DeclaredTwice v.name.at;
      words = (v.name.at, (declared new old).meaning) ∷ [];
      after = with_named names v.name.text (declared new old);
    })
    (λ more. before (type_part more v.kind)
    (λ all. quiet all (demanded (means_alike new old) Code.DeclaredTwice v.name.at)))

abbrev pub variable_part : ℕ → Table → Var → Part Table
variable_part program names v =
    variable_as names v (lookup (bytes_eq v.name.text) names) (variable_named program names v)

-- always names

abbrev pub always_named : ℕ → ℕ → Reading → Named
always_named program at r = plainly_named (Meaning.Always at) r.sort r.constant program

-- a definition; its name is visible after it
abbrev pub definition : ℕ → Table → Name → Reading → Part Table
definition program names name r = record {
  fault = earlier (unless (not (is_declared names name.text)) Code.DeclaredTwice name.at) r.fault;
  words = (name.at, Meaning.Always name.at) ∷ r.words;
  after = with_named names name.text (always_named program name.at r);
}

-- a place in a definition, before which these definitions are not over
abbrev pub definition_scope : ℕ → Table → List Def → Scope
definition_scope program names ds = record (program_scope program names) { pending = map (λ d. d.name.text) ds }

abbrev pub always_part : ℕ → Table → List Def → Part Table
always_part program names [] = nothing names
always_part program names (d ∷ ds) =
    before (definition program names d.name (read d.of (definition_scope program names (d ∷ ds))))
    (λ more. always_part program more ds)

-- the initially section

abbrev pub initially_reading : Scope → Option Initially → Reading
initially_reading s None = plain Sort.Boolean
initially_reading s (Some section) = needs Sort.Boolean (read section.of s)

-- the start section

-- a slot: its variable, and its index in an array
abbrev pub StartSlot : Type 0
StartSlot = ℕ × ℤ

abbrev pub StartSlots : Type 0
StartSlots = List StartSlot

abbrev pub same_slot : StartSlot → StartSlot → Bool
same_slot a b = nat_eq a.0 b.0 && int_eq a.1 b.1

abbrev pub in_span : Span → ℤ → Bool
in_span r z = int_le r.low z && int_le z r.high

-- whether an index lies in an array, and there is none without one
abbrev pub is_index : Option Span → Option (Bool × ℕ) → Bool
is_index None None = true
is_index (Some r) (Some index) = in_span r (signed index.0 index.1)
is_index _ _ = false

abbrev pub index_number : Option (Bool × ℕ) → ℤ
index_number None = pos 0
index_number (Some index) = signed index.0 index.1

-- the byte at which a variable is first declared
abbrev pub variable_place : Meaning → ℕ
variable_place (Meaning.Variable at) = at
variable_place _ = 0

abbrev pub slot_of : Init → Named → StartSlot
slot_of init n = (variable_place n.meaning, index_number init.index)

-- the word in front, which is a variable, with an index of its own where it is an array, and no slot before it
abbrev pub slot_reading : StartSlots → Init → Named → Reading
slot_reading slots init n = mark n init.name.at
    (earlier (unless (is_variable n.meaning) Code.Unknown init.name.at)
    (earlier (unless (is_index n.indices init.index) Code.WrongType init.name.at)
    (unless (not (list_any (same_slot (slot_of init n)) slots)) Code.DeclaredTwice init.name.at)))

-- a word as a start value: a word of an enumeration, of this type
abbrev pub start_word : Sort → Name → Option Named → Reading
start_word sort name None = faulty Code.Unknown name.at
start_word sort name (Some n) = mark n name.at
    (earlier (unless (is_value n.meaning) Code.Unknown name.at) (unless (same_sort n.sort sort) Code.WrongType name.at))

-- a start value of this variable
abbrev pub start_value : Scope → Named → InitValue → Reading
start_value s n (InitValue.Number at minus number) =
    demanded (same_sort n.sort Sort.Number && in_span n.range (signed minus number)) Code.WrongType at
start_value s n (InitValue.Word at name) = start_word n.sort name (found s name.text)
start_value s n (InitValue.True at) = demanded (same_sort n.sort Sort.Boolean) Code.WrongType at
start_value s n (InitValue.False at) = demanded (same_sort n.sort Sort.Boolean) Code.WrongType at

abbrev pub init_found : Scope → StartSlots → Init → Option Named → Part StartSlots
init_found s slots init None = quiet slots (faulty Code.Unknown init.name.at)
init_found s slots init (Some n) =
    quiet (slots ++ slot_of init n ∷ []) (beside (slot_reading slots init n) (start_value s n init.value))

abbrev pub init_part : Scope → StartSlots → Init → Part StartSlots
init_part s slots init = init_found s slots init (found s init.name.text)

abbrev pub start_part : Scope → List Init → Part StartSlots
start_part s inits = run (init_part s) [] inits
