-- Well-named documents, the first fault of the others, and what each word of a document means.
use Rattle.std.specs.Prelude.{◌≡◌, ℕ, List, [], ◌∷◌, ◌++◌, Option, Some, None, Bool, cond, not, nat_eq, map, fold}
use Rattle.std.specs.Prelude.{position}
use Rattle.std.specs.List.{list_any}
use Rattle.std.specs.Map.{lookup}
use Rattle.std.specs.Option.{is_some, option_and_then}
use Rattle.std.specs.Str.{bytes_eq}
use Rattle.indexmap.specs.IndexMap.{insert_entry}
use Rattle.unity_syntax.specs.from_case_tables.declared.code_table.Code.{Code}
use Rattle.unity_syntax.specs.declared.name.Name.{Name}
use Rattle.unity_syntax.specs.declared.declaration.Var.{Var}
use Rattle.unity_syntax.specs.declared.declaration.Def.{Def}
use Rattle.unity_syntax.specs.declared.declaration.Init.{Init}
use Rattle.unity_syntax.specs.declared.program.Initially.{Initially}
use Rattle.unity_syntax.specs.declared.program.Program.{Program}
use Rattle.unity_syntax.specs.declared.statement.Items.{Items}
use Rattle.unity_syntax.specs.declared.term.Inst.{Inst}
use Rattle.unity_syntax.specs.declared.proof.Step.{Step}
use Rattle.unity_syntax.specs.declared.proof.Proof.{Proof}
use Rattle.unity_syntax.specs.declared.document.Part.{Part as DocumentPart}
use Rattle.unity_syntax.specs.declared.document.Schedule.{Schedule}
use Rattle.unity_syntax.specs.declared.document.Document.{Document}
use Rattle.names_rules.specs.declared.named.Meaning.{Meaning}
use Rattle.names_rules.specs.declared.named.Sort.{Sort}
use Rattle.names_rules.specs.declared.named.Composed.{Composed}
use Rattle.names_rules.specs.declared.named.Indices.{Indices}
use Rattle.names_rules.specs.Scope.{Scope, Table}
use Rattle.names_rules.specs.Reading.{Fault, Words, Reading, unless, plain, demanded, beside, all_beside}
use Rattle.names_rules.specs.Part.{Part, nothing, part_reading, quiet, before, run}
use Rattle.names_rules.specs.Declarations.{items_of, some_of, program_scope, variable_part, always_part}
use Rattle.names_rules.specs.Declarations.{initially_reading, start_part}
use Rattle.names_rules.specs.Statements.{Labels, items_part}
use Rattle.names_rules.specs.Proofs.{Programs, program_reading, proof_scope, arguments_reading, step_part}

-- what a document so far declares: words, programs, the names of programs that have a proof, and labels
pub record Declared : Type 0 where
  pub names : Table
  pub programs : Programs
  pub proved : List (List ℕ)
  pub labels : Labels

-- programs

-- a program's name, which no program before has
abbrev pub new_program : Programs → Name → Reading
new_program programs name = record (plain Sort.Number) {
  fault = unless (not (is_some (lookup (bytes_eq name.text) programs))) Code.DeclaredTwice name.at;
  words = (name.at, Meaning.Program name.at) ∷ [];
}

-- a program, after which a further one is known
abbrev pub with_program : Declared → Name → List ℕ → Declared
with_program d name parts =
    record d { programs = insert_entry bytes_eq d.programs name.text (record { at = name.at; parts = parts }) }

-- variables, and then always names
abbrev pub declarations_part : ℕ → Table → List Var → List Def → Part Table
declarations_part program names declare always =
    before (run (variable_part program) names declare) (λ more. always_part program more always)

-- what stands in a program after its declarations, after these labels
abbrev pub start_reading : Scope → List Init → Reading
start_reading s start = part_reading (start_part s start)

abbrev pub program_body : Scope → Option Initially → List Init → Items → Labels → Part Labels
program_body s initially start items labels =
    before (quiet labels (beside (initially_reading s initially) (start_reading s start)))
    (λ more. items_part items s more)

abbrev pub plain_program : Declared → Name → List Var → List Def → Option Initially → List Init → Items → Part Declared
plain_program d name declare always initially start items =
    before (quiet d.names (new_program d.programs name)) (λ names.
    before (declarations_part name.at names declare always) (λ names.
    before (program_body (program_scope name.at names) initially start items d.labels) (λ labels.
    nothing (with_program (record d { names = names; labels = labels }) name (name.at ∷ [])))))

-- the plain programs that a program is made of
abbrev pub parts_or : Option Composed → List ℕ
parts_or None = []
parts_or (Some p) = p.parts

abbrev pub parts_of : Programs → Name → List ℕ
parts_of programs name = parts_or (lookup (bytes_eq name.text) programs)

-- whether two lists have an item in common
abbrev pub share : List ℕ → List ℕ → Bool
share xs ys = list_any (λ y. list_any (nat_eq y) xs) ys

-- the two sides of a union are programs before it that have no plain program in common
abbrev pub union_reading : Programs → Name → Name → Name → Reading
union_reading programs name left right = beside (new_program programs name)
    (beside (program_reading programs left)
    (beside (program_reading programs right)
    (demanded (not (share (parts_of programs left) (parts_of programs right))) Code.DeclaredTwice right.at)))

abbrev pub union_program : Declared → Name → Name → Name → Part Declared
union_program d name left right = quiet
    (with_program d name (parts_of d.programs left ++ parts_of d.programs right))
    (union_reading d.programs name left right)

abbrev pub program_part : Declared → Program → Part Declared
program_part d (Program.Union at name left right) = union_program d name left right
program_part d (Program.Plain at name declare always initially start items) =
    plain_program d name (items_of declare) (items_of always) initially (some_of start) items

-- proofs

-- a proof of a program that stands before and has none
abbrev pub proved_program : Declared → Name → Reading
proved_program d name = beside (program_reading d.programs name)
    (demanded (not (list_any (bytes_eq name.text) d.proved)) Code.DeclaredTwice name.at)

abbrev pub steps_reading : Programs → Table → List Step → Reading
steps_reading programs names steps = part_reading (run (step_part programs names) [] steps)

abbrev pub proof_part : Declared → Proof → Part Declared
proof_part d proof = quiet (record d { proved = d.proved ++ proof.program.text ∷ [] })
    (beside (proved_program d proof.program) (steps_reading d.programs d.names proof.steps))

abbrev pub part_of : Declared → DocumentPart → Part Declared
part_of d (DocumentPart.Program at of) = program_part d of
part_of d (DocumentPart.Proof at of) = proof_part d of

-- schedules: no word is an index
abbrev pub choice_reading : Declared → Inst → Reading
choice_reading d choice = arguments_reading Indices.Schedule (proof_scope d.names []) choice.indices

abbrev pub schedule_reading : Declared → Option Schedule → Reading
schedule_reading d None = plain Sort.Number
schedule_reading d (Some schedule) = beside (program_reading d.programs schedule.program)
    (all_beside (map (choice_reading d) (some_of schedule.choices)))

-- documents

abbrev pub nothing_declared : Declared
nothing_declared = record { names = []; programs = []; proved = []; labels = [] }

abbrev pub document_part : Document → Part Declared
document_part d = before (run part_of nothing_declared d.parts)
    (λ declared. quiet declared (schedule_reading declared d.schedule))

-- a document's first fault, if it has one
abbrev pub name_fault : Document → Option Fault
name_fault d = (document_part d).fault

-- a document that meets every condition on names and types
abbrev pub IsWellNamed : Document → Type 0
IsWellNamed d = name_fault d ≡ None

-- what the words of a document mean, in reading order
abbrev pub name_words : Document → Words
name_words d = (document_part d).words

-- numbers

-- the place at which a name of one kind is declared
abbrev pub variable_place : Meaning → Option ℕ
variable_place (Meaning.Variable at) = Some at
variable_place _ = None

abbrev pub always_place : Meaning → Option ℕ
always_place (Meaning.Always at) = Some at
always_place _ = None

abbrev pub bound_place : Meaning → Option ℕ
bound_place (Meaning.Bound at) = Some at
bound_place _ = None

abbrev pub program_place : Meaning → Option ℕ
program_place (Meaning.Program at) = Some at
program_place _ = None

-- a list with a further place, where there is one that is new
abbrev pub with_place : List ℕ → Option ℕ → List ℕ
with_place places None = places
with_place places (Some at) = cond (list_any (nat_eq at) places) places (places ++ at ∷ [])

-- the places at which names of one kind are declared first, in order; each name stands first where it is declared
abbrev pub places : (Meaning → Option ℕ) → Words → List ℕ
places kind words = fold (λ found w. with_place found (kind w.1)) [] words

-- the place of the first item that is this one
abbrev pub number_among : List ℕ → Option ℕ → Option ℕ
number_among list None = None
number_among list (Some at) = position (nat_eq at) list

-- what the word at a place means
abbrev pub meaning_at : Words → ℕ → Option Meaning
meaning_at words at = lookup (nat_eq at) words

-- the number of a name of one kind at a place, among all of its kind in order of first declaration
abbrev pub number_at : (Meaning → Option ℕ) → Words → ℕ → Option ℕ
number_at kind words at = number_among (places kind words) (option_and_then kind (meaning_at words at))

-- the number of a parameter in its step, or of a name that `exists` or `induct` binds
abbrev pub param_number : Meaning → Option ℕ
param_number (Meaning.Param number) = Some number
param_number _ = None

-- the value of a word of an enumeration
abbrev pub value_number : Meaning → Option ℕ
value_number (Meaning.Value number) = Some number
value_number _ = None
