-- The variables of a well-named document have no fault, so no end of an array's indices is too large.
use Rattle.std.proofs.Common.{◌≡◌, ℕ, List, [], ◌∷◌, None, All}
use Rattle.std.specs.List.{flat_map}
use Rattle.std.specs.Map.{lookup}
use Rattle.std.specs.Str.{bytes_eq}
use Rattle.std.proofs.lemmas.List.Elements.{All-nil, All-append, All-head, All-tail, All-weaker}
use Rattle.unity_syntax.specs.declared.declaration.VarType.{VarType}
use Rattle.unity_syntax.specs.declared.declaration.Var.{Var}
use Rattle.unity_syntax.specs.declared.program.Program.{Program}
use Rattle.unity_syntax.specs.declared.document.Part.{Part as DocumentPart}
use Rattle.unity_syntax.specs.declared.document.Document.{Document}
use Rattle.expand_expressions.specs.from_meaning_documents.Setting.{type_indices, declarations}
use Rattle.case_tables.specs.declared.code_table.Code.{Code}
use Rattle.names_rules.specs.Scope.{Table}
use Rattle.names_rules.specs.Reading.{earlier, unless, filled}
use Rattle.names_rules.specs.Part.{run}
use Rattle.names_rules.specs.Declarations.{items_of, some_of, program_scope, plain_part, type_part, may_declare}
use Rattle.names_rules.specs.Declarations.{means_alike, variable_named, variable_part, always_part, with_named}
use Rattle.names_rules.specs.Declarations.{declared}
use Rattle.names_rules.specs.WellNamed.{Declared, IsWellNamed, nothing_declared, new_program, declarations_part}
use Rattle.names_rules.specs.WellNamed.{program_body, program_part, part_of, schedule_reading}
use Rattle.names_rules.proofs.Faults.{earlier_first, earlier_second}
use Rattle.expand_declarations.specs.Slots.{part_declarations, declared_by, AreNearEnds, HasNearIndices, DeclaredNear}
use Rattle.expand_declarations.proofs.Faultless.{each_of_run, sound_range}

-- what holds of the items of each list holds of those of all
pub all_flat_map : {X A : Type 0} (P : A → Type 0) (f : X → List A) (xs : List X) → All (λ x. All P (f x)) xs →
    All P (flat_map f xs)
all_flat_map P f [] h = All-nil P
all_flat_map P f (x ∷ xs) h = All-append P (f x) (flat_map f xs) (All-head (λ y. All P (f y)) x xs h)
    (all_flat_map P f xs (All-tail (λ y. All P (f y)) x xs h))

-- a type that has no fault has no index whose end is too large
type_near : (names : Table) (kind : VarType) → (type_part names kind).fault ≡ None → AreNearEnds (type_indices kind)
type_near names (VarType.Plain at of) h = tt
type_near names (VarType.Array at range of) h =
    let r = sound_range range (earlier_first (filled [] range).fault (plain_part names of).fault h) in (r.low, r.high)

-- a variable whose type has no fault
abbrev pub Faultless : Var → Type 0
Faultless v = (names : Table) × ((type_part names v.kind).fault ≡ None)

variable_fault : (program : ℕ) (names : Table) (v : Var) → (variable_part program names v).fault ≡ None → Faultless v
variable_fault program names v h =
    let old = lookup (bytes_eq v.name.text) names in let new = variable_named program names v in
    let more = with_named names v.name.text (declared new old) in
    let rest = earlier_second (unless (may_declare program old) Code.DeclaredTwice v.name.at)
    (earlier (type_part more v.kind).fault (unless (means_alike new old) Code.DeclaredTwice v.name.at)) h in
    (more, earlier_first (type_part more v.kind).fault (unless (means_alike new old) Code.DeclaredTwice v.name.at) rest)

program_variables : (d : Declared) (program : Program) → (program_part d program).fault ≡ None →
    All Faultless (declarations program)
program_variables d (Program.Union at name left right) h = All-nil Faultless
program_variables d (Program.Plain at name declare always initially start items) h =
    let first = new_program d.programs name in
    let ds = declarations_part name.at d.names (items_of declare) (items_of always) in
    let body = program_body (program_scope name.at ds.after) initially (some_of start) items d.labels in
    let vs = run (variable_part name.at) d.names (items_of declare) in
    let defs = always_part name.at vs.after (items_of always) in
    each_of_run (variable_part name.at) Faultless (variable_fault name.at) d.names (items_of declare)
    (earlier_first vs.fault defs.fault (earlier_first ds.fault (earlier body.fault None)
    (earlier_second first.fault (earlier ds.fault (earlier body.fault None)) h)))

part_variables : (d : Declared) (p : DocumentPart) → (part_of d p).fault ≡ None → All Faultless (part_declarations p)
part_variables d (DocumentPart.Program at program) h = program_variables d program h
part_variables d (DocumentPart.Proof at proof) h = All-nil Faultless

-- the parts of a well-named document have no fault
pub parts_fault : (d : Document) → IsWellNamed d → (run part_of nothing_declared d.parts).fault ≡ None
parts_fault d h = let r = run part_of nothing_declared d.parts in
    earlier_first r.fault (schedule_reading r.after d.schedule).fault h

-- each variable of a well-named document
pub document_variables : (d : Document) → IsWellNamed d → All Faultless (declared_by d.parts)
document_variables d h = all_flat_map Faultless part_declarations d.parts
    (each_of_run part_of (λ p. All Faultless (part_declarations p)) part_variables nothing_declared d.parts
    (parts_fault d h))

-- no end of an array's indices is too large
pub indices_are_near : (d : Document) → IsWellNamed d → DeclaredNear d.parts
indices_are_near d h = record {
  each = All-weaker Faultless HasNearIndices (λ v f. type_near f.0 v.kind f.1) (declared_by d.parts)
      (document_variables d h);
}
