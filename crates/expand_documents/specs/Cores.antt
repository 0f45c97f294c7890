-- The core form of a document: its words and slots, its programs in order, and its proofs and schedule.
use Rattle.std.specs.Prelude.{ℕ, List, [], ◌∷◌, ◌++◌, nat_eq, Option, Some, None, option_map}
use Rattle.std.specs.List.{flat_map, find}
use Rattle.unity_syntax.specs.declared.declaration.Def.{Def}
use Rattle.unity_syntax.specs.declared.program.Program.{Program}
use Rattle.unity_syntax.specs.declared.document.Part.{Part}
use Rattle.unity_syntax.specs.declared.document.Document.{Document}
use Rattle.expand_rules.specs.from_meaning_documents.Setting.{items_of, definitions, programs_among, setting_of}
use Rattle.names_rules.specs.Declarations.{some_of}
use Rattle.core_terms.specs.declared.programs.CSlot.{CSlot}
use Rattle.core_terms.specs.declared.programs.CProgram.{CProgram}
use Rattle.core_terms.specs.declared.documents.CProof.{CProof}
use Rattle.core_terms.specs.declared.documents.CDocument.{CDocument}
use Rattle.core_terms.specs.Unions.{joined_programs}
use Rattle.expand_steps.specs.from_expand_declarations.Texts.{Texts}
use Rattle.expand_steps.specs.from_expand_declarations.WordNumbers.{document_words, word_number}
use Rattle.expand_steps.specs.from_expand_declarations.Slots.{document_slots}
use Rattle.expand_steps.specs.from_expand_declarations.Shown.{shown_slots}
use Rattle.expand_steps.specs.from_expand_declarations.Start.{start_values, enumeration_words, first_words}
use Rattle.expand_steps.specs.from_expand_declarations.References.{core_schedule}
use Rattle.expand_rules.specs.Forming.{Scope}
use Rattle.expand_rules.specs.Programs.{plain_core}
use Rattle.expand_steps.specs.Steps.{core_proof}
use Rattle.expand_documents.specs.AlwaysNames.{with_definitions}

-- where expressions stand

-- the variables and the words of a document's parts; no always name, and nothing bound
abbrev pub declared_scope : List Part → Scope
declared_scope parts = record {
  variables = (setting_of (programs_among parts)).variables;
  words = first_words (enumeration_words parts);
  always = [];
  bound = [];
}

-- the always names that parts define, in order
abbrev pub part_definitions : Part → List Def
part_definitions (Part.Program at program) = definitions program
part_definitions (Part.Proof at proof) = []

-- with the always names of parts, in order
abbrev pub with_parts : Scope → List Part → Scope
with_parts s parts = with_definitions s (flat_map part_definitions parts)

-- where the expressions of a document stand
abbrev pub document_scope : List Part → Scope
document_scope parts = with_parts (declared_scope parts) parts

-- programs

-- the program with this name's number
abbrev pub core_named : ℕ → List CProgram → Option CProgram
core_named name programs = find (λ c. nat_eq c.name name) programs

-- the union of two, where there are both
abbrev pub core_union : ℕ → Option CProgram → Option CProgram → Option CProgram
core_union name None g = None
core_union name (Some f) None = None
core_union name (Some f) (Some g) = Some (joined_programs name f g)

-- what a program is, where these stand before it
abbrev pub core_program : Texts → Scope → List CSlot → List CProgram → Program → Option CProgram
core_program words s slots before (Program.Union at name left right) =
    core_union (word_number words name.text) (core_named (word_number words left.text) before)
    (core_named (word_number words right.text) before)
core_program words s slots before (Program.Plain at name declare always initially start items) =
    Some (plain_core (word_number words) s (word_number words name.text) (shown_slots words (items_of declare) slots)
    (start_values s.variables s.words (some_of start)) initially items)

abbrev pub with_core : List CProgram → Option CProgram → List CProgram
with_core programs None = programs
with_core programs (Some c) = programs ++ c ∷ []

-- programs, and those of further parts
abbrev pub with_cores : Texts → Scope → List CSlot → List CProgram → List Part → List CProgram
with_cores words s slots before [] = before
with_cores words s slots before (Part.Program at program ∷ rest) =
    with_cores words s slots (with_core before (core_program words s slots before program)) rest
with_cores words s slots before (Part.Proof at proof ∷ rest) = with_cores words s slots before rest

-- proofs

abbrev pub core_proofs : Texts → Scope → List Part → List CProof
core_proofs words s [] = []
core_proofs words s (Part.Program at program ∷ rest) = core_proofs words s rest
core_proofs words s (Part.Proof at proof ∷ rest) = core_proof words s proof ∷ core_proofs words s rest

-- documents

abbrev pub core_document : Document → CDocument
core_document d = let words = document_words d in record {
  version = d.number;
  words = words;
  slots = document_slots words d.parts;
  programs = with_cores words (document_scope d.parts) (document_slots words d.parts) [] d.parts;
  proofs = core_proofs words (document_scope d.parts) d.parts;
  schedule = option_map (core_schedule words) d.schedule;
}
