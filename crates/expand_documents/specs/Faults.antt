-- The first fault of a document that is well named: what is too large in it, or a bad end of a range or divisor.
use Rattle.std.specs.Prelude.{ℕ, ◌+◌, List, [], ◌∷◌, cond, length, take, drop, Option, Some, None, is_some}
use Rattle.case_tables.specs.declared.code_table.Code.{Code}
use Rattle.unity_syntax.specs.declared.name.Name.{Name}
use Rattle.unity_syntax.specs.declared.program.Initially.{Initially}
use Rattle.unity_syntax.specs.declared.program.Program.{Program}
use Rattle.unity_syntax.specs.declared.document.Part.{Part}
use Rattle.unity_syntax.specs.declared.document.Document.{Document}
use Rattle.expand_rules.specs.from_meaning_documents.Setting.{definitions}
use Rattle.names_rules.specs.Reading.{Fault, earlier}
use Rattle.core_terms.specs.declared.programs.CSlot.{CSlot}
use Rattle.core_terms.specs.declared.programs.CProgram.{CProgram}
use Rattle.expand_steps.specs.from_expand_declarations.Texts.{Texts}
use Rattle.expand_steps.specs.from_expand_declarations.WordNumbers.{document_words, word_number}
use Rattle.expand_steps.specs.from_expand_declarations.Slots.{document_slots, past_part}
use Rattle.expand_rules.specs.Forming.{Scope, formed, as_truth}
use Rattle.expand_rules.specs.Lists.{items_fault}
use Rattle.expand_statements.specs.Counts.{too_many, statements_fault}
use Rattle.expand_steps.specs.Elements.{element_fault}
use Rattle.expand_steps.specs.Steps.{proof_fault}
use Rattle.expand_documents.specs.AlwaysNames.{definitions_fault, with_definitions}
use Rattle.expand_documents.specs.Cores.{declared_scope, part_definitions, with_parts, core_named}
use Rattle.expand_documents.specs.Cores.{core_program, with_core}

-- headings: the number of a program's statements, and its always names

abbrev pub count_fault : Program → Option Fault
count_fault (Program.Union at name left right) = None
count_fault (Program.Plain at name declare always initially start items) = statements_fault name items

-- the fault of a part's heading, where these always names stand before it
abbrev pub heading_fault : Scope → Part → Option Fault
heading_fault s (Part.Program at program) = earlier (count_fault program) (definitions_fault s (definitions program))
heading_fault s (Part.Proof at proof) = None

abbrev pub headings_fault : Scope → List Part → Option Fault
headings_fault s [] = None
headings_fault s (p ∷ rest) =
    earlier (heading_fault s p) (headings_fault (with_definitions s (part_definitions p)) rest)

-- the parts before the first whose heading has a fault
abbrev pub headed : Scope → List Part → List Part
headed s [] = []
headed s (p ∷ rest) =
    cond (is_some (heading_fault s p)) [] (p ∷ headed (with_definitions s (part_definitions p)) rest)

-- bodies: what else stands in a part

abbrev pub initially_fault : Scope → Option Initially → Option Fault
initially_fault s None = None
initially_fault s (Some section) = element_fault section.at (as_truth (formed section.of s) ∷ [])

-- so many statements has a program, if there is one
abbrev pub size_of : Option CProgram → ℕ
size_of None = 0
size_of (Some c) = length c.statements

abbrev pub program_fault : Texts → Scope → List CProgram → Program → Option Fault
program_fault words s before (Program.Union at name left right) =
    too_many (size_of (core_named (word_number words left.text) before)
    + size_of (core_named (word_number words right.text) before)) name
program_fault words s before (Program.Plain at name declare always initially start items) =
    earlier (initially_fault s initially) (items_fault s items ([] ∷ []))

abbrev pub body_fault : Texts → Scope → List CProgram → Part → Option Fault
body_fault words s before (Part.Program at program) = program_fault words s before program
body_fault words s before (Part.Proof at proof) = proof_fault words s proof

-- the programs after a part
abbrev pub with_part : Texts → Scope → List CSlot → List CProgram → Part → List CProgram
with_part words s slots before (Part.Program at program) =
    with_core before (core_program words s slots before program)
with_part words s slots before (Part.Proof at proof) = before

abbrev pub bodies_fault : Texts → Scope → List CSlot → List CProgram → List Part → Option Fault
bodies_fault words s slots before [] = None
bodies_fault words s slots before (p ∷ rest) = earlier (body_fault words s before p)
    (bodies_fault words s slots (with_part words s slots before p) rest)

-- documents

-- parts that have few enough slots: the bodies before the first heading with a fault, and then that heading
abbrev pub laid_fault : Texts → List Part → Option Fault
laid_fault words parts = let s = declared_scope parts in earlier
    (bodies_fault words (with_parts s (headed s parts)) (document_slots words parts) [] (headed s parts))
    (headings_fault s parts)

-- the name of the program that a part is about
abbrev pub part_name : Part → Name
part_name (Part.Program at (Program.Union at2 name left right)) = name
part_name (Part.Program at (Program.Plain at2 name declare always initially start items)) = name
part_name (Part.Proof at proof) = proof.program

-- too many slots with the first of these parts
abbrev pub slots_fault : List Part → Option Fault
slots_fault [] = None
slots_fault (p ∷ rest) = Some (record { code = Code.TooLarge; at = (part_name p).at })

-- the parts before the first by which there are more than 4,096 slots come first
abbrev pub parts_fault : Texts → List Part → Option ℕ → Option Fault
parts_fault words parts None = laid_fault words parts
parts_fault words parts (Some place) =
    earlier (laid_fault words (take place parts)) (slots_fault (drop place parts))

-- the first fault of a document whose names have none
abbrev pub expansion_fault : Document → Option Fault
expansion_fault d = parts_fault (document_words d) d.parts (past_part d.parts)
