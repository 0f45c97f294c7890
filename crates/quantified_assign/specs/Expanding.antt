-- What the calls answer that expand parts and whole documents.
use Rattle.std.specs.Prelude.{◌≡◌, List, [], Option, None, Some, option_map, Result, Ok, Err}
use Rattle.unity_syntax.specs.declared.name.Name.{Name}
use Rattle.unity_syntax.specs.declared.program.Program.{Program}
use Rattle.unity_syntax.specs.declared.document.Part.{Part}
use Rattle.unity_syntax.specs.declared.document.Document.{Document}
use Rattle.names_rules.specs.declared.named.NameFault.{NameFault}
use Rattle.names_rules.specs.Reading.{Fault, earlier}
use Rattle.names_rules.specs.Answers.{Stops}
use Rattle.core_terms.specs.declared.programs.CSlot.{CSlot}
use Rattle.core_terms.specs.declared.programs.CProgram.{CProgram}
use Rattle.core_terms.specs.declared.documents.CProof.{CProof}
use Rattle.core_terms.specs.declared.documents.CDocument.{CDocument}
use Rattle.expand_declarations.specs.Texts.{Texts}
use Rattle.expand_declarations.specs.Slots.{document_slots}
use Rattle.expand_declarations.specs.References.{core_schedule}
use Rattle.expand_rules.specs.Forming.{Scope}
use Rattle.expand_documents.specs.Cores.{with_parts, document_scope, with_cores, core_proofs, core_document}
use Rattle.expand_documents.specs.Faults.{bodies_fault, headings_fault, headed, expansion_fault}
use Rattle.quantified_assign.specs.declared.contents.Contents.{Contents}
use Rattle.quantified_assign.specs.declared.headings.Stop.{Stop}
use Rattle.quantified_assign.specs.Headings.{IsHeadingStop}

-- parts whose slots and words are known

-- the bodies before the first heading with a fault, and then that heading
abbrev pub scope_fault : Texts → Scope → List CSlot → List Part → Option Fault
scope_fault words s slots parts =
    earlier (bodies_fault words (with_parts s (headed s parts)) slots [] (headed s parts)) (headings_fault s parts)

-- the programs and the proofs of parts, which have no fault
pub record BodiesMade (words : Texts) (s : Scope) (slots : List CSlot) (cores : List CProgram) (more : List CProof)
    (parts : List Part) : Type 0 where
  pub programs : cores ≡ with_cores words (with_parts s parts) slots [] parts
  pub proofs : more ≡ core_proofs words (with_parts s parts) parts
  pub fine : scope_fault words s slots parts ≡ None

abbrev pub MakesBodies :
    Result (Unit {0}) NameFault → Texts → Scope → List CSlot → List CProgram → List CProof → List Part → Type 0
MakesBodies (Ok t) words s slots programs proofs parts = BodiesMade words s slots programs proofs parts
MakesBodies (Err e) words s slots programs proofs parts = Stops e (scope_fault words s slots parts)

-- nothing of parts, whose headings stop here
pub record NothingMade (s : Scope) (stop : Stop) (cores : List CProgram) (more : List CProof) (parts : List Part) :
    Type 0 where
  pub stopped : IsHeadingStop s stop parts
  pub programs : cores ≡ []
  pub proofs : more ≡ []

-- the same where no heading has a fault; else nothing
abbrev pub MakesHeaded :
    Result (Option Stop) NameFault → Texts → Scope → List CSlot → List CProgram → List CProof → List Part → Type 0
MakesHeaded (Ok None) words s slots programs proofs parts = BodiesMade words s slots programs proofs parts
MakesHeaded (Ok (Some stop)) words s slots programs proofs parts = NothingMade s stop programs proofs parts
MakesHeaded (Err e) words s slots programs proofs parts = Stops e (scope_fault words s slots parts)

-- parts

-- what parts hold that have no fault
pub record Held (words : Texts) (c : Contents) (parts : List Part) (fault : Option Fault) : Type 0 where
  pub slots : c.slots ≡ document_slots words parts
  pub programs : c.programs ≡ with_cores words (document_scope parts) (document_slots words parts) [] parts
  pub proofs : c.proofs ≡ core_proofs words (document_scope parts) parts
  pub fine : fault ≡ None

abbrev pub HoldsContents : Result Contents NameFault → Texts → List Part → Option Fault → Type 0
HoldsContents (Ok c) words parts fault = Held words c parts fault
HoldsContents (Err e) words parts fault = Stops e fault

-- the name of a program
abbrev pub name_of : Program → Name
name_of (Program.Union at name left right) = name
name_of (Program.Plain at name declare always initially start items) = name

-- documents

-- a document that holds this
abbrev pub document_of : Document → Texts → Contents → CDocument
document_of d words c = record {
  version = d.number;
  words = words;
  slots = c.slots;
  programs = c.programs;
  proofs = c.proofs;
  schedule = option_map (core_schedule words) d.schedule;
}

-- a document in core form, or the first fault
abbrev pub Expands : Result CDocument NameFault → Document → Type 0
Expands (Ok c) d = (c ≡ core_document d) × (expansion_fault d ≡ None)
Expands (Err e) d = Stops e (expansion_fault d)
