-- Programs and proofs of parts, as the code makes them.
use Rattle.std.specs.Prelude.{◌≡◌, ℕ, ◌^◌, ◌≤◌, List, [], ◌∷◌, ◌++◌, All, length, Option, Some, None, Result, Ok, Err}
use Rattle.core_terms.specs.declared.trees.CForm.{CForm}
use Rattle.core_terms.specs.declared.programs.CProgram.{CProgram}
use Rattle.core_terms.specs.declared.programs.CSlot.{CSlot}
use Rattle.core_terms.specs.declared.documents.CProof.{CProof}
use Rattle.core_terms.specs.Weights.{plain_weight}
use Rattle.meaning_documents.specs.Setting.{items_of}
use Rattle.unity_syntax.specs.declared.program.Program.{Program}
use Rattle.unity_syntax.specs.declared.document.Part.{Part}
use Rattle.names_rules.specs.declared.named.NameFault.{NameFault}
use Rattle.names_rules.specs.Reading.{Fault, earlier}
use Rattle.names_rules.specs.Answers.{Stops}
use Rattle.names_rules.specs.Declarations.{some_of}
use Rattle.expand_declarations.specs.Texts.{Texts}
use Rattle.expand_declarations.specs.WordNumbers.{word_number}
use Rattle.expand_declarations.specs.Shown.{shown_slots}
use Rattle.expand_declarations.specs.Start.{start_values}
use Rattle.expand_rules.specs.Forming.{Scope, form_of}
use Rattle.expand_rules.specs.Lists.{items_fault}
use Rattle.expand_rules.specs.Programs.{plain_core}
use Rattle.expand_expressions.specs.declared.operations.TruthCore.{TruthCore}
use Rattle.expand_expressions.specs.Places.{IsReady}
use Rattle.expand_expressions.specs.Sound.{IsSound, of_truth}
use Rattle.expand_steps.specs.Elements.{element_fault}
use Rattle.expand_steps.specs.Steps.{outer_scope}
use Rattle.expand_documents.specs.Cores.{core_program, with_core, with_cores, core_proofs}
use Rattle.expand_documents.specs.Faults.{initially_fault, program_fault, bodies_fault}
use Rattle.quantified_assign.specs.declared.programs.Making.{Making}
use Rattle.quantified_assign.specs.declared.programs.Sections.{Sections}

-- formulas of first states

-- a formula that weighs no more than is allowed
pub record HasLightForm (f : CForm) : Type 0 where
  pub weight : plain_weight f ≤ 2 ^ 62

-- a call that gives a formula, or stops at its fault
pub record GivenForm (f core : CForm) (fault : Option Fault) : Type 0 where
  pub same : f ≡ core
  pub light : HasLightForm f
  pub fine : fault ≡ None

abbrev pub GivesForm : Result CForm NameFault → CForm → Option Fault → Type 0
GivesForm (Ok f) core fault = GivenForm f core fault
GivesForm (Err e) core fault = Stops e fault

-- a truth whose tree weighs no more than is counted
pub record IsLightTruth (t : TruthCore) : Type 0 where
  pub sound : IsSound (of_truth t)

abbrev pub SettlesForm : Result CForm NameFault → TruthCore → ℕ → Type 0
SettlesForm result t front = GivesForm result (form_of (of_truth t).core) (element_fault front (of_truth t ∷ []))

-- programs

-- programs whose first states have formulas that weigh no more than is allowed
pub record StartsAreLight (programs : List CProgram) : Type 0 where
  pub each : All (λ c. HasLightForm c.initially) programs

-- the same of a program, if there is one
abbrev pub HasLight : Option CProgram → Type 0
HasLight None = Unit {0}
HasLight (Some c) = HasLightForm c.initially

-- what the code knows is in order, and there are few enough slots
pub record IsPrepared (m : Making) : Type 0 where
  pub ready : IsReady m.known.now
  pub slots : length m.slots.now ≤ 4096

-- what a program that is no union becomes, and its first fault
abbrev pub core_of : Making → Sections → CProgram
core_of m p = let s = outer_scope m.known.now in
    plain_core (word_number m.words.now) s (word_number m.words.now p.name.now.text)
    (shown_slots m.words.now (items_of p.declare.now) m.slots.now)
    (start_values s.variables s.words (some_of p.start.now)) p.initially.now p.items.now

abbrev pub sections_fault : Making → Sections → Option Fault
sections_fault m p = earlier (initially_fault (outer_scope m.known.now) p.initially.now)
    (items_fault (outer_scope m.known.now) p.items.now ([] ∷ []))

-- a call that gives a program, or stops at its first fault
pub record MadeProgram (c core : CProgram) (fault : Option Fault) : Type 0 where
  pub same : c ≡ core
  pub light : HasLightForm c.initially
  pub fine : fault ≡ None

abbrev pub MakesProgram : Result CProgram NameFault → CProgram → Option Fault → Type 0
MakesProgram (Ok c) core fault = MadeProgram c core fault
MakesProgram (Err e) core fault = Stops e fault

-- a union, where there is one
pub record IsUnited (u core : Option CProgram) : Type 0 where
  pub same : u ≡ core
  pub light : HasLight u

pub record MadeUnion (u core : Option CProgram) (fault : Option Fault) : Type 0 where
  pub union : IsUnited u core
  pub fine : fault ≡ None

abbrev pub MakesUnion : Result (Option CProgram) NameFault → Option CProgram → Option Fault → Type 0
MakesUnion (Ok u) core fault = MadeUnion u core fault
MakesUnion (Err e) core fault = Stops e fault

-- a call that adds a program, if there is one, or stops at its first fault
pub record AddedProgram (old new : List CProgram) (core : Option CProgram) (fault : Option Fault) : Type 0 where
  pub programs : new ≡ with_core old core
  pub light : StartsAreLight new
  pub fine : fault ≡ None

abbrev pub AddsProgram :
    Result (Unit {0}) NameFault → List CProgram → List CProgram → Option CProgram → Option Fault → Type 0
AddsProgram (Ok t) old new core fault = AddedProgram old new core fault
AddsProgram (Err e) old new core fault = Stops e fault

-- a call that adds what a program becomes
abbrev pub AddsCore :
    Result (Unit {0}) NameFault → Making → List CProgram → List CProgram → Program → Type 0
AddsCore result m old new p = AddsProgram result old new
    (core_program m.words.now (outer_scope m.known.now) m.slots.now old p)
    (program_fault m.words.now (outer_scope m.known.now) old p)

-- bodies

-- the programs and the proofs of parts, which were added to others, and have no fault
pub record Bodied (words : Texts) (s : Scope) (slots : List CSlot) (before after : List CProgram)
    (old new : List CProof) (parts : List Part) : Type 0 where
  pub programs : after ≡ with_cores words s slots before parts
  pub proofs : new ≡ old ++ core_proofs words s parts
  pub light : StartsAreLight after
  pub fine : bodies_fault words s slots before parts ≡ None

abbrev pub AddsBodies :
    Result (Unit {0}) NameFault → Texts → Scope → List CSlot → List CProgram → List CProgram → List CProof →
    List CProof → List Part → Type 0
AddsBodies (Ok t) words s slots before after old new parts = Bodied words s slots before after old new parts
AddsBodies (Err e) words s slots before after old new parts = Stops e (bodies_fault words s slots before parts)

-- the same, where the code stands
abbrev pub AddsIn :
    Result (Unit {0}) NameFault → Making → List CProgram → List CProgram → List CProof → List CProof → List Part →
    Type 0
AddsIn result m before after old new parts =
    AddsBodies result m.words.now (outer_scope m.known.now) m.slots.now before after old new parts
