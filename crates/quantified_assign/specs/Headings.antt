-- Headings of parts, as the code adds what always names become.
use Rattle.std.specs.Prelude.{◌≡◌, ◌<◌, List, length, take, Option, Some, None, Result, Ok, Err}
use Rattle.unity_syntax.specs.declared.document.Part.{Part}
use Rattle.names_rules.specs.declared.named.NameFault.{NameFault}
use Rattle.names_rules.specs.Reading.{Fault}
use Rattle.names_rules.specs.Answers.{Stops}
use Rattle.expand_rules.specs.Forming.{Scope}
use Rattle.expand_documents.specs.AlwaysNames.{Always, AreSound, with_definitions}
use Rattle.expand_documents.specs.Cores.{part_definitions, with_parts}
use Rattle.expand_documents.specs.Faults.{heading_fault, headings_fault, headed}
use Rattle.quantified_assign.specs.declared.headings.Stop.{Stop}

-- the always names of a part, which were added, and whose heading has no fault
pub record AddedHeading (s : Scope) (new : Always) (p : Part) : Type 0 where
  pub always : new ≡ (with_definitions s (part_definitions p)).always
  pub sound : AreSound new
  pub fine : heading_fault s p ≡ None

abbrev pub AddsHeading : Result (Unit {0}) NameFault → Scope → Always → Part → Type 0
AddsHeading (Ok t) s new p = AddedHeading s new p
AddsHeading (Err e) s new p = Stops e (heading_fault s p)

-- the same of parts
pub record AddedHeadings (s : Scope) (new : Always) (parts : List Part) : Type 0 where
  pub always : new ≡ (with_parts s parts).always
  pub sound : AreSound new
  pub fine : headings_fault s parts ≡ None

-- the place of the first part whose heading has a fault, with that fault
pub record IsHeadingStop (s : Scope) (stop : Stop) (parts : List Part) : Type 0 where
  pub within : stop.place < length parts
  pub headed : headed s parts ≡ take stop.place parts
  pub fault : headings_fault s parts ≡ Some (record { code = stop.code; at = stop.at })

abbrev pub AddsHeadings : Option Stop → Scope → Always → List Part → Type 0
AddsHeadings None s new parts = AddedHeadings s new parts
AddsHeadings (Some stop) s new parts = IsHeadingStop s stop parts
