-- What parts hold.
use Rattle.std.proofs.Common.{◌≡◌, List, [], take, Option, None, Some, sym, ap, ◌∙◌, subst}
use Rattle.std.proofs.Common.{Result, Ok, Err}
use Rattle.std.proofs.lemmas.List.Elements.{All-nil}
use Rattle.core_terms.specs.declared.programs.CSlot.{CSlot}
use Rattle.core_terms.specs.declared.programs.CProgram.{CProgram}
use Rattle.core_terms.specs.declared.documents.CProof.{CProof}
use Rattle.unity_syntax.specs.declared.document.Part.{Part}
use Rattle.names_rules.specs.declared.named.NameFault.{NameFault}
use Rattle.names_rules.specs.Reading.{Fault, earlier}
use Rattle.names_rules.specs.Answers.{Stops}
use Rattle.names_rules.proofs.Faults.{earlier_first}
use Rattle.names_rules.proofs.Steps.{stops_first, stops_later}
use Rattle.expand_declarations.specs.Texts.{Texts}
use Rattle.expand_rules.specs.Forming.{Scope}
use Rattle.expand_documents.specs.AlwaysNames.{Always, AreSound}
use Rattle.expand_documents.specs.Cores.{with_parts}
use Rattle.expand_documents.specs.Faults.{bodies_fault, headings_fault, headed}
use Rattle.quantified_assign.specs.declared.headings.Stop.{Stop}
use Rattle.quantified_assign.specs.Bodies.{HasLightForm, StartsAreLight, AddsBodies}
use Rattle.quantified_assign.specs.Headings.{AddedHeadings, IsHeadingStop}
use Rattle.quantified_assign.specs.Expanding.{scope_fault, MakesBodies, MakesHeaded}
use Rattle.quantified_assign.proofs.HeadingLaws.{among, fine_headed, headed_fine, parts_known}

pub no_programs : StartsAreLight []
no_programs = record { each = All-nil (λ (c : CProgram). HasLightForm c.initially) }

pub no_always : AreSound []
no_always = record { each = λ name a e. cc e }

stops_alone : (e : NameFault) (f : Option Fault) → Stops e (earlier f None) → Stops e f
stops_alone e None stops = stops
stops_alone e (Some f) stops = stops

module _ (words : Texts) (s : Scope) (slots : List CSlot) (cores : List CProgram) (more : List CProof)
    (parts : List Part) where
  -- the bodies of the parts before the first heading with a fault, and then the heading
  abbrev bodies : List Part → Option Fault
  bodies ps = bodies_fault words (with_parts s ps) slots [] ps

  bodies_stops : (e : NameFault) (ps : List Part) → headed s parts ≡ ps → Stops e (bodies ps) →
      Stops e (scope_fault words s slots parts)
  bodies_stops e ps same stops = stops_first e (bodies (headed s parts)) (headings_fault s parts)
      (subst (λ (qs : List Part). Stops e (bodies qs)) (sym same) stops)

  -- parts whose headings have no fault
  pub made_whole : (result : Result (Unit {0}) NameFault) → headings_fault s parts ≡ None →
      AddsBodies result words (with_parts s parts) slots [] cores [] more parts →
      MakesBodies result words s slots cores more parts
  made_whole (Ok t) fine b = record {
    programs = b.programs;
    proofs = b.proofs;
    fine = ap (λ (ps : List Part). earlier (bodies ps) (headings_fault s parts)) (fine_headed s parts fine)
        ∙ ap (λ (f : Option Fault). earlier f (headings_fault s parts)) b.fine ∙ fine;
  }
  made_whole (Err e) fine b = bodies_stops e parts (fine_headed s parts fine) b

  -- the same, where these always names are those of the parts
  pub made_known : (result : Result (Unit {0}) NameFault) (always : Always) (old : List CProof) → old ≡ [] →
      AddedHeadings s always parts → AddsBodies result words (among s always) slots [] cores old more parts →
      MakesBodies result words s slots cores more parts
  made_known result always old none a b = made_whole result a.fine
      (subst (λ (known : Scope). AddsBodies result words known slots [] cores [] more parts)
      (parts_known s always parts a.always)
      (subst (λ (proofs : List CProof). AddsBodies result words (among s always) slots [] cores proofs more parts)
      none b))

  -- the parts before a heading with a fault
  pub before_fine : (stop : Stop) → IsHeadingStop s stop parts → headings_fault s (take stop.place parts) ≡ None
  before_fine stop i = subst (λ (ps : List Part). headings_fault s ps ≡ None) i.headed (headed_fine s parts)

  pub before_stops : (e : NameFault) (stop : Stop) → IsHeadingStop s stop parts →
      Stops e (bodies (take stop.place parts)) →
      Stops e (scope_fault words s slots parts)
  before_stops e stop i stops = bodies_stops e (take stop.place parts) i.headed stops

  pub heading_stops : (stop : Stop) → IsHeadingStop s stop parts → bodies (take stop.place parts) ≡ None →
      Stops (NameFault.Fault stop.code stop.at) (scope_fault words s slots parts)
  heading_stops stop i fine = stops_later (NameFault.Fault stop.code stop.at) (bodies (headed s parts))
      (headings_fault s parts) (ap bodies i.headed ∙ fine) i.fault

  -- their fault is one of their bodies
  fault_before : (stop : Stop) → IsHeadingStop s stop parts →
      scope_fault words s slots (take stop.place parts) ≡ earlier (bodies (take stop.place parts)) None
  fault_before stop i =
      let before : List Part = take stop.place parts in
      ap (λ (ps : List Part). earlier (bodies ps) (headings_fault s before))
      (fine_headed s before (before_fine stop i))
      ∙ ap (λ (f : Option Fault). earlier (bodies before) f) (before_fine stop i)

  -- where they stop, all parts do
  pub stops_before : (e : NameFault) (stop : Stop) → IsHeadingStop s stop parts →
      Stops e (scope_fault words s slots (take stop.place parts)) → Stops e (scope_fault words s slots parts)
  stops_before e stop i stops = before_stops e stop i (stops_alone e (bodies (take stop.place parts))
      (subst (λ (f : Option Fault). Stops e f) (fault_before stop i) stops))

  -- where they do not, the heading stops
  pub stops_after : (left : Option Stop) (stop : Stop) → IsHeadingStop s stop parts →
      MakesHeaded (Ok left) words s slots cores more (take stop.place parts) →
      Stops (NameFault.Fault stop.code stop.at) (scope_fault words s slots parts)
  stops_after None stop i made = heading_stops stop i
      (earlier_first (bodies (take stop.place parts)) None (sym (fault_before stop i) ∙ made.fine))
  stops_after (Some other) stop i made = cc (sym (before_fine stop i) ∙ made.stopped.fault)
