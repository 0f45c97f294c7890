-- Laws of a watched schedule, as statements that functions name.
use Rattle.std.specs.Prelude.{◌≡◌, ◌⊎◌, ℕ, List, None, Result}
use Rattle.unity_syntax.specs.declared.document.Document.{Document}
use Rattle.names_rules.specs.WellNamed.{IsWellNamed}
use Rattle.core_terms.specs.Conditions.{IsCoreDocument}
use Rattle.rules_table.specs.Walk.{Plan}
use Rattle.watch_schedules.specs.from_proof_plans.declared.plans.StepFault.{StepFault}
use Rattle.watch_laws.specs.from_rules_steps.Starts.{starts_in}
use Rattle.run_correct.specs.from_expand_documents.Cores.{core_document}
use Rattle.run_correct.specs.from_expand_documents.Faults.{expansion_fault}
use Rattle.watch_laws.specs.from_soundness.Properties.{IsValidlyPlanned}
use Rattle.trace_watch.specs.declared.tracing.Ending.{Ending}
use Rattle.trace_watch.specs.declared.violations.Violation.{Violation}
use Rattle.watch_schedules.specs.declared.error.WatchStop.{WatchStop}
use Rattle.watch_schedules.specs.declared.watching.WatchedSchedule.{WatchedSchedule}
use Rattle.watch_schedules.specs.Schedules.{FindsWatched}
use Rattle.watch_correct.specs.Watched.{HasManyCases, HasNoPlan, HasNoProof, IsWatched, Started, StopsWatching, Watches}

-- a document has its core form, which meets all conditions
pub record HasCore (d : Document) : Type 0 where
  pub named : IsWellNamed d
  pub faultless : expansion_fault d ≡ None
  pub core : IsCoreDocument (core_document d)

-- what is found of the core form is found of the document
abbrev pub WatchesSay : Type 0
WatchesSay = (d : Document) → HasCore d → (result : Result WatchedSchedule WatchStop) →
    FindsWatched (core_document d) result → Watches d result

-- the trace of a document ends in one way, and one text is told of it
abbrev pub OneEnding : Type 0
OneEnding = (d : Document) (ending other : Ending) (text more : List ℕ) → IsWatched d ending text →
    IsWatched d other more → (ending ≡ other) × (text ≡ more)

-- a cause other than want of memory
abbrev pub IsCause : WatchStop → Type 0
IsCause WatchStop.Memory = ⊥
IsCause stop = Unit {0}

-- there is one at most for which a schedule is not watched,
abbrev pub OneStop : Type 0
OneStop = (d : Document) (a b : WatchStop) → IsCause a → IsCause b → StopsWatching d a → StopsWatching d b → a ≡ b

-- and none where its trace ends
abbrev pub NoStop : Type 0
NoStop = (d : Document) (stop : WatchStop) → IsCause stop → StopsWatching d stop → (ending : Ending) (text : List ℕ) →
    IsWatched d ending text → ⊥

abbrev pub HasEnding : Document → Type 0
HasEnding d = (ending : Ending) × (text : List ℕ) × IsWatched d ending text

-- and it ends in some way, but for the causes that stand before
abbrev pub SomeEnding : Type 0
SomeEnding = (d : Document) → HasCore d → Started d →
    HasNoProof d ⊎ ((fault : StepFault) × HasNoPlan d fault) ⊎ HasManyCases d ⊎ HasEnding d

-- the trace of a document that is accepted violates nothing
abbrev pub NoneViolated : Type 0
NoneViolated = (d : Document) (plan : Plan) → IsValidlyPlanned d (starts_in (core_document d).slots) plan →
    (place : ℕ) (v : Violation) (text : List ℕ) → IsWatched d (Ending.Violated place v) text → ⊥
