-- What a checker of one certificate stands for, and what it answers.
use Rattle.std.specs.Prelude.{◌≡◌, ◌≢◌, ℕ, Bool, true, false, List, [], ◌∷◌, Result, Ok, Err, OnOk, IfErr, MatchResult}
use Rattle.case_tables.specs.declared.code_table.Code.{Code}
use Rattle.unity_base.specs.declared.events.CertEvent.{CertEvent}
use Rattle.obligations.specs.declared.branches.Obligation.{Obligation}
use Rattle.obligations.specs.declared.certificates.Node.{Node}
use Rattle.obligations.specs.Obligations.{AreOwn}
use Rattle.obligations.specs.Opening.{Valid, first_branch}
use Rattle.certificate_rules.specs.Sums.{is_false}
use Rattle.certificate_rules.specs.Refutation.{WalkResult, allowing, walk_from_root}
use Rattle.certificate_rules.specs.Trees.{Refuted}
use Rattle.certificate_machine.specs.Sums.{sum_line}
use Rattle.event_checker.specs.declared.errors.CertError.{CertError}
use Rattle.event_checker.specs.declared.reading.Open.{Open}
use Rattle.event_checker.specs.declared.reading.Reading.{Reading}
use Rattle.event_checker.specs.declared.checker.Checker.{Checker}
use Rattle.event_checker.specs.Events.{nodes_from}
use Rattle.event_checker.specs.Readings.{ReadingStands}

-- the obligation that a checker holds
abbrev pub checker_obligation : Checker → Obligation
checker_obligation c = c.obligation

-- a checker of certificates of at most so many levels of this obligation was told these events
pub record CheckerStandsFor (levels : ℕ) (c : Checker) (o : Obligation) (es : List CertEvent) : Type 0 where
  pub obligation : c.obligation ≡ o
  pub reading : ReadingStands o.variables (allowing levels (first_branch o) ∷ []) c.reading (nodes_from [] es)

-- it was told some events, and memory was not refused
pub record CheckerIsReady (c : Checker) : Type 0 where
  pub levels : ℕ
  pub events : List CertEvent
  pub own : AreOwn c.obligation.variables
  pub stands : CheckerStandsFor levels c c.obligation events

-- the error is the first node that fails and its code, or that memory was refused
abbrev pub FailsReading : WalkResult → CertError → Type 0
FailsReading r (CertError.Fault code node) = r ≡ Err (code, node)
FailsReading r CertError.Memory = Unit {0}

-- the answer for the nodes of a whole tree
pub record Judges (levels : ℕ) (o : Obligation) (nodes : List Node) (r : Result (Unit {0}) CertError) : Type 0 where
  pub walked : MatchResult r (λ u. walk_from_root levels o nodes ≡ Ok []) (FailsReading (walk_from_root levels o nodes))
  pub refuted : OnOk r (Refuted levels o nodes)
  pub not_refuted : IfErr r (λ e. Refuted levels o nodes → ⊥)
  pub valid : OnOk r (Valid o)
  pub never : IfErr r (λ e. e ≢ CertError.Memory)

abbrev pub sum_verdict : Bool → ℕ → Result (Unit {0}) CertError
sum_verdict true node = Ok tt
sum_verdict false node = Err (CertError.Fault Code.BadSum node)

abbrev pub verdict_at : Open → Reading → Result (Unit {0}) CertError
verdict_at (Open.Failed code node) r = Err (CertError.Fault code node)
verdict_at Open.Sum r = sum_verdict (is_false (sum_line r.sum)) r.node
verdict_at state r = Ok tt

-- what the nodes that were read come to
abbrev pub HasVerdict : Reading → Result (Unit {0}) CertError → Type 0
HasVerdict r v = v ≡ verdict_at r.state r
