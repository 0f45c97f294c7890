-- What a checker answers for the events that it was told.
use Rattle.std.proofs.Common.{◌≡◌, ℕ, true, List, [], ◌∷◌, Result, Ok, Err, MatchResult, sym, subst}
use Rattle.case_tables.specs.declared.code_table.Code.{Code}
use Rattle.unity_base.specs.declared.events.CertEvent.{CertEvent}
use Rattle.obligations.specs.declared.branches.Obligation.{Obligation}
use Rattle.obligations.specs.declared.certificates.Node.{Node}
use Rattle.obligations.specs.Obligations.{IsObligation}
use Rattle.obligations.specs.Opening.{first_branch}
use Rattle.event_checker.specs.declared.errors.CertError.{CertError}
use Rattle.event_checker.specs.declared.checker.Checker.{Checker}
use Rattle.event_checker.specs.Checkers.{CheckerStandsFor, FailsReading}
use Rattle.event_checker.specs.Events.{events_of, nodes_from}
use Rattle.event_checker.specs.Readings.{ReadingStands}
use Rattle.event_checker.proofs.NodeLaws.{events-tell-nodes}
use Rattle.certificate_rules.specs.Refutation.{allowing, walk_from_root}
use Rattle.certificate_rules.specs.Trees.{is_whole}

-- the events of the nodes that were told
told-again : (levels : ℕ) (c : Checker) (o : Obligation) (es : List CertEvent) → CheckerStandsFor levels c o es →
    CheckerStandsFor levels c o (events_of (nodes_from [] es))
told-again levels c o es s = record {
  obligation = s.obligation;
  reading = subst (ReadingStands o.variables (allowing levels (first_branch o) ∷ []) c.reading)
      (sym (events-tell-nodes (nodes_from [] es))) s.reading;
}

-- what a checker's answer says of this obligation and these nodes
abbrev pub Answers : ℕ → Obligation → List Node → Result (Unit {0}) CertError → Type 0
Answers levels o nodes v = MatchResult v (λ u. walk_from_root levels o nodes ≡ Ok [])
    (FailsReading (walk_from_root levels o nodes))

module _ (c : Checker) (v : Result (Unit {0}) CertError) (answers : (levels : ℕ) (o : Obligation)
    (nodes : List Node) → IsObligation o → CheckerStandsFor levels c o (events_of nodes) → is_whole nodes 1 ≡ true →
    Answers levels o nodes v) where
  pub passes : (u : Unit {0}) → v ≡ Ok u → (levels : ℕ) (o : Obligation) (es : List CertEvent) → IsObligation o →
      CheckerStandsFor levels c o es → is_whole (nodes_from [] es) 1 ≡ true →
      walk_from_root levels o (nodes_from [] es) ≡ Ok []
  passes u e levels o es is s whole =
      subst (Answers levels o (nodes_from [] es)) e
      (answers levels o (nodes_from [] es) is (told-again levels c o es s) whole)

  pub fails : (code : Code) (node : ℕ) → v ≡ Err (CertError.Fault code node) → (levels : ℕ) (o : Obligation)
      (es : List CertEvent) → IsObligation o → CheckerStandsFor levels c o es → is_whole (nodes_from [] es) 1 ≡ true →
      walk_from_root levels o (nodes_from [] es) ≡ Err (code, node)
  fails code node e levels o es is s whole =
      subst (Answers levels o (nodes_from [] es)) e
      (answers levels o (nodes_from [] es) is (told-again levels c o es s) whole)
