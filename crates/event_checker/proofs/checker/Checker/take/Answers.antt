use Rattle.std.proofs.Common.{◌≡◌, ◌∷◌, [], ◌++◌, to_z, of_z, w64, refl, sym, ap, ◌∙◌, subst, arith}
use Rattle.std.proofs.lemmas.Int.{to_z-of_z}
use Rattle.obligations.specs.declared.branches.Obligation.{Obligation}
use Rattle.obligations.specs.Opening.{first_branch}
use Rattle.certificate_rules.specs.Refutation.{allowing}
use Rattle.event_checker.specs.Events.{paired, nodes_from}
use Rattle.event_checker.specs.Readings.{ReadingStands}
use Rattle.event_checker.proofs.BeginLaws.{on-ok}
use Rattle.event_checker.proofs.CheckerLaws.{no-pair, pair-told, nothing-told, node-told}
use Rattle.event_checker.proofs.checker.Checker.take.Goals as goal

pub returns-in-Pair-clause-stands : goal.returns-in-Pair-clause-stands
returns-in-Pair-clause-stands c = λ levels o es s.
    let root = allowing levels (first_branch o) ∷ [] in
    let new = c.take_pair.new.reading in
    let same : to_z w64 (of_z w64 c.in-Pair.by) ≡ c.in-Pair.by = grind (arith, to_z-of_z) in record {
      obligation = s.obligation;
      reading = pair-told o.variables root new es c.args.e c.in-Pair.by c.in-Pair.number c.in-Pair.is
          (subst (λ z. ReadingStands o.variables root new (paired (nodes_from [] es) (z, c.in-Pair.number))) same
          (c.take_pair.ensures o.variables root (nodes_from [] es) s.reading));
    }

pub returns-in-Pair-clause-ready : goal.returns-in-Pair-clause-ready
returns-in-Pair-clause-ready c =
    let r = c.requires.ready in
    let o = c.args.self.now.obligation in
    let root = allowing r.levels (first_branch o) ∷ [] in
    let new = c.take_pair.new.reading in
    let same : to_z w64 (of_z w64 c.in-Pair.by) ≡ c.in-Pair.by = grind (arith, to_z-of_z) in record {
      levels = r.levels;
      events = r.events ++ c.args.e ∷ [];
      own = r.own;
      stands = record {
        obligation = refl;
        reading = pair-told o.variables root new r.events c.args.e c.in-Pair.by c.in-Pair.number c.in-Pair.is
            (subst (λ z. ReadingStands o.variables root new (paired (nodes_from [] r.events) (z, c.in-Pair.number)))
            same
            (c.take_pair.ensures o.variables root (nodes_from [] r.events) r.stands.reading));
      };
    }

pub returns-then-not-begins_node : goal.returns-then-not-begins_node
returns-then-not-begins_node c = record {
  stands = λ levels o es s. record {
    obligation = s.obligation;
    reading = nothing-told o.variables (allowing levels (first_branch o) ∷ []) c.args.self.now.reading es c.args.e
        (sym c.begins_node.ensures ∙ c.if-not-begins_node.true) (no-pair c.args.e c.in_default.not-Pair) s.reading;
  };
  ready = c.requires.ready;
  room = λ h. refl;
}

pub returns : goal.returns
returns c =
    let e = c.args.e in
    let old = c.args.self.now.reading in
    let new = c.take_node.new.reading in
    let mine = c.args.self.now.obligation in
    let r = c.requires.ready in record {
      stands = on-ok c.take_node.result (λ f levels o es s. record {
        obligation = s.obligation;
        reading = node-told o.variables c.as_slice.result.now (allowing levels (first_branch o) ∷ []) old new es e
            (c.as_slice.ensures ∙ ap (λ (o : Obligation). o.variables) s.obligation) f s.reading;
      }) c.take_node.ensures;
      ready = on-ok c.take_node.result (λ f. record {
        levels = r.levels;
        events = r.events ++ e ∷ [];
        own = r.own;
        stands = record {
          obligation = refl;
          reading = node-told mine.variables c.as_slice.result.now (allowing r.levels (first_branch mine) ∷ []) old new
              r.events e c.as_slice.ensures f r.stands.reading;
        };
      }) c.take_node.ensures;
      room = λ h. let no = no-pair e c.in_default.not-Pair in absurd (cc);
    }
