use Rattle.std.proofs.Common.{◌≡◌, ◌∷◌, drop, fold, map}
use Rattle.meaning_documents.specs.Writes.{conditional}
use Rattle.expand_rules.specs.Assigning.{beside, alternative_effect}
use Rattle.expand_expressions.specs.Places.{scope}
use Rattle.expand_assignments.proofs.alternatives.further.Given as goal

abbrev pub invariant-loop-values : goal.invariant-loop-values
invariant-loop-values l =
    fold beside l.effect (map (λ a. alternative_effect (scope l.known l.env) (l.first ∷ l.rest) (conditional a))
    (drop l.values-index l.more)) ≡
    fold beside l.fn.effect (map (λ a. alternative_effect (scope l.known l.env) (l.first ∷ l.rest) (conditional a))
    l.more)
