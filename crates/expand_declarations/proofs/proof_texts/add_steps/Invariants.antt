use Rattle.std.proofs.Common.{◌≡◌, drop}
use Rattle.std.specs.List.{flat_map}
use Rattle.names_rules.specs.Scope.{seen_keys}
use Rattle.expand_declarations.specs.Texts.{step_texts}
use Rattle.expand_declarations.specs.WordNumbers.{with_texts}
use Rattle.expand_declarations.proofs.proof_texts.add_steps.Given as goal

abbrev pub invariant-loop-step : goal.invariant-loop-step
invariant-loop-step l = with_texts (seen_keys l.words) (flat_map step_texts (drop l.step-index l.steps))
    ≡ with_texts (seen_keys l.initial.words) (flat_map step_texts l.steps)
