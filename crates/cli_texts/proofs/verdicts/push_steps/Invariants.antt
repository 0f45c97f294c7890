use Rattle.std.proofs.Common.{◌≡◌, ◌++◌, drop}
use Rattle.std.specs.List.{flat_map}
use Rattle.cli_texts.specs.Verdicts as verdict
use Rattle.cli_texts.proofs.verdicts.push_steps.Given as goal

abbrev pub invariant-loop-made : goal.invariant-loop-made
invariant-loop-made l =
    l.text.items ++ flat_map (verdict.step_line l.words) (drop l.made-index l.records)
    ≡ l.initial.text.items ++ flat_map (verdict.step_line l.words) l.records
