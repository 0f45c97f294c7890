use Rattle.std.proofs.Common.{◌≡◌, ◌++◌, map, take}
use Rattle.expand_declarations.specs.References.{core_choice}
use Rattle.expand_declarations.proofs.schedules.add_choices.Given as goal

abbrev pub invariant-loop-choice : goal.invariant-loop-choice
invariant-loop-choice l = l.choices ≡ l.initial.choices ++ map (core_choice l.words) (take l.choice-index l.list)
