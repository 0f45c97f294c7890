use Rattle.std.specs.Prelude.{All}
use Rattle.safety_rules.specs.Foldable.{IsFoldable}
use Rattle.safety_rules.proofs.AgreeLaws.{AddsRest}
use Rattle.safety_rules.proofs.equations.add_equations.Given as goal

abbrev pub invariant-loop-place : goal.invariant-loop-place
invariant-loop-place l = record {
  forms : AddsRest l.args l.indices l.place l.initial.all l.all;
  foldable : All IsFoldable l.all;
}
