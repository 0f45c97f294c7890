use Rattle.std.proofs.Common.{◌≡◌, map, filter, take}
use Rattle.std.specs.Prelude.{All}
use Rattle.core_terms.specs.declared.programs.CStmt.{CStmt}
use Rattle.rules_table.specs.Table.{equations}
use Rattle.wp_substitution.specs.Preconditions.{all_of}
use Rattle.safety_rules.specs.Foldable.{IsFoldable}
use Rattle.safety_rules.specs.Helpers.{may_mean}
use Rattle.safety_rules.proofs.meanings.meanings.Given as goal

abbrev pub invariant-loop-s : goal.invariant-loop-s
invariant-loop-s l = record {
  forms : l.all ≡ map (λ (s : CStmt). all_of (equations l.h.args s.indices))
      (filter (may_mean l.h) (take l.s-index l.s-items));
  foldable : All IsFoldable l.all;
}
