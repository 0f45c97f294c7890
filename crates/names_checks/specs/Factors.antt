-- The operands of a product after its first.
use Rattle.std.specs.Prelude.{ℕ, List, Bool, ◌&&◌}
use Rattle.case_tables.specs.declared.code_table.Code.{Code}
use Rattle.unity_syntax.specs.declared.expression.Operator.{Operator}
use Rattle.names_rules.specs.declared.named.Sort.{Sort}
use Rattle.names_rules.specs.Reading.{Reading, earlier, unless, in_order, joined, is_linear, right_sides}

-- further operands of a product that begins at this byte, after others that are constant or not
abbrev pub further_factors : ℕ → Bool → List (Operator × Reading) → Reading
further_factors at constant fs = record (joined Sort.Number (right_sides fs)) {
  constant = constant && (in_order (right_sides fs)).constant;
  fault = earlier (in_order (right_sides fs)).fault (unless (is_linear constant fs) Code.NotLinear at);
}
