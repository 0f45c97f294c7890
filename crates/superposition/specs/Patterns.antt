-- What a comparison of the labels of two programs gives.
use Rattle.std.specs.Prelude.{◌≡◌, ℕ, true, false, List, zip, Option, Some, None}
use Rattle.core_terms.specs.declared.programs.CStmt.{CStmt}
use Rattle.safety_rules.specs.from_rules_table.Layers.{labels, same_pattern}
use Rattle.superposition.specs.Labels.{TellsTaken}
use Rattle.superposition.specs.declared.labels.Partners.{Partners}

-- each label with the one over it
abbrev pub label_pairs : List CStmt → List CStmt → List (ℕ × ℕ)
label_pairs fs hs = zip (labels fs) (labels hs)

-- a table of the labels of the second, where the labels have the same pattern
abbrev pub IsPattern : List CStmt → List CStmt → Option Partners → Type 0
IsPattern fs hs None = same_pattern (label_pairs fs hs) ≡ false
IsPattern fs hs (Some p) =
    (same_pattern (label_pairs fs hs) ≡ true) × TellsTaken p.by_label (labels hs)
