-- Formulas that are known to be too large before they are made.
use Rattle.std.specs.Prelude.{◌≡◌, ℕ, ◌+◌, ◌<◌, Bool, ◌&&◌, ◌||◌, nat_lt, List, [], ◌∷◌, length, None, unwrap_or}
use Rattle.std.specs.List.{list_any}
use Rattle.std.specs.Option.{is_none}
use Rattle.std.specs.Ordering.{nat_cmp}
use Rattle.std.specs.BTreeMap.{BTreeMap, get}
use Rattle.core_terms.specs.declared.trees.CForm.{CForm}
use Rattle.core_terms.specs.declared.programs.CWrite.{CWrite}
use Rattle.core_terms.specs.declared.programs.CStmt.{CStmt}
use Rattle.core_terms.specs.Folding.{number_of, truth_of}
use Rattle.core_terms.specs.Sizes.{form_nodes}
use Rattle.wp_substitution.specs.Preconditions.{writes_to}

-- a formula that folding leaves as it is, with more nodes than an obligation may have
pub record IsOversized (f : CForm) : Type 0 where
  pub unknown : truth_of f ≡ None
  pub nodes : 65536 < form_nodes f

-- the condition or the value of a write names a slot or a parameter
abbrev pub is_open : CWrite → Bool
is_open w = is_none (truth_of w.when) || is_none (number_of w.value)

-- how many pairs of writes to one slot there are
abbrev pub pair_count : List CWrite → ℕ
pair_count [] = 0
pair_count (w ∷ ws) = length (writes_to w.slot ws) + pair_count ws

-- some write is open, and there are more pairs of writes to one slot than a formula of 65,536 nodes can join to it
abbrev pub has_many_pairs : CStmt → Bool
has_many_pairs s = list_any is_open s.writes && nat_lt 65536 (pair_count s.writes)

-- how many writes to a slot a table has counted
abbrev pub count_at : BTreeMap ℕ ℕ → ℕ → ℕ
count_at counts n = unwrap_or (get nat_cmp counts n) 0
