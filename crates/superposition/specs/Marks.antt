-- A mark for each slot of a list.
use Rattle.std.specs.Prelude.{ℕ, Bool, false, List, slice_index_or}

-- past the marks nothing is marked
abbrev pub has_mark : List Bool → ℕ → Bool
has_mark marks n = slice_index_or marks n false
