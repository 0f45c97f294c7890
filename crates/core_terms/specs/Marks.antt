-- Marks of a pool, to which it can be cut back.
use Rattle.std.specs.Prelude.{◌≤◌, length, take, All}
use Rattle.core_terms.specs.declared.marks.Mark.{Mark}
use Rattle.core_terms.specs.Pools.{Pooled, IsFormWithin, IsTermWithin}

-- neither number is above the pool's, and no form or term below them has a part at or above them
pub record Fits (p : Pooled) (m : Mark) : Type 0 where
  pub forms : m.forms ≤ length p.forms
  pub terms : m.terms ≤ length p.terms
  pub form_parts : All (IsFormWithin m.forms m.terms) (take m.forms p.form_nodes)
  pub term_parts : All (IsTermWithin m.forms m.terms) (take m.terms p.term_nodes)

-- each mark that fits one pool fits the other
abbrev pub KeepsMarks : Pooled → Pooled → Type 0
KeepsMarks p q = (m : Mark) → Fits p m → Fits q m

-- each mark that fits one pool fits the other, where neither of its numbers is above those of another mark
abbrev pub KeepsMarksTo : Mark → Pooled → Pooled → Type 0
KeepsMarksTo to p q = (m : Mark) → m.forms ≤ to.forms → m.terms ≤ to.terms → Fits p m → Fits q m
