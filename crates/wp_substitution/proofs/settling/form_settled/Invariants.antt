use Rattle.std.proofs.Common.{All}
use Rattle.core_terms.specs.Pools.{Grows}
use Rattle.core_terms.specs.Marks.{KeepsMarks}
use Rattle.wp_substitution.specs.Memos.{Remembers, IsFormPart, IsPart}
use Rattle.wp_substitution.proofs.settling.form_settled.Given as goal

abbrev pub invariant-loop : goal.invariant-loop
invariant-loop l = record {
  known : Remembers l.chains l.pool l.memo;
  part : IsFormPart l.pool l.memo.mark l.id.place;
  todo : All (IsPart l.pool l.memo.mark) l.todo;
  kept : Grows l.fn.pool l.pool;
  marks : KeepsMarks l.fn.pool l.pool;
}
