use Rattle.std.proofs.Common.{arith}
use Rattle.obligations.proofs.OccurrenceLaws.{mark-wanted, mark-past, mark-unwanted}
use Rattle.obligations.proofs.occurrence.mark.Goals as goal
use Rattle.obligations.proofs.occurrence.mark.Goals.{else-wanted-via-then-wanted+else-number-len}
use Rattle.obligations.proofs.occurrence.mark.Goals.{else-wanted-via-else-wanted}

pub returns-then-number-len : goal.returns-then-number-len
returns-then-number-len c =
    mark-wanted c.args.number c.args.wanted c.args.marks.now c.replace.new.self c.if-wanted.true
    (omega (arith, c.len.ensures, c.if-number-len.true)) c.replace.ensures.rest

pub returns-else-wanted : goal.returns-else-wanted
returns-else-wanted c = elim c.else-wanted.branch [
  | else-wanted-via-then-wanted+else-number-len w ↦
      mark-past c.args.number c.args.wanted c.args.marks.now w.if-wanted.true
      (omega (arith, w.len.ensures, w.if-number-len.false))
  | else-wanted-via-else-wanted w ↦ mark-unwanted c.args.number c.args.wanted c.args.marks.now w.if-wanted.false
]
