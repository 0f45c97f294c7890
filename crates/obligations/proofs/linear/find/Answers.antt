use Rattle.std.proofs.Common.{false, pos, sym, ◌∙◌, arith}
use Rattle.obligations.specs.declared.branches.Variable.{Variable}
use Rattle.obligations.proofs.OrderLaws.{place-here, no-place}
use Rattle.obligations.proofs.linear.find.Goals as goal
use Rattle.obligations.proofs.linear.find.Goals.{else-place-vs-via-then-place-vs+else-is_at}
use Rattle.obligations.proofs.linear.find.Goals.{else-place-vs-via-else-place-vs}

-- any variable
other : Variable
other = record { param = false; number = 0; range = record { lo = pos 0; hi = pos 0 } }

pub returns-then-is_at : goal.returns-then-is_at
returns-then-is_at c =
    place-here c.args.param c.args.number c.args.vs.now c.count_lower-place.result other c.if-place-vs.true
    c.count_lower-place.ensures.before (sym (c.is_at.ensures other) ∙ c.if-is_at.true)

pub returns-else-place-vs : goal.returns-else-place-vs
returns-else-place-vs c = elim c.else-place-vs.branch [
  | else-place-vs-via-then-place-vs+else-is_at w ↦
      no-place c.args.param c.args.number c.args.vs.now c.count_lower-place.result other c.requires
      c.count_lower-place.ensures.bound c.count_lower-place.ensures.before c.count_lower-place.ensures.after
      (λ h. sym (w.is_at.ensures other) ∙ w.if-is_at.false)
  | else-place-vs-via-else-place-vs w ↦
      no-place c.args.param c.args.number c.args.vs.now c.count_lower-place.result other c.requires
      c.count_lower-place.ensures.bound c.count_lower-place.ensures.before c.count_lower-place.ensures.after
      (λ h. absurd (omega (arith, h, w.if-place-vs.false)))
]
