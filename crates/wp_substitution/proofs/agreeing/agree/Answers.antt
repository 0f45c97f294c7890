use Rattle.std.proofs.Common.{◌≡◌, ◌+◌, ◌-◌, ◌<◌, drop, length, ap, sym, ◌∙◌, arith}
use Rattle.std.specs.Ordering.{nat_cmp}
use Rattle.std.specs.BTreeMap.{get}
use Rattle.wp_substitution.specs.Agreeing.{first_given}
use Rattle.wp_substitution.proofs.AgreeLaws.{not_agreeing}
use Rattle.wp_substitution.proofs.agreeing.agree.Goals as goal

pub returns-then-not-branch : goal.returns-then-not-branch
returns-then-not-branch c =
    let i = c.loop-left.left - 1 in
    let w = c.index-writes-left.result in
    let one : c.loop-left.left ≡ i + 1 = omega (arith, c.loop-left-test.true) in
    let less : i < length c.args.writes.now = omega (arith, c.loop-left-test.true, c.loop-left.invariant.2) in
    not_agreeing c.args.writes.now i w (get nat_cmp c.loop-left.numbers w.slot) less c.index-writes-left.is
    (c.loop-left.invariant.0 w.slot ∙ ap (λ k. first_given w.slot (drop k c.args.writes.now)) one)
    (sym c.in_ok-put_number.ensures.same ∙ c.if-not-branch.true)
