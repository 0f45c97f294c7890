use Rattle.std.proofs.Common.{refl, sym, ◌∙◌, subst}
use Rattle.event_checker.specs.Readings.{ReadingStands}
use Rattle.certificate_check.proofs.LoopLaws.{pair-next, pairs-end}
use Rattle.certificate_check.proofs.checking.read_pairs.Goals as goal

pub loop-pair-init : goal.loop-pair-init
loop-pair-init c = λ vs root ns s. (ns, s, refl)

pub loop-pair-preserved : goal.loop-pair-preserved
loop-pair-preserved c = λ vs root ns s.
    let w = c.loop-pair.invariant vs root ns s in (
      _,
      c.read_pair.ensures vs root w.0 w.1,
      pair-next w.0 c.args.pairs.now c.loop-pair.pair-index _ c.loop-pair-test.true ∙ w.2,
    )

pub returns : goal.returns
returns c = λ vs root ns s.
    let w = c.loop-pair.invariant vs root ns s in
    subst (ReadingStands vs root c.loop-pair.reading)
    (sym (pairs-end w.0 c.args.pairs.now c.loop-pair.pair-index c.loop-pair-test.false) ∙ w.2) w.1
