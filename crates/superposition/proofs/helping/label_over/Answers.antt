use Rattle.std.proofs.Common.{ap, ◌∙◌}
use Rattle.core_terms.specs.declared.programs.CStmt.{CStmt}
use Rattle.superposition.proofs.PlaceLaws.{over_passed}
use Rattle.superposition.proofs.helping.label_over.Goals as goal

pub loop-place-preserved : goal.loop-place-preserved
loop-place-preserved c =
    over_passed c.args.label c.args.fs.now c.args.hs.now c.loop-place.place c.index-fs-place.result
    c.loop-place-test.true c.if-place-hs.false c.index-fs-place.is
    (λ same. c.if-get-label.false (ap (λ (s : CStmt). s.label) c.get.ensures ∙ same)) c.loop-place.invariant
