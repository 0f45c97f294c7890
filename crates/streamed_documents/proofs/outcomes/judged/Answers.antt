use Rattle.std.proofs.Common.{◌≡◌, refl, sym, subst}
use Rattle.streamed_documents.specs.declared.found.JudgedDocument.{JudgedDocument}
use Rattle.streamed_documents.specs.Fronts.{IsVerdict}
use Rattle.streamed_documents.proofs.outcomes.judged.Goals as goal

pub returns : goal.returns
returns c =
    subst (λ (j : JudgedDocument). (j.core ≡ c.args.core) × IsVerdict c.args.judge j.verdict)
    (sym c.in_ok-new.ensures) (refl, c.in_ok-verdict.ensures)
