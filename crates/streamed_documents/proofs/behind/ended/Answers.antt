use Rattle.std.proofs.Common.{◌≡◌, true, false, refl, sym, ◌∙◌}
use Rattle.streamed_documents.proofs.behind.ended.Goals as goal

pub returns-then-finished : goal.returns-then-finished
returns-then-finished c = λ later ts stands. (c.finished.ensures later ts stands).0 c.if-finished.true

pub returns : goal.returns
returns c = λ later ts stands. (
  refl,
  λ section.
      let done = (c.finished.ensures later ts stands).1 section in
      let no : true ≡ false = sym done ∙ c.if-finished.false in
      absurd cc,
)
