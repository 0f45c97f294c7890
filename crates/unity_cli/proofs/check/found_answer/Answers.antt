use Rattle.std.proofs.Common.{List, ℕ, IfOk, ◌∙◌, ap, subst, sym}
use Rattle.streamed_documents.specs.declared.found.Finding.{Finding}
use Rattle.streamed_documents.specs.Found.{IsFound}
use Rattle.unity_cli.specs.Admitted.{greatest_size}
use Rattle.unity_cli.specs.Answer.Check.{Checked}
use Rattle.unity_cli.proofs.check.found_answer.Goals as goal

pub returns-in-Refused-clause-checked : goal.returns-in-Refused-clause-checked
returns-in-Refused-clause-checked c =
    subst (λ f. IfOk c.flaw_answer.result
    (λ a. (bytes : List ℕ) → IsFound greatest_size bytes f → Checked bytes a.status a.text.items))
    (sym c.in-Refused.is) c.flaw_answer.ensures.checked

pub returns-in-Judged-clause-checked : goal.returns-in-Judged-clause-checked
returns-in-Judged-clause-checked c =
    subst (λ f. IfOk c.judged_answer.result
    (λ a. (bytes : List ℕ) → IsFound greatest_size bytes f → Checked bytes a.status a.text.items))
    (ap Finding.Judged c.get.ensures ∙ sym c.in-Judged.is) c.judged_answer.ensures.checked
