use Rattle.std.proofs.Common.{◌∙◌, inl, inr, subst, sym}
use Rattle.streamed_documents.specs.Found.{IsRefused}
use Rattle.unity_cli.specs.Admitted.{greatest_size}
use Rattle.unity_cli.specs.Answer.Check.{Checked, IsCheckText}
use Rattle.unity_cli.proofs.Streamed.{long_checked, fault_checked}
use Rattle.unity_cli.proofs.check.flaw_answer.Goals as goal

pub returns-in_ok-input_refusal-in-TooLong-clause-checked : goal.returns-in_ok-input_refusal-in-TooLong-clause-checked
returns-in_ok-input_refusal-in-TooLong-clause-checked c = λ bytes refused.
    subst (λ s. Checked bytes s c.bad.result.text.items) (sym c.bad.ensures.status)
    (long_checked bytes c.bad.result.text.items (c.bad.ensures.text ∙ c.in_ok-input_refusal-in-TooLong.ensures)
    (subst (IsRefused greatest_size bytes) c.in-TooLong.is refused))

pub returns-in_ok-input_refusal-in-TooLong-clause-text : goal.returns-in_ok-input_refusal-in-TooLong-clause-text
returns-in_ok-input_refusal-in-TooLong-clause-text c =
    subst (λ s. IsCheckText s c.bad.result.text.items) (sym c.bad.ensures.status)
    (inl (c.bad.ensures.text ∙ c.in_ok-input_refusal-in-TooLong.ensures))

pub returns-in_ok-document_fault-in-Fault-clause-checked : goal.returns-in_ok-document_fault-in-Fault-clause-checked
returns-in_ok-document_fault-in-Fault-clause-checked c = λ bytes refused.
    subst (λ s. Checked bytes s c.bad-in-Fault.result.text.items) (sym c.bad-in-Fault.ensures.status)
    (fault_checked bytes c.bad-in-Fault.result.text.items c.in-Fault.code c.in-Fault.at
    (c.bad-in-Fault.ensures.text ∙ c.in_ok-document_fault-in-Fault.ensures)
    (subst (IsRefused greatest_size bytes) c.in-Fault.is refused))

pub returns-in_ok-document_fault-in-Fault-clause-text : goal.returns-in_ok-document_fault-in-Fault-clause-text
returns-in_ok-document_fault-in-Fault-clause-text c =
    subst (λ s. IsCheckText s c.bad-in-Fault.result.text.items) (sym c.bad-in-Fault.ensures.status)
    (inr (c.in-Fault.code, c.in-Fault.at, c.bad-in-Fault.ensures.text ∙ c.in_ok-document_fault-in-Fault.ensures))
