use Rattle.std.proofs.Common.{◌≡◌, ◌++◌, IfOk, ◌∙◌, subst}
use Rattle.cli_ring.specs.Rings.{program_text, proof_text, ring_bytes, with_number}
use Rattle.cli_ring.proofs.ring.make_demo.Goals as goal

pub returns : goal.returns
unfolding ring_bytes
returns c =
    subst (λ number. IfOk c.with_number.result (λ b. b.items ≡ with_number number (program_text ++ proof_text)))
    (c.as_bytes.ensures.value ∙ c.in_ok-last.ensures.ok)
    (subst (λ text. IfOk c.with_number.result (λ b. b.items ≡ with_number c.as_bytes.result.now text))
    c.as_bytes-2.ensures.value c.with_number.ensures)
