-- Steps that were told one after the other.
use Rattle.std.specs.Prelude.{◌≡◌, ℕ, List, ◌++◌, Option}
use Rattle.core_terms.specs.declared.documents.CStep.{CStep}
use Rattle.schedule_replay.specs.declared.buffer.Buffer.{Buffer}
use Rattle.schedule_replay.specs.Buffered.{IsPut}
use Rattle.told_obligations.specs.declared.listing.At.{At}
use Rattle.told_obligations.specs.Listing.{Told, steps_text}

-- a text was put that tells these steps, from these numbers of a step and an obligation to those
pub record IsTold (t : Told) (from to : At) (steps : List CStep) (old new : Option (List ℕ)) (before after : ℕ)
    (b c : Buffer) : Type 0 where
  pub text : List ℕ
  pub put : IsPut old new before after b c text
  pub next : (rest : List CStep) → steps_text t from.step from.obligation (steps ++ rest)
      ≡ text ++ steps_text t to.step to.obligation rest
