-- What the number of a status tells.
use Rattle.std.proofs.Common.{◌≡◌, inl, inr, ◌∙◌, ℕ, refl, sym, ap, subst, arith}
use Rattle.unity_cli.specs.declared.status.Status.{Status}
use Rattle.unity_cli.specs.Status.{HasText, status_number}
use Rattle.unity_cli.specs.Exits.{IsAnswered}

-- at 0 to 6 and at 10 the status comes with a text
numbered_text : (status : Status) → IsAnswered (status_number status) → HasText status
numbered_text Status.Done h = tt
numbered_text Status.Rejected h = tt
numbered_text Status.BadDocument h = tt
numbered_text Status.Refuted h = tt
numbered_text Status.Budget h = tt
numbered_text Status.Undefined h = tt
numbered_text Status.BadWords h = tt
numbered_text Status.ReadFault (inl h) = omega (arith, h)
numbered_text Status.ReadFault (inr h) = omega (arith, h)
numbered_text Status.WriteFault (inl h) = omega (arith, h)
numbered_text Status.WriteFault (inr h) = omega (arith, h)
numbered_text Status.WantOfMemory (inl h) = omega (arith, h)
numbered_text Status.WantOfMemory (inr h) = omega (arith, h)
numbered_text Status.Violated h = tt

-- 0 is the number of one status
numbered_done : (status : Status) → status_number status ≡ 0 → status ≡ Status.Done
numbered_done Status.Done h = refl
numbered_done Status.Rejected h = absurd (omega (arith, h))
numbered_done Status.BadDocument h = absurd (omega (arith, h))
numbered_done Status.Refuted h = absurd (omega (arith, h))
numbered_done Status.Budget h = absurd (omega (arith, h))
numbered_done Status.Undefined h = absurd (omega (arith, h))
numbered_done Status.BadWords h = absurd (omega (arith, h))
numbered_done Status.ReadFault h = absurd (omega (arith, h))
numbered_done Status.WriteFault h = absurd (omega (arith, h))
numbered_done Status.WantOfMemory h = absurd (omega (arith, h))
numbered_done Status.Violated h = absurd (omega (arith, h))

-- and so is 10
numbered_violated : (status : Status) → status_number status ≡ 10 → status ≡ Status.Violated
numbered_violated Status.Done h = absurd (omega (arith, h))
numbered_violated Status.Rejected h = absurd (omega (arith, h))
numbered_violated Status.BadDocument h = absurd (omega (arith, h))
numbered_violated Status.Refuted h = absurd (omega (arith, h))
numbered_violated Status.Budget h = absurd (omega (arith, h))
numbered_violated Status.Undefined h = absurd (omega (arith, h))
numbered_violated Status.BadWords h = absurd (omega (arith, h))
numbered_violated Status.ReadFault h = absurd (omega (arith, h))
numbered_violated Status.WriteFault h = absurd (omega (arith, h))
numbered_violated Status.WantOfMemory h = absurd (omega (arith, h))
numbered_violated Status.Violated h = refl

module _ (status : Status) (exit : ℕ) (is : exit ≡ status_number status) where
  pub exit_has_text : IsAnswered exit → HasText status
  exit_has_text h = numbered_text status (subst IsAnswered is h)

  pub exit_is_done : exit ≡ 0 → status ≡ Status.Done
  exit_is_done zero = numbered_done status (sym is ∙ zero)

  pub done_is_exit : status ≡ Status.Done → exit ≡ 0
  done_is_exit done = is ∙ ap status_number done

  pub exit_is_violated : exit ≡ 10 → status ≡ Status.Violated
  exit_is_violated ten = numbered_violated status (sym is ∙ ten)
