use Rattle.std.proofs.Common.{◌≡◌, ◌∷◌, [], codes}
use Rattle.unity_cli.specs.declared.status.Status.{Status}
use Rattle.wrong_answers.specs.Excluded.{IsExcluded}
use Rattle.wrong_answers.proofs.laws.no_status_for_all.Goals as goal

-- no words are no command, which is told as that alone
no_words : (status : Status) → (status ≡ Status.BadWords → ⊥) → IsExcluded status
no_words status other = ([], λ left old new told. other told.answer.allowed.0)

-- and no answer to `check` tells that words are no command
excluded : (status : Status) → IsExcluded status
excluded Status.BadWords = (codes "check" ∷ [], λ left old new told. told.answer.allowed)
excluded Status.Done = no_words Status.Done (λ same. cc)
excluded Status.Rejected = no_words Status.Rejected (λ same. cc)
excluded Status.BadDocument = no_words Status.BadDocument (λ same. cc)
excluded Status.Refuted = no_words Status.Refuted (λ same. cc)
excluded Status.Budget = no_words Status.Budget (λ same. cc)
excluded Status.Undefined = no_words Status.Undefined (λ same. cc)
excluded Status.ReadFault = no_words Status.ReadFault (λ same. cc)
excluded Status.WriteFault = no_words Status.WriteFault (λ same. cc)
excluded Status.WantOfMemory = no_words Status.WantOfMemory (λ same. cc)
excluded Status.Violated = no_words Status.Violated (λ same. cc)

pub returns : goal.returns
returns c = excluded
