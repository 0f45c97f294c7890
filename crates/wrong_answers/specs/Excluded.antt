-- What excludes a status.
use Rattle.std.specs.Prelude.{ℕ, List, Option}
use Rattle.cli_words.specs.Requests.{request_of}
use Rattle.unity_cli.specs.declared.status.Status.{Status}
use Rattle.unity_cli.specs.Answer.{Tells}

-- there are words to which no answer has the status, whatever bytes are left and whatever is written
abbrev pub IsExcluded : Status → Type 0
IsExcluded status =
    (words : List (List ℕ)) × ((left old new : Option (List ℕ)) → Tells (request_of words) left status old new → ⊥)
