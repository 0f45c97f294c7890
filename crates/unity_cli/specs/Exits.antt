-- What the exit of the process tells.
use Rattle.std.specs.Prelude.{◌≡◌, ◌<◌, ◌⊎◌, ℕ, List, Option}
use Rattle.cli_words.specs.Requests.{Request}
use Rattle.unity_cli.specs.declared.status.Status.{Status}
use Rattle.unity_cli.specs.Status.{status_number}
use Rattle.unity_cli.specs.Answer.{IsAnswer}

-- the exit comes with the whole text of an answer: no read failed, no write failed, and no memory was refused
abbrev pub IsAnswered : ℕ → Type 0
IsAnswered exit = (exit < 7) ⊎ (exit ≡ 10)

-- the exit is the number of a status that an answer for these bytes has
pub record ExitTells (request : Option Request) (left : Option (List ℕ)) (exit : ℕ) : Type 0 where
  pub status : Status
  pub text : List ℕ
  pub number : exit ≡ status_number status
  pub answer : IsAnswer request left status text
