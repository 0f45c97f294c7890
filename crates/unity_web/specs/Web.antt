-- What a page is answered.
use Rattle.std.specs.Prelude.{◌≡◌, ◌≢◌, ◌<◌, ℕ, List, [], Option, Some, length}
use Rattle.cli_words.specs.Requests.{Request}
use Rattle.unity_cli.specs.declared.status.Status.{Status}
use Rattle.unity_cli.specs.Answer.{IsAnswer, Tells}
use Rattle.unity_cli.specs.Status.{status_number, HasText}

-- a text that answers the request is longer than the room
pub record IsTooLong (request : Option Request) (source : List ℕ) (room : ℕ) : Type 0 where
  pub status : Status
  pub text : List ℕ
  pub answer : IsAnswer request (Some source) status text
  pub longer : room < length text

-- the number is that of a status. Where the status comes with its whole text, this text answers the request; a write
-- is said to have failed where the text is longer than the room, and a read is never said to have failed
pub record IsGiven (request : Option Request) (source : List ℕ) (room number : ℕ) (text : List ℕ) : Type 0 where
  pub status : Status
  pub number_is : number ≡ status_number status
  pub tells : HasText status → Tells request (Some source) status (Some []) (Some text)
  pub too_long : status ≡ Status.WriteFault → IsTooLong request source room
  pub read : status ≢ Status.ReadFault
