-- The numbers of the statuses.
use Rattle.std.specs.Prelude.{ℕ}
use Rattle.unity_cli.specs.declared.status.Status.{Status}

abbrev pub status_number : Status → ℕ
status_number Status.Done = 0
status_number Status.Rejected = 1
status_number Status.BadDocument = 2
status_number Status.Refuted = 3
status_number Status.Budget = 4
status_number Status.Undefined = 5
status_number Status.BadWords = 6
status_number Status.ReadFault = 7
status_number Status.WriteFault = 8
status_number Status.WantOfMemory = 9
status_number Status.Violated = 10

-- the status comes with its whole text
abbrev pub HasText : Status → Type 0
HasText Status.ReadFault = ⊥
HasText Status.WriteFault = ⊥
HasText Status.WantOfMemory = ⊥
HasText status = Unit {0}
