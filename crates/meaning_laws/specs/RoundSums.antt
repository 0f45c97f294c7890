-- How the rounds of parts of a list of choices add up.
use Rattle.std.specs.Prelude.{◌≡◌, ℕ, ◌+◌, ◌++◌, nat_eq, ◌≤◌, List, [], ◌∷◌, drop}
use Rattle.std.specs.List.{list_any}
use Rattle.meaning_executions.specs.Rounds.{unfinished, rounds_since, rounds, IsShortest}

-- the choices since the last round ended, when these have been made too
abbrev pub unfinished_after : ℕ → List ℕ → List ℕ → List ℕ
unfinished_after k since [] = since
unfinished_after k since (choice ∷ rest) = unfinished_after k (unfinished k (choice ∷ since)) rest

-- the choices after a number of rounds have the rounds that are left
abbrev pub RoundsAreLeft : Type 0
RoundsAreLeft = (choices : List ℕ) (k bound n : ℕ) → IsShortest choices k bound n →
    rounds choices k ≡ bound + rounds (drop n choices) k

-- later choices have no more rounds
abbrev pub LaterHaveFewer : Type 0
LaterHaveFewer = (choices : List ℕ) (k n : ℕ) → rounds (drop n choices) k ≤ rounds choices k

-- choices made one part after the other: their rounds add, the second part's with what the first left unfinished
abbrev pub RoundsOfJoined : Type 0
RoundsOfJoined = (k : ℕ) (since choices more : List ℕ) →
    rounds_since k since (choices ++ more) ≡
    rounds_since k since choices + rounds_since k (unfinished_after k since choices) more

-- of the choices since the last round ended it counts alone which instances are among them
abbrev pub MarksSuffice : Type 0
MarksSuffice = (k : ℕ) (since other choices : List ℕ) →
    ((c : ℕ) → list_any (nat_eq c) since ≡ list_any (nat_eq c) other) →
    rounds_since k since choices ≡ rounds_since k other choices
