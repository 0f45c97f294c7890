-- The count of rounds, and the choices for which it stands.
use Rattle.std.specs.Prelude.{◌≡◌, ℕ, zero, suc, ◌-◌, ◌/◌, ◌%◌, ◌^◌, nat_eq, min, List, [], Bool, cond, slice_index_or}
use Rattle.std.specs.Int.{bit_at}
use Rattle.std.specs.List.{list_any}
use Rattle.meaning_laws.specs.from_meaning_executions.Rounds as meaning
use Rattle.meaning_laws.specs.RoundSums.{unfinished_after}
use Rattle.fair_rounds.specs.declared.counts.RoundCount.{RoundCount}

-- the instance's bit is set
abbrev pub is_marked : List ℕ → ℕ → Bool
is_marked words n = nat_eq (bit_at (slice_index_or words (n / 64) 0) (n % 64)) 1

-- the choices since the last round ended
abbrev pub since_round : ℕ → List ℕ → List ℕ
since_round k choices = unfinished_after k [] choices

-- how many of k instances are not among these choices
abbrev pub missing : ℕ → List ℕ → ℕ
missing zero choices = 0
missing (suc k) choices = cond (list_any (nat_eq k) choices) (missing k choices) (suc (missing k choices))

-- the count stands for a list of choices: it has their rounds, and marks the instances since the last round ended
pub record CountStandsFor (count : RoundCount) (choices : List ℕ) : Type 0 where
  pub ended : count.ended ≡ min (meaning.rounds choices count.instances) (2 ^ 64 - 1)
  pub chosen : (n : ℕ) → is_marked count.chosen.words n ≡ list_any (nat_eq n) (since_round count.instances choices)
  pub left : count.left ≡ missing count.instances (since_round count.instances choices)
