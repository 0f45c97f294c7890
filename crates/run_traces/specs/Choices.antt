-- The choices of a trace.
use Rattle.std.specs.Prelude.{ℕ, ◌<◌, List, All, ⊤}
use Rattle.schedule_replay.specs.Schedules.{turns}
use Rattle.run_traces.specs.declared.choices.Choices.{Choices}

-- the choices among k instances
abbrev pub choices_of : ℕ → Choices → List ℕ
choices_of k (Choices.Turns count) = turns k count
choices_of k (Choices.Listed choices) = choices.now

-- each choice is that of an instance
abbrev pub AreAmong : ℕ → Choices → Type 0
AreAmong k (Choices.Turns count) = ⊤
AreAmong k (Choices.Listed choices) = All (λ choice. choice < k) choices.now
