-- A text that goes to a sink through a buffer.
use Rattle.std.specs.Prelude.{◌≡◌, ℕ, ◌≤◌, List, ◌++◌, true, false, Option, take}
use Rattle.std.specs.Io.KnownBytes.{Appends}
use Rattle.unity_base.specs.Streams.{AppendsPart, Rose}
use Rattle.schedule_replay.specs.declared.buffer.Buffer.{Buffer}

-- the bytes that wait in a buffer
abbrev pub waiting : Buffer → List ℕ
waiting b = take b.len b.bytes

-- a front part of the text was appended, and the rest waits
pub record IsSent (old new : Option (List ℕ)) (waits text : List ℕ) : Type 0 where
  pub sent : List ℕ
  pub appended : Appends old new sent
  pub whole : text ≡ sent ++ waits

-- so much of a text was sent since a sink stood at `old` and had counted so many faults: all but what waits. After a
-- write that failed, a front part of the text was appended, and not all of it
pub record IsSoFar (old new : Option (List ℕ)) (before after : ℕ) (b : Buffer) (text : List ℕ) : Type 0 where
  pub sent : b.failed ≡ false → IsSent old new (waiting b) text
  pub same : b.failed ≡ false → after ≡ before
  pub part : b.failed ≡ true → AppendsPart old new text
  pub rose : b.failed ≡ true → Rose before after
  pub later : before ≤ after

-- a text was put to what was sent or waits
pub record IsPut (old new : Option (List ℕ)) (before after : ℕ) (b c : Buffer) (text : List ℕ) : Type 0 where
  pub adds : (first : Option (List ℕ)) (count : ℕ) (front : List ℕ) →
      IsSoFar first old count before b front → IsSoFar first new count after c (front ++ text)
