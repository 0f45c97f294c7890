-- What a window holds of a source's bytes, and what its calls do to that.
use Rattle.std.specs.Prelude.{◌≡◌, ℕ, ◌+◌, ◌-◌, ◌<◌, ◌≤◌, List, [], length, take, drop, slice_get, slice_range}
use Rattle.std.specs.Prelude.{⊤, Option, None, Some}
use Rattle.std.specs.Io.{StartsWith}
use Rattle.std.specs.Io.KnownBytes.{Keeps, Consumes, IsAtEnd, prepend_known}
use Rattle.unity_base.specs.declared.window.Look.{Look}
use Rattle.unity_base.specs.declared.window.Look.TheVariants.{Byte, End, TooLong}
use Rattle.unity_base.specs.declared.window.Window.{Window}

-- the bytes that were read and not dropped
abbrev pub held : Window → List ℕ
held w = slice_range w.buffer.items w.from w.to

-- the place of the first of them
abbrev pub window_at : Window → ℕ
window_at w = w.at

-- from this place on there may be no byte
abbrev pub window_limit : Window → ℕ
window_limit w = w.limit

-- the bytes held at places below the limit
abbrev pub window_bytes : Window → List ℕ
window_bytes w = take (w.limit - w.at) (held w)

-- the bytes still to come, beside a source that has these left
abbrev pub coming : Window → Option (List ℕ) → Option (List ℕ)
coming w left = prepend_known (held w) left

-- what stands so many places ahead, beside a source that has these left
abbrev pub Sees : Window → Option (List ℕ) → ℕ → Look → Type 0
Sees w left ahead (Byte b) = (slice_get (held w) ahead ≡ Some b) × (w.at + ahead < w.limit)
Sees w left ahead End = (length (held w) ≤ ahead) × IsAtEnd left
Sees w left ahead TooLong = (ahead < length (held w)) × (w.limit ≤ w.at + ahead)

-- what a drained window is found to be, beside a source that has these left
abbrev pub IsDrained : Window → Option (List ℕ) → Look → Type 0
IsDrained w left (Byte b) = ⊥
IsDrained w left End = (held w ≡ []) × IsAtEnd left
IsDrained w left TooLong = w.limit < w.at + length (held w)

-- where they are told, the bytes to come pass the limit
abbrev pub PassesLimit : Window → Option (List ℕ) → Type 0
PassesLimit w None = ⊤
PassesLimit w (Some bytes) = w.limit < w.at + length bytes

-- where they are told, the bytes to come end within the limit
abbrev pub EndsWithinLimit : Window → Option (List ℕ) → Type 0
EndsWithinLimit w None = ⊤
EndsWithinLimit w (Some bytes) = w.at + length bytes ≤ w.limit

-- bytes were read from a source, and none was dropped
pub record HasRead (old new : Window) (before after : Option (List ℕ)) : Type 0 where
  pub begins : StartsWith (held new) (held old)
  pub keeps : Keeps (coming old before) (coming new after)
  pub at : new.at ≡ old.at
  pub limit : new.limit ≡ old.limit

-- so many of the bytes held were dropped
pub record HasDropped (old new : Window) (count : ℕ) : Type 0 where
  pub rest : held new ≡ drop count (held old)
  pub at : new.at ≡ old.at + count
  pub limit : new.limit ≡ old.limit

-- bytes were read from a source, and some from the front of those to come were dropped
pub record HasPassed (old new : Window) (before after : Option (List ℕ)) : Type 0 where
  pub dropped : List ℕ
  pub consumes : Consumes (coming old before) (coming new after) dropped
  pub at : new.at ≡ old.at + length dropped
  pub limit : new.limit ≡ old.limit
