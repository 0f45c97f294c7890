-- Where a token leads in a section of certificates, and what it tells, stage by stage.
use Rattle.std.specs.Prelude.{ℕ, zero, suc, ◌+◌, ◌==◌, ℤ, Bool, true, false, List, [], ◌∷◌}
use Rattle.unity_base.specs.declared.events.CertEvent.{CertEvent}
use Rattle.certificate_events.specs.declared.signs.Sign.{Sign}
use Rattle.certificate_events.specs.declared.places.Plain.{Plain}
use Rattle.certificate_events.specs.declared.places.Signed.{Signed}
use Rattle.certificate_events.specs.declared.places.Stage.{Stage}
use Rattle.certificate_events.specs.declared.places.Place.{Place}
use Rattle.certificate_events.specs.declared.reader.Taken.{Taken}
use Rattle.certificate_events.specs.Events.{number_of}

abbrev pub Step : Type 0
Step = Place × Taken

abbrev pub silent : Place → Stage → Step
silent p stage = (record p { stage = stage }, Taken.Nothing)

abbrev pub telling : Place → Stage → CertEvent → Step
telling p stage e = (record p { stage = stage }, Taken.Event e)

abbrev pub refused : Place → Step
refused p = (record p { stage = Stage.Bad }, Taken.Unexpected)

-- the next certificate begins, if this is its number
abbrev pub begun : Place → Bool → Step
begun p true = silent (record p { number = p.number + 1 }) Stage.Numbered
begun p false = refused p

abbrev pub between : Place → Sign → Step
between p (Sign.Number n) = begun p (n == p.number + 1)
between p Sign.End = telling p Stage.Done CertEvent.Last
between p _ = refused p

abbrev pub numbered : Place → Sign → Step
numbered p Sign.Colon = telling (record p { missing = 1 }) Stage.Nodes CertEvent.Begin
numbered p _ = refused p

-- a node, beside which so many trees are missing
abbrev pub node : Place → ℕ → Sign → Step
node p n Sign.Case = silent (record p { missing = n + 2 }) (Stage.Plain Plain.Case)
node p n Sign.Split = silent (record p { missing = n + 2 }) (Stage.Plain Plain.Variable)
node p n Sign.Sum = telling (record p { missing = n }) Stage.Pairs CertEvent.Sum
node p n Sign.Round = silent (record p { missing = n + 1 }) (Stage.Signed Signed.Divisor)
node p n Sign.Quot = silent (record p { missing = n + 1 }) (Stage.Plain Plain.Quot)
node p n Sign.Share = silent (record p { missing = n + 2 }) (Stage.Signed Signed.Constant)
node p n _ = refused p

abbrev pub closing : Place → Sign → Step
closing p Sign.Semicolon = telling p Stage.Between CertEvent.End
closing p _ = refused p

-- where so many trees are missing
abbrev pub nodes_of : Place → ℕ → Sign → Step
nodes_of p zero s = closing p s
nodes_of p (suc n) s = node p n s

abbrev pub nodes : Place → Sign → Step
nodes p s = nodes_of p p.missing s

abbrev pub plain_read : Place → Plain → ℕ → Step
plain_read p Plain.Case n = telling p Stage.Nodes (CertEvent.Case n)
plain_read p Plain.Variable n = silent p (Stage.Signed (Signed.Bound n))
plain_read p Plain.Quot n = telling p Stage.Nodes (CertEvent.Quot n)
plain_read p (Plain.Fact m) n = telling p Stage.Pairs (CertEvent.Pair m n)

abbrev pub with_number : Place → Plain → Sign → Step
with_number p a (Sign.Number n) = plain_read p a n
with_number p a _ = refused p

abbrev pub signed_read : Place → Signed → ℤ → Step
signed_read p (Signed.Bound v) k = telling p Stage.Nodes (CertEvent.Split v k)
signed_read p Signed.Divisor k = telling p Stage.Pairs (CertEvent.Round k)
signed_read p Signed.Constant k = telling p Stage.Pairs (CertEvent.Share k)
signed_read p Signed.Multiplier k = silent p (Stage.Times k)

abbrev pub with_sign : Place → Signed → Sign → Step
with_sign p a Sign.Minus = silent p (Stage.Negative a)
with_sign p a (Sign.Number n) = signed_read p a (number_of false n)
with_sign p a _ = refused p

abbrev pub negative : Place → Signed → Sign → Step
negative p a (Sign.Number n) = signed_read p a (number_of true n)
negative p a _ = refused p

abbrev pub pairs : Place → Sign → Step
pairs p Sign.Minus = silent p (Stage.Negative Signed.Multiplier)
pairs p (Sign.Number n) = signed_read p Signed.Multiplier (number_of false n)
pairs p s = nodes p s

abbrev pub times : Place → ℤ → Sign → Step
times p k Sign.Times = silent p (Stage.Plain (Plain.Fact k))
times p k _ = refused p

abbrev pub step_at : Stage → Place → Sign → Step
step_at Stage.Between p s = between p s
step_at Stage.Numbered p s = numbered p s
step_at Stage.Nodes p s = nodes p s
step_at Stage.Pairs p s = pairs p s
step_at (Stage.Plain a) p s = with_number p a s
step_at (Stage.Signed a) p s = with_sign p a s
step_at (Stage.Negative a) p s = negative p a s
step_at (Stage.Times k) p s = times p k s
step_at Stage.Done p s = refused p
step_at Stage.Bad p s = refused p

abbrev pub step : Place → Sign → Step
step p s = step_at p.stage p s

-- where tokens lead, one after the other
abbrev pub reach : Place → List Sign → Place
reach p [] = p
reach p (s ∷ ss) = reach (step p s).0 ss

-- what they tell
abbrev pub answers : Place → List Sign → List Taken
answers p [] = []
answers p (s ∷ ss) = (step p s).1 ∷ answers (step p s).0 ss

-- behind the section's end
abbrev pub is_done : Stage → Bool
is_done Stage.Done = true
is_done st = false

-- behind the word `certificates`
abbrev pub start : Place
start = record { stage = Stage.Between; missing = 0; number = 0 }
