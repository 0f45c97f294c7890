-- Windows from which bytes were taken, and whether all was read.
use Rattle.std.proofs.Common.{◌≡◌, ℕ, ◌+◌, ◌<◌, ◌≤◌, ◌⊎◌, inl, inr, List, [], ◌++◌, length, Option, Some, None}
use Rattle.std.proofs.Common.{append_assoc, Result, Ok, Err, IfOk, OnOk, ap, arith, refl, sym, ◌∙◌, subst}
use Rattle.std.proofs.lemmas.List.{length-append}
use Rattle.std.specs.Io.KnownBytes.{Consumes, IsAtEnd}
use Rattle.unity_base.specs.declared.window.Look.{Look}
use Rattle.unity_base.specs.declared.window.Window.{Window}
use Rattle.unity_base.specs.Streams.{IsLongerThan, LeavesRest}
use Rattle.unity_base.specs.Window.{held, coming, HasPassed, PassesLimit, EndsWithinLimit, IsDrained}
use Rattle.unity_lexer.proofs.Taking.{consumed_told}
use Rattle.streamed_documents.specs.declared.found.Flaw.{Flaw}
use Rattle.streamed_documents.specs.Rests.{IsReadOut, IsAllRead, IsOut}

-- the limit is passed by what comes, where it is passed by the rest of that
pub passes_from : (u x : Window) (a c : Option (List ℕ)) → HasPassed u x a c → PassesLimit x (coming x c)
    → PassesLimit u (coming u a)
passes_from u x a c p past = at (coming u a) (coming x c) p.consumes past
  where
    at : (l m : Option (List ℕ)) → Consumes l m p.dropped → PassesLimit x m → PassesLimit u l
    at None m consumes h = tt
    at (Some xs) None consumes h = absurd consumes
    at (Some xs) (Some ys) consumes h =
        let place = p.at in
        let same = p.limit in
        omega (arith, h, ap length consumes, length-append p.dropped ys)

-- where more is told than the limit allows, the limit is passed
pub told_passes : (u : Window) (a : Option (List ℕ))
    → ((bytes : List ℕ) → coming u a ≡ Some bytes → u.limit < u.at + length bytes) → PassesLimit u (coming u a)
told_passes u a h = at (coming u a) h
  where
    at : (l : Option (List ℕ)) → ((bytes : List ℕ) → l ≡ Some bytes → u.limit < u.at + length bytes) → PassesLimit u l
    at None h = tt
    at (Some bytes) h = h bytes refl

pub read_out_from : (u x y : Window) (a c d : Option (List ℕ)) (flaw : Flaw) → HasPassed u x a c
    → IsReadOut x c y d flaw → IsReadOut u a y d flaw
read_out_from u x y a c d Flaw.TooLong p h = passes_from u x a c p h
read_out_from u x y a c d (Flaw.Fault code at) p h = h

pub read_out_after : {E : Type 0} (u x y : Window) (a c d : Option (List ℕ)) (result : Result Flaw E)
    → HasPassed u x a c
    → IfOk result (IsReadOut x c y d) → IfOk result (IsReadOut u a y d)
read_out_after u x y a c d (Ok flaw) p h = read_out_from u x y a c d flaw p h
read_out_after u x y a c d (Err e) p h = tt

-- either way all was read

pub flaw_out : (u x : Window) (a c : Option (List ℕ)) (flaw : Flaw) → IsReadOut u a x c flaw → IsOut u a x c
flaw_out u x a c Flaw.TooLong h = inr h
flaw_out u x a c (Flaw.Fault code at) h = inl h

pub all_out : (u x : Window) (a c : Option (List ℕ)) (flaw : Option Flaw) → IsAllRead u a x c flaw → IsOut u a x c
all_out u x a c None h = inl h
all_out u x a c (Some flaw) h = flaw_out u x a c flaw h

-- where the bytes are told
pub passes_told : (u : Window) (l : Option (List ℕ)) (bytes : List ℕ) → l ≡ Some bytes → PassesLimit u l
    → u.limit < u.at + length bytes
passes_told u l bytes e h = subst (PassesLimit u) e h

pub ends_told : (u : Window) (l : Option (List ℕ)) (bytes : List ℕ) → l ≡ Some bytes → EndsWithinLimit u l
    → u.at + length bytes ≤ u.limit
ends_told u l bytes e h = subst (EndsWithinLimit u) e h

-- what a call that drained answers, where the limit was not passed
pub drained_end : (x : Window) (d : Option (List ℕ)) (look : Look) → (look ≡ Look.TooLong → ⊥) → IsDrained x d look
    → look ≡ Look.End
drained_end x d (Look.Byte b) other drained = absurd drained
drained_end x d Look.End other drained = refl
drained_end x d Look.TooLong other drained = absurd (other refl)

pub drained_out : (x : Window) (d : Option (List ℕ)) (look : Look) → look ≡ Look.End → IsDrained x d look
    → (held x ≡ []) × IsAtEnd d
drained_out x d look is drained = subst (IsDrained x d) is drained

-- the source itself

pub nothing_held : (w : Window) (left : Option (List ℕ)) → held w ≡ [] → coming w left ≡ left
nothing_held w None e = refl
nothing_held w (Some xs) e = ap (λ h. Some (h ++ xs)) e

pub first_told : (w : Window) (left : Option (List ℕ)) (bytes : List ℕ) → held w ≡ [] → left ≡ Some bytes
    → coming w left ≡ Some bytes
first_told w left bytes none e = nothing_held w left none ∙ e

pub out_of : (w x : Window) (a c : Option (List ℕ)) (most : ℕ) → held w ≡ [] → w.at ≡ 0 → w.limit ≡ most
    → IsOut w a x c → IsAtEnd c ⊎ IsLongerThan most a
out_of w x a c most none at limit (inl all) = inl all.1
out_of w x a c most none at limit (inr past) = inr (longer a (subst (PassesLimit w) (nothing_held w a none) past))
  where
    longer : (l : Option (List ℕ)) → PassesLimit w l → IsLongerThan most l
    longer None h = tt
    longer (Some xs) h = omega (arith, at, limit, h)

-- what is left of a source is a rest of what was left, whatever the window still holds of it
pub rest_of : (w x : Window) (a c : Option (List ℕ)) → held w ≡ [] → HasPassed w x a c → LeavesRest a c
rest_of w x a c none p = (
  p.dropped ++ held x,
  at a c (subst (λ l. Consumes l (coming x c) p.dropped)
      (nothing_held w a none) p.consumes),
)
  where
    at : (a c : Option (List ℕ)) → Consumes a (coming x c) p.dropped → Consumes a c (p.dropped ++ held x)
    at None c h = tt
    at (Some xs) None h = absurd h
    at (Some xs) (Some ys) h = h ∙ sym (append_assoc p.dropped (held x) ys)

-- where what comes is told, so is what comes later, and its place
pub told_after : (u x : Window) (a c : Option (List ℕ)) (bytes : List ℕ) → HasPassed u x a c → coming u a ≡ Some bytes
    → (rest : List ℕ) × (coming x c ≡ Some rest) × (x.at + length rest ≡ u.at + length bytes)
told_after u x a c bytes p e =
    let told = consumed_told (coming u a) (coming x c) p.dropped bytes p.consumes e in
    let place = p.at in
    (told.0, told.1, omega (arith, ap length told.2, length-append p.dropped told.0))

-- ---- from the first byte on

pub out_from : {T E : Type 0} (u w x : Window) (a c d : Option (List ℕ)) (most : ℕ) (result : Result T E)
    → held u ≡ [] → u.at ≡ 0 → u.limit ≡ most → HasPassed u w a c → OnOk result (IsOut w c x d)
    → OnOk result (IsAtEnd d ⊎ IsLongerThan most a)
out_from u w x a c d most (Ok done) none at limit p out = out_of u x a d most none at limit (back out)
  where
    back : IsOut w c x d → IsOut u a x d
    back (inl all) = inl all
    back (inr past) = inr (passes_from u w a c p past)
out_from u w x a c d most (Err e) none at limit p out = tt

pub flaw_from : (u w x : Window) (a c d : Option (List ℕ)) (most : ℕ) (flaw : Flaw) → held u ≡ []
    → u.at ≡ 0 → u.limit ≡ most → HasPassed u w a c → IsReadOut w c x d flaw → IsAtEnd d ⊎ IsLongerThan most a
flaw_from u w x a c d most flaw none at limit p out =
    out_of u x a d most none at limit (flaw_out u x a d flaw (read_out_from u w x a c d flaw p out))
