-- A text that is written piece by piece.
use Rattle.std.proofs.Common.{◌≡◌, ◌++◌, ℕ, List, [], Option, refl, sym, ◌∙◌, subst, append_assoc, append-nil}
use Rattle.std.specs.Io.KnownBytes.{Appends}
use Rattle.std.proofs.KnownBytes.{Appends-trans, Appends-nil}
use Rattle.unity_base.specs.Streams.{AppendsPart}
use Rattle.schedule_replay.proofs.BufferLaws.{part_front, part_after}

-- a front part of the text was appended, and this rest is to come
pub record IsWriting (old new : Option (List ℕ)) (text rest : List ℕ) : Type 0 where
  pub front : List ℕ
  pub appended : Appends old new front
  pub whole : text ≡ front ++ rest

pub begin : (old : Option (List ℕ)) (text : List ℕ) → IsWriting old old text text
begin old text = record { front = []; appended = Appends-nil old; whole = refl }

-- one piece more
pub more : (old mid new : Option (List ℕ)) (text piece rest : List ℕ) → IsWriting old mid text (piece ++ rest) →
    Appends mid new piece → IsWriting old new text rest
more old mid new text piece rest w h = record {
  front = w.front ++ piece;
  appended = Appends-trans old mid new _ _ w.appended h;
  whole = w.whole ∙ sym (append_assoc w.front piece rest);
}

-- a piece that was cut short
pub cut : (old mid new : Option (List ℕ)) (text piece rest : List ℕ) → IsWriting old mid text (piece ++ rest) →
    AppendsPart mid new piece → AppendsPart old new text
cut old mid new text piece rest w h =
    subst (AppendsPart old new) (sym w.whole) (part_after old mid new _ _ w.appended (part_front mid new piece rest h))

-- nothing is to come
pub finished : (old new : Option (List ℕ)) (text : List ℕ) → IsWriting old new text [] → Appends old new text
finished old new text w = subst (Appends old new) (sym (w.whole ∙ append-nil w.front)) w.appended

-- what is to come, said in another way
pub rest_is : (old new : Option (List ℕ)) (text rest other : List ℕ) → rest ≡ other → IsWriting old new text rest →
    IsWriting old new text other
rest_is old new text rest other e w = subst (IsWriting old new text) e w
