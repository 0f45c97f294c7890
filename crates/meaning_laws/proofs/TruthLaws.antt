-- Truths of which one holds.
use Rattle.std.proofs.Common.{◌≡◌, Bool, true, false, not, ◌&&◌, ◌||◌, IsTrue, refl}

pub or_left : (a b : Bool) → IsTrue a → IsTrue (a || b)
or_left true b t = refl
or_left false b t = cc

pub or_right : (a b : Bool) → IsTrue b → IsTrue (a || b)
or_right true b t = refl
or_right false b t = t

pub not_true : (a b : Bool) → IsTrue a → b ≡ false → IsTrue (a && not b)
not_true true false t e = refl
not_true true true t e = cc
not_true false b t e = cc

-- by cases on which holds
pub cases : (a b : Bool) (C : Type 0) → IsTrue (a || b) → (IsTrue a → C) → (IsTrue b → C) → C
cases true b C t f g = f refl
cases false b C t f g = g t
