-- Where a number or a truth is known: that of each kind of tree, from those of its parts.
use Rattle.std.proofs.Common.{◌≡◌, ℤ, Bool, false, ◌&&◌, Option, Some, None, refl}
use Rattle.std.specs.Option.{is_some, option_map}
use Rattle.core_terms.specs.Folding.{joined, chosen}

pub none_left : {A : Type 0} (m : Option A) → is_some m ≡ false → m ≡ None
none_left None e = refl
none_left (Some x) e = cc

-- an operation has a value where both parts have one, of which the second is asked first
pub some_joined : {A : Type 0} (op : A → A → A) (m n : Option A) → is_some (joined op m n) ≡ (is_some n && is_some m)
some_joined op None None = refl
some_joined op None (Some y) = refl
some_joined op (Some x) None = refl
some_joined op (Some x) (Some y) = refl

pub some_mapped : {A B : Type 0} (f : A → B) (m : Option A) → is_some (option_map f m) ≡ is_some m
some_mapped f None = refl
some_mapped f (Some x) = refl

pub some_chosen : (c : Option Bool) (m n : Option ℤ) →
    is_some (chosen c m n) ≡ (is_some n && (is_some m && is_some c))
some_chosen None None None = refl
some_chosen None None (Some y) = refl
some_chosen None (Some x) None = refl
some_chosen None (Some x) (Some y) = refl
some_chosen (Some c) None None = refl
some_chosen (Some c) None (Some y) = refl
some_chosen (Some c) (Some x) None = refl
some_chosen (Some c) (Some x) (Some y) = refl

pub ruleset there = (some_joined, some_mapped, some_chosen)
