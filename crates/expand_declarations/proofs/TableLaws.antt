-- Tables of words with what they are.
use Rattle.std.proofs.Common.{◌≡◌, ℕ, suc, List, [], ◌∷◌, ◌++◌, length, Bool, true, false, cond, Some, refl, sym, ap}
use Rattle.std.proofs.Common.{is_some, Bor}
use Rattle.std.specs.Prelude.{if◌then◌else◌}
use Rattle.std.specs.Map.{lookup}
use Rattle.std.specs.Str.{bytes_eq}
use Rattle.std.proofs.lemmas.Slice.Eq.{bytes_eq-Decides}
use Rattle.indexmap.specs.IndexMap.{insert_entry}
use Rattle.names_rules.specs.Scope.{seen_entries}

either_way : (b c : Bool) → (b ≡ true → c ≡ true) → (c ≡ true → b ≡ true) → b ≡ c
either_way true c f g = sym (f refl)
either_way false true f g = g refl
either_way false false f g = refl

pub bytes_eq-sym : (a b : List ℕ) → bytes_eq a b ≡ bytes_eq b a
bytes_eq-sym a b = either_way (bytes_eq a b) (bytes_eq b a)
    (λ h. (bytes_eq-Decides b a).1 (sym ((bytes_eq-Decides a b).0 h)))
    (λ h. (bytes_eq-Decides a b).1 (sym ((bytes_eq-Decides b a).0 h)))

-- a word that is not there is entered last
pub insert_absent : {V : Type 0} (es : List (List ℕ × V)) (word : List ℕ) (v : V) →
    is_some (lookup (bytes_eq word) es) ≡ false → insert_entry bytes_eq es word v ≡ es ++ (word, v) ∷ []
insert_absent [] word v h = refl
insert_absent (e ∷ es) word v h = by (bytes_eq word e.0) h (insert_absent es word v)
  where
    by : (b : Bool) → is_some (cond b (Some e.1) (lookup (bytes_eq word) es)) ≡ false →
        (is_some (lookup (bytes_eq word) es) ≡ false → insert_entry bytes_eq es word v ≡ es ++ (word, v) ∷ []) →
        (if b then (e.0, v) ∷ es else e ∷ insert_entry bytes_eq es word v) ≡ e ∷ (es ++ (word, v) ∷ [])
    by true h k = cc h
    by false h k = ap (λ xs. e ∷ xs) (k h)

pub length-seen_entries : {V : Type 0} (es : List (Bor (List ℕ) × V)) → length (seen_entries es) ≡ length es
length-seen_entries [] = refl
length-seen_entries (e ∷ es) = ap suc (length-seen_entries es)
