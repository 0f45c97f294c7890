-- A table of borrowed words, read as a table of words.
use Rattle.std.proofs.Common.{◌≡◌, map, ◌++◌, ℕ, Bool, true, false, List, [], ◌∷◌, refl, ap, cond, Bor, Some}
use Rattle.std.specs.Prelude.{if◌then◌else◌}
use Rattle.std.specs.Map.{lookup}
use Rattle.std.specs.Str.{bytes_eq}
use Rattle.indexmap.specs.IndexMap.{insert_entry}
use Rattle.indexmap.specs.IndexSet.{insert_key}
use Rattle.std.specs.List.{list_any}
use Rattle.std.specs.Prelude.{◌||◌}
use Rattle.names_rules.specs.Scope.{seen_entries}

pub lookup_seen : {V : Type 0} (test : List ℕ → Bool) (es : List (Bor (List ℕ) × V)) →
    lookup (λ (k : Bor (List ℕ)). test k.now) es ≡ lookup test (seen_entries es)
lookup_seen test [] = refl
lookup_seen test (e ∷ es) = ap (cond (test e.0.now) (Some e.1)) (lookup_seen test es)

inserted_at : {V : Type 0} (b : Bool) (e : Bor (List ℕ) × V) (es more : List (Bor (List ℕ) × V)) (v : V)
    (seen : List (List ℕ × V)) →
    seen_entries more ≡ seen →
    seen_entries (if b then (e.0, v) ∷ es else e ∷ more) ≡ (if b then (e.0.now, v) ∷ seen_entries es else (e.0.now, e.1)
    ∷ seen)
inserted_at true e es more v seen h = refl
inserted_at false e es more v seen h = ap (λ y. (e.0.now, e.1) ∷ y) h

-- a word takes its new value
pub inserted : {V : Type 0} (es : List (Bor (List ℕ) × V)) (k : Bor (List ℕ)) (v : V) →
    seen_entries (insert_entry (λ (j k : Bor (List ℕ)). bytes_eq j.now k.now) es k v) ≡ insert_entry bytes_eq
    (seen_entries es) k.now v
inserted [] k v = refl
inserted (e ∷ es) k v = inserted_at (bytes_eq k.now e.0.now) e es _ v _ (inserted es k v)

pub keys_any : (test : List ℕ → Bool) (ks : List (Bor (List ℕ))) →
    list_any (λ (k : Bor (List ℕ)). test k.now) ks ≡ list_any test (map (λ (k : Bor (List ℕ)). k.now) ks)
keys_any test [] = refl
keys_any test (k ∷ ks) = ap (λ b. test k.now || b) (keys_any test ks)

keys_append : (ks : List (Bor (List ℕ))) (k : Bor (List ℕ)) →
    map (λ (k : Bor (List ℕ)). k.now) (ks ++ k ∷ []) ≡ map (λ (k : Bor (List ℕ)). k.now) ks ++ k.now ∷ []
keys_append [] k = refl
keys_append (j ∷ ks) k = ap (λ y. j.now ∷ y) (keys_append ks k)

-- a word that is not among others stands last after them
pub inserted_key : (ks : List (Bor (List ℕ))) (k : Bor (List ℕ)) →
    list_any (bytes_eq k.now) (map (λ (k : Bor (List ℕ)). k.now) ks) ≡ false →
    map (λ (k : Bor (List ℕ)). k.now) (insert_key (λ (j k : Bor (List ℕ)). bytes_eq j.now k.now) ks k) ≡
    map (λ (k : Bor (List ℕ)). k.now) ks ++ k.now ∷ []
inserted_key ks k h = rw (keys_any (bytes_eq k.now) ks, h) (keys_append ks k)
