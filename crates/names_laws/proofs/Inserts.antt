-- What a table of words has after a word is added.
use Rattle.std.proofs.Common.{◌≡◌, ℕ, List, [], ◌∷◌, Bool, true, false, cond, Option, Some, None, ◌⊎◌, inl, inr, refl}
use Rattle.std.proofs.Common.{sym, ap, ◌∙◌}
use Rattle.std.specs.Map.{lookup}
use Rattle.std.specs.Str.{bytes_eq}
use Rattle.std.proofs.lemmas.Slice.Eq.{bytes_eq-Decides}
use Rattle.names_rules.specs.declared.named.Named.{Named}
use Rattle.names_rules.specs.Scope.{Table}
use Rattle.names_rules.specs.Declarations.{with_named}

pub same_bytes : (a b : List ℕ) → bytes_eq a b ≡ true → a ≡ b
same_bytes a b e = (bytes_eq-Decides a b).0 e

pub bytes_same : (a b : List ℕ) → a ≡ b → bytes_eq a b ≡ true
bytes_same a b e = (bytes_eq-Decides a b).1 e

-- a word that is found is the one that was added, or was there
abbrev pub Added : Table → List ℕ → List ℕ → Named → Named → Type 0
Added names word other n m = ((m ≡ n) × (other ≡ word)) ⊎ (lookup (bytes_eq other) names ≡ Some m)

pub chosen : {X : Type 0} (c : Bool) (n m : X) (rest : Option X) → cond c (Some n) rest ≡ Some m →
    ((c ≡ true) × (m ≡ n)) ⊎ ((c ≡ false) × (rest ≡ Some m))
chosen true n m rest e = inl (refl, cc)
chosen false n m rest e = inr (refl, e)

pub taken : {X : Type 0} (c : Bool) (n : X) (rest : Option X) → c ≡ true → cond c (Some n) rest ≡ Some n
taken true n rest h = refl
taken false n rest h = cc h

pub skipped : {X : Type 0} (c : Bool) (n : X) (rest : Option X) → c ≡ false → cond c (Some n) rest ≡ rest
skipped true n rest h = cc h
skipped false n rest h = refl

pub added : (names : Table) (word other : List ℕ) (n m : Named) →
    lookup (bytes_eq other) (with_named names word n) ≡ Some m → Added names word other n m
added [] word other n m e = elim (chosen (bytes_eq other word) n m None e) as (λ x. Added [] word other n m) [
  | inl new ↦ inl (new.1, same_bytes other word new.0)
  | inr old ↦ inr old.1
]
added ((key, old) ∷ es) word other n m e = by (bytes_eq word key) (same_bytes word key) (added es word other n m) e
  where
    by : (b : Bool) → (b ≡ true → word ≡ key) →
        (lookup (bytes_eq other) (with_named es word n) ≡ Some m → Added es word other n m) →
        lookup (bytes_eq other) (cond b ((key, n) ∷ es) ((key, old) ∷ with_named es word n)) ≡ Some m →
        Added ((key, old) ∷ es) word other n m
    by true same known e = elim (chosen (bytes_eq other key) n m (lookup (bytes_eq other) es) e)
        as (λ x. Added ((key, old) ∷ es) word other n m) [
          | inl new ↦ inl (new.1, same_bytes other key new.0 ∙ sym (same refl))
          | inr rest ↦ inr (skipped (bytes_eq other key) old (lookup (bytes_eq other) es) rest.0 ∙ rest.1)
        ]
    by false same known e =
        elim (chosen (bytes_eq other key) old m (lookup (bytes_eq other) (with_named es word n)) e)
        as (λ x. Added ((key, old) ∷ es) word other n m) [
          | inl here ↦
              inr (taken (bytes_eq other key) old (lookup (bytes_eq other) es) here.0 ∙ sym (ap (λ x. Some x) here.1))
          | inr rest ↦ elim (known rest.1) as (λ x. Added ((key, old) ∷ es) word other n m) [
            | inl new ↦ inl new
            | inr there ↦ inr (skipped (bytes_eq other key) old (lookup (bytes_eq other) es) rest.0 ∙ there)
          ]
        ]

pub found_added : (names : Table) (word : List ℕ) (n : Named) →
    lookup (bytes_eq word) (with_named names word n) ≡ Some n
found_added [] word n = taken (bytes_eq word word) n None (bytes_same word word refl)
found_added ((key, old) ∷ es) word n = by (bytes_eq word key) refl (found_added es word n)
  where
    by : (b : Bool) → bytes_eq word key ≡ b → lookup (bytes_eq word) (with_named es word n) ≡ Some n →
        lookup (bytes_eq word) (cond b ((key, n) ∷ es) ((key, old) ∷ with_named es word n)) ≡ Some n
    by true t known = taken (bytes_eq word key) n (lookup (bytes_eq word) es) t
    by false f known = skipped (bytes_eq word key) old (lookup (bytes_eq word) (with_named es word n)) f ∙ known

-- what was there is there, or the word that was added is in its place
abbrev pub Still : Table → List ℕ → List ℕ → Named → Named → Type 0
Still names word other n m = (lookup (bytes_eq other) (with_named names word n) ≡ Some m) ⊎
    (lookup (bytes_eq other) (with_named names word n) ≡ Some n)

abbrev Finds : List ℕ → Named → Named → Table → Type 0
Finds other n m names = (lookup (bytes_eq other) names ≡ Some m) ⊎ (lookup (bytes_eq other) names ≡ Some n)

pub still_found : (names : Table) (word other : List ℕ) (n m : Named) → lookup (bytes_eq other) names ≡ Some m →
    Still names word other n m
still_found [] word other n m e = cc e
still_found ((key, old) ∷ es) word other n m e = by (bytes_eq word key) (still_found es word other n m)
  where
    by : (b : Bool) → (lookup (bytes_eq other) es ≡ Some m → Still es word other n m) →
        Finds other n m (cond b ((key, n) ∷ es) ((key, old) ∷ with_named es word n))
    by true known = elim (chosen (bytes_eq other key) old m (lookup (bytes_eq other) es) e)
        as (λ x. Finds other n m ((key, n) ∷ es)) [
          | inl here ↦ inr (taken (bytes_eq other key) n (lookup (bytes_eq other) es) here.0)
          | inr rest ↦ inl (skipped (bytes_eq other key) n (lookup (bytes_eq other) es) rest.0 ∙ rest.1)
        ]
    by false known = elim (chosen (bytes_eq other key) old m (lookup (bytes_eq other) es) e)
        as (λ x. Finds other n m ((key, old) ∷ with_named es word n)) [
          | inl here ↦ inl (taken (bytes_eq other key) old (lookup (bytes_eq other) (with_named es word n)) here.0 ∙
              sym (ap (λ x. Some x) here.1))
          | inr rest ↦ elim (known rest.1) as (λ x. Finds other n m ((key, old) ∷ with_named es word n)) [
            | inl same ↦
                inl (skipped (bytes_eq other key) old (lookup (bytes_eq other) (with_named es word n)) rest.0 ∙ same)
            | inr new ↦
                inr (skipped (bytes_eq other key) old (lookup (bytes_eq other) (with_named es word n)) rest.0 ∙ new)
          ]
        ]

-- a word that was not there takes no other's place
pub kept_beside : (names : Table) (word other : List ℕ) (n m : Named) → lookup (bytes_eq word) names ≡ None →
    lookup (bytes_eq other) names ≡ Some m → lookup (bytes_eq other) (with_named names word n) ≡ Some m
kept_beside [] word other n m none e = cc e
kept_beside ((key, old) ∷ es) word other n m none e = by (bytes_eq word key) none (kept_beside es word other n m)
  where
    by : (b : Bool) → cond b (Some old) (lookup (bytes_eq word) es) ≡ None →
        (lookup (bytes_eq word) es ≡ None → lookup (bytes_eq other) es ≡ Some m →
        lookup (bytes_eq other) (with_named es word n) ≡ Some m) →
        lookup (bytes_eq other) (cond b ((key, n) ∷ es) ((key, old) ∷ with_named es word n)) ≡ Some m
    by true h known = cc h
    by false h known = elim (chosen (bytes_eq other key) old m (lookup (bytes_eq other) es) e)
        as (λ x. lookup (bytes_eq other) ((key, old) ∷ with_named es word n) ≡ Some m) [
          | inl here ↦ taken (bytes_eq other key) old (lookup (bytes_eq other) (with_named es word n)) here.0 ∙
              sym (ap (λ x. Some x) here.1)
          | inr rest ↦ skipped (bytes_eq other key) old (lookup (bytes_eq other) (with_named es word n)) rest.0 ∙
              known h rest.1
        ]
