-- Linear forms, as the code makes them.
use Rattle.std.proofs.Common.{◌≡◌, ℕ, zero, suc, ◌+◌, ◌<◌, ◌≤◌, ℤ, pos, ◌+ℤ◌, ◌*ℤ◌, true, false, cond, List, [], ◌∷◌}
use Rattle.std.proofs.Common.{◌++◌, append_assoc, take, drop, length, slice_set, slice_index_or, arith, refl, sym, ap}
use Rattle.std.proofs.Common.{◌∙◌}
use Rattle.std.proofs.lemmas.Int.{ints}
use Rattle.std.specs.Int.RustNames.{unsigned_abs}
use Rattle.core_terms.specs.from_meaning_states.State.{int_eq}
use Rattle.core_terms.specs.Values.{number_at}
use Rattle.core_terms.specs.declared.trees.CTerm.{CTerm}
use Rattle.obligations.specs.declared.branches.Variable.{Variable}
use Rattle.obligations.specs.LinearForms.{add_at, zeros, plus, line_plus, line_of_const, linear, sparse}
use Rattle.obligations.specs.Load.{sizes, norm}
use Rattle.obligations.proofs.LineLaws.{length-zeros}
use Rattle.obligations.proofs.LoadLaws.{sizes-zeros, line-same}
use Rattle.obligations.proofs.SettlingLaws.{linear-long}

pub number-size : (xs : List ℤ) (n : ℕ) → unsigned_abs (number_at xs n) ≤ sizes xs
number-size [] n = omega arith
number-size (x ∷ xs) zero = omega arith
number-size (x ∷ xs) (suc n) = let ih = number-size xs n in omega (arith, ih)

pub set-add : (xs : List ℤ) (n : ℕ) (z t : ℤ) → t ≡ number_at xs n +ℤ z → n < length xs →
    slice_set xs n t ≡ add_at xs n z
set-add [] n z t e h = absurd (omega arith)
set-add (x ∷ xs) zero z t e h = ap (λ y. y ∷ xs) e
set-add (x ∷ xs) (suc n) z t e h = ap (λ ys. x ∷ ys) (set-add xs n z t e (omega arith))

pub past-add : (xs : List ℤ) (n : ℕ) (z : ℤ) → length xs ≤ n → xs ≡ add_at xs n z
past-add [] n z h = refl
past-add (x ∷ xs) zero z h = absurd (omega arith)
past-add (x ∷ xs) (suc n) z h = ap (λ ys. x ∷ ys) (past-add xs n z (omega arith))

pub ruleset add_at_laws = (number-size, set-add, past-add)

pub zeros-more : {A : Type 0} (vs : List A) (i : ℕ) → i < length vs →
    zeros (take i vs) ++ pos 0 ∷ [] ≡ zeros (take (i + 1) vs)
zeros-more [] i h = absurd (omega arith)
zeros-more (v ∷ vs) zero h = refl
zeros-more (v ∷ vs) (suc i) h =
    let k : suc i + 1 ≡ suc (i + 1) = omega arith in ap (λ x. pos 0 ∷ x) (zeros-more vs i (omega arith))
    ∙ ap (λ n. zeros (take n (v ∷ vs))) (sym k)

pub ruleset zeros_laws = zeros-more

plus-once : {A : Type 0} (vs : List A) (xs : List ℤ) → length xs ≡ length vs → plus (pos 1) (zeros vs) xs ≡ xs
plus-once [] [] e = refl
plus-once [] (x ∷ xs) e = absurd (omega arith)
plus-once (v ∷ vs) [] e = absurd (omega arith)
plus-once (v ∷ vs) (x ∷ xs) e =
    let o : pos 0 +ℤ pos 1 *ℤ x ≡ x = omega (arith, ints) in
    ap (λ u. u ∷ plus (pos 1) (zeros vs) xs) o ∙ ap (λ us. x ∷ us) (plus-once vs xs (omega arith))

-- a linear form added once to 0
pub line-once : (vs : List Variable) (t : CTerm) →
    line_plus (pos 1) (line_of_const vs (pos 0)) (linear vs t) ≡ linear vs t
line-once vs t =
    line-same (line_plus (pos 1) (line_of_const vs (pos 0)) (linear vs t)) (linear vs t)
    (plus-once vs (linear vs t).factors (linear-long vs t)) (omega (arith, ints))

pub zero-norm : (vs : List Variable) → norm (line_of_const vs (pos 0)) ≡ 0
zero-norm vs = let z = sizes-zeros vs in omega (arith, z)

pub zero-long : (vs : List Variable) → length (line_of_const vs (pos 0)).factors ≡ length vs
zero-long vs = length-zeros vs

pub ruleset line_laws = (line-once, zero-norm, zero-long)

sparse-cons : (n : ℕ) (z : ℤ) (zs : List ℤ) → sparse n (z ∷ zs) ≡ sparse n (z ∷ []) ++ sparse (suc n) zs
sparse-cons n z zs =
    elim (int_eq z (pos 0)) as (λ b. cond b (sparse (suc n) zs) ((n, z) ∷ sparse (suc n) zs) ≡ cond b []
    ((n, z) ∷ []) ++ sparse (suc n) zs) [
      | true ↦ refl
      | false ↦ refl
    ]

pub sparse-next : (xs : List ℤ) (i n : ℕ) (e : ℤ) → i < length xs →
    sparse n (drop i xs) ≡ sparse n (slice_index_or xs i e ∷ []) ++ sparse (suc n) (drop (i + 1) xs)
sparse-next [] i n e h = absurd (omega arith)
sparse-next (x ∷ xs) zero n e h = sparse-cons n x xs
sparse-next (x ∷ xs) (suc i) n e h =
    let k : suc i + 1 ≡ suc (i + 1) = omega arith in
    sparse-next xs i n e (omega arith) ∙ ap (λ m. sparse n (slice_index_or xs i e ∷ []) ++ sparse (suc n)
    (drop m (x ∷ xs))) (sym k)

pub sparse-more : (xs : List ℤ) (i : ℕ) (e : ℤ) (old new all : List (ℕ × ℤ)) → i < length xs →
    new ≡ old ++ sparse i (slice_index_or xs i e ∷ []) → old ++ sparse i (drop i xs) ≡ all →
    new ++ sparse (i + 1) (drop (i + 1) xs) ≡ all
sparse-more xs i e old new all h n k =
    let one : i + 1 ≡ suc i = omega arith in
    ap (λ x. x ++ sparse (i + 1) (drop (i + 1) xs)) n
    ∙ append_assoc old (sparse i (slice_index_or xs i e ∷ [])) (sparse (i + 1) (drop (i + 1) xs))
    ∙ ap (λ m. old ++ (sparse i (slice_index_or xs i e ∷ []) ++ sparse m (drop (i + 1) xs))) one
    ∙ ap (λ x. old ++ x) (sym (sparse-next xs i i e h)) ∙ k

pub ruleset sparse_laws = sparse-more
