-- The values of linear forms.
use Rattle.std.proofs.Common.{◌≡◌, ℕ, zero, suc, ℤ, pos, negsuc, ◌+ℤ◌, ◌*ℤ◌, Bool, true, false, cond, List, [], ◌∷◌}
use Rattle.std.proofs.Common.{length, arith, refl, ap, ◌∙◌}
use Rattle.std.proofs.lemmas.Int.{ints}
use lib.IntN.{zero-*ℤ, *ℤ-zero}
use Rattle.core_terms.specs.from_meaning_states.State.{int_eq}
use Rattle.core_terms.specs.Values.{number_at}
use Rattle.obligations.specs.declared.branches.Line.{Line}
use Rattle.obligations.specs.LinearForms.{add_at, zeros, dot, line_value, sparse, sum_of, fact_value, fact_of, plus}
use Rattle.obligations.specs.LinearForms.{line_plus}
use Rattle.obligations.proofs.RingLaws.{add-times, times-add, times-times}

pub int_eq-true : (z : ℤ) → int_eq z (pos 0) ≡ true → z ≡ pos 0
int_eq-true (pos zero) e = refl
int_eq-true (pos (suc n)) e = grind (arith, ints)
int_eq-true (negsuc n) e = grind (arith, ints)

sum_empty : (fs : List (ℕ × ℤ)) → sum_of [] fs ≡ pos 0
sum_empty [] = refl
sum_empty (f ∷ fs) = let e : f.1 *ℤ pos 0 ≡ pos 0 = *ℤ-zero f.1 in let ih = sum_empty fs in omega (arith, ints, e, ih)

shift : (y : ℤ) (ys : List ℤ) (n : ℕ) (zs : List ℤ) → sum_of (y ∷ ys) (sparse (suc n) zs) ≡ sum_of ys (sparse n zs)
shift y ys n [] = refl
shift y ys n (z ∷ zs) =
    elim (int_eq z (pos 0)) as (λ b. sum_of (y ∷ ys)
    (cond b (sparse (suc (suc n)) zs) ((suc n, z) ∷ sparse (suc (suc n)) zs)) ≡ sum_of ys
    (cond b (sparse (suc n) zs) ((n, z) ∷ sparse (suc n) zs))) [
      | true ↦ shift y ys (suc n) zs
      | false ↦ ap (λ s. z *ℤ number_at ys n +ℤ s) (shift y ys (suc n) zs)
    ]

sparse-dot_at : (z v : ℤ) (zs values : List ℤ) (b : Bool) → int_eq z (pos 0) ≡ b →
    sum_of values (sparse 0 zs) ≡ dot zs values →
    sum_of (v ∷ values) (cond b (sparse 1 zs) ((zero, z) ∷ sparse 1 zs)) ≡ z *ℤ v +ℤ dot zs values
sparse-dot_at z v zs values true e ih =
    let none : z *ℤ v ≡ pos 0 = ap (λ x. x *ℤ v) (int_eq-true z e) ∙ zero-*ℤ v in
    let s = shift v values 0 zs in omega (arith, ints, none, s, ih)
sparse-dot_at z v zs values false e ih = ap (λ s. z *ℤ v +ℤ s) (shift v values 0 zs ∙ ih)

pub sparse-dot : (zs values : List ℤ) → sum_of values (sparse 0 zs) ≡ dot zs values
sparse-dot [] values = refl
sparse-dot (z ∷ zs) [] = sum_empty (sparse 0 (z ∷ zs))
sparse-dot (z ∷ zs) (v ∷ values) = sparse-dot_at z v zs values (int_eq z (pos 0)) refl (sparse-dot zs values)

-- a fact made of a linear form has its value
pub fact_of-value : (values : List ℤ) (l : Line) → fact_value values (fact_of l) ≡ line_value values l
fact_of-value values l = ap (λ z. z +ℤ l.constant) (sparse-dot l.factors values)

pub dot-zeros : {A : Type 0} (vs : List A) (values : List ℤ) → dot (zeros vs) values ≡ pos 0
dot-zeros [] values = refl
dot-zeros (x ∷ vs) [] = refl
dot-zeros (x ∷ vs) (v ∷ values) =
    let e : pos 0 *ℤ v ≡ pos 0 = zero-*ℤ v in let ih = dot-zeros vs values in omega (arith, ints, e, ih)

pub length-zeros : {A : Type 0} (vs : List A) → length (zeros vs) ≡ length vs
length-zeros [] = refl
length-zeros (x ∷ vs) = ap suc (length-zeros vs)

pub length-add_at : (xs : List ℤ) (n : ℕ) (z : ℤ) → length (add_at xs n z) ≡ length xs
length-add_at [] n z = refl
length-add_at (x ∷ xs) zero z = refl
length-add_at (x ∷ xs) (suc n) z = ap suc (length-add_at xs n z)

pub dot-add_at : (xs values : List ℤ) (n : ℕ) (z : ℤ) → length values ≡ length xs →
    dot (add_at xs n z) values ≡ dot xs values +ℤ z *ℤ number_at values n
dot-add_at [] [] n z e = let k : z *ℤ pos 0 ≡ pos 0 = *ℤ-zero z in omega (arith, ints, k)
dot-add_at [] (v ∷ values) n z e = absurd (omega arith)
dot-add_at (x ∷ xs) [] n z e = absurd (omega arith)
dot-add_at (x ∷ xs) (v ∷ values) zero z e = let k = add-times x z v in omega (arith, ints, k)
dot-add_at (x ∷ xs) (v ∷ values) (suc n) z e =
    let ih = dot-add_at xs values n z (omega arith) in omega (arith, ints, ih)

pub length-plus : (k : ℤ) (xs ys : List ℤ) → length (plus k xs ys) ≡ length xs
length-plus k [] ys = refl
length-plus k (x ∷ xs) [] = refl
length-plus k (x ∷ xs) (y ∷ ys) = ap suc (length-plus k xs ys)

pub dot-plus : (k : ℤ) (xs ys values : List ℤ) → length ys ≡ length xs →
    dot (plus k xs ys) values ≡ dot xs values +ℤ k *ℤ dot ys values
dot-plus k [] [] values e = let z : k *ℤ pos 0 ≡ pos 0 = *ℤ-zero k in omega (arith, ints, z)
dot-plus k [] (y ∷ ys) values e = absurd (omega arith)
dot-plus k (x ∷ xs) [] values e = absurd (omega arith)
dot-plus k (x ∷ xs) (y ∷ ys) [] e = let z : k *ℤ pos 0 ≡ pos 0 = *ℤ-zero k in omega (arith, ints, z)
dot-plus k (x ∷ xs) (y ∷ ys) (v ∷ values) e =
    let a = add-times x (k *ℤ y) v in
    let b = times-times k y v in
    let c = times-add k (y *ℤ v) (dot ys values) in
    let ih = dot-plus k xs ys values (omega arith) in
    omega (arith, ints, a, b, c, ih)

pub line_plus-value : (k : ℤ) (a b : Line) (values : List ℤ) → length b.factors ≡ length a.factors →
    line_value values (line_plus k a b) ≡ line_value values a +ℤ k *ℤ line_value values b
line_plus-value k a b values e =
    let d = dot-plus k a.factors b.factors values e in
    let t = times-add k (dot b.factors values) b.constant in
    omega (arith, ints, d, t)
