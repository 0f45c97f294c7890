-- The tightest bound, fact by fact.
use Rattle.std.proofs.Common.{◌≡◌, ◌-◌, ◌^◌, nat_lt, IfSome, subst, ℕ, zero, suc, ◌+◌, ◌<◌, ◌≤◌, nat_eq, ℤ, ◌≤ℤ◌, Bool}
use Rattle.std.proofs.Common.{true, false, cond, ◌&&◌, Option, Some, None, List, [], ◌∷◌, ◌++◌, take, length, slice_set}
use Rattle.std.proofs.Common.{slice_index_or, length-take, add-zero, arith, refl, sym, ap, ◌∙◌}
use Rattle.std.specs.Int.RustNames.{int_le}
use Rattle.std.proofs.lemmas.Int.{ints}
use Rattle.std.proofs.lemmas.List.{take_more}
use Rattle.std.proofs.lemmas.Option.{slice_get_past}
use Rattle.meaning_states.specs.State.{int_eq}
use Rattle.obligations.specs.declared.branches.Fact.{Fact}
use Rattle.obligations.specs.declared.branches.Bound.{Bound}
use Rattle.obligations.specs.Reach.{is_bound_of, bound_at, tighter, tightest}
use Rattle.linear_prover.specs.Tables.{bound_here, bound_in, AreBoundPlaces, AreBounds}

int-le-is : (a b : ℤ) → int_le a b ≡ true → a ≤ℤ b
int-le-is a b h = grind (arith, ints)

int-le-true : (a b : ℤ) → a ≤ℤ b → int_le a b ≡ true
int-le-true a b h = grind (arith, ints)

int-gt : (a b : ℤ) → int_le a b ≡ false → b ≤ℤ a
int-gt a b h = grind (arith, ints)

int-gt-both : (a b c : ℤ) → int_le a b ≡ false → int_le b c ≡ false → int_le a c ≡ false
int-gt-both a b c h k = grind (arith, ints)

three : (a b c : Bound) (t u : Bool) → int_le a.constant b.constant ≡ t → int_le b.constant c.constant ≡ u →
    cond (int_le (cond t a b).constant c.constant) (cond t a b) c ≡ cond (int_le a.constant (cond u b c).constant) a
    (cond u b c)
three a b c true true p q =
    let h = int-le-is a.constant b.constant p in let k = int-le-is b.constant c.constant q in
    ap (λ t. cond t a c) (int-le-true a.constant c.constant (omega (arith, ints, h, k))) ∙ sym (ap (λ t. cond t a b) p)
three a b c true false p q = refl
three a b c false true p q = ap (λ t. cond t b c) q ∙ sym (ap (λ t. cond t a b) p)
three a b c false false p q = ap (λ t. cond t b c) q ∙ sym (ap (λ t. cond t a c)
    (int-gt-both a.constant b.constant c.constant p q))

pub tighter-tighter : (a b c : Option Bound) → tighter (tighter a b) c ≡ tighter a (tighter b c)
tighter-tighter None b c = refl
tighter-tighter (Some a) None None = refl
tighter-tighter (Some a) None (Some c) = refl
tighter-tighter (Some a) (Some b) None = refl
tighter-tighter (Some a) (Some b) (Some c) = ap Some (three a b c (int_le a.constant b.constant)
    (int_le b.constant c.constant) refl refl)

pub tight-end : (a : Option Bound) → tighter a None ≡ a
tight-end None = refl
tight-end (Some b) = refl

-- A table of bounds, fact by fact.
pub bound-more : (fs : List Fact) (n v : ℕ) (side : ℤ) (f : Fact) →
    tightest n v side (fs ++ f ∷ []) ≡ tighter (tightest n v side fs) (bound_at (n + length fs) v side f)
bound-more [] n v side f = tight-end (bound_at n v side f) ∙ ap (λ k. bound_at k v side f) (sym (add-zero n))
bound-more (g ∷ fs) n v side f =
    let one : suc n + length fs ≡ n + suc (length fs) = omega arith in
    ap (tighter (bound_at n v side g)) (bound-more fs (suc n) v side f)
    ∙ sym (tighter-tighter (bound_at n v side g) (tightest (suc n) v side fs) (bound_at (suc n + length fs) v side f))
    ∙ ap (λ k. tighter (tighter (bound_at n v side g) (tightest (suc n) v side fs)) (bound_at k v side f)) one

pub none-more : (table : List (Option Bound)) (v : ℕ) → bound_in table v ≡ None → bound_in (table ++ None ∷ []) v ≡ None
none-more [] zero e = refl
none-more [] (suc v) e = refl
none-more (b ∷ table) zero e = e
none-more (b ∷ table) (suc v) e = none-more table v e

-- a fact's bound put into a table
set-there : (table : List (Option Bound)) (v : ℕ) (b : Option Bound) → v < length table → bound_in (slice_set table v b)
    v ≡ b
set-there [] v b h = absurd (omega arith)
set-there (c ∷ table) zero b h = refl
set-there (c ∷ table) (suc v) b h = set-there table v b (omega arith)

set-else : (table : List (Option Bound)) (v w : ℕ) (b : Option Bound) → (v ≡ w → ⊥) → bound_in (slice_set table v b) w ≡
    bound_in table w
set-else [] v w b h = refl
set-else (c ∷ table) zero zero b h = absurd (h refl)
set-else (c ∷ table) zero (suc w) b h = refl
set-else (c ∷ table) (suc v) zero b h = refl
set-else (c ∷ table) (suc v) (suc w) b h = set-else table v w b (λ e. h (ap suc e))

not-eq : (a b : ℕ) → nat_eq a b ≡ false → a ≡ b → ⊥
not-eq a b h = grind arith

int-eq-refl : (a : ℤ) → int_eq a a ≡ true
int-eq-refl a = grind (arith, ints)

eq-is : (a b : ℕ) → nat_eq a b ≡ true → a ≡ b
eq-is a b h = grind arith

-- the bound of a fact about one variable alone
pub alone-at : (f : Fact) (place v w : ℕ) (side : ℤ) → f.factors ≡ (v, side) ∷ [] →
    bound_at place w side f ≡ cond (nat_eq v w) (Some (record { place = place; constant = f.constant })) None
alone-at f place v w side e =
    ap (λ fs. cond (is_bound_of w side fs) (Some (record { place = place; constant = f.constant })) None) e
    ∙ ap (λ t. cond (nat_eq v w && t) (Some (record { place = place; constant = f.constant })) None) (int-eq-refl side)
    ∙ ap (λ t. cond t (Some (record { place = place; constant = f.constant })) None) (and-true (nat_eq v w))
  where
    and-true : (t : Bool) → (t && true) ≡ t
    and-true true = refl
    and-true false = refl

pub tightened : (table new : List (Option Bound)) (f : Fact) (place v w : ℕ) (side : ℤ) (b : Option Bound) →
    f.factors ≡ (v, side) ∷ [] → w < length table → new ≡ slice_set table v b →
    b ≡ tighter (bound_in table v) (Some (record { place = place; constant = f.constant })) →
    bound_in new w ≡ tighter (bound_in table w) (bound_at place w side f)
tightened table new f place v w side b e h s t = by_case (nat_eq v w) refl
  where
    own : Option Bound
    own = Some (record { place = place; constant = f.constant })

    by_case : (t : Bool) → nat_eq v w ≡ t → bound_in new w ≡ tighter (bound_in table w) (bound_at place w side f)
    by_case true q =
        let same : v ≡ w = eq-is v w q in
        ap (λ x. bound_in x w) s ∙ ap (λ k. bound_in (slice_set table k b) w) same ∙ set-there table w b h ∙ t
        ∙ ap (λ k. tighter (bound_in table k) own) same
        ∙ ap (tighter (bound_in table w)) (sym (alone-at f place v w side e ∙ ap (λ t. cond t own None) q))
    by_case false q =
        ap (λ x. bound_in x w) s ∙ set-else table v w b (not-eq v w q) ∙ sym (tight-end (bound_in table w))
        ∙ ap (tighter (bound_in table w)) (sym (alone-at f place v w side e ∙ ap (λ t. cond t own None) q))

-- no such variable, or no such fact
pub untightened : (table : List (Option Bound)) (f : Fact) (place w : ℕ) (side : ℤ) → is_bound_of w side f.factors ≡
    false →
    bound_in table w ≡ tighter (bound_in table w) (bound_at place w side f)
untightened table f place w side e =
    sym (tight-end (bound_in table w))
    ∙ ap (tighter (bound_in table w)) (sym (ap (λ t. cond t (Some (record { place = place; constant = f.constant }))
    None) e))

pub outside : (table : List (Option Bound)) (f : Fact) (place v w : ℕ) (side : ℤ) → f.factors ≡ (v, side) ∷ [] →
    length table ≤ v → w < length table → bound_in table w ≡ tighter (bound_in table w) (bound_at place w side f)
outside table f place v w side e h k =
    sym (tight-end (bound_in table w))
    ∙ ap (tighter (bound_in table w)) (sym (alone-at f place v w side e ∙ ap
    (λ t. cond t (Some (record { place = place; constant = f.constant })) None) (apart v w (omega arith))))
  where
    apart : (a b : ℕ) → b < a → nat_eq a b ≡ false
    apart a b h = grind arith

pub bounds-more : (facts : List Fact) (i count : ℕ) (side : ℤ) (f : Fact) (table new : List (Option Bound)) → i < length
    facts →
    f ≡ slice_index_or facts i f → AreBounds count side (take i facts) table → length new ≡ length table →
    ((v : ℕ) → v < length table → bound_in new v ≡ tighter (bound_in table v) (bound_at i v side f)) →
    AreBounds count side (take (i + 1) facts) new
bounds-more facts i count side f table new h e b long t =
    record {
      long = long ∙ b.long;
      tells = λ v k. t v (let l = b.long in omega (arith, l, k)) ∙ ap (λ x. tighter x (bound_at i v side f))
          (b.tells v k)
          ∙ sym (ap (tightest 0 v side) next ∙ bound-more (take i facts) 0 v side f ∙ ap
          (λ k. tighter (tightest 0 v side (take i facts)) (bound_at k v side f)) size);
    }
  where
    size : 0 + length (take i facts) ≡ i
    size = omega (arith, length-take i facts)

    next : take (i + 1) facts ≡ take i facts ++ f ∷ []
    next = take_more facts i f h ∙ ap (λ x. take i facts ++ x ∷ []) (sym e)

-- The places of bounds.
tight-place : (facts : List Fact) (n v : ℕ) (side : ℤ) → IfSome (tightest n v side facts)
    (λ b. b.place < n + length facts)
tight-place [] n v side = tt
tight-place (f ∷ facts) n v side = by_test (is_bound_of v side f.factors) (tightest (suc n) v side facts)
    (tight-place facts (suc n) v side)
  where
    own : Bound
    own = record { place = n; constant = f.constant }

    chosen : (t : Bool) (c : Bound) → c.place < suc n + length facts → (cond t own c).place < n + suc (length facts)
    chosen true c h = omega arith
    chosen false c h = omega (arith, h)

    by_test : (t : Bool) (o : Option Bound) → IfSome o (λ b. b.place < suc n + length facts) →
        IfSome (tighter (cond t (Some own) None) o) (λ b. b.place < n + suc (length facts))
    by_test true None h = omega arith
    by_test true (Some c) h = chosen (int_le f.constant c.constant) c h
    by_test false None h = tt
    by_test false (Some c) h = omega (arith, h)

pub numbered : (count : ℕ) (side : ℤ) (facts : List Fact) (table : List (Option Bound)) → AreBounds count side facts
    table →
    length facts < 2 ^ 62 → AreBoundPlaces table
numbered count side facts table b h v = by_place (nat_lt v count) refl
  where
    some_less : (o : Option Bound) → IfSome o (λ b. b.place < 0 + length facts) → IfSome o (λ b. b.place < 2 ^ 64 - 1)
    some_less None k = tt
    some_less (Some c) k = omega (arith, k, h)

    less : (a b : ℕ) → nat_lt a b ≡ true → a < b
    less a b h = grind arith

    not_less : (a b : ℕ) → nat_lt a b ≡ false → b ≤ a
    not_less a b h = grind arith

    by_place : (t : Bool) → nat_lt v count ≡ t → IfSome (bound_in table v) (λ b. b.place < 2 ^ 64 - 1)
    by_place true e =
        let l = less v count e in
        subst (λ (o : Option Bound). IfSome o (λ b. b.place < 2 ^ 64 - 1)) (sym (b.tells v l))
        (some_less (tightest 0 v side facts) (tight-place facts 0 v side))
    by_place false e =
        let l = not_less v count e in let s = b.long in
        subst (λ (o : Option (Option Bound)). IfSome (bound_here o) (λ b. b.place < 2 ^ 64 - 1))
        (sym (slice_get_past table v (omega (arith, l, s)))) tt
