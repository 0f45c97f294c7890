-- The plain tree has at most as many leaves as the formula's leaves times the ranges' values, so enough is at most
-- need.
use Rattle.std.proofs.Common.{◌≡◌, ℕ, zero, suc, ◌+◌, ◌*◌, ◌≤◌, ◌^◌, ℤ, pos, ◌+ℤ◌, ◌-ℤ◌, nat_le, Bool, true, false}
use Rattle.std.proofs.Common.{cond, ◌&&◌, Option, Some, None, List, [], ◌∷◌, ◌++◌, slice_get, mul-le-mul, arith, refl}
use Rattle.std.proofs.Common.{sym, ap, subst, ◌∙◌}
use Rattle.std.proofs.Math.Nat.{mul-le-mul_right}
use Rattle.std.specs.List.{list_all}
use Rattle.std.specs.Int.RustNames.{int_le, unsigned_abs}
use Rattle.std.proofs.lemmas.Bool.{and_parts}
use Rattle.core_terms.specs.declared.trees.CForm.{CForm}
use Rattle.core_terms.specs.declared.trees.Range.{Range}
use Rattle.obligations.specs.declared.branches.Branch.{Branch}
use Rattle.obligations.specs.declared.branches.Obligation.{Obligation}
use Rattle.obligations.specs.declared.branches.Variable.{Variable}
use Rattle.obligations.specs.Settling.{settled}
use Rattle.obligations.specs.Opening.{ranges_only, first_branch}
use Rattle.obligations.specs.Settling.{sides, added}
use Rattle.obligations.specs.Opening.{at_most, at_least}
use Rattle.obligations.specs.Reach.{some_out_of_reach}
use Rattle.obligations.specs.Shapes.{shapes, leaves_of}
use Rattle.obligations.specs.Plain.{Cut, ranges_of, first_cut, with_high, with_low, waiting_only, cut_leaves}
use Rattle.obligations.specs.Plain.{side_leaves, quot_leaves, open_leaves, plain_leaves, leaf_units_of, enough}
use Rattle.obligations.specs.Plain.{range_size, volume, need_of}
use Rattle.obligations.specs.Scopes.{next_param, with_next, scope_of}
use Rattle.obligations.specs.declared.branches.Replaced.{Replaced}
use Rattle.obligations.specs.Quotients.{without_quotient, with_quotient, low_fact, high_fact, one_more, is_either}
use Rattle.obligations.proofs.NumberLaws.{obligation-sound}
use Rattle.obligations.specs.Obligations.{is_sound_range, IsObligation}
use Rattle.search_tree.proofs.ShapeLaws.{settled-more, refused-more, side-shapes, leaves-append, leaves-of-some}
use Rattle.search_tree.proofs.QuotientShapes.{without-less}
use Rattle.search_tree.proofs.CutLaws.{good-cut}
use Rattle.search_tree.proofs.ReadyLaws.{low-sound, high-sound}

one-more : (t : Bool) (n : ℕ) → t ≡ true → 1 ≤ cond t (n + 1) 0
one-more true n e = omega arith
one-more false n e = cc

size-some : (r : Range) → is_sound_range r ≡ true → 1 ≤ range_size r
size-some r s = one-more (int_le r.lo r.hi) (unsigned_abs (r.hi -ℤ r.lo))
    (and_parts (int_le r.lo r.hi) (nat_le (unsigned_abs r.lo) (2 ^ 62) && nat_le (unsigned_abs r.hi) (2 ^ 62)) s).0

volume-some : (rs : List Range) → list_all is_sound_range rs ≡ true → 1 ≤ volume rs
volume-some [] s = omega arith
volume-some (r ∷ rs) s = let a = and_parts (is_sound_range r) (list_all is_sound_range rs) s in mul-le-mul
    (size-some r a.0) (volume-some rs a.1)

volume-cut : (rs : List Range) (i : ℕ) (r : Range) (k m : ℤ) → slice_get rs i ≡ Some r → range_size
    (record { lo = r.lo; hi = k }) + range_size (record { lo = m; hi = r.hi }) ≡ range_size r → volume
    (with_high rs i k) + volume (with_low rs i m) ≡ volume rs
volume-cut [] i r k m e h = cc
volume-cut (x ∷ rs) zero r k m e h =
    let s : x ≡ r = cc in
    let p : (range_size (record { lo = r.lo; hi = k }) + range_size (record { lo = m; hi = r.hi })) * volume rs ≡
    range_size r * volume rs = ap (λ n. n * volume rs) h in
    subst (λ (z : Range). range_size (record { lo = z.lo; hi = k }) * volume rs + range_size
    (record { lo = m; hi = z.hi }) * volume rs ≡ range_size z * volume rs) (sym s) (omega (arith, p))
volume-cut (x ∷ rs) (suc i) r k m e h =
    let p : range_size x * (volume (with_high rs i k) + volume (with_low rs i m)) ≡ range_size x * volume rs = ap
    (λ n. range_size x * n) (volume-cut rs i r k m e h) in
    omega (arith, p)

abbrev Below : (List Range → Branch → ℕ) → Type 0
Below go = (rs : List Range) (b : Branch) → list_all is_sound_range rs ≡ true → go rs b ≤ leaves_of b.waiting *
    volume rs

one-below : (rs : List Range) (ws : List CForm) → list_all is_sound_range rs ≡ true → 1 ≤ leaves_of ws * volume rs
one-below rs ws s = mul-le-mul (leaves-of-some ws) (volume-some rs s)

cut-below : (vs : List Variable) (go : List Range → Branch → ℕ) → Below go → (rs : List Range) (b : Branch) →
    list_all is_sound_range rs ≡ true → b.waiting ≡ [] → (o : Option Cut) → first_cut 0 rs ≡ o → cut_leaves go rs b o
    ≤ leaves_of b.waiting * volume rs
cut-below vs go ih rs b s w None e = one-below rs b.waiting s
cut-below vs go ih rs b s w (Some c) e =
    let g = good-cut rs c.place c.at s e in
    let none : b.waiting ++ [] ≡ [] = ap (λ z. z ++ []) w in
    let whole : range_size (record { lo = g.range.lo; hi = c.at }) + range_size
    (record { lo = c.at +ℤ pos 1; hi = g.range.hi }) ≡ range_size g.range =
    subst (λ z. range_size (record { lo = g.range.lo; hi = z }) + range_size
    (record { lo = z +ℤ pos 1; hi = g.range.hi }) ≡ range_size g.range) (sym g.is) g.middle.whole in
    let v = volume-cut rs c.place g.range c.at (c.at +ℤ pos 1) g.there whole in
    let l = ih (with_high rs c.place c.at) (added b (at_most c.place c.at))
    (low-sound rs c.place c.at s e) in
    let h = ih (with_low rs c.place (c.at +ℤ pos 1)) (added b (at_least c.place (c.at +ℤ pos 1)))
    (high-sound rs c.place c.at s e) in
    let n : leaves_of (b.waiting ++ []) ≡ 1 = ap leaves_of none in
    let m : leaves_of b.waiting ≡ 1 = ap leaves_of w in
    let l' : leaves_of (b.waiting ++ []) * volume (with_high rs c.place c.at) ≡ 1 * volume (with_high rs c.place c.at)
    = ap (λ k. k * volume (with_high rs c.place c.at)) n in
    let h' : leaves_of (b.waiting ++ []) * volume (with_low rs c.place (c.at +ℤ pos 1)) ≡ 1 * volume
    (with_low rs c.place (c.at +ℤ pos 1)) = ap (λ k. k * volume (with_low rs c.place (c.at +ℤ pos 1))) n in
    let m' : leaves_of b.waiting * volume rs ≡ 1 * volume rs = ap (λ k. k * volume rs) m in
    omega (arith, v, l, h, l', h', m')

-- the leaves of the sides of an `Or`
sides-below : (vs : List Variable) (go : List Range → Branch → ℕ) → Below go → (rs : List Range) (rest : Branch)
    (f : CForm) → list_all is_sound_range rs ≡ true → is_either f ≡ true →
    side_leaves vs go rs rest f ≤ leaves_of (f ∷ rest.waiting) * volume rs
sides-below vs go ih rs rest f s e =
    let fs : List CForm = rest.waiting in
    let p = settled-more vs (sides f).0 rest in
    let q = settled-more vs (sides f).1 rest in
    let x = ih rs (settled vs (sides f).0 rest) s in
    let y = ih rs (settled vs (sides f).1 rest) s in
    let x' : leaves_of (settled vs (sides f).0 rest).waiting * volume rs ≡
    (leaves_of fs * (shapes (sides f).0).yes.leaves) * volume rs = ap (λ n. n * volume rs) p.leaves in
    let y' : leaves_of (settled vs (sides f).1 rest).waiting * volume rs ≡
    (leaves_of fs * (shapes (sides f).1).yes.leaves) * volume rs = ap (λ n. n * volume rs) q.leaves in
    let whole : leaves_of (f ∷ fs) * volume rs ≡ (((shapes (sides f).0).yes.leaves + (shapes (sides f).1).yes.leaves)
    * leaves_of fs) * volume rs = ap (λ n. (n * leaves_of fs) * volume rs) (side-shapes f e).leaves in
    omega (arith, x, y, x', y', whole)

-- those with its first quotient taken
quotient-below : (vs : List Variable) (go : List Range → Branch → ℕ) → Below go → (rs : List Range) (rest : Branch)
    (f : CForm) → list_all is_sound_range rs ≡ true → (v : ℕ) (o : Option Replaced) → without_quotient v f ≡ o →
    quot_leaves vs go rs rest o ≤ leaves_of (f ∷ rest.waiting) * volume rs
quotient-below vs go ih rs rest f s v None e = one-below rs (f ∷ rest.waiting) s
quotient-below vs go ih rs rest f s v (Some r) e =
    let fs : List CForm = rest.waiting in
    let vars : List Variable = with_next vs in
    let both : Branch = added (added (one_more rest) (low_fact vs r.taken)) (high_fact vs r.taken) in
    let x = ih rs (with_quotient vs r rest) s in
    let p = (settled-more vars r.form both).leaves in
    let once = leaves-append fs [] in
    let twice = leaves-append (fs ++ []) [] in
    let same : leaves_of both.waiting ≡ leaves_of fs = omega (arith, once, twice) in
    let less : (shapes r.form).yes.leaves * (leaves_of fs * volume rs) ≤ (shapes f).yes.leaves *
    (leaves_of fs * volume rs) = mul-le-mul_right (leaves_of fs * volume rs) (without-less v f r e).leaves in
    let x' : leaves_of (with_quotient vs r rest).waiting * volume rs ≡ (leaves_of fs * (shapes r.form).yes.leaves) *
    volume rs = ap (λ n. n * volume rs) (p ∙ ap (λ n. n * (shapes r.form).yes.leaves) same) in
    omega (arith, x, x', less)

open-below : (vs : List Variable) (go : List Range → Branch → ℕ) → Below go →
    (rs : List Range) (b : Branch) → list_all is_sound_range rs ≡ true → (ws : List CForm) → b.waiting ≡ ws →
    open_leaves vs go rs b ws ≤ leaves_of b.waiting * volume rs
open-below vs go ih rs b s [] e = cut-below vs go ih rs b s e (first_cut 0 rs) refl
open-below vs go ih rs b s (f ∷ fs) e =
    subst (λ ws. open_leaves vs go rs b (f ∷ fs) ≤ leaves_of ws * volume rs) (sym e) (by_either (is_either f) refl)
  where
    by_either : (t : Bool) → is_either f ≡ t → cond t (side_leaves (scope_of vs b) go rs (waiting_only b fs) f)
        (quot_leaves (scope_of vs b) go rs (waiting_only b fs)
        (without_quotient (next_param (scope_of vs b)) f)) ≤ leaves_of (f ∷ fs) * volume rs
    by_either true h = sides-below (scope_of vs b) go ih rs (waiting_only b fs) f s h
    by_either false h =
        quotient-below (scope_of vs b) go ih rs (waiting_only b fs) f s
        (next_param (scope_of vs b)) (without_quotient (next_param (scope_of vs b)) f) refl

either-below : (t : Bool) (n m : ℕ) → 1 ≤ m → n ≤ m → cond t 1 n ≤ m
either-below true n m p q = p
either-below false n m p q = q

pub plain-below : (vs : List Variable) (k : ℕ) → Below (plain_leaves vs k)
plain-below vs zero rs b s = one-below rs b.waiting s
plain-below vs (suc k) rs b s =
    either-below (some_out_of_reach b.facts) (open_leaves vs (plain_leaves vs k) rs b b.waiting)
    (leaves_of b.waiting * volume rs) (one-below rs b.waiting s)
    (open-below vs (plain_leaves vs k) (plain-below vs k) rs b s b.waiting refl)

pub enough-below : (o : Obligation) → IsObligation o → enough o ≤ need_of o
enough-below o m =
    let more = refused-more o.variables o.form (ranges_only o.variables) in
    let p = plain-below o.variables 960 (ranges_of o.variables) (first_branch o) (obligation-sound o m) in
    let l : leaves_of (first_branch o).waiting ≡ (shapes o.form).no.leaves = more.leaves ∙ once
    (shapes o.form).no.leaves in
    let q : leaves_of (first_branch o).waiting * volume (ranges_of o.variables) ≡ (shapes o.form).no.leaves * volume
    (ranges_of o.variables) = ap (λ n. n * volume (ranges_of o.variables)) l in
    mul-le-mul_right (leaf_units_of o) (omega (arith, p, q))
  where
    once : (n : ℕ) → 1 * n ≡ n
    once n = omega arith
