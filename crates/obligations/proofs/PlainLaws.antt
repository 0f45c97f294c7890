-- Halvings and values of ranges, variable by variable.
use Rattle.std.proofs.Common.{◌≡◌, ℕ, zero, suc, ◌+◌, ◌-◌, ◌*◌, ◌^◌, ◌<◌, ◌≤◌, min, nat_le, true, false, cond, List}
use Rattle.std.proofs.Common.{length, drop, slice_index_or, arith, refl, sym, ap, ◌∙◌}
use Rattle.obligations.specs.declared.branches.Variable.{Variable}
use Rattle.obligations.specs.Plain.{range_size, volume, halvings, cuts_of, ranges_of, least_power}
use Rattle.obligations.proofs.FoldLaws.{fold-next, more-capped}

pub cuts-next : (vs : List Variable) (i : ℕ) (d : Variable) → i < length vs →
    cuts_of (ranges_of (drop i vs)) ≡ halvings (slice_index_or vs i d).range + cuts_of (ranges_of (drop (i + 1) vs))
cuts-next vs i d h =
    fold-next (λ xs. cuts_of (ranges_of xs)) (λ a b. a + b) (λ (v : Variable). halvings v.range) (λ x xs. refl) vs i d
    h

pub ruleset cuts_laws = cuts-next

pub volume-next : (vs : List Variable) (i : ℕ) (d : Variable) → i < length vs →
    volume (ranges_of (drop i vs)) ≡ range_size (slice_index_or vs i d).range * volume (ranges_of (drop (i + 1) vs))
volume-next vs i d h =
    fold-next (λ xs. volume (ranges_of xs)) (λ a b. a * b) (λ (v : Variable). range_size v.range) (λ x xs. refl) vs i
    d
    h

-- the same, as the code meets it
pub volume-more : (stop : ℕ) (vs : List Variable) (i : ℕ) (d : Variable) (old new step all : ℕ) → i < length vs →
    step ≡ range_size (slice_index_or vs i d).range → new ≡ min (old * step) stop →
    min (old * volume (ranges_of (drop i vs))) stop ≡ all →
    min (new * volume (ranges_of (drop (i + 1) vs))) stop ≡ all
volume-more stop vs i d old new step all l s n h =
    more-capped stop old new (range_size (slice_index_or vs i d).range) step (volume (ranges_of (drop (i + 1) vs)))
    all
    n s (ap (λ m. min (old * m) stop) (sym (volume-next vs i d l)) ∙ h)

-- The least power of 2 that is not below a size, where the loop finds it, does not yet, and stops.
le-true : (a b : ℕ) → a ≤ b → nat_le a b ≡ true
le-true a b h = grind arith

le-false : (a b : ℕ) → b < a → nat_le a b ≡ false
le-false a b h = grind arith

power-found : (fuel e size : ℕ) → size ≤ 2 ^ e → least_power (suc fuel) e size ≡ e
unfolding least_power
power-found fuel e size h = ap (λ t. cond t e (least_power fuel (suc e) size)) (le-true size (2 ^ e) h)

power-further : (fuel e size : ℕ) → 2 ^ e < size → least_power (suc fuel) e size ≡ least_power fuel (suc e) size
unfolding least_power
power-further fuel e size h = ap (λ t. cond t e (least_power fuel (suc e) size)) (le-false size (2 ^ e) h)

power-stops : (e size : ℕ) → least_power zero e size ≡ e
unfolding least_power
power-stops e size = refl

pub power-here : (e size found : ℕ) → e < 64 → size ≤ 2 ^ e → least_power (64 - e) e size ≡ found → e ≡ found
power-here e size found l h k =
    let n : 64 - e ≡ suc (63 - e) = omega arith in
    sym (ap (λ m. least_power m e size) n ∙ power-found (63 - e) e size h) ∙ k

pub power-next : (e size found : ℕ) → e < 64 → 2 ^ e < size → least_power (64 - e) e size ≡ found →
    least_power (64 - (e + 1)) (e + 1) size ≡ found
power-next e size found l h k =
    let n : 64 - e ≡ suc (63 - e) = omega arith in
    let m : 64 - (e + 1) ≡ 63 - e = omega arith in
    let o : e + 1 ≡ suc e = omega arith in
    ap (λ x. least_power x (e + 1) size) m ∙ ap (λ x. least_power (63 - e) x size) o
    ∙ sym (ap (λ x. least_power x e size) n ∙ power-further (63 - e) e size h) ∙ k

pub power-end : (e size found : ℕ) → e ≡ 64 → least_power (64 - e) e size ≡ found → 64 ≡ found
power-end e size found l k =
    let n : 64 - e ≡ zero = omega arith in
    sym (ap (λ m. least_power m e size) n ∙ power-stops e size ∙ l) ∙ k
