-- The slot at an index of an array is one of the array's.
use Rattle.std.proofs.Common.{◌≡◌, ℕ, ◌+◌, ◌<◌, ℤ, pos, negsuc, ◌+ℤ◌, ◌-ℤ◌, Bool, true, false, cond, ◌&&◌, Some}
use Rattle.std.proofs.Common.{None, refl, sym, arith}
use Rattle.std.proofs.lemmas.Int.{ints}
use borrow.Author.Differences.{le-true}
use lib.Signed.{◌≤ℤ◌}
use Rattle.std.specs.Int.RustNames.{int_le}
use Rattle.meaning_executions.specs.Counting.{natural}
use Rattle.meaning_documents.specs.Names.{slot_at}
use Rattle.meaning_executions.specs.Counting.{range_size}

natural_of : (a : ℤ) → pos 0 ≤ℤ a → a ≡ pos (natural a)
natural_of (pos n) h = refl
natural_of (negsuc n) h = absurd (omega (arith, ints))

at_most : (a b : ℤ) → int_le a b ≡ true → a ≤ℤ b
at_most a b e = let h = le-true a b e in omega (arith, ints)

-- a slot of an array, by its distance from the first
abbrev pub At : ℕ → ℤ × ℤ → ℕ → Type 0
At first r slot = (j : ℕ) × (slot ≡ first + j) × (j < range_size r)

pub at_slot : (first : ℕ) (r : ℤ × ℤ) (i : ℤ) (slot : ℕ) → slot_at first (Some r) (Some i) ≡ Some slot →
    At first r slot
at_slot first r i slot e = by (int_le r.0 i) (int_le i r.1) (at_most r.0 i) (at_most i r.1) e
  where
    by : (b c : Bool) → (b ≡ true → r.0 ≤ℤ i) → (c ≡ true → i ≤ℤ r.1) →
        cond (b && c) (Some (first + natural (i -ℤ r.0))) None ≡ Some slot → At first r slot
    by false c low high e = cc e
    by true false low high e = cc e
    by true true low high e =
        let l = low refl in
        let h = high refl in
        let n : i -ℤ r.0 ≡ pos (natural (i -ℤ r.0)) = natural_of (i -ℤ r.0) (omega (arith, ints)) in
        let m : r.1 +ℤ pos 1 -ℤ r.0 ≡ pos (range_size r) = natural_of (r.1 +ℤ pos 1 -ℤ r.0) (omega (arith, ints)) in
        let s : first + natural (i -ℤ r.0) ≡ slot = cc in
        (natural (i -ℤ r.0), sym s, omega (arith, ints))
