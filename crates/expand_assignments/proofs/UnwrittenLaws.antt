-- What counts of values that are written nowhere: where a part is past the limits.
use Rattle.std.proofs.Common.{◌≡◌, ℕ, zero, suc, ◌+◌, ◌-◌, ◌<◌, ◌≤◌, ℤ, pos, ◌+ℤ◌, List, [], ◌∷◌, map, fold, drop}
use Rattle.std.proofs.Common.{get_or, length, Bool, true, false, not, Option, Result, Ok, Err, is_ok, inl, inr, sym}
use Rattle.std.proofs.Common.{ap, ◌∙◌, subst, refl, arith}
use Rattle.std.proofs.lemmas.Int.{ints}
use Rattle.std.proofs.Math.Seq.{drop-cons}
use Rattle.meaning_executions.specs.Counting.{count_up}
use Rattle.expand_rules.specs.declared.cores.Formed.{Formed}
use Rattle.expand_rules.specs.declared.effects.Count.{Count}
use Rattle.expand_rules.specs.Counts.{both_counts, one_node_more, ranged_count}
use Rattle.expand_rules.specs.Forming.{as_number, divisor_count}
use Rattle.expand_expressions.specs.declared.refusal.Refusal.{Refusal}
use Rattle.expand_expressions.specs.Sound.{GivesCore}
use Rattle.expand_assignments.specs.Adding.{TellsCount, is_large_count}
use Rattle.expand_assignments.proofs.PastLaws.{great_tells, great_shows, divisor_past}
use Rattle.expand_assignments.proofs.PartLaws.{past_number}

-- past the limit

large_on : (m n : Count) → (65536 < m.size → 65536 < n.size) → m.most ≤ n.most → is_large_count m ≡ true →
    is_large_count n ≡ true
large_on m n size most h = elim (great_tells m h).great [
  | inl s ↦ great_shows n (record { great = inl (size s) })
  | inr w ↦ great_shows n (record { great = inr (omega (arith, w)) })
]

large_first : (m n : Count) → is_large_count m ≡ true → is_large_count (both_counts m n) ≡ true
large_first m n h = large_on m (both_counts m n) (λ s. omega (arith, s)) (omega arith) h

large_second : (m n : Count) → is_large_count n ≡ true → is_large_count (both_counts m n) ≡ true
large_second m n h = large_on n (both_counts m n) (λ s. omega (arith, s)) (omega arith) h

pub past_first : (e : Refusal) (m n : Count) → TellsCount (Err e) m → TellsCount (Err e) (both_counts m n)
past_first Refusal.Memory m n h = tt
past_first Refusal.TooLarge m n h = large_first m n h

pub past_second : (e : Refusal) (m n : Count) → TellsCount (Err e) n → TellsCount (Err e) (both_counts m n)
past_second Refusal.Memory m n h = tt
past_second Refusal.TooLarge m n h = large_second m n h

pub past_more : (e : Refusal) (n : Count) → TellsCount (Err e) n → TellsCount (Err e) (one_node_more n)
past_more Refusal.Memory n h = tt
past_more Refusal.TooLarge n h = large_on n (one_node_more n) (λ s. omega (arith, s)) (omega arith) h

pub past_ranged : (e : Refusal) (place : Option ℕ) (n : Count) → TellsCount (Err e) n →
    TellsCount (Err e) (ranged_count place n)
past_ranged Refusal.Memory place n h = tt
past_ranged Refusal.TooLarge place n h = h

pub past_divisor : (e : Refusal) (at : ℕ) (f : Formed) → GivesCore (Err e) f →
    TellsCount (Err e) (divisor_count at (as_number f))
past_divisor Refusal.Memory at f h = tt
past_divisor Refusal.TooLarge at f h = divisor_past at (as_number f) (past_number f h)

past_fold : (m : Count) (ns : List Count) → is_large_count m ≡ true → is_large_count (fold both_counts m ns) ≡ true
past_fold m [] h = h
past_fold m (n ∷ ns) h = past_fold (both_counts m n) ns (large_first m n h)

-- parts that are joined already, and those that are left
pub record Halfway (a : Result Count Refusal) (left : List Count) (total : Count) : Type 0 where
  pub now : Count
  pub told : TellsCount a now
  pub same : fold both_counts now left ≡ total

pub halfway_begin : (a : Result Count Refusal) (n : Count) (ns : List Count) → TellsCount a n →
    Halfway a ns (fold both_counts n ns)
halfway_begin a n ns h = record { now = n; told = h; same = refl }

stopped : (e : Refusal) (ns : List Count) (total : Count) → Halfway (Err e) ns total → TellsCount (Err e) total
stopped Refusal.Memory ns total h = tt
stopped Refusal.TooLarge ns total h =
    subst (λ n. is_large_count n ≡ true) h.same (past_fold h.now ns h.told)

pub halfway_stops : (a : Result Count Refusal) (ns : List Count) (total : Count) (b : Bool) → is_ok a ≡ not b →
    b ≡ true → Halfway a ns total → TellsCount a total
halfway_stops (Ok n) ns total b e t h = absurd (let f : true ≡ false = e ∙ ap not t in cc)
halfway_stops (Err r) ns total b e t h = stopped r ns total h

pub halfway_end : (a : Result Count Refusal) (ns : List Count) (total : Count) → ns ≡ [] → Halfway a ns total →
    TellsCount a total
halfway_end a ns total e h =
    subst (λ n. TellsCount a n) (ap (fold both_counts h.now) (sym e) ∙ h.same) h.told

pub none_left : {X : Type 0} (f : X → Count) (xs : List X) (i : ℕ) → length xs ≤ i → map f (drop i xs) ≡ []
none_left f [] zero h = refl
none_left f [] (suc i) h = refl
none_left f (x ∷ xs) zero h = absurd (let l : suc (length xs) ≤ 0 = h in omega arith)
none_left f (x ∷ xs) (suc i) h = none_left f xs i (let l : suc (length xs) ≤ suc i = h in omega arith)

pub halfway_next : {X : Type 0} (f : X → Count) (xs : List X) (i : ℕ) (d : X) (a new : Result Count Refusal)
    (total : Count) → i < length xs → ((m : Count) → TellsCount a m → TellsCount new
    (both_counts m (f (get_or xs i d)))) →
    Halfway a (map f (drop i xs)) total → Halfway new (map f (drop (i + 1) xs)) total
halfway_next f xs i d a new total l joins h =
    let e : suc i ≡ i + 1 = omega arith in record {
      now = both_counts h.now (f (get_or xs i d));
      told = joins h.now h.told;
      same = sym (ap (λ ys. fold both_counts h.now (map f ys)) (drop-cons xs i d l)
          ∙ ap (λ k. fold both_counts (both_counts h.now (f (get_or xs i d))) (map f (drop k xs))) e) ∙ h.same;
    }

abbrev pub numbered : (ℤ → Count) → ℤ → ℕ → ℕ → List Count
numbered f low i n = map f (count_up (low +ℤ pos i) (n - i))

pub numbers_begin : (f : ℤ → Count) (low : ℤ) (n : ℕ) (a : Result Count Refusal) (m : Count) → TellsCount a m →
    Halfway a (numbered f low 0 n) (fold both_counts m (map f (count_up low n)))
numbers_begin f low n a m h =
    let z : low +ℤ pos 0 ≡ low = omega (arith, ints) in
    let k : n - 0 ≡ n = omega arith in record {
      now = m;
      told = h;
      same = ap (λ y. fold both_counts m (map f (count_up y (n - 0)))) z
          ∙ ap (λ j. fold both_counts m (map f (count_up low j))) k;
    }

pub numbers_next : (f : ℤ → Count) (low : ℤ) (i n : ℕ) (a new : Result Count Refusal) (total : Count) → i < n →
    ((m : Count) → TellsCount a m → TellsCount new (both_counts m (f (low +ℤ pos i)))) →
    Halfway a (numbered f low i n) total → Halfway new (numbered f low (i + 1) n) total
numbers_next f low i n a new total l joins h =
    let m : n - i ≡ suc (n - (i + 1)) = omega arith in
    let z : (low +ℤ pos i) +ℤ pos 1 ≡ low +ℤ pos (i + 1) = omega (arith, ints) in
    let here = f (low +ℤ pos i) in record {
      now = both_counts h.now here;
      told = joins h.now h.told;
      same = sym (ap (λ k. fold both_counts h.now (map f (count_up (low +ℤ pos i) k))) m
          ∙ ap (λ y. fold both_counts (both_counts h.now here) (map f (count_up y (n - (i + 1))))) z) ∙ h.same;
    }

pub numbers_end : (f : ℤ → Count) (low : ℤ) (i n : ℕ) → n ≤ i → numbered f low i n ≡ []
numbers_end f low i n h = let m : n - i ≡ 0 = omega arith in ap (λ k. map f (count_up (low +ℤ pos i) k)) m
