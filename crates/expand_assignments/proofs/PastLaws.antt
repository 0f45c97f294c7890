-- Parts that are too large for whatever they are parts of make an assignment too large.
use Rattle.std.proofs.Common.{◌≡◌, ℕ, zero, suc, ◌+◌, ◌*◌, ◌^◌, ◌<◌, ◌≤◌, max, ℤ, List, [], ◌∷◌, Bool, true, false}
use Rattle.std.proofs.Common.{cond, not, ◌&&◌, ◌||◌, nat_le, Option, Some, None, Err, ◌⊎◌, inl, inr, refl, sym, ◌∙◌}
use Rattle.std.proofs.Common.{subst, arith}
use Rattle.std.proofs.lemmas.Bool.{leb-false}
use Rattle.std.specs.Option.{option_and_then}
use Rattle.unity_syntax.specs.declared.expression.Expr.{Expr}
use Rattle.unity_syntax.specs.declared.statement.Target.{Target}
use Rattle.meaning_documents.specs.Names.{Variable, slot_at}
use Rattle.meaning_executions.specs.Counting.{range_size}
use Rattle.core_terms.specs.declared.trees.CTerm.{CTerm}
use Rattle.core_terms.specs.declared.trees.CForm.{CForm}
use Rattle.core_terms.specs.Folding.{number_of}
use Rattle.expand_rules.specs.declared.cores.Measure.{Measure}
use Rattle.expand_rules.specs.declared.cores.Formed.{Formed}
use Rattle.expand_rules.specs.declared.effects.Count.{Count}
use Rattle.expand_rules.specs.declared.effects.Effect.{Effect}
use Rattle.expand_rules.specs.Limits.{is_past}
use Rattle.meaning_documents.specs.Names.{variable_named}
use Rattle.expand_rules.specs.Forming.{Scope, term_of, form_of, as_number, formed, unwritten_count, divisor_count}
use Rattle.expand_rules.specs.Forming.{bad_divisor}
use Rattle.expand_rules.specs.declared.cores.Flaws.{Flaws}
use Rattle.expand_rules.specs.Measures.{divisor_flaws}
use Rattle.expand_rules.specs.Counts.{both_counts, whole, index_count, stray_count, flawed_count}
use Rattle.expand_rules.specs.Assigning.{write_count, spread_nodes, spread_count, write_to, open_effect}
use Rattle.expand_rules.specs.Assigning.{array_effect, element_effect}
use Rattle.expand_rules.specs.Assigning.{indexed_effect, plain_slot, target_effect, index_formed, paired_effect}
use Rattle.expand_rules.specs.Assigning.{beside, is_large_effect, condition_count, is_beyond, is_outside}
use Rattle.expand_rules.specs.Assigning.{outside_effect}
use Rattle.expand_expressions.specs.declared.refusal.Refusal.{Refusal}
use Rattle.expand_assignments.specs.Adding.{written_effect, StopsAdding, TellsCount, is_large_count}
use Rattle.expand_assignments.proofs.EffectLaws.{tells as effect_tells, shows}

-- many nodes, or a great weight
pub record IsHeavy (m : Measure) : Type 0 where
  pub heavy : (65536 < whole m) ⊎ (2 ^ 62 < m.most)

pub record IsGreat (k : Count) : Type 0 where
  pub great : (65536 < k.size) ⊎ (2 ^ 62 < k.most)

pub past_tells : (f : Formed) → is_past f ≡ true →
    (2 ^ 62 < f.measure.most) ⊎ ((65536 < f.measure.quantified) ⊎ ((f.constant ≡ false) × (65536 < f.measure.size)))
past_tells f h = by (nat_le f.measure.most (2 ^ 62)) (nat_le f.measure.quantified 65536) f.constant
    (nat_le f.measure.size 65536) refl refl refl refl h
  where
    by : (a b k d : Bool) → nat_le f.measure.most (2 ^ 62) ≡ a → nat_le f.measure.quantified 65536 ≡ b →
        f.constant ≡ k → nat_le f.measure.size 65536 ≡ d → (not a || (not b || (not k && not d))) ≡ true →
        (2 ^ 62 < f.measure.most) ⊎ ((65536 < f.measure.quantified) ⊎
        ((f.constant ≡ false) × (65536 < f.measure.size)))
    by false b k d p q r e g = inl (leb-false f.measure.most (2 ^ 62) p)
    by true false k d p q r e g = inr (inl (leb-false f.measure.quantified 65536 q))
    by true true false false p q r e g = inr (inr (r, leb-false f.measure.size 65536 e))
    by true true false true p q r e g = cc
    by true true true d p q r e g = cc

pub heavy_of_past : (f : Formed) → is_past f ≡ true → IsHeavy f.measure
heavy_of_past f h = elim (past_tells f h) [
  | inl m ↦ record { heavy = inr m }
  | inr (inl q) ↦ record { heavy = inl (omega (arith, q)) }
  | inr (inr s) ↦ let b = s.1 in record { heavy = inl (omega (arith, b)) }
]

-- of a constant index only its quantifiers and its weight can be too large
constant_past : (f : Formed) → is_past f ≡ true → f.constant ≡ true → IsGreat (index_count f.measure)
constant_past f h c = elim (past_tells f h) [
  | inl m ↦ record { great = inr m }
  | inr (inl q) ↦ record { great = inl (omega (arith, q)) }
  | inr (inr s) ↦ absurd (let e : true ≡ false = sym c ∙ s.0 in cc)
]

great_second : (a b : Count) → IsGreat b → IsGreat (both_counts a b)
great_second a b g = elim g.great [
  | inl s ↦ record { great = inl (omega (arith, s)) }
  | inr m ↦ record { great = inr (omega (arith, m)) }
]

great_first : (a b : Count) → IsGreat a → IsGreat (both_counts a b)
great_first a b g = elim g.great [
  | inl s ↦ record { great = inl (omega (arith, s)) }
  | inr m ↦ record { great = inr (omega (arith, m)) }
]

value_great : (c v : Measure) → IsHeavy v → IsGreat (write_count c v)
value_great c v g = elim g.heavy [
  | inl s ↦ record { great = inl (omega (arith, s)) }
  | inr m ↦ record { great = inr (omega (arith, m)) }
]

condition_great : (c v : Measure) → IsHeavy c → IsGreat (write_count c v)
condition_great c v g = elim g.heavy [
  | inl s ↦ record { great = inl (omega (arith, s)) }
  | inr m ↦ record { great = inr (omega (arith, m)) }
]

stray_great : (i : Measure) → IsHeavy i → IsGreat (stray_count i)
stray_great i g = elim g.heavy [
  | inl s ↦ record { great = inl (omega (arith, s)) }
  | inr m ↦ record { great = inr m }
]

at_least_once : (n s : ℕ) → s ≤ max 1 n * s
at_least_once zero s = let e : max 1 0 ≡ 1 = omega arith in let f : 1 * s ≡ s = omega arith in
    subst (λ k. s ≤ k * s) (sym e) (omega (arith, f))
at_least_once (suc n) s = let e : max 1 (suc n) ≡ suc n = omega arith in let f : suc n * s ≡ s + n * s = omega arith
    in
    subst (λ k. s ≤ k * s) (sym e) (omega (arith, f))

spread_holds : (n i c v : ℕ) → c + i + v ≤ spread_nodes (max 1 n) i c v
spread_holds n i c v = let l = at_least_once n (c + i + v + 4) in omega (arith, l)

spread_great : (n : ℕ) (ends : ℤ × ℤ) (i c v : Measure) → IsHeavy i ⊎ (IsHeavy c ⊎ IsHeavy v) →
    IsGreat (spread_count n ends i c v)
spread_great n ends i c v h = let l = spread_holds n (whole i) (whole c) (whole v) in elim h [
  | inl a ↦ elim a.heavy [
    | inl s ↦ record { great = inl (omega (arith, l, s)) }
    | inr m ↦ record { great = inr (omega (arith, m)) }
  ]
  | inr (inl a) ↦ elim a.heavy [
    | inl s ↦ record { great = inl (omega (arith, l, s)) }
    | inr m ↦ record { great = inr (omega (arith, m)) }
  ]
  | inr (inr a) ↦ elim a.heavy [
    | inl s ↦ record { great = inl (omega (arith, l, s)) }
    | inr m ↦ record { great = inr (omega (arith, m)) }
  ]
]

written : (slot : Option ℕ) (c : CForm) (v : CTerm) (k : Count) → IsGreat k → IsGreat (write_to slot c v k).count
written None c v k g = g
written (Some n) c v k g = g

-- a value or a condition that is too large, in an array's write, in one astray, and in any
array_great : (i : Formed) (first : ℕ) (ends : ℤ × ℤ) (c v : Formed) → IsHeavy c.measure ⊎ IsHeavy v.measure →
    IsGreat (array_effect i first ends c v).count
array_great i first ends c v h = by i.constant
  where
    write : IsGreat (write_count c.measure v.measure)
    write = elim h [
      | inl a ↦ condition_great c.measure v.measure a
      | inr a ↦ value_great c.measure v.measure a
    ]

    by : (b : Bool) → IsGreat (cond b
        (write_to (option_and_then (λ k. slot_at first (Some ends) (Some k)) (number_of (term_of i.core)))
        (form_of c.core)
        (term_of v.core) (both_counts (index_count i.measure) (write_count c.measure v.measure)))
        (open_effect (term_of i.core) ends first (form_of c.core) (term_of v.core)
        (spread_count (range_size ends) ends i.measure c.measure v.measure))).count
    by true = written (option_and_then (λ k. slot_at first (Some ends) (Some k)) (number_of (term_of i.core)))
        (form_of c.core) (term_of v.core) (both_counts (index_count i.measure) (write_count c.measure v.measure))
        (great_second (index_count i.measure) (write_count c.measure v.measure) write)
    by false = spread_great (range_size ends) ends i.measure c.measure v.measure (inr h)

write_great : (c v : Formed) → IsHeavy c.measure ⊎ IsHeavy v.measure → IsGreat (write_count c.measure v.measure)
write_great c v h = elim h [
  | inl a ↦ condition_great c.measure v.measure a
  | inr a ↦ value_great c.measure v.measure a
]

indexed_great : (x : Option Variable) (i c v : Formed) → IsHeavy c.measure ⊎ IsHeavy v.measure →
    IsGreat (indexed_effect i x c v).count
indexed_great None i c v h = great_second (stray_count i.measure) (write_count c.measure v.measure)
    (write_great c v h)
indexed_great (Some x) i c v h = by x.indices
  where
    by : (ends : Option (ℤ × ℤ)) → IsGreat (element_effect i x.first ends c v).count
    by None = great_second (stray_count i.measure) (write_count c.measure v.measure) (write_great c v h)
    by (Some ends) = array_great i x.first ends c v h

-- a condition is a part of the write, and of what stands in its place
outside_great : (i c : Formed) (left : Count) → IsHeavy c.measure → IsGreat (outside_effect i c left).count
outside_great i c left h = great_first (both_counts (index_count i.measure) (condition_count c.measure)) left
    (great_second (index_count i.measure) (condition_count c.measure) (stray_great c.measure h))

pub target_great : (x : Option Variable) (i : Option Formed) (c v : Formed) (left : Count) → IsHeavy c.measure →
    IsGreat (target_effect x i c v left).count
target_great x None c v left h = written (plain_slot x) (form_of c.core) (term_of v.core)
    (write_count c.measure v.measure) (condition_great c.measure v.measure h)
target_great x (Some i) c v left h = by (is_outside i x)
  where
    by : (b : Bool) → IsGreat (cond b (outside_effect i c left) (written_effect i x c v)).count
    by true = outside_great i c left h
    by false = indexed_great x i c v (inl h)

-- an index that is too large
index_array_great : (i : Formed) (first : ℕ) (ends : ℤ × ℤ) (c v : Formed) → is_past i ≡ true →
    IsGreat (array_effect i first ends c v).count
index_array_great i first ends c v h = elim i.constant as (λ b. i.constant ≡ b → IsGreat (cond b
    (write_to (option_and_then (λ k. slot_at first (Some ends) (Some k)) (number_of (term_of i.core)))
    (form_of c.core)
    (term_of v.core) (both_counts (index_count i.measure) (write_count c.measure v.measure)))
    (open_effect (term_of i.core) ends first (form_of c.core) (term_of v.core)
    (spread_count (range_size ends) ends i.measure c.measure v.measure))).count) [
      | true ↦ λ e. written (option_and_then (λ k. slot_at first (Some ends) (Some k)) (number_of (term_of i.core)))
          (form_of c.core) (term_of v.core) (both_counts (index_count i.measure) (write_count c.measure v.measure))
          (great_first (index_count i.measure) (write_count c.measure v.measure) (constant_past i h e))
      | false ↦ λ e. spread_great (range_size ends) ends i.measure c.measure v.measure (inl (heavy_of_past i h))
    ] refl

index_great : (x : Option Variable) (i c v : Formed) → is_past i ≡ true → IsGreat (written_effect i x c v).count
index_great None i c v h = great_first (stray_count i.measure) (write_count c.measure v.measure)
    (stray_great i.measure (heavy_of_past i h))
index_great (Some x) i c v h = by x.indices
  where
    by : (ends : Option (ℤ × ℤ)) → IsGreat (element_effect i x.first ends c v).count
    by None = great_first (stray_count i.measure) (write_count c.measure v.measure)
        (stray_great i.measure (heavy_of_past i h))
    by (Some ends) = index_array_great i x.first ends c v h

-- the whole is too large where a part counts so much
pub great_beside : (a e : Effect) → IsGreat e.count → is_large_effect (beside a e) ≡ true
great_beside a e g = elim g.great [
  | inl s ↦ shows (beside a e) (record { large = inl (omega (arith, s)) })
  | inr m ↦ shows (beside a e) (record { large = inr (omega (arith, m)) })
]

pub past_value : (a : Effect) (x : Option Variable) (c v : Formed) (left : Count) → is_past v ≡ true →
    is_large_effect (beside a (target_effect x None c v left)) ≡ true
past_value a x c v left h = great_beside a (target_effect x None c v left)
    (written (plain_slot x) (form_of c.core) (term_of v.core) (write_count c.measure v.measure)
    (value_great c.measure v.measure (heavy_of_past v h)))

pub past_written : (a : Effect) (x : Option Variable) (i c v : Formed) → is_past v ≡ true →
    is_large_effect (beside a (written_effect i x c v)) ≡ true
past_written a x i c v h =
    great_beside a (written_effect i x c v) (indexed_great x i c v (inr (heavy_of_past v h)))

-- what is left of a value
pub great_tells : (n : Count) → is_large_count n ≡ true → IsGreat n
great_tells n h =
    record { great = (effect_tells (record { outside = []; writes = []; exact = true; count = n }) h).large }

pub great_shows : (n : Count) → IsGreat n → is_large_count n ≡ true
great_shows n g = shows (record { outside = []; writes = []; exact = true; count = n }) (record { large = g.great })

past_outside : (a : Effect) (i c : Formed) (left : Count) → is_large_count left ≡ true →
    is_large_effect (beside a (outside_effect i c left)) ≡ true
past_outside a i c left h = great_beside a (outside_effect i c left)
    (great_second (both_counts (index_count i.measure) (condition_count c.measure)) left (great_tells left h))

pub halts_outside : (refusal : Refusal) (a : Effect) (i c : Formed) (left : Count) → TellsCount (Err refusal) left →
    StopsAdding refusal a (outside_effect i c left)
halts_outside Refusal.Memory a i c left h = tt
halts_outside Refusal.TooLarge a i c left h = past_outside a i c left h

-- and of a divisor in it
divisor_great : (at : ℕ) (b : Formed) → is_past b ≡ true → IsGreat (divisor_count at b)
divisor_great at b h = elim b.constant as (λ v. b.constant ≡ v →
    IsGreat (flawed_count (divisor_flaws (bad_divisor at b))
    (cond v (index_count b.measure) (stray_count b.measure)))) [
      | true ↦ λ e. flawed (divisor_flaws (bad_divisor at b)) (index_count b.measure) (constant_past b h e)
      | false ↦ λ e. flawed (divisor_flaws (bad_divisor at b)) (stray_count b.measure)
          (stray_great b.measure (heavy_of_past b h))
    ] refl
  where
    flawed : (flaws : Flaws) (n : Count) → IsGreat n → IsGreat (flawed_count flaws n)
    flawed flaws n g = record { great = g.great }

pub divisor_past : (at : ℕ) (b : Formed) → is_past b ≡ true → is_large_count (divisor_count at b) ≡ true
divisor_past at b h = great_shows (divisor_count at b) (divisor_great at b h)

-- a constant index that is too large
index_outside : (i c : Formed) (left : Count) → is_past i ≡ true → i.constant ≡ true →
    IsGreat (outside_effect i c left).count
index_outside i c left h e = great_first (both_counts (index_count i.measure) (condition_count c.measure)) left
    (great_first (index_count i.measure) (condition_count c.measure) (constant_past i h e))

outside_constant : (i : Formed) (x : Option Variable) → is_outside i x ≡ true → i.constant ≡ true
outside_constant i None h = cc
outside_constant i (Some x) h = by x.indices h
  where
    first : (a b : Bool) → (a && b) ≡ true → a ≡ true
    first true b q = refl
    first false b q = q

    by : (ends : Option (ℤ × ℤ)) → is_beyond i x.first ends ≡ true → i.constant ≡ true
    by None q = cc
    by (Some ends) q = first i.constant _ q

pub past_index : (a : Effect) (x : Option Variable) (i c v : Formed) (left : Count) → is_past i ≡ true →
    is_large_effect (beside a (target_effect x (Some i) c v left)) ≡ true
past_index a x i c v left h = great_beside a (target_effect x (Some i) c v left)
    (elim (is_outside i x) as (λ b. is_outside i x ≡ b →
    IsGreat (cond b (outside_effect i c left) (written_effect i x c v)).count) [
      | true ↦ λ e. index_outside i c left h (outside_constant i x e)
      | false ↦ λ e. index_great x i c v h
    ] refl)

-- a condition is a part of the first write
pub past_condition : (s : Scope) (t : Target) (ts : List Target) (e : Expr) (es : List Expr) (c : Formed) →
    is_past c ≡ true → IsGreat (paired_effect s (t ∷ ts) (e ∷ es) c).count
past_condition s t ts e es c h =
    let first = target_effect (variable_named t.name.text s.variables) (index_formed s t.index) c
    (as_number (formed e s)) (unwritten_count e s) in
    great_first first.count (paired_effect s ts es c).count
    (target_great (variable_named t.name.text s.variables) (index_formed s t.index) c (as_number (formed e s))
    (unwritten_count e s) (heavy_of_past c h))
