-- Calls that add to an effect, one after another, and where they stop.
use Rattle.std.proofs.Common.{◌≡◌, ℕ, zero, suc, ◌+◌, ◌-◌, ◌<◌, ◌≤◌, min, nat_le, ℤ, pos, ◌+ℤ◌, List, [], ◌∷◌, map}
use Rattle.std.proofs.Common.{cond, fold, drop, get_or, length, Bool, true, false, ◌&&◌, Option, Some, None, Result, Ok}
use Rattle.std.proofs.Common.{Err, refl, sym, ap, ◌∙◌, subst, arith}
use Rattle.std.proofs.lemmas.Int.{ints}
use Rattle.std.proofs.lemmas.Bool.{leb-true, leb-false}
use Rattle.std.proofs.Math.Seq.{drop-cons}
use Rattle.unity_syntax.specs.declared.expression.Expr.{Expr}
use Rattle.unity_syntax.specs.declared.statement.Target.{Target}
use Rattle.unity_syntax.specs.declared.statement.Values.{Values}
use Rattle.meaning_documents.specs.Names.{Variable}
use Rattle.meaning_executions.specs.Counting.{count_up}
use Rattle.meaning_documents.specs.Names.{variable_named}
use Rattle.expand_rules.specs.declared.cores.Formed.{Formed}
use Rattle.expand_rules.specs.declared.effects.Effect.{Effect}
use Rattle.expand_rules.specs.Forming.{Scope, as_number, formed, form_of, term_of, unwritten_count}
use Rattle.expand_rules.specs.Assigning.{beside, nothing, one_more, exactly, condition, write_to, write_count}
use Rattle.expand_rules.specs.Assigning.{plain_slot, indexed_effect, index_formed, target_effect, paired_effect}
use Rattle.expand_rules.specs.Assigning.{alternative_effect, is_large_effect}
use Rattle.expand_expressions.specs.declared.refusal.Refusal.{Refusal}
use Rattle.expand_assignments.specs.Adding.{with_range, Adds, AddsAll, CountsPart, StopsAdding, GivesNumber, GivesTruth}
use Rattle.expand_assignments.specs.Adding.{one_node, with_count}
use Rattle.expand_assignments.proofs.EffectLaws.{ranged, ranged_beside, beside_assoc, beside_nothing, exactly_beside}
use Rattle.expand_assignments.proofs.EffectLaws.{one_more_beside, fold_beside, all_beside_nothing, large_beside}
use Rattle.expand_assignments.proofs.EffectLaws.{large_fold, large_one_more}
use Rattle.expand_assignments.proofs.PastLaws.{past_value, past_written, past_index, past_condition, great_beside}
use Rattle.expand_rules.specs.declared.effects.Count.{Count}
use Rattle.expand_rules.specs.Assigning.{is_outside, outside_effect}
use Rattle.expand_assignments.specs.Adding.{written_effect}

-- where a part is too large

pub halts_value : (r : Refusal) (a : Effect) (x : Option Variable) (c v : Formed) (left : Count) →
    GivesNumber (Err r) v → StopsAdding r a (target_effect x None c v left)
halts_value Refusal.Memory a x c v left h = tt
halts_value Refusal.TooLarge a x c v left h = past_value a x c v left h

pub halts_written : (r : Refusal) (a : Effect) (x : Option Variable) (i c v : Formed) → GivesNumber (Err r) v →
    StopsAdding r a (written_effect i x c v)
halts_written Refusal.Memory a x i c v h = tt
halts_written Refusal.TooLarge a x i c v h = past_written a x i c v h

pub halts_index : (r : Refusal) (a : Effect) (x : Option Variable) (i c v : Formed) (left : Count) →
    GivesNumber (Err r) i → StopsAdding r a (target_effect x (Some i) c v left)
halts_index Refusal.Memory a x i c v left h = tt
halts_index Refusal.TooLarge a x i c v left h = past_index a x i c v left h

-- the two ways of a target with an index
outside_or_written : (b : Bool) (x : Option Variable) (i c v : Formed) (left : Count) → is_outside i x ≡ b →
    target_effect x (Some i) c v left ≡ cond b (outside_effect i c left) (written_effect i x c v)
outside_or_written b x i c v left h = ap (λ k. cond k (outside_effect i c left) (written_effect i x c v)) h

pub adds_outside : (r : Result (Unit {0}) Refusal) (old new : Effect) (x x' : Option Variable) (i i' c v : Formed)
    (left : Count) → x' ≡ x → i' ≡ i → is_outside i' x' ≡ true → Adds r old new (outside_effect i' c left) →
    Adds r old new (target_effect x (Some i) c v left)
adds_outside r old new x x' i i' c v left p q o h = subst (λ e. Adds r old new e)
    (sym (outside_or_written true x' i' c v left o) ∙ ap (λ y. target_effect y (Some i') c v left) p
    ∙ ap (λ j. target_effect x (Some j) c v left) q) h

pub adds_written : (r : Result (Unit {0}) Refusal) (old new : Effect) (x x' : Option Variable) (i i' c v : Formed)
    (left : Count) → x' ≡ x → i' ≡ i → is_outside i' x' ≡ false → Adds r old new (written_effect i' x' c v) →
    Adds r old new (target_effect x (Some i) c v left)
adds_written r old new x x' i i' c v left p q o h = subst (λ e. Adds r old new e)
    (sym (outside_or_written false x' i' c v left o) ∙ ap (λ y. target_effect y (Some i') c v left) p
    ∙ ap (λ j. target_effect x (Some j) c v left) q) h

pub halts_condition : (r : Refusal) (a : Effect) (s : Scope) (t : Target) (ts : List Target) (vs : Values)
    (e : Option Expr) → GivesTruth (Err r) (condition s e) → StopsAdding r a (alternative_effect s (t ∷ ts) (vs, e))
halts_condition Refusal.Memory a s t ts vs e h = tt
halts_condition Refusal.TooLarge a s t ts vs e h =
    let p = paired_effect s (t ∷ ts) (vs.first ∷ vs.rest) (condition s e) in
    let b = (condition s e).exact in
    large_one_more a (exactly b p) (great_beside a (exactly b p)
    (past_condition s t ts vs.first vs.rest (condition s e) h))

pub halts_exactly : (r : Refusal) (b : Bool) (a x : Effect) → StopsAdding r a x → StopsAdding r a (exactly b x)
halts_exactly Refusal.Memory b a x h = tt
halts_exactly Refusal.TooLarge b a x h = h

pub halts_one_more : (r : Refusal) (a x : Effect) → StopsAdding r a x → StopsAdding r a (one_more x)
halts_one_more Refusal.Memory a x h = tt
halts_one_more Refusal.TooLarge a x h = large_one_more a x h

-- the first of two, and the second after it
pub halts_first : (r : Refusal) (a x y : Effect) → StopsAdding r a x → StopsAdding r a (beside x y)
halts_first Refusal.Memory a x y h = tt
halts_first Refusal.TooLarge a x y h =
    subst (λ e. is_large_effect e ≡ true) (beside_assoc a x y) (large_beside (beside a x) y h)

pub halts_second : (r : Refusal) (a mid x y : Effect) → mid ≡ beside a x → StopsAdding r mid y →
    StopsAdding r a (beside x y)
halts_second Refusal.Memory a mid x y e h = tt
halts_second Refusal.TooLarge a mid x y e h =
    subst (λ m. is_large_effect m ≡ true) (ap (λ m. beside m y) e ∙ beside_assoc a x y) h

pub adds_second : (r : Result (Unit {0}) Refusal) (old mid new x y : Effect) → mid ≡ beside old x → Adds r mid new y →
    Adds r old new (beside x y)
adds_second (Ok t) old mid new x y e h = h ∙ ap (λ m. beside m y) e ∙ beside_assoc old x y
adds_second (Err r) old mid new x y e h = halts_second r old mid x y e h

-- one node more
pub adds_one : (r : Result (Unit {0}) Refusal) (old mid new x : Effect) → mid ≡ beside old x →
    CountsPart r mid new one_node → Adds r old new (one_more x)
adds_one (Ok t) old mid new x e h = h.0 ∙ ap (λ m. with_count m one_node) e ∙ one_more_beside old x
adds_one (Err Refusal.Memory) old mid new x e h = tt
adds_one (Err Refusal.TooLarge) old mid new x e h =
    subst (λ m. is_large_effect m ≡ true) (ap (λ m. with_count m one_node) e ∙ one_more_beside old x) h

-- an effect that is exact only where this is so
pub marked : (b : Bool) (old mid new x : Effect) → mid ≡ beside old x → new ≡ record mid { exact = mid.exact && b } →
    new ≡ beside old (exactly b x)
marked b old mid new x e h = h ∙ ap (λ (m : Effect). record m { exact = m.exact && b }) e ∙ exactly_beside b old x

-- all of a list

pub adds_all_beside : (r : Result (Unit {0}) Refusal) (old new : Effect) (es : List Effect) → old.count.size ≤ 65537 →
    AddsAll r old new es → Adds r old new (fold beside nothing es)
adds_all_beside (Ok t) old new es l h = h ∙ sym (all_beside_nothing old es l)
adds_all_beside (Err Refusal.Memory) old new es l h = tt
adds_all_beside (Err Refusal.TooLarge) old new es l h =
    subst (λ m. is_large_effect m ≡ true) (sym (all_beside_nothing old es l)) h

pub adds_all_after : (r : Result (Unit {0}) Refusal) (old mid new x : Effect) (es : List Effect) → mid ≡ beside old x
    →
    AddsAll r mid new es → Adds r old new (fold beside x es)
adds_all_after (Ok t) old mid new x es e h = h ∙ ap (λ m. fold beside m es) e ∙ sym (fold_beside old x es)
adds_all_after (Err Refusal.Memory) old mid new x es e h = tt
adds_all_after (Err Refusal.TooLarge) old mid new x es e h =
    subst (λ m. is_large_effect m ≡ true) (ap (λ m. fold beside m es) e ∙ sym (fold_beside old x es)) h

-- where the first of a list is too large, or one after some
pub halts_all : (r : Refusal) (old x : Effect) (es : List Effect) → StopsAdding r old x →
    StopsAdding r old (fold beside x es)
halts_all Refusal.Memory old x es h = tt
halts_all Refusal.TooLarge old x es h =
    subst (λ m. is_large_effect m ≡ true) (sym (fold_beside old x es)) (large_fold (beside old x) es h)

pub all_halts : (r : Refusal) (old new now x : Effect) (left es : List Effect) →
    fold beside (beside now x) left ≡ fold beside old es → StopsAdding r now x → AddsAll (Err r) old new es
all_halts Refusal.Memory old new now x left es e h = tt
all_halts Refusal.TooLarge old new now x left es e h =
    subst (λ m. is_large_effect m ≡ true) e (large_fold (beside now x) left h)

-- what is left of a list, from one item to the next
pub left_of : {X : Type 0} (f : X → Effect) (xs : List X) (i : ℕ) (d : X) (now : Effect) → i < length xs →
    fold beside now (map f (drop i xs)) ≡ fold beside (beside now (f (get_or xs i d))) (map f (drop (i + 1) xs))
left_of f xs i d now h =
    let e : suc i ≡ i + 1 = omega arith in
    ap (λ ys. fold beside now (map f ys)) (drop-cons xs i d h)
    ∙ ap (λ k. fold beside (beside now (f (get_or xs i d))) (map f (drop k xs))) e

pub left_numbers : (f : ℤ → Effect) (first : ℤ) (i n : ℕ) (now : Effect) → i < n →
    fold beside now (map f (count_up (first +ℤ pos i) (n - i))) ≡
    fold beside (beside now (f (first +ℤ pos i))) (map f (count_up (first +ℤ pos (i + 1)) (n - (i + 1))))
left_numbers f first i n now h =
    let m : n - i ≡ suc (n - (i + 1)) = omega arith in
    let z : (first +ℤ pos i) +ℤ pos 1 ≡ first +ℤ pos (i + 1) = omega (arith, ints) in
    ap (λ k. fold beside now (map f (count_up (first +ℤ pos i) k))) m
    ∙ ap (λ y. fold beside (beside now (f (first +ℤ pos i))) (map f (count_up y (n - (i + 1))))) z

-- pairs of targets and values

pub left_pairs : (s : Scope) (ts : List Target) (es : List Expr) (i : ℕ) (t : Target) (e : Expr) (c : Formed) →
    i < length ts → i < length es → get_or ts i t ≡ t → get_or es i e ≡ e →
    paired_effect s (drop i ts) (drop i es) c ≡ beside
    (target_effect (variable_named t.name.text s.variables) (index_formed s t.index) c (as_number (formed e s))
    (unwritten_count e s)) (paired_effect s (drop (i + 1) ts) (drop (i + 1) es) c)
left_pairs s ts es i t e c h k p q =
    let next : suc i ≡ i + 1 = omega arith in
    ap (λ xs. paired_effect s xs (drop i es) c) (drop-cons ts i t h ∙ ap (λ x. x ∷ drop (suc i) ts) p)
    ∙ ap (λ xs. paired_effect s (t ∷ drop (suc i) ts) xs c) (drop-cons es i e k ∙ ap (λ x. x ∷ drop (suc i) es) q)
    ∙ ap (λ j. beside (target_effect (variable_named t.name.text s.variables) (index_formed s t.index) c
    (as_number (formed e s)) (unwritten_count e s)) (paired_effect s (drop j ts) (drop j es) c)) next

none_left : {X : Type 0} (xs : List X) (i : ℕ) → length xs ≤ i → drop i xs ≡ []
none_left [] zero h = refl
none_left [] (suc i) h = refl
none_left (x ∷ xs) zero h = absurd (let l : suc (length xs) ≤ 0 = h in omega arith)
none_left (x ∷ xs) (suc i) h = none_left xs i (let l : suc (length xs) ≤ suc i = h in omega arith)

paired_nothing : (s : Scope) (ts : List Target) (c : Formed) → paired_effect s ts [] c ≡ nothing
paired_nothing s [] c = refl
paired_nothing s (t ∷ ts) c = refl

pub no_pairs_left : (s : Scope) (ts : List Target) (es : List Expr) (i : ℕ) (c : Formed) →
    min (length ts) (length es) ≤ i → paired_effect s (drop i ts) (drop i es) c ≡ nothing
no_pairs_left s ts es i c h = elim (nat_le (length ts) i) as (λ b. nat_le (length ts) i ≡ b →
    paired_effect s (drop i ts) (drop i es) c ≡ nothing) [
      | true ↦ λ e. let l = leb-true (length ts) i e in
          ap (λ xs. paired_effect s xs (drop i es) c) (none_left ts i l)
      | false ↦ λ e. let l = leb-false (length ts) i e in
          ap (λ xs. paired_effect s (drop i ts) xs c) (none_left es i (omega arith)) ∙ paired_nothing s (drop i ts) c
    ] refl

-- the write of a target, by the parts that calls gave

same_written : (x x' : Option Variable) (i c v v' : Formed) → x' ≡ x → v' ≡ v →
    indexed_effect i x' c v' ≡ indexed_effect i x c v
same_written x x' i c v v' p r = ap (λ y. indexed_effect i y c v') p ∙ ap (indexed_effect i x c) r

pub indexed_halts : (refusal : Refusal) (a : Effect) (x : Option Variable) (i c v v' : Formed) → v' ≡ v →
    StopsAdding refusal a (indexed_effect i x c v') → StopsAdding refusal a (written_effect i x c v)
indexed_halts refusal a x i c v v' r h = halts_exactly refusal (v.exact && i.exact) a
    (indexed_effect i x c v) (subst (λ e. StopsAdding refusal a e) (same_written x x i c v v' refl r) h)

pub indexed_done : (old mid new : Effect) (x : Option Variable) (i c v v' : Formed) → v' ≡ v →
    mid ≡ beside old (indexed_effect i x c v') → new ≡ record mid { exact = mid.exact && (v'.exact && i.exact) } →
    new ≡ beside old (written_effect i x c v)
indexed_done old mid new x i c v v' r m n =
    marked (v.exact && i.exact) old mid new (indexed_effect i x c v)
    (m ∙ ap (beside old) (same_written x x i c v v' refl r))
    (n ∙ ap (λ (f : Formed). record mid { exact = mid.exact && (f.exact && i.exact) }) r)

abbrev plainly : Option Variable → Formed → Formed → Effect
plainly x c v = write_to (plain_slot x) (form_of c.core) (term_of v.core) (write_count c.measure v.measure)

pub plain_halts : (refusal : Refusal) (a : Effect) (x x' : Option Variable) (c v v' : Formed) (left : Count) →
    x' ≡ x → v' ≡ v →
    StopsAdding refusal a (write_to (plain_slot x') (form_of c.core) (term_of v'.core)
    (write_count c.measure v'.measure)) →
    StopsAdding refusal a (target_effect x None c v left)
plain_halts refusal a x x' c v v' left p r h = halts_exactly refusal v.exact a (plainly x c v)
    (subst (λ e. StopsAdding refusal a e) (ap (λ y. plainly y c v') p ∙ ap (plainly x c) r) h)

pub plain_done : (old mid new : Effect) (x x' : Option Variable) (c v v' : Formed) (left : Count) → x' ≡ x →
    v' ≡ v →
    mid ≡ beside old (write_to (plain_slot x') (form_of c.core) (term_of v'.core) (write_count c.measure v'.measure))
    →
    new ≡ record mid { exact = mid.exact && v'.exact } → new ≡ beside old (target_effect x None c v left)
plain_done old mid new x x' c v v' left p r m n = marked v.exact old mid new (plainly x c v)
    (m ∙ ap (beside old) (ap (λ y. plainly y c v') p ∙ ap (plainly x c) r))
    (n ∙ ap (λ (f : Formed). record mid { exact = mid.exact && f.exact }) r)

pub pairs_next : (s : Scope) (ts : List Target) (es : List Expr) (i : ℕ) (t : Target) (e : Expr) (c : Formed)
    (now new whole : Effect) → i < min (length ts) (length es) → get_or ts i t ≡ t → get_or es i e ≡ e →
    new ≡ beside now (target_effect (variable_named t.name.text s.variables) (index_formed s t.index) c
    (as_number (formed e s)) (unwritten_count e s)) →
    beside now (paired_effect s (drop i ts) (drop i es) c) ≡ whole →
    (beside new (paired_effect s (drop (i + 1) ts) (drop (i + 1) es) c) ≡ whole) × (new.count.size ≤ 65537)
pairs_next s ts es i t e c now new whole h p q n w =
    let x = target_effect (variable_named t.name.text s.variables) (index_formed s t.index) c
    (as_number (formed e s)) (unwritten_count e s) in
    let rest = paired_effect s (drop (i + 1) ts) (drop (i + 1) es) c in (
      ap (λ m. beside m rest) n ∙ beside_assoc now x rest
          ∙ ap (beside now) (sym (left_pairs s ts es i t e c (omega arith) (omega arith) p q)) ∙ w,
      let size : new.count.size ≡ (beside now x).count.size = ap (λ (m : Effect). m.count.size) n in omega
          (arith, size),
    )

pub pairs_end : (s : Scope) (ts : List Target) (es : List Expr) (i : ℕ) (c : Formed) (now whole : Effect) →
    min (length ts) (length es) ≤ i → now.count.size ≤ 65537 →
    beside now (paired_effect s (drop i ts) (drop i es) c) ≡ whole → now ≡ whole
pairs_end s ts es i c now whole h l w =
    sym (beside_nothing now l) ∙ ap (beside now) (sym (no_pairs_left s ts es i c h)) ∙ w

-- one more at the front of a list

pub halts_front : (r : Refusal) (old new x : Effect) (xs : List Effect) → StopsAdding r old x → AddsAll (Err r) old new
    (x ∷ xs)
halts_front Refusal.Memory old new x xs h = tt
halts_front Refusal.TooLarge old new x xs h = large_fold (beside old x) xs h

pub adds_front : (r : Result (Unit {0}) Refusal) (old mid new x : Effect) (xs : List Effect) → mid ≡ beside old x →
    AddsAll r mid new xs → AddsAll r old new (x ∷ xs)
adds_front (Ok t) old mid new x xs e h = h ∙ ap (λ m. fold beside m xs) e
adds_front (Err Refusal.Memory) old mid new x xs e h = tt
adds_front (Err Refusal.TooLarge) old mid new x xs e h =
    subst (λ m. is_large_effect m ≡ true) (ap (λ m. fold beside m xs) e) h

pub map-map : {A B C : Type 0} (f : B → C) (g : A → B) (xs : List A) → map f (map g xs) ≡ map (λ x. f (g x)) xs
map-map f g [] = refl
map-map f g (x ∷ xs) = ap (λ ys. f (g x) ∷ ys) (map-map f g xs)

-- ranges

pub halts_ranged : (r : Refusal) (b : Bool) (place : Option ℕ) (a x : Effect) → StopsAdding r a x →
    StopsAdding r a (one_more (ranged b place x))
halts_ranged Refusal.Memory b place a x h = tt
halts_ranged Refusal.TooLarge b place a x h = large_one_more a (ranged b place x) h

pub ranged_done : (b : Bool) (place : Option ℕ) (old mid new x : Effect) → mid ≡ beside old x →
    new ≡ with_range b place mid → new ≡ beside old (ranged b place x)
ranged_done b place old mid new x m n = n ∙ ap (with_range b place) m ∙ ranged_beside b place old x

-- one more instance, and one more component

size_of : (new now x : Effect) → new ≡ beside now x → new.count.size ≤ 65537
size_of new now x n =
    let size : new.count.size ≡ (beside now x).count.size = ap (λ (m : Effect). m.count.size) n in omega (arith, size)

pub numbers_next : (f : ℤ → Effect) (first : ℤ) (i n : ℕ) (now new whole : Effect) → i < n →
    fold beside now (map f (count_up (first +ℤ pos i) (n - i))) ≡ whole → new ≡ beside now (f (first +ℤ pos i)) →
    (fold beside new (map f (count_up (first +ℤ pos (i + 1)) (n - (i + 1)))) ≡ whole) × (new.count.size ≤ 65537)
numbers_next f first i n now new whole h w e = (
  ap (λ m. fold beside m (map f (count_up (first +ℤ pos (i + 1)) (n - (i + 1))))) e
      ∙ sym (left_numbers f first i n now h) ∙ w,
  size_of new now (f (first +ℤ pos i)) e,
)

pub numbers_end : (f : ℤ → Effect) (first : ℤ) (i n : ℕ) (now whole : Effect) → n ≤ i →
    fold beside now (map f (count_up (first +ℤ pos i) (n - i))) ≡ whole → now ≡ whole
numbers_end f first i n now whole h w =
    let none : n - i ≡ 0 = omega arith in
    sym (ap (λ k. fold beside now (map f (count_up (first +ℤ pos i) k))) none) ∙ w

pub numbers_halt : (r : Refusal) (f : ℤ → Effect) (first : ℤ) (i n : ℕ) (old new now : Effect) → i < n →
    fold beside now (map f (count_up (first +ℤ pos i) (n - i))) ≡ fold beside old (map f (count_up first n)) →
    StopsAdding r now (f (first +ℤ pos i)) → AddsAll (Err r) old new (map f (count_up first n))
numbers_halt r f first i n old new now h w k = all_halts r old new now (f (first +ℤ pos i))
    (map f (count_up (first +ℤ pos (i + 1)) (n - (i + 1)))) (map f (count_up first n))
    (sym (left_numbers f first i n now h) ∙ w) k
