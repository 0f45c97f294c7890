-- Effects beside one another, and which are too large.
use Rattle.std.proofs.Common.{◌≡◌, ℕ, ◌+◌, ◌^◌, ◌<◌, ◌≤◌, max, ℤ, List, [], ◌∷◌, ◌++◌, fold, Bool, true, false}
use Rattle.std.proofs.Common.{cond, not, ◌&&◌, ◌||◌, Option, Some, ◌⊎◌, inl, inr, nat_le, append_assoc}
use Rattle.std.proofs.Common.{append-nil, refl, sym, ap, ◌∙◌, subst, arith}
use Rattle.std.proofs.lemmas.Bool.{leb-false, lt-leb}
use Rattle.std.proofs.Math.Bool.{and_assoc}
use Rattle.core_terms.specs.declared.trees.CForm.{CForm}
use Rattle.core_terms.specs.declared.programs.CWrite.{CWrite}
use Rattle.core_terms.specs.Folding.{number_of}
use Rattle.meaning_documents.specs.Names.{slot_at}
use Rattle.meaning_executions.specs.Counting.{range_size}
use Rattle.std.specs.Option.{option_and_then}
use Rattle.expand_rules.specs.declared.cores.Formed.{Formed}
use Rattle.expand_rules.specs.declared.effects.Count.{Count}
use Rattle.expand_rules.specs.declared.effects.Effect.{Effect}
use Rattle.expand_rules.specs.declared.cores.Flaws.{Flaws}
use Rattle.expand_rules.specs.Measures.{counted, no_flaws, both_flaws, range_flaws}
use Rattle.expand_rules.specs.Counts.{no_count, both_counts, index_count, ranged_count}
use Rattle.expand_assignments.specs.Adding.{with_count, one_node}
use Rattle.expand_rules.specs.Forming.{term_of, form_of}
use Rattle.expand_rules.specs.Assigning.{write_count, spread_count, write_to, open_effect, array_effect, one_more}
use Rattle.expand_rules.specs.Assigning.{nothing, beside, exactly, is_large_effect}
use Rattle.expand_rules.proofs.FlawLaws.{flaws_none, flaws_assoc, flaws_swap}

abbrev made : List CForm → List CWrite → Bool → Count → Effect
made a v x m = record { outside = a; writes = v; exact = x; count = m }

same_effect : (a b : List CForm) (v w : List CWrite) (x y : Bool) (m n : Count) → a ≡ b → v ≡ w → x ≡ y → m ≡ n →
    made a v x m ≡ made b w y n
same_effect a b v w x y m n p q r s =
    ap (λ k. made k v x m) p ∙ ap (λ k. made b k x m) q ∙ ap (λ k. made b w k m) r ∙ ap (made b w y) s

abbrev count_made : ℕ → ℕ → Flaws → Count
count_made size most flaws = record { size = size; most = most; flaws = flaws }

same_counts : (a b c d : ℕ) (x y : Flaws) → a ≡ b → c ≡ d → x ≡ y → count_made a c x ≡ count_made b d y
same_counts a b c d x y p q r =
    ap (λ k. count_made k c x) p ∙ ap (λ k. count_made b k x) q ∙ ap (count_made b d) r

counts_assoc : (a b c : Count) → both_counts (both_counts a b) c ≡ both_counts a (both_counts b c)
counts_assoc a b c = same_counts (counted (counted (a.size + b.size) + c.size))
    (counted (a.size + counted (b.size + c.size)))
    (max (max a.most b.most) c.most) (max a.most (max b.most c.most))
    (both_flaws (both_flaws a.flaws b.flaws) c.flaws) (both_flaws a.flaws (both_flaws b.flaws c.flaws))
    (omega arith) (omega arith) (sym (flaws_assoc a.flaws b.flaws c.flaws))

pub beside_assoc : (a b c : Effect) → beside (beside a b) c ≡ beside a (beside b c)
beside_assoc a b c = same_effect ((a.outside ++ b.outside) ++ c.outside) (a.outside ++ (b.outside ++ c.outside))
    ((a.writes ++ b.writes) ++ c.writes) (a.writes ++ (b.writes ++ c.writes))
    ((a.exact && b.exact) && c.exact) (a.exact && (b.exact && c.exact))
    (both_counts (both_counts a.count b.count) c.count) (both_counts a.count (both_counts b.count c.count))
    (append_assoc a.outside b.outside c.outside) (append_assoc a.writes b.writes c.writes)
    (and_assoc a.exact b.exact c.exact) (counts_assoc a.count b.count c.count)

-- which are too large

pub record IsLarge (e : Effect) : Type 0 where
  pub large : (65536 < e.count.size) ⊎ (2 ^ 62 < e.count.most)

pub tells : (e : Effect) → is_large_effect e ≡ true → IsLarge e
tells e h = record { large = by (nat_le e.count.most (2 ^ 62)) (nat_le e.count.size 65536) refl refl h }
  where
    by : (a b : Bool) → nat_le e.count.most (2 ^ 62) ≡ a → nat_le e.count.size 65536 ≡ b → (not a || not b) ≡ true →
        (65536 < e.count.size) ⊎ (2 ^ 62 < e.count.most)
    by false b p q r = inr (leb-false e.count.most (2 ^ 62) p)
    by true false p q r = inl (leb-false e.count.size 65536 q)
    by true true p q r = cc

or_true : (a : Bool) → (a || true) ≡ true
or_true true = refl
or_true false = refl

pub shows : (e : Effect) → IsLarge e → is_large_effect e ≡ true
shows e h = elim h.large [
  | inl s ↦ ap (λ b. not (nat_le e.count.most (2 ^ 62)) || not b) (lt-leb e.count.size 65536 s)
      ∙ or_true (not (nat_le e.count.most (2 ^ 62)))
  | inr m ↦ ap (λ b. not b || not (nat_le e.count.size 65536)) (lt-leb e.count.most (2 ^ 62) m)
]

-- a part that weighs too much makes the whole too large
pub heavy_beside : (a e : Effect) → 2 ^ 62 < e.count.most → is_large_effect (beside a e) ≡ true
heavy_beside a e h = shows (beside a e) (record { large = inr (omega arith) })

pub heavy_open : (a : Effect) (i : Formed) (first : ℕ) (ends : ℤ × ℤ) (c v : Formed) → 2 ^ 62 < i.measure.most →
    i.constant ≡ false → is_large_effect (beside a (array_effect i first ends c v)) ≡ true
heavy_open a i first ends c v h e =
    heavy_beside a (array_effect i first ends c v) (subst (λ b. 2 ^ 62 < (cond b
    (write_to (option_and_then (λ k. slot_at first (Some ends) (Some k)) (number_of (term_of i.core)))
    (form_of c.core)
    (term_of v.core) (both_counts (index_count i.measure) (write_count c.measure v.measure)))
    (open_effect (term_of i.core) ends first (form_of c.core) (term_of v.core)
    (spread_count (range_size ends) ends i.measure c.measure v.measure))).count.most) (sym e) (omega arith))

-- sums of effects

pub beside_nothing : (a : Effect) → a.count.size ≤ 65537 → beside a nothing ≡ a
beside_nothing a h = same_effect (a.outside ++ []) a.outside (a.writes ++ []) a.writes (a.exact && true) a.exact
    (both_counts a.count no_count) a.count (append-nil a.outside) (append-nil a.writes) (and_true a.exact)
    (same_counts (counted (a.count.size + 0)) a.count.size (max a.count.most 0) a.count.most
    (both_flaws a.count.flaws no_flaws) a.count.flaws (omega arith) (omega arith) (flaws_none a.count.flaws))
  where
    and_true : (b : Bool) → (b && true) ≡ b
    and_true true = refl
    and_true false = refl

pub fold_beside : (a e : Effect) (es : List Effect) → beside a (fold beside e es) ≡ fold beside (beside a e) es
fold_beside a e [] = refl
fold_beside a e (x ∷ xs) = fold_beside a (beside e x) xs ∙ ap (λ y. fold beside y xs) (sym (beside_assoc a e x))

-- all of a list, beside what there is
pub all_beside_nothing : (a : Effect) (es : List Effect) → a.count.size ≤ 65537 →
    beside a (fold beside nothing es) ≡ fold beside a es
all_beside_nothing a es h = fold_beside a nothing es ∙ ap (λ y. fold beside y es) (beside_nothing a h)

pub one_more_beside : (a e : Effect) → with_count (beside a e) one_node ≡ beside a (one_more e)
one_more_beside a e = ap (made (a.outside ++ e.outside) (a.writes ++ e.writes) (a.exact && e.exact))
    (same_counts (counted (counted (a.count.size + e.count.size) + 1))
    (counted (a.count.size + counted (1 + e.count.size)))
    (max (max a.count.most e.count.most) 0) (max a.count.most e.count.most)
    (both_flaws (both_flaws a.count.flaws e.count.flaws) no_flaws) (both_flaws a.count.flaws e.count.flaws)
    (omega arith) (omega arith) (flaws_none (both_flaws a.count.flaws e.count.flaws)))

and_swap : (a e b : Bool) → ((a && e) && b) ≡ (a && (b && e))
and_swap true true true = refl
and_swap true true false = refl
and_swap true false true = refl
and_swap true false false = refl
and_swap false e b = refl

pub exactly_beside : (b : Bool) (a e : Effect) →
    record (beside a e) { exact = (beside a e).exact && b } ≡ beside a (exactly b e)
exactly_beside b a e = ap (λ x. made (a.outside ++ e.outside) (a.writes ++ e.writes) x (both_counts a.count e.count))
    (and_swap a.exact e.exact b)

-- exact where this is so, and with this place of a bad range
abbrev pub ranged : Bool → Option ℕ → Effect → Effect
ranged b place e = record e {
  exact = b && e.exact;
  count = ranged_count place e.count;
}

pub ranged_beside : (b : Bool) (place : Option ℕ) (a e : Effect) → made (a.outside ++ e.outside)
    (a.writes ++ e.writes)
    ((a.exact && e.exact) && b) (count_made (counted (a.count.size + e.count.size)) (max a.count.most e.count.most)
    (both_flaws (range_flaws place) (both_flaws a.count.flaws e.count.flaws))) ≡ beside a (ranged b place e)
ranged_beside b place a e = same_effect (a.outside ++ e.outside) (a.outside ++ e.outside) (a.writes ++ e.writes)
    (a.writes ++ e.writes) ((a.exact && e.exact) && b) (a.exact && (b && e.exact))
    (count_made (counted (a.count.size + e.count.size)) (max a.count.most e.count.most)
    (both_flaws (range_flaws place) (both_flaws a.count.flaws e.count.flaws)))
    (count_made (counted (a.count.size + e.count.size)) (max a.count.most e.count.most)
    (both_flaws a.count.flaws (both_flaws (range_flaws place) e.count.flaws)))
    refl refl (and_swap a.exact e.exact b)
    (ap (count_made (counted (a.count.size + e.count.size)) (max a.count.most e.count.most))
    (flaws_swap (range_flaws place) a.count.flaws e.count.flaws))

-- what is too large stays so

pub large_more : (a b : Effect) → (65536 < a.count.size → 65536 < b.count.size) → a.count.most ≤ b.count.most →
    is_large_effect a ≡ true → is_large_effect b ≡ true
large_more a b f m h = elim ((tells a h).large) [
  | inl s ↦ shows b (record { large = inl (f s) })
  | inr w ↦ shows b (record { large = inr (omega arith) })
]

pub large_beside : (a e : Effect) → is_large_effect a ≡ true → is_large_effect (beside a e) ≡ true
large_beside a e h = large_more a (beside a e) (λ s. omega arith) (omega arith) h

pub large_fold : (a : Effect) (es : List Effect) → is_large_effect a ≡ true → is_large_effect (fold beside a es) ≡
    true
large_fold a [] h = h
large_fold a (e ∷ es) h = large_fold (beside a e) es (large_beside a e h)

pub large_one_more : (a e : Effect) → is_large_effect (beside a e) ≡ true → is_large_effect (beside a (one_more e))
    ≡ true
large_one_more a e h = large_more (beside a e) (beside a (one_more e)) (λ s. omega arith) (omega arith) h
