-- The start state, from the entries that are put into the lowest numbers.
use Rattle.std.proofs.Common.{◌≡◌, ℕ, zero, suc, ◌+◌, ◌<◌, ◌≤◌, ℤ, List, [], ◌∷◌, ◌++◌, map, length, refl, sym, ap}
use Rattle.std.proofs.Common.{◌∙◌, slice_set, arith, inl, inr}
use Rattle.std.specs.Prelude.{unwrap_or}
use Rattle.std.specs.List.{enumerate_from, filter_map}
use Rattle.std.proofs.lemmas.List.Elements.{filter_map-append}
use Rattle.std.proofs.lemmas.Bool.Decides.{eqb_tells}
use Rattle.meaning_states.specs.State.{State}
use Rattle.meaning_states.specs.Step.{put}
use Rattle.core_terms.specs.declared.trees.CTerm.{CTerm}
use Rattle.core_terms.specs.declared.trees.CForm.{CForm, fold-roll-CForm}
use Rattle.core_terms.specs.declared.trees.CForm.TheOpen.{CForm-F}
use Rattle.core_terms.specs.declared.trees.CForm.TheVariants.{And, rolls-And}
use Rattle.core_terms.specs.declared.programs.CSlot.{CSlot}
use Rattle.core_terms.specs.declared.programs.CProgram.{CProgram}
use Rattle.executor.specs.StartState.{Conjunction, conjunction_step, term_of, conjuncts, fixed, given, first_numbers}
use Rattle.executor.specs.StartState.{start_entries, start_state}
use Rattle.executor.specs.Placing.{placed, lowest}

pub put-slice_set : (state : State) (n : ℕ) (z : ℤ) → slice_set state n z ≡ put state n z
put-slice_set [] n z = refl
put-slice_set (y ∷ ys) zero z = refl
put-slice_set (y ∷ ys) (suc n) z = ap (λ xs. y ∷ xs) (put-slice_set ys n z)

pub put-past : (state : State) (n : ℕ) (z : ℤ) → length state ≤ n → put state n z ≡ state
put-past [] n z h = refl
put-past (y ∷ ys) zero z h = absurd (omega arith)
put-past (y ∷ ys) (suc n) z h = ap (λ xs. y ∷ xs) (put-past ys n z (omega arith))

pub placed-append : (state : State) (xs ys : List (ℕ × ℤ)) → placed state (xs ++ ys) ≡ placed (placed state ys) xs
placed-append state [] ys = refl
placed-append state (e ∷ xs) ys = ap (λ s. put s e.0 e.1) (placed-append state xs ys)

pub conjuncts-And : (f g : CForm) → conjuncts (And f g) ≡ conjuncts f ++ conjuncts g
conjuncts-And f g =
    ap conjuncts (sym (rolls-And f g))
    ∙ ap (λ (c : Conjunction). c.parts) (fold-roll-CForm Conjunction CTerm conjunction_step term_of (CForm-F.And f g))

-- the first numbers of the slots from a number on
abbrev numbers : ℕ → List (ℕ × ℤ) → List CSlot → State
numbers k entries slots = map (λ e. unwrap_or (given entries e.0) e.1.range.lo) (enumerate_from k slots)

lowest_numbers : (k : ℕ) (slots : List CSlot) → lowest slots ≡ numbers k [] slots
lowest_numbers k [] = refl
lowest_numbers k (s ∷ slots) = ap (λ xs. s.range.lo ∷ xs) (lowest_numbers (k + 1) slots)

-- an entry for an earlier slot changes none of them
passed : (j k : ℕ) (z : ℤ) (rest : List (ℕ × ℤ)) (slots : List CSlot) → j < k →
    numbers k ((j, z) ∷ rest) slots ≡ numbers k rest slots
passed j k z rest [] h = refl
passed j k z rest (s ∷ slots) h = elim (eqb_tells j k) [
  | inl w ↦ absurd (omega arith)
  | inr w ↦ rw w.0 (ap (λ xs. unwrap_or (given rest k) s.range.lo ∷ xs) (passed j (k + 1) z rest slots (omega arith)))
]

put_numbers : (j k n : ℕ) (z : ℤ) (rest : List (ℕ × ℤ)) (slots : List CSlot) → j ≡ k + n →
    put (numbers k rest slots) n z ≡ numbers k ((j, z) ∷ rest) slots
put_numbers j k n z rest [] e = refl
put_numbers j k zero z rest (s ∷ slots) e = elim (eqb_tells j k) [
  | inl w ↦ rw w.0 (ap (λ xs. z ∷ xs) (sym (passed j (k + 1) z rest slots (omega arith))))
  | inr w ↦ absurd (w.1 (omega arith))
]
put_numbers j k (suc n) z rest (s ∷ slots) e = elim (eqb_tells j k) [
  | inl w ↦ absurd (omega arith)
  | inr w ↦
      rw w.0 (ap (λ xs. unwrap_or (given rest k) s.range.lo ∷ xs)
      (put_numbers j (k + 1) n z rest slots (omega arith)))
]

-- entries put into the lowest numbers give each slot the number of its first entry
pub placed_lowest : (slots : List CSlot) (entries : List (ℕ × ℤ)) →
    placed (lowest slots) entries ≡ first_numbers slots entries
placed_lowest slots [] = lowest_numbers 0 slots
placed_lowest slots ((n, z) ∷ rest) =
    ap (λ s. put s n z) (placed_lowest slots rest) ∙ put_numbers n 0 n z rest slots (omega arith)

-- the conjuncts of the second side are put first
pub placed-And : (slots : List CSlot) (state : State) (f g h : CForm) → f ≡ And g h →
    placed (placed state (filter_map (fixed slots) (conjuncts h))) (filter_map (fixed slots) (conjuncts g))
    ≡ placed state (filter_map (fixed slots) (conjuncts f))
placed-And slots state f g h e =
    sym (placed-append state (filter_map (fixed slots) (conjuncts g)) (filter_map (fixed slots) (conjuncts h)))
    ∙ ap (placed state) (sym (filter_map-append (fixed slots) (conjuncts g) (conjuncts h)))
    ∙ ap (λ k. placed state (filter_map (fixed slots) k)) (sym (conjuncts-And g h) ∙ ap conjuncts (sym e))

-- the start state, as it is made
pub start_is_placed : (slots : List CSlot) (p : CProgram) →
    placed (placed (lowest slots) (filter_map (fixed slots) (conjuncts p.initially))) p.start ≡ start_state slots p
start_is_placed slots p =
    sym (placed-append (lowest slots) p.start (filter_map (fixed slots) (conjuncts p.initially)))
    ∙ placed_lowest slots (start_entries slots p)
