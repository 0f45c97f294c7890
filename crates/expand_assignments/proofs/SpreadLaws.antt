-- Writes and equations for one index after another.
use Rattle.std.proofs.Common.{◌≡◌, ℕ, zero, suc, ◌+◌, ◌-◌, ◌<◌, ◌≤◌, ℤ, pos, negsuc, ◌+ℤ◌, ◌<ℤ◌, List, [], ◌∷◌, ◌++◌}
use Rattle.std.proofs.Common.{fold, append_assoc, append-nil, sym, ap, ◌∙◌, arith}
use Rattle.std.proofs.lemmas.Int.{ints}
use Rattle.core_terms.specs.declared.trees.CTerm.{CTerm}
use Rattle.core_terms.specs.declared.trees.CTerm.TheVariants.{Const}
use Rattle.core_terms.specs.declared.trees.CForm.{CForm}
use Rattle.core_terms.specs.declared.programs.CWrite.{CWrite}
use Rattle.core_terms.specs.Folding.{difference_term, zero_form, or_form}
use Rattle.meaning_executions.specs.Counting.{natural}
use Rattle.expand_rules.specs.Assigning.{any_of, equations, spread}
use Rattle.expand_assignments.specs.Adding.{spread_write}

pub natural_above : (z : ℤ) (n : ℕ) → n < natural z → pos n <ℤ z
natural_above (pos m) n h = let l : n < m = h in omega (arith, ints)
natural_above (negsuc m) n h = absurd (let l : n < 0 = h in omega arith)

spread_more : (e : CTerm) (low : ℤ) (first : ℕ) (c : CForm) (v : CTerm) (i n : ℕ) → i < n →
    spread e (low +ℤ pos i) (first + i) (n - i) c v
    ≡ spread_write e (low +ℤ pos i) (first + i) c v ∷ spread e (low +ℤ pos (i + 1)) (first + (i + 1)) (n - (i + 1)) c
    v
spread_more e low first c v i n h =
    let m : n - i ≡ suc (n - (i + 1)) = omega arith in
    let z : (low +ℤ pos i) +ℤ pos 1 ≡ low +ℤ pos (i + 1) = omega (arith, ints) in
    let k : suc (first + i) ≡ first + (i + 1) = omega arith in
    ap (λ j. spread e (low +ℤ pos i) (first + i) j c v) m
    ∙ ap (λ y. spread_write e (low +ℤ pos i) (first + i) c v ∷ spread e y (suc (first + i)) (n - (i + 1)) c v) z
    ∙ ap (λ y. spread_write e (low +ℤ pos i) (first + i) c v ∷ spread e (low +ℤ pos (i + 1)) y (n - (i + 1)) c v) k

-- what is written and what is still to be written, from one index to the next
pub spread_first : (e : CTerm) (low : ℤ) (first : ℕ) (c : CForm) (v : CTerm) (n : ℕ) (old : List CWrite) →
    old ++ spread e (low +ℤ pos 0) (first + 0) (n - 0) c v ≡ old ++ spread e low first n c v
spread_first e low first c v n old =
    let m : n - 0 ≡ n = omega arith in
    let z : low +ℤ pos 0 ≡ low = omega (arith, ints) in
    let k : first + 0 ≡ first = omega arith in
    ap (λ j. old ++ spread e (low +ℤ pos 0) (first + 0) j c v) m
    ∙ ap (λ y. old ++ spread e y (first + 0) n c v) z ∙ ap (λ y. old ++ spread e low y n c v) k

pub spread_next : (e : CTerm) (low : ℤ) (first : ℕ) (c : CForm) (v : CTerm) (i n : ℕ) (now more whole : List CWrite) →
    i < n → now ++ spread e (low +ℤ pos i) (first + i) (n - i) c v ≡ whole →
    more ≡ now ++ spread_write e (low +ℤ pos i) (first + i) c v ∷ [] →
    more ++ spread e (low +ℤ pos (i + 1)) (first + (i + 1)) (n - (i + 1)) c v ≡ whole
spread_next e low first c v i n now more whole h k m =
    ap (λ ws. ws ++ spread e (low +ℤ pos (i + 1)) (first + (i + 1)) (n - (i + 1)) c v) m
    ∙ append_assoc now (spread_write e (low +ℤ pos i) (first + i) c v ∷ [])
    (spread e (low +ℤ pos (i + 1)) (first + (i + 1)) (n - (i + 1)) c v)
    ∙ ap (λ ws. now ++ ws) (sym (spread_more e low first c v i n h)) ∙ k

pub spread_end : (e : CTerm) (low : ℤ) (first : ℕ) (c : CForm) (v : CTerm) (i n : ℕ) (now whole : List CWrite) →
    n ≤ i → now ++ spread e (low +ℤ pos i) (first + i) (n - i) c v ≡ whole → now ≡ whole
spread_end e low first c v i n now whole h k =
    let m : n - i ≡ 0 = omega arith in
    sym (append-nil now) ∙ ap (λ j. now ++ spread e (low +ℤ pos i) (first + i) j c v) (sym m) ∙ k

abbrev pub equal_at : CTerm → ℤ → CForm
equal_at e z = zero_form (difference_term e (Const z))

equations_more : (e : CTerm) (low : ℤ) (i n : ℕ) → i < n →
    equations e (low +ℤ pos i) (n - i) ≡ equal_at e (low +ℤ pos i) ∷ equations e (low +ℤ pos (i + 1)) (n - (i + 1))
equations_more e low i n h =
    let m : n - i ≡ suc (n - (i + 1)) = omega arith in
    let z : (low +ℤ pos i) +ℤ pos 1 ≡ low +ℤ pos (i + 1) = omega (arith, ints) in
    ap (equations e (low +ℤ pos i)) m ∙ ap (λ y. equal_at e (low +ℤ pos i) ∷ equations e y (n - (i + 1))) z

pub any_first : (e : CTerm) (low : ℤ) (n : ℕ) → 0 < n →
    fold or_form (equal_at e low) (equations e (low +ℤ pos 1) (n - 1)) ≡ any_of (equations e low n)
any_first e low zero h = absurd (omega arith)
any_first e low (suc n) h =
    let m : suc n - 1 ≡ n = omega arith in
    ap (λ j. fold or_form (equal_at e low) (equations e (low +ℤ pos 1) j)) m

pub any_next : (e : CTerm) (low : ℤ) (i n : ℕ) (now : CForm) (whole : CForm) → i < n →
    fold or_form now (equations e (low +ℤ pos i) (n - i)) ≡ whole →
    fold or_form (or_form now (equal_at e (low +ℤ pos i))) (equations e (low +ℤ pos (i + 1)) (n - (i + 1))) ≡ whole
any_next e low i n now whole h k = ap (fold or_form now) (sym (equations_more e low i n h)) ∙ k

pub any_end : (e : CTerm) (low : ℤ) (i n : ℕ) (now whole : CForm) → n ≤ i →
    fold or_form now (equations e (low +ℤ pos i) (n - i)) ≡ whole → now ≡ whole
any_end e low i n now whole h k =
    let m : n - i ≡ 0 = omega arith in ap (λ j. fold or_form now (equations e (low +ℤ pos i) j)) (sym m) ∙ k
