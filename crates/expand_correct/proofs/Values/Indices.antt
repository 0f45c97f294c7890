-- Where a number lies to a range, and which of a range's equations and writes hold there.
use Rattle.std.proofs.Common.{◌≡◌, ℕ, zero, suc, ◌+◌, ℤ, pos, ◌+ℤ◌, ◌-ℤ◌, ◌≤ℤ◌, ◌<ℤ◌, List, [], ◌∷◌, ◌++◌, Bool, true}
use Rattle.std.proofs.Common.{false, cond, ◌&&◌, ◌||◌, Some, None, refl, ap, ◌∙◌, arith}
use Rattle.std.proofs.lemmas.Int.{ints}
use borrow.Author.Differences.{le-true, le-false}
use Rattle.std.specs.List.{list_any}
use Rattle.std.specs.Int.RustNames.{int_le}
use Rattle.meaning_executions.specs.Counting.{natural}
use Rattle.meaning_executions.specs.Counting.{range_size}
use Rattle.meaning_states.specs.State.{in_range}
use Rattle.meaning_states.specs.Step.{Write}
use Rattle.core_terms.specs.declared.trees.CTerm.{CTerm}
use Rattle.core_terms.specs.declared.trees.CTerm.TheVariants.{Const}
use Rattle.core_terms.specs.declared.trees.CForm.{CForm}
use Rattle.core_terms.specs.Values.{term_value, form_value}
use Rattle.meaning_states.specs.State.{int_eq}
use Rattle.core_terms.specs.Folding.{difference_term, zero_form, or_form}
use Rattle.core_terms.proofs.PartLaws.{value-Const, value-Bottom}
use Rattle.core_terms.proofs.IntTests.{zero_tests}
use Rattle.core_terms.proofs.FoldingLaws.{value-difference_term, value-zero_form, value-and_form, value-or_form}
use Rattle.expand_rules.specs.Assigning.{equations, any_of, spread}
use Rattle.std.specs.Prelude.{fold}
use Rattle.core_terms.specs.declared.programs.CWrite.{CWrite}
use Rattle.core_terms.specs.Steps.{inside_writes, outside_writes}
use Rattle.expand_rules.proofs.Chains.{eq_yes, eq_below, eq_above, natural_of, size_of, size_none}

-- the writes that are made
abbrev pub taken : List ℤ → List ℤ → List CWrite → List Write
taken state params [] = []
taken state params (w ∷ ws) = cond (form_value state params w.when) ((Some w.slot, term_value state params w.value) ∷
    taken state params ws) (taken state params ws)

-- a write outside for each formula that holds
abbrev pub outsides : List ℤ → List ℤ → List CForm → List Write
outsides state params [] = []
outsides state params (f ∷ fs) = cond (form_value state params f) ((None, pos 0) ∷ outsides state params fs)
    (outsides state params fs)

taken_one : (b : Bool) (w : Write) (ws : List Write) → cond b (w ∷ []) [] ++ ws ≡ cond b (w ∷ ws) ws
taken_one true w ws = refl
taken_one false w ws = refl

pub inside_taken : (state : List ℤ) (ws : List CWrite) → inside_writes state ws ≡ taken state [] ws
inside_taken state [] = refl
inside_taken state (w ∷ ws) = taken_one (form_value state [] w.when) (Some w.slot, term_value state [] w.value)
    (inside_writes state ws)
    ∙ ap (λ v. cond (form_value state [] w.when) ((Some w.slot, term_value state [] w.value) ∷ v) v)
    (inside_taken state ws)

pub outside_out : (state : List ℤ) (fs : List CForm) → outside_writes state fs ≡ outsides state [] fs
outside_out state [] = refl
outside_out state (f ∷ fs) = taken_one (form_value state [] f) (None, pos 0) (outside_writes state fs)
    ∙ ap (λ v. cond (form_value state [] f) ((None, pos 0) ∷ v) v) (outside_out state fs)

pub data Lies (r : ℤ × ℤ) (k : ℤ) : Type 0 where
  under : in_range (Some r) k ≡ false → k <ℤ r.0 → Lies r k
  over : in_range (Some r) k ≡ false → (r.0 +ℤ pos (range_size r)) ≤ℤ k → Lies r k
  within : in_range (Some r) k ≡ true → k ≡ r.0 +ℤ pos (natural (k -ℤ r.0)) → k <ℤ (r.0 +ℤ pos (range_size r)) →
      Lies r k

lies_over : (r : ℤ × ℤ) (k : ℤ) → r.0 ≤ℤ k → r.1 <ℤ k → (r.0 +ℤ pos (range_size r)) ≤ℤ k
lies_over r k h i = elim (int_le r.0 (r.1 +ℤ pos 1)) as (λ v. int_le r.0 (r.1 +ℤ pos 1) ≡ v →
    (r.0 +ℤ pos (range_size r)) ≤ℤ k) [
      | true ↦ λ g. let l = le-true r.0 (r.1 +ℤ pos 1) g in let n : r.0 +ℤ pos (range_size r) ≡ r.1 +ℤ pos 1 =
          size_of r.0 r.1 (omega (arith, ints)) in omega (arith, ints)
      | false ↦ λ g. let l = le-false r.0 (r.1 +ℤ pos 1) g in let n : range_size r ≡ 0 = size_none
          (r.1 +ℤ pos 1 -ℤ r.0)
          (omega (arith, ints)) in omega (arith, ints)
    ] refl

pub lies : (r : ℤ × ℤ) (k : ℤ) → Lies r k
lies r k = elim (int_le r.0 k) as (λ v. int_le r.0 k ≡ v → Lies r k) [
  | false ↦ λ f. let h = le-false r.0 k f in under (ap (λ v. v && int_le k r.1) f) (omega (arith, ints))
  | true ↦ λ f. let h = le-true r.0 k f in
      elim (int_le k r.1) as (λ v. int_le k r.1 ≡ v → Lies r k) [
        | false ↦ λ g. let i = le-false k r.1 g in over (ap (λ v. v && int_le k r.1) f
            ∙ g) (lies_over r k (omega (arith, ints)) (omega (arith, ints)))
        | true ↦ λ g. let i = le-true k r.1 g in
            let n : r.0 +ℤ pos (range_size r) ≡ r.1 +ℤ pos 1 = size_of r.0 r.1 (omega (arith, ints)) in
            within (ap (λ v. v && int_le k r.1) f ∙ g) (let d : k -ℤ r.0 ≡ pos (natural (k -ℤ r.0)) = natural_of
            (k -ℤ r.0) (omega (arith, ints)) in omega (arith, ints)) (omega (arith, ints))
      ] refl
] refl

any_after_value : (s p : List ℤ) (f : CForm) (fs : List CForm) → form_value s p (fold or_form f fs) ≡
    (form_value s p f || list_any (form_value s p) fs)
any_after_value s p f [] = or_none (form_value s p f)
  where
    or_none : (b : Bool) → b ≡ (b || false)
    or_none true = refl
    or_none false = refl
any_after_value s p f (g ∷ gs) = any_after_value s p (or_form f g) gs ∙ ap (λ v. v || list_any (form_value s p) gs)
    (value-or_form s p f g) ∙ assoc (form_value s p f) (form_value s p g) (list_any (form_value s p) gs)
  where
    assoc : (a b c : Bool) → ((a || b) || c) ≡ (a || (b || c))
    assoc true b c = refl
    assoc false b c = refl

pub any_value : (s p : List ℤ) (fs : List CForm) → form_value s p (any_of fs) ≡ list_any (form_value s p) fs
any_value s p [] = value-Bottom s p
any_value s p (f ∷ fs) = any_after_value s p f fs

module _ (s p : List ℤ) (e : CTerm) (k : ℤ) (worth : term_value s p e ≡ k) where
  equation_value : (low : ℤ) → form_value s p (zero_form (difference_term e (Const low))) ≡ int_eq k low
  equation_value low =
      value-zero_form s p _ ∙ ap (λ v. int_eq v (pos 0)) (value-difference_term s p e (Const low)
      ∙ ap (λ v. v -ℤ term_value s p (Const low)) worth ∙ ap (λ v. k -ℤ v) (value-Const s p low)) ∙ zero_tests k low

  pub equations_under : (low : ℤ) (n : ℕ) → k <ℤ low → list_any (form_value s p) (equations e low n) ≡ false
  equations_under low zero h = refl
  equations_under low (suc n) h = ap (λ v. v || list_any (form_value s p) (equations e (low +ℤ pos 1) n))
      (equation_value low ∙ eq_below k low h) ∙ equations_under (low +ℤ pos 1) n (omega (arith, ints))

  pub equations_over : (low : ℤ) (n : ℕ) → (low +ℤ pos n) ≤ℤ k → list_any (form_value s p) (equations e low n) ≡ false
  equations_over low zero h = refl
  equations_over low (suc n) h = ap (λ v. v || list_any (form_value s p) (equations e (low +ℤ pos 1) n))
      (equation_value low ∙ eq_above k low (omega (arith, ints))) ∙ equations_over (low +ℤ pos 1) n
      (omega (arith, ints))

  pub equations_within : (low : ℤ) (n j : ℕ) → k ≡ low +ℤ pos j → k <ℤ (low +ℤ pos n) → list_any (form_value s p)
      (equations e low n) ≡ true
  equations_within low zero j h i = absurd (omega (arith, ints))
  equations_within low (suc n) zero h i = ap (λ v. v || list_any (form_value s p) (equations e (low +ℤ pos 1) n))
      (equation_value low ∙ eq_yes k low (omega (arith, ints)))
  equations_within low (suc n) (suc j) h i =
      ap (λ v. v || list_any (form_value s p) (equations e (low +ℤ pos 1) n)) (equation_value low
      ∙ eq_above k low (omega (arith, ints))) ∙ equations_within (low +ℤ pos 1) n j (omega (arith, ints))
      (omega (arith, ints))

  module _ (c : CForm) (v : CTerm) where
    link : (t : Bool) → form_value s p c ≡ t → (low : ℤ) (first n : ℕ) →
        taken s p (spread e low first (suc n) c v) ≡ cond (t && int_eq k low)
        ((Some first, term_value s p v) ∷ taken s
        p (spread e (low +ℤ pos 1) (suc first) n c v)) (taken s p (spread e (low +ℤ pos 1) (suc first) n c v))
    link t h low first n =
        ap (λ b. cond b ((Some first, term_value s p v) ∷ taken s p (spread e (low +ℤ pos 1) (suc first) n c v))
        (taken s p (spread e (low +ℤ pos 1) (suc first) n c v)))
        (value-and_form s p c (zero_form (difference_term e (Const low)))
        ∙ ap (λ b. b && form_value s p (zero_form (difference_term e (Const low)))) h
        ∙ ap (λ b. t && b) (equation_value low))

    pub spread_untaken : form_value s p c ≡ false → (low : ℤ) (first n : ℕ) → taken s p (spread e low first n c v) ≡
        []
    spread_untaken h low first zero = refl
    spread_untaken h low first (suc n) = link false h low first n ∙ spread_untaken h (low +ℤ pos 1) (suc first) n

    past : (t : Bool) → form_value s p c ≡ t → (low : ℤ) (first n : ℕ) → int_eq k low ≡ false →
        taken s p (spread e low first (suc n) c v) ≡ taken s p (spread e (low +ℤ pos 1) (suc first) n c v)
    past true h low first n d = link true h low first n ∙ ap (λ b. cond b ((Some first, term_value s p v) ∷ taken s p
        (spread e (low +ℤ pos 1) (suc first) n c v)) (taken s p (spread e (low +ℤ pos 1) (suc first) n c v))) d
    past false h low first n d = link false h low first n

    pub spread_under : (t : Bool) → form_value s p c ≡ t → (low : ℤ) (first n : ℕ) → k <ℤ low →
        taken s p (spread e low first n c v) ≡ []
    spread_under t h low first zero i = refl
    spread_under t h low first (suc n) i = past t h low first n (eq_below k low i) ∙ spread_under t h (low +ℤ pos 1)
        (suc first) n (omega (arith, ints))

    pub spread_over : (t : Bool) → form_value s p c ≡ t → (low : ℤ) (first n : ℕ) → (low +ℤ pos n) ≤ℤ k →
        taken s p (spread e low first n c v) ≡ []
    spread_over t h low first zero i = refl
    spread_over t h low first (suc n) i = past t h low first n (eq_above k low (omega (arith, ints)))
        ∙ spread_over t h (low +ℤ pos 1) (suc first) n (omega (arith, ints))

    pub spread_within : form_value s p c ≡ true → (low : ℤ) (first n j : ℕ) → k ≡ low +ℤ pos j → k <ℤ (low +ℤ pos n) →
        taken s p (spread e low first n c v) ≡ (Some (first + j), term_value s p v) ∷ []
    spread_within h low first zero j d i = absurd (omega (arith, ints))
    spread_within h low first (suc n) zero d i =
        let there : first ≡ first + 0 = omega arith in
        link true h low first n ∙ ap (λ b. cond b ((Some first, term_value s p v) ∷ taken s p (spread e (low +ℤ pos 1)
        (suc first) n c v)) (taken s p (spread e (low +ℤ pos 1) (suc first) n c v))) (eq_yes k low
        (omega (arith, ints)))
        ∙ ap (λ ws. (Some first, term_value s p v) ∷ ws) (spread_under true h (low +ℤ pos 1) (suc first) n
        (omega (arith, ints))) ∙ ap (λ m. (Some m, term_value s p v) ∷ []) there
    spread_within h low first (suc n) (suc j) d i =
        let there : suc first + j ≡ first + suc j = omega arith in
        past true h low first n (eq_above k low (omega (arith, ints))) ∙ spread_within h (low +ℤ pos 1) (suc first) n
        j
        (omega (arith, ints)) (omega (arith, ints)) ∙ ap (λ m. (Some m, term_value s p v) ∷ []) there
