-- What a slot's term is worth, and what the slot holds after the writes.
use Rattle.std.proofs.Common.{◌≡◌, ◌≢◌, ℕ, zero, suc, nat_eq, ◌<◌, ℤ, pos, List, [], ◌∷◌, ◌++◌, length, Bool, true}
use Rattle.std.proofs.Common.{false, cond, Some, None, All, IsTrue, refl, sym, ap, ◌∙◌, subst, inl, inr, arith}
use Rattle.std.proofs.lemmas.Bool.Decides.{eqb_tells}
use Rattle.std.proofs.lemmas.List.Elements.{All-head, All-tail}
use Rattle.meaning_states.specs.State.{State, in_range, is_state}
use Rattle.meaning_states.specs.Step.{Write, put, written}
use Rattle.core_terms.specs.declared.trees.CForm.{CForm}
use Rattle.core_terms.specs.declared.programs.CSlot.{CSlot}
use Rattle.core_terms.specs.declared.programs.CWrite.{CWrite}
use Rattle.core_terms.specs.declared.programs.CStmt.{CStmt}
use Rattle.core_terms.specs.Values.{number_at, term_value, form_value}
use Rattle.core_terms.specs.Steps.{slot_ranges, outside_writes, inside_writes, core_writes}
use Rattle.core_terms.specs.Folding.{choice_term}
use Rattle.core_terms.proofs.PartLaws.{value-Slot}
use Rattle.core_terms.proofs.FoldingLaws.{value-choice_term}
use Rattle.meaning_states.proofs.StepTheorems.{and_right}
use Rattle.wp_substitution.specs.Preconditions.{slot_after}

length-put : (xs : List ℤ) (n : ℕ) (z : ℤ) → length (put xs n z) ≡ length xs
length-put [] n z = refl
length-put (y ∷ ys) zero z = refl
length-put (y ∷ ys) (suc n) z = ap (λ k. suc k) (length-put ys n z)

length-written : (s : State) (ws : List Write) → length (written s ws) ≡ length s
length-written s [] = refl
length-written s ((None, z) ∷ ws) = length-written s ws
length-written s ((Some n, z) ∷ ws) = length-put (written s ws) n z ∙ length-written s ws

put-same : (xs : List ℤ) (n : ℕ) (z : ℤ) → n < length xs → number_at (put xs n z) n ≡ z
put-same [] n z h = absurd (omega arith)
put-same (y ∷ ys) zero z h = refl
put-same (y ∷ ys) (suc n) z h = let inner : n < length ys = omega arith in put-same ys n z inner

put-other : (xs : List ℤ) (n m : ℕ) (z : ℤ) → n ≢ m → number_at (put xs n z) m ≡ number_at xs m
put-other [] n m z h = refl
put-other (y ∷ ys) zero zero z h = absurd (h refl)
put-other (y ∷ ys) zero (suc m) z h = refl
put-other (y ∷ ys) (suc n) zero z h = refl
put-other (y ∷ ys) (suc n) (suc m) z h = put-other ys n m z (λ e. h (ap (λ k. suc k) e))

-- a write changes its own slot alone
number_at-put : (xs : List ℤ) (n m : ℕ) (z : ℤ) → n < length xs →
    number_at (put xs n z) m ≡ cond (nat_eq n m) z (number_at xs m)
number_at-put xs n m z h = elim (eqb_tells n m) [
  | inl w ↦ rw w.0 (subst (λ k. number_at (put xs n z) k ≡ z) w.1 (put-same xs n z h))
  | inr w ↦ rw w.0 (put-other xs n m z w.1)
]

-- a state has a number for each slot
pub length_of_state : (slots : List CSlot) (s : State) → IsTrue (is_state (slot_ranges slots) s) →
    length s ≡ length slots
length_of_state [] [] e = refl
length_of_state [] (z ∷ zs) e = cc
length_of_state (r ∷ rs) [] e = cc
length_of_state (r ∷ rs) (z ∷ zs) e =
    ap (λ k. suc k) (length_of_state rs zs
    (and_right (in_range (Some (r.range.lo, r.range.hi)) z) (is_state (slot_ranges rs) zs) e))

either : (b : Bool) (x : ℤ) → cond b x x ≡ x
either true x = refl
either false x = refl

-- a write in front, that is made or not
front_written : (s : State) (h b : Bool) (n m : ℕ) (z : ℤ) (ws : List Write) → n < length s → nat_eq n m ≡ b →
    number_at (written s (cond h ((Some n, z) ∷ []) [] ++ ws)) m ≡
    cond b (cond h z (number_at (written s ws) m)) (number_at (written s ws) m)
front_written s true b n m z ws within e =
    number_at-put (written s ws) n m z (rw length-written within)
    ∙ ap (λ v. cond v z (number_at (written s ws) m)) e
front_written s false b n m z ws within e = sym (either b (number_at (written s ws) m))

slot_value : (s : State) (w : CWrite) (ws : List CWrite) (n : ℕ) (b : Bool) →
    term_value s [] (cond b (choice_term w.when w.value (slot_after ws n)) (slot_after ws n)) ≡
    cond b (cond (form_value s [] w.when) (term_value s [] w.value) (term_value s [] (slot_after ws n)))
    (term_value s [] (slot_after ws n))
slot_value s w ws n true = value-choice_term s [] w.when w.value (slot_after ws n)
slot_value s w ws n false = refl

-- a slot's term is worth what the slot holds after the writes inside
inside_written : (s : State) (ws : List CWrite) → All (λ w. w.slot < length s) ws → (n : ℕ) →
    term_value s [] (slot_after ws n) ≡ number_at (written s (inside_writes s ws)) n
inside_written s [] within n = value-Slot s [] n
inside_written s (w ∷ ws) within n =
    let b = nat_eq w.slot n in
    let h = form_value s [] w.when in
    let z = term_value s [] w.value in
    slot_value s w ws n b
    ∙ ap (λ x. cond b (cond h z x) x) (inside_written s ws (All-tail (λ w. w.slot < length s) w ws within) n)
    ∙ sym (front_written s h b w.slot n z (inside_writes s ws) (All-head (λ w. w.slot < length s) w ws within) refl)

front_outside : (s : State) (h : Bool) (ws vs : List Write) →
    written s ((cond h ((None, pos 0) ∷ []) [] ++ ws) ++ vs) ≡ written s (ws ++ vs)
front_outside s true ws vs = refl
front_outside s false ws vs = refl

-- writes outside change nothing
outside_written : (s : State) (fs : List CForm) (ws : List Write) →
    written s (outside_writes s fs ++ ws) ≡ written s ws
outside_written s [] ws = refl
outside_written s (f ∷ fs) ws =
    front_outside s (form_value s [] f) (outside_writes s fs) ws ∙ outside_written s fs ws

pub slot_holds : (s : State) (c : CStmt) → All (λ w. w.slot < length s) c.writes → (n : ℕ) →
    term_value s [] (slot_after c.writes n) ≡ number_at (written s (core_writes s c)) n
slot_holds s c within n =
    inside_written s c.writes within n
    ∙ ap (λ t. number_at t n) (sym (outside_written s c.outside (inside_writes s c.writes)))
