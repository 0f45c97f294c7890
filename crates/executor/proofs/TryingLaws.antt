-- A step that is found to be defined part by part, and its writes made one after the other.
use Rattle.std.proofs.Common.{◌≡◌, ℕ, zero, suc, ◌+◌, ◌-◌, ◌<◌, ◌≤◌, nat_eq, nat_le, ℤ, List, [], ◌∷◌, ◌++◌, length}
use Rattle.std.proofs.Common.{drop, Bool, true, false, cond, not, ◌&&◌, ◌||◌, IsTrue, Some, None, refl, sym, ap, ◌∙◌}
use Rattle.std.proofs.Common.{subst, slice_get, arith, inl, inr, Option, option_and_then}
use Rattle.std.proofs.Common.{take}
use Rattle.std.specs.List.{list_all, list_any}
use Rattle.std.specs.Option.{is_some}
use Rattle.std.proofs.lemmas.Bool.Decides.{eqb_tells}
use Rattle.std.proofs.lemmas.Bool.{leb-true}
use Rattle.meaning_states.specs.State.{State, Ranges, int_eq, in_range}
use Rattle.meaning_states.specs.Step.{Write, is_inside, agrees, all_agree, is_defined, put, written}
use Rattle.meaning_states.proofs.StepTheorems.{and_left, and_right, both_true}
use Rattle.core_terms.specs.declared.programs.CSlot.{CSlot}
use Rattle.core_terms.specs.declared.programs.CStmt.{CStmt}
use Rattle.core_terms.specs.declared.programs.CWrite.{CWrite}
use Rattle.core_terms.specs.declared.programs.CProgram.{CProgram}
use Rattle.core_terms.specs.Values.{term_value, form_value}
use Rattle.core_terms.specs.Steps.{slot_ranges, inside_writes, core_writes, core_step}
use Rattle.executor.specs.Preparing.{write_at}
use Rattle.executor.specs.Trying.{slots_rise}
use Rattle.executor.specs.Running.{chosen_step}
use Rattle.executor.proofs.PreparingLaws.{none_outside, outside_fails, step_done}

-- a write that is made, and one that is not
pub made : (state : State) (w : CWrite) → form_value state [] w.when ≡ true →
    write_at state w ≡ (Some w.slot, term_value state [] w.value) ∷ []
made state w holds = ap (λ b. cond b ((Some w.slot, term_value state [] w.value) ∷ []) []) holds

pub not_made : (state : State) (w : CWrite) → form_value state [] w.when ≡ false → write_at state w ≡ []
not_made state w fails = ap (λ b. cond b ((Some w.slot, term_value state [] w.value) ∷ []) []) fails

-- a step without writes outside is defined as its other writes are
pub defined_inside : (ranges : Ranges) (state : State) (s : CStmt) → list_any (form_value state []) s.outside ≡ false →
    is_defined ranges (core_writes state s) ≡ is_defined ranges (inside_writes state s.writes)
defined_inside ranges state s h =
    ap (λ ws. is_defined ranges (ws ++ inside_writes state s.writes)) (none_outside state s.outside h)

pub undefined_outside : (ranges : Ranges) (state : State) (s : CStmt) →
    list_any (form_value state []) s.outside ≡ true → is_defined ranges (core_writes state s) ≡ false
undefined_outside ranges state s h =
    ap (λ b. b && all_agree (core_writes state s))
    (outside_fails ranges state s.outside (inside_writes state s.writes) h)

-- a test of all writes, those of one write first
pub all_join : {X : Type 0} (t : X → Bool) (xs ys : List X) → list_all t (xs ++ ys) ≡ (list_all t xs && list_all t ys)
all_join t [] ys = refl
all_join t (x ∷ xs) ys = go (t x) (all_join t xs ys)
  where
    go : (b : Bool) → list_all t (xs ++ ys) ≡ (list_all t xs && list_all t ys) →
        (b && list_all t (xs ++ ys)) ≡ ((b && list_all t xs) && list_all t ys)
    go true rest = rest
    go false rest = refl

-- the writes from a place on
from_place : (state : State) (ws : List CWrite) (place : ℕ) (w : CWrite) → slice_get ws place ≡ Some w →
    inside_writes state (drop place ws) ≡ write_at state w ++ inside_writes state (drop (suc place) ws)
from_place state [] place w e = cc
from_place state (v ∷ ws) zero w e =
    let same : v ≡ w = cc in ap (λ x. write_at state x ++ inside_writes state ws) same
from_place state (v ∷ ws) (suc place) w e = from_place state ws place w e

pub next_from : (state : State) (ws : List CWrite) (place : ℕ) (w : CWrite) → slice_get ws place ≡ Some w →
    inside_writes state (drop place ws) ≡ write_at state w ++ inside_writes state (drop (place + 1) ws)
next_from state ws place w e =
    let one : suc place ≡ place + 1 = omega arith in
    from_place state ws place w e ∙ ap (λ n. write_at state w ++ inside_writes state (drop n ws)) one

-- a test of all of them
pub all_from : (t : Write → Bool) (state : State) (ws : List CWrite) (place : ℕ) (w : CWrite) →
    slice_get ws place ≡ Some w →
    list_all t (inside_writes state (drop place ws))
    ≡ (list_all t (write_at state w) && list_all t (inside_writes state (drop (place + 1) ws)))
all_from t state ws place w e =
    ap (list_all t) (next_from state ws place w e)
    ∙ all_join t (write_at state w) (inside_writes state (drop (place + 1) ws))

-- slots that rise lie at or above the least
rising_apart : (state : State) (least n : ℕ) (z : ℤ) (ws : List CWrite) → n < least → IsTrue (slots_rise least ws) →
    IsTrue (list_all (agrees (Some n, z)) (inside_writes state ws))
rising_apart state least n z [] h r = refl
rising_apart state least n z (w ∷ ws) h r =
    let low = leb-true least w.slot (and_left (nat_le least w.slot) (slots_rise (w.slot + 1) ws) r) in
    let rest = rising_apart state (w.slot + 1) n z ws (omega arith)
    (and_right (nat_le least w.slot) (slots_rise (w.slot + 1) ws) r) in
    elim (eqb_tells n w.slot) [
      | inl t ↦ absurd (let e : n ≡ w.slot = t.1 in omega arith)
      | inr t ↦ go (form_value state [] w.when) t.0 rest
    ]
  where
    go : (b : Bool) → nat_eq n w.slot ≡ false → IsTrue (list_all (agrees (Some n, z)) (inside_writes state ws)) →
        IsTrue (list_all (agrees (Some n, z)) (cond b ((Some w.slot, term_value state [] w.value) ∷ []) []
        ++ inside_writes state ws))
    go false d rest = rest
    go true d rest =
        both_true (not (nat_eq n w.slot) || int_eq z (term_value state [] w.value))
        (list_all (agrees (Some n, z)) (inside_writes state ws))
        (ap (λ b. not b || int_eq z (term_value state [] w.value)) d) rest

-- so writes whose slots rise agree
pub rising_agree : (state : State) (least : ℕ) (ws : List CWrite) → IsTrue (slots_rise least ws) →
    all_agree (inside_writes state ws) ≡ true
rising_agree state least [] r = refl
rising_agree state least (w ∷ ws) r =
    let more = and_right (nat_le least w.slot) (slots_rise (w.slot + 1) ws) r in
    go (form_value state [] w.when)
    (rising_apart state (w.slot + 1) w.slot (term_value state [] w.value) ws (omega arith) more)
    (rising_agree state (w.slot + 1) ws more)
  where
    go : (b : Bool) →
        IsTrue (list_all (agrees (Some w.slot, term_value state [] w.value)) (inside_writes state ws)) →
        all_agree (inside_writes state ws) ≡ true →
        all_agree (cond b ((Some w.slot, term_value state [] w.value) ∷ []) [] ++ inside_writes state ws) ≡ true
    go false apart rest = rest
    go true apart rest =
        both_true (list_all (agrees (Some w.slot, term_value state [] w.value)) (inside_writes state ws))
        (all_agree (inside_writes state ws)) apart rest

-- a write for another slot agrees, and so does one that is not made
pub other_agrees : (state : State) (n : ℕ) (z : ℤ) (w : CWrite) → nat_eq n w.slot ≡ false →
    list_all (agrees (Some n, z)) (write_at state w) ≡ true
other_agrees state n z w d = go (form_value state [] w.when)
  where
    go : (b : Bool) →
        list_all (agrees (Some n, z)) (cond b ((Some w.slot, term_value state [] w.value) ∷ []) []) ≡ true
    go false = refl
    go true = ap (λ b. (not b || int_eq z (term_value state [] w.value)) && true) d

-- writes are made from the last to the first
pub written_join : (state : State) (xs ys : List Write) → written state (xs ++ ys) ≡ written (written state ys) xs
written_join state [] ys = refl
written_join state ((None, z) ∷ xs) ys = written_join state xs ys
written_join state ((Some n, z) ∷ xs) ys = ap (λ s. put s n z) (written_join state xs ys)

and_true : (b : Bool) → b ≡ (b && true)
and_true true = refl
and_true false = refl

-- a write that is made, and lies in range
pub inside_made : (ranges : Ranges) (state : State) (w : CWrite) (r : Bool) (z : ℤ) (range : ℤ × ℤ) →
    form_value state [] w.when ≡ true → z ≡ term_value state [] w.value → slice_get ranges w.slot ≡ Some range →
    r ≡ in_range (Some range) z → r ≡ list_all (is_inside ranges) (write_at state w)
inside_made ranges state w r z range holds number there test =
    test ∙ ap (λ o. in_range o z) (sym there) ∙ ap (in_range (slice_get ranges w.slot)) number
    ∙ and_true (in_range (slice_get ranges w.slot) (term_value state [] w.value))
    ∙ ap (list_all (is_inside ranges)) (sym (made state w holds))

narrowed_none : (b : Bool) (z : ℤ) → None ≡ cond b (Some z) None → b ≡ false
narrowed_none true z e = cc
narrowed_none false z e = refl

-- no write that lies in range is out of it
pub not_outside : (ranges : Ranges) (state : State) (w : CWrite) (z : ℤ) (range : ℤ × ℤ) →
    form_value state [] w.when ≡ true → z ≡ term_value state [] w.value → slice_get ranges w.slot ≡ Some range →
    None ≡ cond (in_range (Some range) z) (Some z) None → IsTrue (list_all (is_inside ranges) (write_at state w)) → ⊥
not_outside ranges state w z range holds number there none inside =
    let out = narrowed_none (in_range (Some range) z) z none in
    let outside : false ≡ list_all (is_inside ranges) (write_at state w) =
    inside_made ranges state w false z range holds number there (sym out) in
    cc

-- each write of those that pass a test does
pub all_each : (t : Write → Bool) (state : State) (ws : List CWrite) (place : ℕ) (w : CWrite) →
    slice_get ws place ≡ Some w → IsTrue (list_all t (inside_writes state ws)) → IsTrue (list_all t (write_at state w))
all_each t state [] place w e all = cc
all_each t state (v ∷ ws) zero w e all =
    let same : v ≡ w = cc in
    subst (λ x. IsTrue (list_all t (write_at state x))) same
    (and_left (list_all t (write_at state v)) (list_all t (inside_writes state ws))
    (sym (all_join t (write_at state v) (inside_writes state ws)) ∙ all))
all_each t state (v ∷ ws) (suc place) w e all =
    all_each t state ws place w e (and_right (list_all t (write_at state v)) (list_all t (inside_writes state ws))
    (sym (all_join t (write_at state v) (inside_writes state ws)) ∙ all))

-- items of parts of a list
pub from_take : (ws : List CWrite) (n place : ℕ) (w : CWrite) → slice_get (take n ws) place ≡ Some w →
    slice_get ws place ≡ Some w
from_take [] zero place w e = e
from_take [] (suc n) place w e = e
from_take (v ∷ ws) zero place w e = cc
from_take (v ∷ ws) (suc n) zero w e = e
from_take (v ∷ ws) (suc n) (suc place) w e = from_take ws n place w e

pub from_drop : (ws : List CWrite) (n place : ℕ) (w : CWrite) → slice_get (drop n ws) place ≡ Some w →
    (m : ℕ) × (slice_get ws m ≡ Some w)
from_drop ws zero place w e = (place, e)
from_drop [] (suc n) place w e = (place, e)
from_drop (v ∷ ws) (suc n) place w e = let there = from_drop ws n place w e in (suc there.0, there.1)

take_enough : (ws : List CWrite) (n : ℕ) → length ws ≤ n → take n ws ≡ ws
take_enough [] zero h = refl
take_enough [] (suc n) h = refl
take_enough (w ∷ ws) zero h = absurd (omega arith)
take_enough (w ∷ ws) (suc n) h = ap (λ xs. w ∷ xs) (take_enough ws n (omega arith))

drop_size : (ws : List CWrite) (n : ℕ) → length (drop n ws) ≤ length ws - n
drop_size ws zero = omega arith
drop_size [] (suc n) = omega arith
drop_size (w ∷ ws) (suc n) = let rest = drop_size ws n in omega (arith, rest)

-- the rest of a list from a place on
pub rest_from : (ws : List CWrite) (n : ℕ) → take (length ws - n) (drop n ws) ≡ drop n ws
rest_from ws n = take_enough (drop n ws) (length ws - n) (drop_size ws n)

-- a step whose writes lie in range and agree is defined
pub defined_by : (ranges : Ranges) (state : State) (s : CStmt) (ws : List CWrite) (b : Bool) → ws ≡ s.writes →
    list_any (form_value state []) s.outside ≡ false → true ≡ list_all (is_inside ranges) (inside_writes state ws) →
    b ≡ all_agree (inside_writes state ws) → b ≡ is_defined ranges (core_writes state s)
defined_by ranges state s ws b same outside inside agree =
    agree ∙ ap (λ a. a && all_agree (inside_writes state ws)) inside
    ∙ ap (λ (xs : List CWrite). is_defined ranges (inside_writes state xs)) same
    ∙ sym (defined_inside ranges state s outside)

pub undefined_by : (ranges : Ranges) (state : State) (s : CStmt) (ws : List CWrite) → ws ≡ s.writes →
    list_any (form_value state []) s.outside ≡ false → false ≡ list_all (is_inside ranges) (inside_writes state ws) →
    false ≡ is_defined ranges (core_writes state s)
undefined_by ranges state s ws same outside inside =
    ap (λ a. a && all_agree (inside_writes state ws)) inside
    ∙ ap (λ (xs : List CWrite). is_defined ranges (inside_writes state xs)) same
    ∙ sym (defined_inside ranges state s outside)

some_where : {X : Type 0} (b : Bool) (x : X) → is_some (cond b (Some x) None) ≡ b
some_where true x = refl
some_where false x = refl

-- the chosen step is that of the statement
pub chosen_defined : (slots : List CSlot) (p : CProgram) (choice : ℕ) (state : State) (s : CStmt) (b : Bool) →
    slice_get p.statements choice ≡ Some s → b ≡ is_defined (slot_ranges slots) (core_writes state s) →
    b ≡ is_some (chosen_step slots p choice state)
chosen_defined slots p choice state s b there defined =
    defined
    ∙ sym (some_where (is_defined (slot_ranges slots) (core_writes state s)) (written state (core_writes state s)))
    ∙ ap (λ (o : Option CStmt). is_some (option_and_then (λ t. core_step slots t state) o)) (sym there)

pub chosen_none : (slots : List CSlot) (p : CProgram) (choice : ℕ) (state : State) (s : CStmt) →
    slice_get p.statements choice ≡ Some s → false ≡ is_defined (slot_ranges slots) (core_writes state s) →
    chosen_step slots p choice state ≡ None
chosen_none slots p choice state s there defined =
    ap (λ (o : Option CStmt). option_and_then (λ t. core_step slots t state) o) there
    ∙ ap (λ b. cond b (Some (written state (core_writes state s))) None) (sym defined)

none_holds_outside : (ranges : Ranges) (state : State) (s : CStmt) → true ≡ is_defined ranges (core_writes state s) →
    list_any (form_value state []) s.outside ≡ false
none_holds_outside ranges state s defined = go (list_any (form_value state []) s.outside) refl
  where
    go : (b : Bool) → list_any (form_value state []) s.outside ≡ b → b ≡ false
    go true e = let never = undefined_outside ranges state s e in cc
    go false e = refl

-- the writes of a defined step lie in range
pub inside_defined : (ranges : Ranges) (state : State) (s : CStmt) (ws : List CWrite) → ws ≡ s.writes →
    true ≡ is_defined ranges (core_writes state s) → IsTrue (list_all (is_inside ranges) (inside_writes state ws))
inside_defined ranges state s ws same defined =
    let outside = none_holds_outside ranges state s defined in
    let all : true ≡ is_defined ranges (inside_writes state s.writes) =
    defined ∙ defined_inside ranges state s outside in
    subst (λ (xs : List CWrite). IsTrue (list_all (is_inside ranges) (inside_writes state xs))) (sym same)
    (and_left (list_all (is_inside ranges) (inside_writes state s.writes)) (all_agree (inside_writes state s.writes))
    (sym all))

-- a defined step makes its writes
pub chosen_made : (slots : List CSlot) (p : CProgram) (choice : ℕ) (state next : State) (s : CStmt)
    (ws : List CWrite) → slice_get p.statements choice ≡ Some s → ws ≡ s.writes →
    true ≡ is_defined (slot_ranges slots) (core_writes state s) → next ≡ written state (inside_writes state ws) →
    chosen_step slots p choice state ≡ Some next
chosen_made slots p choice state next s ws there same defined made_is =
    let outside = none_holds_outside (slot_ranges slots) state s defined in
    ap (λ (o : Option CStmt). option_and_then (λ t. core_step slots t state) o) there
    ∙ step_done slots s state next outside (defined ∙ defined_inside (slot_ranges slots) state s outside)
    (made_is ∙ ap (λ (xs : List CWrite). written state (inside_writes state xs)) same)
