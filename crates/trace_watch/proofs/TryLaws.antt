-- What the instances of a core program do at a state, one after the other.
use Rattle.std.proofs.Common.{◌≡◌, ℕ, zero, suc, ◌+◌, ◌<◌, ◌≢◌, ℤ, List, [], ◌∷◌, map, length, drop, slice_get, Bool}
use Rattle.std.proofs.Common.{true, false, not, ◌&&◌, ◌||◌, Option, Some, None, option_and_then, refl, ◌≤◌, sym, ap}
use Rattle.std.proofs.Common.{◌∙◌}
use Rattle.std.proofs.Common.{arith, cond, IsTrue, ◌^◌, le_refl}
use Rattle.std.specs.List.{list_any, position_from}
use Rattle.std.specs.Option.{is_some, is_none}
use Rattle.meaning_states.specs.State.{State, int_eq, in_range, is_state}
use Rattle.meaning_states.proofs.StepTheorems.{and_left, and_right, step_keeps_ranges}
use Rattle.meaning_executions.specs.Properties.{Test}
use Rattle.meaning_executions.specs.Execution.{act_step, chosen_step}
use Rattle.core_terms.specs.declared.programs.CSlot.{CSlot}
use Rattle.core_terms.specs.declared.programs.CStmt.{CStmt}
use Rattle.core_terms.specs.declared.programs.CProgram.{CProgram}
use Rattle.core_terms.specs.declared.trees.Range.{Range}
use Rattle.core_terms.specs.declared.trees.CForm.{CForm}
use Rattle.core_terms.specs.Steps.{core_step, core_writes, slot_ranges}
use Rattle.core_terms.specs.Weights.{form_weight, number_weight, place_weight, slot_weight}
use Rattle.core_terms.specs.Places.{form_slots, form_params}
use Rattle.core_terms.specs.Conditions.{FormFits}
use Rattle.fair_rounds.specs.Records.{are_in_ranges}
use Rattle.executor.specs.CoreSystem.{core_system}
use Rattle.meaning_executions.specs.Counting.{ints_eq}
use Rattle.executor.specs.Running as runner
use Rattle.executor.proofs.StateLaws.{number_light, state_length, within}
use Rattle.executor.proofs.WeightLaws.{form_less}
use Rattle.trace_watch.specs.Readings.{is_stuck, is_helped, passes}

-- the next item of a list

next_any : {X : Type 0} (t : X → Bool) (xs : List X) (n : ℕ) (x : X) → slice_get xs n ≡ Some x →
    list_any t (drop n xs) ≡ (t x || list_any t (drop (suc n) xs))
next_any t [] n x e = cc
next_any t (y ∷ xs) zero x e = let same : y ≡ x = cc in ap (λ z. t z || list_any t xs) same
next_any t (y ∷ xs) (suc n) x e = next_any t xs n x e

pub next_position : {X : Type 0} (t : X → Bool) (xs : List X) (i n : ℕ) (x : X) → slice_get xs n ≡ Some x →
    position_from t i (drop n xs) ≡ cond (t x) (Some i) (position_from t (i + 1) (drop (n + 1) xs))
next_position {X = X} t xs i n x e =
    let one : suc n ≡ n + 1 = omega arith in
    go xs n e ∙ ap (λ m. cond (t x) (Some i) (position_from t (i + 1) (drop m xs))) one
  where
    go : (ys : List X) (m : ℕ) → slice_get ys m ≡ Some x →
        position_from t i (drop m ys) ≡ cond (t x) (Some i) (position_from t (i + 1) (drop (suc m) ys))
    go [] m e = cc
    go (y ∷ ys) zero e =
        let same : y ≡ x = cc in ap (λ z. cond (t z) (Some i) (position_from t (i + 1) ys)) same
    go (y ∷ ys) (suc m) e = go ys m e

item_at : {X : Type 0} (xs : List X) (n : ℕ) → n < length xs → (x : X) × (slice_get xs n ≡ Some x)
item_at [] n h = absurd (omega arith)
item_at (x ∷ xs) zero h = (x, refl)
item_at (x ∷ xs) (suc n) h = item_at xs n (omega arith)

-- the instances of a core program

pub stuck_map : (slots : List CSlot) (p : CProgram) (state : State) →
    list_any (λ s. is_none (core_step slots s state)) p.statements ≡ is_stuck (core_system slots p) state
stuck_map slots p state = go p.statements
  where
    go : (ss : List CStmt) → list_any (λ s. is_none (core_step slots s state)) ss
        ≡ list_any (λ act. is_none (act state)) (map (core_step slots) ss)
    go [] = refl
    go (s ∷ ss) = ap (λ b. is_none (core_step slots s state) || b) (go ss)

pub next_stuck : (slots : List CSlot) (p : CProgram) (state : State) (choice : ℕ) (b : Bool) →
    choice < length p.statements → b ≡ is_some (runner.chosen_step slots p choice state) →
    list_any (λ s. is_none (core_step slots s state)) (drop choice p.statements)
    ≡ (not b || list_any (λ s. is_none (core_step slots s state)) (drop (choice + 1) p.statements))
next_stuck slots p state choice b h test =
    let found = item_at p.statements choice h in
    let its : b ≡ is_some (core_step slots found.0 state) =
    test ∙ ap (λ (o : Option CStmt). is_some (option_and_then (λ s. core_step slots s state) o)) found.1 in
    let one : suc choice ≡ choice + 1 = omega arith in
    next_any (λ s. is_none (core_step slots s state)) p.statements choice found.0 found.1
    ∙ ap (λ a. not a || list_any (λ s. is_none (core_step slots s state)) (drop (suc choice) p.statements)) (sym its)
    ∙ ap (λ n. not b || list_any (λ s. is_none (core_step slots s state)) (drop n p.statements)) one

-- a chosen step is that of the system
pub core_chosen : (slots : List CSlot) (p : CProgram) (choice : ℕ) (state : State) →
    runner.chosen_step slots p choice state ≡ chosen_step (core_system slots p) choice state
core_chosen slots p choice state = go p.statements choice
  where
    go : (ss : List CStmt) (n : ℕ) → option_and_then (λ s. core_step slots s state) (slice_get ss n)
        ≡ act_step state (slice_get (map (core_step slots) ss) n)
    go [] n = refl
    go (s ∷ ss) zero = refl
    go (s ∷ ss) (suc n) = go ss n

pub none_chosen : (slots : List CSlot) (p : CProgram) (choice : ℕ) (state : State) → length p.statements ≤ choice →
    chosen_step (core_system slots p) choice state ≡ None
none_chosen slots p choice state h = go p.statements choice h
  where
    go : (ss : List CStmt) (n : ℕ) → length ss ≤ n → act_step state (slice_get (map (core_step slots) ss) n) ≡ None
    go [] n h = refl
    go (s ∷ ss) zero h = absurd (omega arith)
    go (s ∷ ss) (suc n) h = go ss n (omega arith)

-- equal lists of numbers

pub ints_next : (xs ys : List ℤ) (n : ℕ) (x y : ℤ) → slice_get xs n ≡ Some x → slice_get ys n ≡ Some y →
    ints_eq (drop n xs) (drop n ys) ≡ (int_eq x y && ints_eq (drop (n + 1) xs) (drop (n + 1) ys))
ints_next xs ys n x y e f =
    let one : suc n ≡ n + 1 = omega arith in
    go xs ys n e f ∙ ap (λ m. int_eq x y && ints_eq (drop m xs) (drop m ys)) one
  where
    go : (us vs : List ℤ) (m : ℕ) → slice_get us m ≡ Some x → slice_get vs m ≡ Some y →
        ints_eq (drop m us) (drop m vs) ≡ (int_eq x y && ints_eq (drop (suc m) us) (drop (suc m) vs))
    go [] vs m e f = cc
    go (a ∷ us) [] m e f = cc
    go (a ∷ us) (b ∷ vs) zero e f =
        let one : a ≡ x = cc in
        let two : b ≡ y = cc in ap (λ z. int_eq z b && ints_eq us vs) one ∙ ap (λ z. int_eq x z && ints_eq us vs) two
    go (a ∷ us) (b ∷ vs) (suc m) e f = go us vs m e f

pub ints_end : (xs ys : List ℤ) (n : ℕ) → length xs ≤ n → length ys ≤ n → ints_eq (drop n xs) (drop n ys) ≡ true
ints_end [] [] zero h k = refl
ints_end [] [] (suc n) h k = refl
ints_end [] (y ∷ ys) zero h k = absurd (omega arith)
ints_end [] (y ∷ ys) (suc n) h k = none ys n (omega arith)
  where
    none : (zs : List ℤ) (m : ℕ) → length zs ≤ m → ints_eq [] (drop m zs) ≡ true
    none [] zero h = refl
    none [] (suc m) h = refl
    none (z ∷ zs) zero h = absurd (omega arith)
    none (z ∷ zs) (suc m) h = none zs m (omega arith)
ints_end (x ∷ xs) ys zero h k = absurd (omega arith)
ints_end (x ∷ xs) [] (suc n) h k = none xs n (omega arith)
  where
    none : (zs : List ℤ) (m : ℕ) → length zs ≤ m → ints_eq (drop m zs) [] ≡ true
    none [] zero h = refl
    none [] (suc m) h = refl
    none (z ∷ zs) zero h = absurd (omega arith)
    none (z ∷ zs) (suc m) h = none zs m (omega arith)
ints_end (x ∷ xs) (y ∷ ys) (suc n) h k = ints_end xs ys n (omega arith) (omega arith)

pub ints_differ : (xs ys : List ℤ) → length xs ≢ length ys → ints_eq xs ys ≡ false
ints_differ [] [] d = absurd (d refl)
ints_differ [] (y ∷ ys) d = refl
ints_differ (x ∷ xs) [] d = refl
ints_differ (x ∷ xs) (y ∷ ys) d = go (int_eq x y) (ints_differ xs ys (λ e. d (ap (λ n. suc n) e)))
  where
    go : (b : Bool) → ints_eq xs ys ≡ false → (b && ints_eq xs ys) ≡ false
    go true e = e
    go false e = refl

-- a defined step leads to a state

pub chosen_keeps : (slots : List CSlot) (p : CProgram) (choice : ℕ) (state next : State) →
    IsTrue (is_state (slot_ranges slots) state) → runner.chosen_step slots p choice state ≡ Some next →
    IsTrue (is_state (slot_ranges slots) next)
chosen_keeps slots p choice state next h e = go (slice_get p.statements choice) e
  where
    go : (o : Option CStmt) → option_and_then (λ s. core_step slots s state) o ≡ Some next →
        IsTrue (is_state (slot_ranges slots) next)
    go None e = cc
    go (Some s) e = step_keeps_ranges (slot_ranges slots) (core_writes state s) state next h e

-- a formula can be evaluated at a state, with numbers in the ranges of its parameters

param_light : (params : List Range) (e : List ℤ) → IsTrue (are_in_ranges params e) → (n : ℕ) →
    number_weight e n ≤ place_weight params n
param_light [] [] h n = le_refl 1
param_light [] (z ∷ zs) h n = cc
param_light (r ∷ rs) [] h n = cc
param_light (r ∷ rs) (z ∷ zs) h zero =
    let inside = and_left (in_range (Some (r.lo, r.hi)) z) (are_in_ranges rs zs) h in
    omega (arith, within r.lo r.hi z inside)
param_light (r ∷ rs) (z ∷ zs) h (suc n) =
    param_light rs zs (and_right (in_range (Some (r.lo, r.hi)) z) (are_in_ranges rs zs) h) n

params_length : (params : List Range) (e : List ℤ) → IsTrue (are_in_ranges params e) → length e ≡ length params
params_length [] [] h = refl
params_length [] (z ∷ zs) h = cc
params_length (r ∷ rs) [] h = cc
params_length (r ∷ rs) (z ∷ zs) h =
    ap (λ n. suc n) (params_length rs zs (and_right (in_range (Some (r.lo, r.hi)) z) (are_in_ranges rs zs) h))

pub form_holds : (slots : List CSlot) (params : List Range) (state : State) (e : List ℤ) (f : CForm) →
    IsTrue (is_state (slot_ranges slots) state) → IsTrue (are_in_ranges params e) → FormFits slots params f →
    (form_slots f ≤ length state) × (form_params f ≤ length e)
    × (form_weight (number_weight state) (number_weight e) f ≤ 2 ^ 62)
form_holds slots params state e f h inside fits = (
  omega (arith, state_length slots state h, fits.slots_exist),
  omega (arith, params_length params e inside, fits.params_exist),
  omega (
    arith,
    fits.weight,
    form_less (number_weight state) (number_weight e) (slot_weight slots) (place_weight params)
        (number_light slots state h) (param_light params e inside) f,
  ),
)

-- an instance that is no instance helps not
pub no_help : (slots : List CSlot) (p : CProgram) (q : Test) (choice : ℕ) (state : State) (helper : Option ℕ) →
    helper ≡ Some choice → length p.statements ≤ choice → false ≡ is_helped (core_system slots p) q helper state
no_help slots p q choice state helper named h =
    ap (λ o. passes q o) (sym (none_chosen slots p choice state h))
    ∙ ap (λ o. is_helped (core_system slots p) q o state) (sym named)

pub some_help : (slots : List CSlot) (p : CProgram) (q : Test) (choice : ℕ) (state : State) (helper : Option ℕ)
    (b : Bool) → helper ≡ Some choice → b ≡ passes q (runner.chosen_step slots p choice state) →
    b ≡ is_helped (core_system slots p) q helper state
some_help slots p q choice state helper b named test =
    test ∙ ap (passes q) (core_chosen slots p choice state)
    ∙ ap (λ o. is_helped (core_system slots p) q o state) (sym named)
