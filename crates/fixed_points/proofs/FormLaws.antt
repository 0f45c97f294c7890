-- The formula of fixed points is true exactly there.
use Rattle.std.proofs.Common.{◌≡◌, ℕ, ◌<◌, ℤ, pos, List, [], ◌∷◌, ◌++◌, map, length, Bool, true, false, not, cond}
use Rattle.std.proofs.Common.{◌&&◌, ◌||◌, Option, Some, None, IsTrue, All, refl, sym, ap, ◌∙◌, subst, slice_get, arith}
use Rattle.std.specs.List.{list_all, list_any}
use Rattle.std.proofs.lemmas.List.Folds.{list_all-append, list_all-map}
use Rattle.std.proofs.lemmas.List.Elements.{All-head, All-tail, All-weaker}
use Rattle.std.proofs.lemmas.Option.{slice_get-get_or}
use Rattle.meaning_states.specs.State.{State, Ranges, int_eq, is_state}
use Rattle.meaning_states.specs.Step.{Write, is_defined, is_inside, all_agree}
use Rattle.meaning_states.proofs.StepTheorems.{and_left, and_right, both_true}
use Rattle.core_terms.specs.declared.trees.CTerm.TheVariants.{Slot}
use Rattle.core_terms.specs.declared.trees.CForm.{CForm}
use Rattle.core_terms.specs.declared.programs.CSlot.{CSlot}
use Rattle.core_terms.specs.declared.programs.CWrite.{CWrite}
use Rattle.core_terms.specs.declared.programs.CStmt.{CStmt}
use Rattle.core_terms.specs.declared.programs.CProgram.{CProgram}
use Rattle.core_terms.specs.Values.{term_value, form_value, number_at}
use Rattle.core_terms.specs.Steps.{slot_ranges, outside_writes, inside_writes, core_writes, core_step}
use Rattle.core_terms.specs.Folding.{difference_term, zero_form, not_form}
use Rattle.core_terms.specs.Conditions.{WriteFits, StatementFits}
use Rattle.core_terms.proofs.PartLaws.{value-Slot}
use Rattle.core_terms.proofs.FoldingLaws.{value-difference_term, value-zero_form, value-not_form, value-and_form}
use Rattle.core_terms.proofs.FoldingLaws.{value-or_form}
use Rattle.wp_substitution.specs.Preconditions.{all_of, defined_form}
use Rattle.wp_substitution.specs.Exact.{next_passes}
use Rattle.core_terms.proofs.IntTests.{zero_tests}
use Rattle.wp_substitution.proofs.ClosedLaws.{form_closed, term_closed}
use Rattle.wp_substitution.proofs.NeedLaws.{value-all_of}
use Rattle.wp_substitution.proofs.ExactLaws.{definedness}
use Rattle.wp_substitution.proofs.AfterLaws.{length_of_state}
use Rattle.executor.specs.CoreSystem.{core_system}
use Rattle.fixed_points.specs.FixedPoints.{leads_to}
use Rattle.fixed_points.specs.FixedForms.{same_value, fixed_part, fixed_form, HoldsWhereLedBack, HoldsWhereFixed}
use Rattle.fixed_points.specs.FixedForms.{StaysTrue}
use Rattle.fixed_points.specs.Leaving.{is_that_number, changes_nothing, leaves}
use Rattle.fixed_points.proofs.WriteLaws.{same_truth, back_by_writes}
use Rattle.fixed_points.proofs.PointLaws.{fixed_map, tells_fixed_points, fixed_points_stay}

-- writes of a statement that leave their slots as they are

front_all : (t : Write → Bool) (b : Bool) (w : Write) (ws : List Write) →
    list_all t (cond b (w ∷ []) [] ++ ws) ≡ ((not b || t w) && list_all t ws)
front_all t true w ws = refl
front_all t false w ws = refl

-- there is a number at a slot of the state
at_slot : (state : State) (n : ℕ) (z : ℤ) → n < length state →
    int_eq z (number_at state n) ≡ is_that_number (slice_get state n) z
at_slot state n z h = ap (λ o. is_that_number o z) (sym (slice_get-get_or state n (pos 0) h))

pub inside_leave : (state : State) (ws : List CWrite) → All (λ w. w.slot < length state) ws →
    list_all (leaves state) ws ≡ list_all (changes_nothing state) (inside_writes state ws)
inside_leave state [] h = refl
inside_leave state (w ∷ ws) h =
    let rest = inside_leave state ws (All-tail (λ (w : CWrite). w.slot < length state) w ws h) in
    let z = term_value state [] w.value in
    ap (λ b. (not (form_value state [] w.when) || b) && list_all (leaves state) ws)
    (at_slot state w.slot z (All-head (λ (w : CWrite). w.slot < length state) w ws h))
    ∙ ap (λ b. (not (form_value state [] w.when) || is_that_number (slice_get state w.slot) z) && b) rest
    ∙ sym (front_all (changes_nothing state) (form_value state [] w.when) (Some w.slot, z) (inside_writes state ws))

pub outside_leave : (state : State) (fs : List CForm) →
    not (list_any (form_value state []) fs) ≡ list_all (changes_nothing state) (outside_writes state fs)
outside_leave state [] = refl
outside_leave state (f ∷ fs) =
    go (form_value state [] f) (list_any (form_value state []) fs)
    (outside_leave state fs)
    ∙ sym (front_all (changes_nothing state) (form_value state [] f) (None, pos 0) (outside_writes state fs))
  where
    go : (a b : Bool) → not b ≡ list_all (changes_nothing state) (outside_writes state fs) →
        not (a || b) ≡ ((not a || false) && list_all (changes_nothing state) (outside_writes state fs))
    go true b e = refl
    go false b e = e

-- a step leads back where no write lies outside, and each write leaves its slot as it is
pub leaves_back : (slots : List CSlot) (s : CStmt) (state : State) → All (λ w. w.slot < length state) s.writes →
    IsTrue (is_state (slot_ranges slots) state) →
    (not (list_any (form_value state []) s.outside) && list_all (leaves state) s.writes)
    ≡ leads_to (core_step slots s state) state
leaves_back slots s state within is =
    ap (λ b. b && list_all (leaves state) s.writes) (outside_leave state s.outside)
    ∙ ap (λ b. list_all (changes_nothing state) (outside_writes state s.outside) && b)
    (inside_leave state s.writes within)
    ∙ sym (list_all-append (changes_nothing state) (outside_writes state s.outside) (inside_writes state s.writes))
    ∙ back_by_writes (slot_ranges slots) state (core_writes state s) is

-- as a formula

same_here : (state : State) (e : List ℤ) (slots : List CSlot) (w : CWrite) → WriteFits slots w →
    form_value state e (same_value w) ≡ leaves state w
same_here state e slots w fits =
    value-or_form state e (not_form w.when) (zero_form (difference_term w.value (Slot w.slot)))
    ∙ ap (λ b. b || form_value state e (zero_form (difference_term w.value (Slot w.slot))))
    (value-not_form state e w.when
    ∙ ap not (form_closed state e [] w.when fits.condition.params_exist))
    ∙ ap (λ b. not (form_value state [] w.when) || b)
    (value-zero_form state e (difference_term w.value (Slot w.slot))
    ∙ ap (λ z. int_eq z (pos 0)) (value-difference_term state e w.value (Slot w.slot))
    ∙ zero_tests (term_value state e w.value) (term_value state e (Slot w.slot))
    ∙ ap (λ z. int_eq z (term_value state e (Slot w.slot)))
    (term_closed state e [] w.value fits.value.params_exist)
    ∙ ap (λ z. int_eq (term_value state [] w.value) z) (value-Slot state e w.slot))

all_same : (state : State) (e : List ℤ) (slots : List CSlot) (ws : List CWrite) → All (WriteFits slots) ws →
    list_all (λ w. form_value state e (same_value w)) ws ≡ list_all (leaves state) ws
all_same state e slots [] fits = refl
all_same state e slots (w ∷ ws) fits =
    ap (λ b. b && list_all (λ w. form_value state e (same_value w)) ws)
    (same_here state e slots w (All-head (WriteFits slots) w ws fits))
    ∙ ap (λ b. leaves state w && b) (all_same state e slots ws (All-tail (WriteFits slots) w ws fits))

-- a step that leads back is defined
back_defined : (o : Option (List ℤ)) (state : State) → IsTrue (leads_to o state) →
    IsTrue (next_passes (λ next. true) o)
back_defined None state h = cc
back_defined (Some next) state h = refl

-- a defined step has no write outside
defined_outside : (slots : List CSlot) (s : CStmt) (state : State) →
    IsTrue (next_passes (λ next. true) (core_step slots s state)) →
    IsTrue (not (list_any (form_value state []) s.outside))
defined_outside slots s state h =
    sym (outside_inside s.outside) ∙ and_left (list_all (is_inside rs) (outside_writes state s.outside))
    (list_all (is_inside rs) (inside_writes state s.writes))
    (sym (list_all-append (is_inside rs) (outside_writes state s.outside) (inside_writes state s.writes))
    ∙ and_left (list_all (is_inside rs) (core_writes state s)) (all_agree (core_writes state s))
    (is_so (is_defined rs (core_writes state s)) _ h))
  where
    rs : Ranges
    rs = slot_ranges slots

    is_so : (b : Bool) (next : State) → IsTrue (next_passes (λ next. true) (cond b (Some next) None)) → IsTrue b
    is_so true next h = refl
    is_so false next h = cc

    front : (a : Bool) (ws : List Write) (b : Bool) → list_all (is_inside rs) ws ≡ not b →
        list_all (is_inside rs) (cond a ((None, pos 0) ∷ []) [] ++ ws) ≡ not (a || b)
    front true ws b e = refl
    front false ws b e = e

    outside_inside : (fs : List CForm) → list_all (is_inside rs) (outside_writes state fs)
        ≡ not (list_any (form_value state []) fs)
    outside_inside [] = refl
    outside_inside (f ∷ fs) =
        front (form_value state [] f) (outside_writes state fs) (list_any (form_value state []) fs) (outside_inside fs)

pub part_exact : (slots : List CSlot) (s : CStmt) → StatementFits slots s →
    HoldsWhereLedBack slots s (fixed_part slots s)
part_exact slots s fits state e is =
    let length_is = length_of_state slots state is in
    let within : All (λ w. w.slot < length state) s.writes =
    All-weaker (WriteFits slots) (λ w. w.slot < length state)
    (λ w g. let h = g.target in omega (arith, h, length_is)) s.writes fits.writes in
    let back = leaves_back slots s state within is in
    let defined = next_passes (λ next. true) (core_step slots s state) in
    let outside = not (list_any (form_value state []) s.outside) in
    let leave = list_all (leaves state) s.writes in
    let led = leads_to (core_step slots s state) state in
    value-and_form state e (defined_form slots s) (all_of (map same_value s.writes))
    ∙ ap (λ b. b && form_value state e (all_of (map same_value s.writes)))
    (definedness slots s fits state e)
    ∙ ap (λ b. defined && b)
    (value-all_of state e (map same_value s.writes)
    ∙ list_all-map (λ g. form_value state e g) same_value s.writes
    ∙ all_same state e slots s.writes fits.writes)
    ∙ same_truth (defined && leave) led
    (λ h. sym back ∙ both_true outside leave (defined_outside slots s state (and_left defined leave h))
    (and_right defined leave h))
    (λ h. both_true defined leave (back_defined (core_step slots s state) state h)
    (and_right outside leave (back ∙ h)))

parts_exact : (slots : List CSlot) (ss : List CStmt) → All (StatementFits slots) ss → (state : State) (e : List ℤ) →
    IsTrue (is_state (slot_ranges slots) state) →
    list_all (λ s. form_value state e (fixed_part slots s)) ss
    ≡ list_all (λ s. leads_to (core_step slots s state) state) ss
parts_exact slots [] fits state e is = refl
parts_exact slots (s ∷ ss) fits state e is =
    ap (λ b. b && list_all (λ s. form_value state e (fixed_part slots s)) ss)
    (part_exact slots s (All-head (StatementFits slots) s ss fits) state e is)
    ∙ ap (λ b. leads_to (core_step slots s state) state && b)
    (parts_exact slots ss (All-tail (StatementFits slots) s ss fits) state e is)

pub form_exact : (slots : List CSlot) (c : CProgram) → All (StatementFits slots) c.statements →
    HoldsWhereFixed slots c (fixed_form slots c)
form_exact slots c fits state e is =
    value-all_of state e (map (fixed_part slots) c.statements)
    ∙ list_all-map (λ g. form_value state e g) (fixed_part slots) c.statements
    ∙ parts_exact slots c.statements fits state e is ∙ fixed_map slots c state

pub form_stays : (slots : List CSlot) (c : CProgram) (f : CForm) → HoldsWhereFixed slots c f → StaysTrue slots c f
form_stays slots c f exact state next e is h choice step =
    let point = (tells_fixed_points (core_system slots c) state).0 (sym (exact state e is) ∙ h) in
    let same : next ≡ state = fixed_points_stay (core_system slots c) state next choice point step in
    subst (λ t. IsTrue (form_value t e f)) (sym same) h
