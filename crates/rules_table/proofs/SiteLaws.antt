-- What a rule's answer says, and what holds at states where U holds.
use Rattle.std.proofs.Common.{◌≡◌, ℕ, zero, suc, ℤ, List, [], ◌∷◌, ◌++◌, map, Bool, true, false, cond, ◌&&◌, ◌||◌}
use Rattle.std.proofs.Common.{Some, Result, Ok, Err, IsTrue, refl, sym, ◌∙◌, subst, slice_get}
use Rattle.std.specs.List.{list_all, list_any}
use Rattle.case_tables.specs.declared.code_table.Code.{Code}
use Rattle.core_terms.proofs.FrameLaws.{form_frame}
use Rattle.core_terms.proofs.SameLaws.{same_form_is}
use Rattle.core_terms.specs.Places.{names_param}
use Rattle.core_terms.specs.Steps.{slot_ranges, core_step}
use Rattle.core_terms.specs.Trees.{same_form}
use Rattle.core_terms.specs.Values.{form_value}
use Rattle.core_terms.specs.declared.programs.CSlot.{CSlot}
use Rattle.core_terms.specs.declared.programs.CStmt.{CStmt}
use Rattle.core_terms.specs.declared.trees.CForm.{CForm}
use Rattle.core_terms.specs.declared.trees.Range.{Range}
use Rattle.fair_rounds.specs.Records.{holding, are_in_ranges, meets}
use Rattle.fair_rounds.specs.declared.records.Record.{Record}
use Rattle.rules_table.proofs.FormLaws.{imply_gives, all_append, all_join}
use Rattle.rules_table.specs.Conclusion.{Conclusion}
use Rattle.fixed_points.specs.from_wp_substitution.Exact.{next_passes, HoldsWhereDefined, HoldsBefore}
use Rattle.fixed_points.proofs.lemmas_from_wp_substitution.ExactLaws.{definedness, precondition}
use Rattle.core_terms.specs.Conditions.{StatementFits}
use Rattle.rules_table.proofs.EachLaws.{from_all, each_at}
use Rattle.rules_table.specs.Forms.{imply}
use Rattle.rules_table.specs.Limits.{fits, is_provable}
use Rattle.fixed_points.specs.from_wp_substitution.Preconditions.{defined_form, wp_form}
use Rattle.rules_table.specs.Sound.{IsSite, NamesNoParameter, NameNoParameter}
use Rattle.rules_table.specs.Table.{Site, needs, go_on, with_each, under_with, goals_of, concluded, kept_form}
use Rattle.rules_table.specs.Validity.{IsValid, AllValid}
use Rattle.meaning_states.proofs.StepTheorems.{and_left, and_right, both_true}
use Rattle.meaning_states.specs.State.{State, is_state}
use Rattle.meaning_executions.specs.Execution.{act_step}

-- a condition that was met
pub met : {A : Type 0} (b : Bool) (code : Code) (rest : Result A Code) (x : A) → needs b code rest ≡ Ok x →
    IsTrue b × (rest ≡ Ok x)
met true code rest x e = (refl, e)
met false code rest x e = cc

-- a part's answer, and what follows it
pub went_on : {A B : Type 0} (r : Result A Code) (f : A → Result B Code) (y : B) → go_on r f ≡ Ok y →
    (x : A) × (r ≡ Ok x) × (f x ≡ Ok y)
went_on (Ok x) f y e = (x, refl, e)
went_on (Err code) f y e = cc

-- what was concluded
pub concluded_is : (slots : List CSlot) (ranges : List Range) (made : Record) (forms : List CForm) (d : Conclusion) →
    concluded slots ranges made forms ≡ Ok d →
    d ≡ (record { made = made; goals = goals_of ranges forms })
unfolding concluded
concluded_is slots ranges made forms d e =
    let small = met ((fits slots ranges made.p && fits slots ranges made.q) && list_all (is_provable slots ranges)
    forms)
    Code.FormulaTooLarge
    (Ok (record { made = made; goals = goals_of ranges forms })) d e in
    cc (small.1)

-- the formulas of valid obligations are valid
abbrev pub AreValid : List CSlot → List Range → List CForm → Type 0
AreValid slots params [] = Unit {0}
AreValid slots params (f ∷ fs) = IsValid slots params f × AreValid slots params fs

pub are_valid : (slots : List CSlot) (params : List Range) (fs : List CForm) → AllValid slots (goals_of params fs) →
    AreValid slots params fs
are_valid slots params [] h = tt
are_valid slots params (f ∷ fs) h = (h.0, are_valid slots params fs h.1)

pub valid_parts : (slots : List CSlot) (params : List Range) (fs gs : List CForm) → AreValid slots params (fs ++ gs) →
    AreValid slots params fs × AreValid slots params gs
valid_parts slots params [] gs h = (tt, h)
valid_parts slots params (f ∷ fs) gs h = let rest = valid_parts slots params fs gs h.1 in ((h.0, rest.0), rest.1)

pub valid_at : {X : Type 0} (slots : List CSlot) (params : List Range) (make : X → CForm) (xs : List X) →
    AreValid slots params (map make xs) →
    (place : ℕ) (x : X) → slice_get xs place ≡ Some x → IsValid slots params (make x)
valid_at slots params make [] h place x e = cc
valid_at slots params make (y ∷ xs) h zero x e = let same : y ≡ x = cc in subst (λ v. IsValid slots params (make v))
    same h.0
valid_at slots params make (y ∷ xs) h (suc place) x e = valid_at slots params make xs h.1 place x e

-- a step by choice is the step of a statement
pub chosen_statement : (slots : List CSlot) (ss : List CStmt) (choice : ℕ) (s t : State) →
    act_step s (slice_get (map (core_step slots) ss) choice) ≡ Some t →
    (i : CStmt) × (slice_get ss choice ≡ Some i) × (core_step slots i s ≡ Some t)
chosen_statement slots [] choice s t e = cc
chosen_statement slots (i ∷ is) zero s t e = (i, refl, e)
chosen_statement slots (i ∷ is) (suc choice) s t e = chosen_statement slots is choice s t e

-- what holds of formulas each once holds of all of them
one_among : (test : CForm → Bool) (f g : CForm) (seen : List CForm) → (IsTrue (list_any (same_form f) seen) →
    IsTrue (list_all test seen) → IsTrue (test f)) →
    IsTrue (test g && list_all test seen) → (b : Bool) → same_form f g ≡ b →
    IsTrue (b || list_any (same_form f) seen) → IsTrue (test f)
one_among test f g seen rest h true same k =
    let equal = same_form_is f g same in subst (λ x. IsTrue (test x)) (sym equal)
    (and_left (test g) (list_all test seen) h)
one_among test f g seen rest h false same k = rest k (and_right (test g) (list_all test seen) h)

among : (test : CForm → Bool) (f : CForm) (seen : List CForm) → IsTrue (list_any (same_form f) seen) →
    IsTrue (list_all test seen) → IsTrue (test f)
among test f [] e h = cc
among test f (g ∷ seen) e h = one_among test f g seen (λ k t. among test f seen k t) h (same_form f g) refl e

each_step : (test : CForm → Bool) (seen : List CForm) (f : CForm) (fs : List CForm) →
    ((more : List CForm) → IsTrue (list_all test (with_each more fs)) → IsTrue (list_all test more) × IsTrue
    (list_all test fs)) →
    (b : Bool) → list_any (same_form f) seen ≡ b →
    IsTrue (list_all test (with_each (cond b seen (seen ++ (f ∷ []))) fs)) →
    IsTrue (list_all test seen) × IsTrue (test f && list_all test fs)
each_step test seen f fs rest true e k =
    let both = rest seen k in (both.0, both_true (test f) (list_all test fs) (among test f seen e both.0) both.1)
each_step test seen f fs rest false e k =
    let both = rest (seen ++ (f ∷ [])) k in
    let parts = all_append test seen (f ∷ []) both.0 in
    (parts.0, both_true (test f) (list_all test fs) (and_left (test f) true parts.1) both.1)

all_of_each : (test : CForm → Bool) (seen fs : List CForm) → IsTrue (list_all test (with_each seen fs)) →
    IsTrue (list_all test seen) × IsTrue (list_all test fs)
all_of_each test seen [] h = (h, refl)
all_of_each test seen (f ∷ fs) h = each_step test seen f fs (λ more. all_of_each test more fs)
    (list_any (same_form f) seen) refl h

-- a formula without parameters is worth the same at all numbers
pub closed_value : (s e : List ℤ) (f : CForm) → NamesNoParameter f → form_value s e f ≡ form_value s [] f
closed_value s e f closed = form_frame s e [] f (λ n t. absurd (none n t))
  where
    none : (n : ℕ) → IsTrue (names_param n f) → ⊥
    none n t = let no = closed n in cc

pub closed_all : (s e : List ℤ) (fs : List CForm) → NameNoParameter fs → IsTrue (list_all (λ f. form_value s [] f) fs) →
    IsTrue (list_all (λ f. form_value s e f) fs)
closed_all s e [] closed h = refl
closed_all s e (f ∷ fs) closed h =
    both_true (form_value s e f) (list_all (λ g. form_value s e g) fs)
    (closed_value s e f closed.0 ∙ and_left (form_value s [] f) (list_all (λ g. form_value s [] g) fs) h)
    (closed_all s e fs closed.1 (and_right (form_value s [] f) (list_all (λ g. form_value s [] g) fs) h))

-- what a state of the record's `under` has
pub record Met (site : Site) (more : List CForm) (s : State) : Type 0 where
  pub state : IsTrue (is_state (slot_ranges site.slots) s)
  pub using : (e : List ℤ) → IsTrue (list_all (λ f. form_value s e f) site.using)
  pub parts : IsTrue (list_all (λ f. form_value s [] f) more)

pub meets_means : (site : Site) → NameNoParameter site.using → (more : List CForm) (s : State) →
    IsTrue (meets site.slots (under_with site more) s) → Met site more s
meets_means site closed more s h =
    let all = all_of_each (λ f. form_value s [] f) [] (site.using ++ more)
    (and_right (is_state (slot_ranges site.slots) s) (list_all (λ f. form_value s [] f) (under_with site more)) h) in
    let parts = all_append (λ f. form_value s [] f) site.using more all.1 in
    record {
      state = and_left (is_state (slot_ranges site.slots) s) (list_all (λ f. form_value s [] f)
          (under_with site more)) h;
      using = λ e. closed_all s e site.using closed parts.0;
      parts = parts.1;
    }

-- the formulas of a statement of the program are exact
pub defined_exact : (site : Site) → IsSite site → (place : ℕ) (i : CStmt) →
    slice_get site.program.statements place ≡ Some i → HoldsWhereDefined site.slots i (defined_form site.slots i)
defined_exact site good place i there =
    definedness site.slots i
    (each_at (StatementFits site.slots) site.program.statements
    (from_all (StatementFits site.slots) site.program.statements good.statements) place i there)

pub after_exact : (site : Site) → IsSite site → (place : ℕ) (i : CStmt) →
    slice_get site.program.statements place ≡ Some i → (q : CForm) → HoldsBefore site.slots i q
    (wp_form site.slots i q)
after_exact site good place i there q =
    precondition site.slots i q
    (each_at (StatementFits site.slots) site.program.statements
    (from_all (StatementFits site.slots) site.program.statements good.statements) place i there)

-- a valid obligation of a statement: what holds before its step gives q after it
pub kept_after : (site : Site) → IsSite site →
    (before : List CForm) (q : CForm) (params : List Range) (i : CStmt) (place : ℕ) →
    slice_get site.program.statements place ≡ Some i → IsValid site.slots params (kept_form site before q i) →
    (e : List ℤ) → IsTrue (are_in_ranges params e) →
    (now next : State) → IsTrue (is_state (slot_ranges site.slots) now) →
    IsTrue (list_all (λ f. form_value now e f) site.using) →
    IsTrue (list_all (λ f. form_value next e f) site.using) → IsTrue (list_all (λ f. form_value now e f) before) →
    core_step site.slots i now ≡ Some next → IsTrue (form_value next e q)
kept_after site good before q params i place there valid e inside now next state using after holds step =
    let wp : IsTrue (form_value now e (wp_form site.slots i (imply site.using q))) =
    imply_gives now e (site.using ++ before) (wp_form site.slots i (imply site.using q)) (valid now e state inside)
    (all_join (λ f. form_value now e f) site.using before using holds) in
    let passes : IsTrue (next_passes (holding e (imply site.using q)) (Some next)) =
    subst (λ o. IsTrue (next_passes (holding e (imply site.using q)) o)) step
    (sym (after_exact site good place i there (imply site.using q) now e state) ∙ wp) in
    imply_gives next e site.using q passes after
