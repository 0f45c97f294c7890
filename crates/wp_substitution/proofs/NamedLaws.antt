-- The formulas of a statement name no slot and no parameter that its parts do not name.
use Rattle.std.proofs.Common.{ℕ, ◌≤◌, nat_eq, List, [], ◌∷◌, ◌++◌, map, filter, length, Bool, true, false, cond}
use Rattle.std.proofs.Common.{Option, Some, None, All, refl, arith}
use Rattle.std.specs.Prelude.{slice_get}
use Rattle.std.proofs.lemmas.List.Elements.{All-nil, All-cons, All-head, All-tail, All-append, All-map, All-weaker}
use Rattle.core_terms.specs.declared.trees.CTerm.{CTerm, fold-CTerm}
use Rattle.core_terms.specs.declared.trees.CTerm.TheVariants.{Const, Slot, Param}
use Rattle.core_terms.specs.declared.trees.CForm.{CForm, fold-CForm}
use Rattle.core_terms.specs.declared.trees.CForm.TheOpen.{CTerm-F}
use Rattle.core_terms.specs.declared.programs.CSlot.{CSlot}
use Rattle.core_terms.specs.declared.programs.CWrite.{CWrite}
use Rattle.core_terms.specs.declared.programs.CStmt.{CStmt}
use Rattle.core_terms.specs.Places.{greatest_part, slots_step, params_step, form_slots, form_params, term_slots}
use Rattle.core_terms.specs.Places.{term_params}
use Rattle.core_terms.specs.Conditions.{FormFits, WriteFits, StatementFits}
use Rattle.core_terms.specs.Folding.{choice_term, not_form, and_form}
use Rattle.wp_substitution.specs.Preconditions.{and_all, all_of, inside_form, write_form, pair_form, writes_to}
use Rattle.wp_substitution.specs.Preconditions.{pair_forms, needs, defined_form, slot_after, form_after, wp_form}
use Rattle.wp_substitution.proofs.PlaceLaws.{Counts, count-Slot, count-Param, difference_within, constant_within}
use Rattle.wp_substitution.proofs.PlaceLaws.{choice_within, at_least_within, zero_within, not_within, and_within}
use Rattle.wp_substitution.proofs.PlaceLaws.{or_within, top_within, bottom_within, form_within}

all_kept : {X : Type 0} (P : X → Type 0) (test : X → Bool) (xs : List X) → All P xs → All P (filter test xs)
all_kept P test [] h = h
all_kept {X} P test (x ∷ xs) h =
    let rest = all_kept P test xs (All-tail P x xs h) in
    elim (test x) as (λ b. All P (cond b (x ∷ filter test xs) (filter test xs))) [
      | true ↦ All-cons P x (filter test xs) (All-head P x xs h) rest
      | false ↦ rest
    ]

module _ (step : CTerm-F ℕ ℕ → ℕ) (counts : Counts step) (limit : ℕ) where
  abbrev FormBelow : CForm → Type 0
  FormBelow f = fold-CForm ℕ ℕ greatest_part step f ≤ limit

  abbrev TermBelow : CTerm → Type 0
  TermBelow t = fold-CTerm ℕ ℕ greatest_part step t ≤ limit

  abbrev WriteBelow : CWrite → Type 0
  WriteBelow w = FormBelow w.when × TermBelow w.value

  and_all_below : (f : CForm) (fs : List CForm) → FormBelow f → All FormBelow fs → FormBelow (and_all f fs)
  and_all_below f [] h k = h
  and_all_below f (g ∷ gs) h k =
      and_all_below (and_form f g) gs (and_within step counts limit f g h (All-head FormBelow g gs k))
      (All-tail FormBelow g gs k)

  pub all_of_below : (fs : List CForm) → All FormBelow fs → FormBelow (all_of fs)
  all_of_below [] h = top_within step counts limit
  all_of_below (f ∷ fs) h = and_all_below f fs (All-head FormBelow f fs h) (All-tail FormBelow f fs h)

  inside_below : (value : CTerm) (o : Option CSlot) → TermBelow value → FormBelow (inside_form value o)
  inside_below value None h = bottom_within step counts limit
  inside_below value (Some s) h =
      let low = constant_within step counts limit s.range.lo in
      let high = constant_within step counts limit s.range.hi in
      and_within step counts limit _ _
      (at_least_within step counts limit _ (difference_within step counts limit value (Const s.range.lo) h low))
      (at_least_within step counts limit _ (difference_within step counts limit (Const s.range.hi) value high h))

  write_below : (slots : List CSlot) (w : CWrite) → WriteBelow w → FormBelow (write_form slots w)
  write_below slots w h =
      or_within step counts limit _ _ (not_within step counts limit w.when h.0)
      (inside_below w.value (slice_get slots w.slot) h.1)

  pair_below : (v w : CWrite) → WriteBelow v → WriteBelow w → FormBelow (pair_form v w)
  pair_below v w h k =
      or_within step counts limit _ _
      (not_within step counts limit _ (and_within step counts limit v.when w.when h.0 k.0))
      (zero_within step counts limit _ (difference_within step counts limit v.value w.value h.1 k.1))

  pairs_below : (ws : List CWrite) → All WriteBelow ws → All FormBelow (pair_forms ws)
  pairs_below [] h = All-nil FormBelow
  pairs_below (w ∷ ws) h =
      let first = All-head WriteBelow w ws h in
      let rest = All-tail WriteBelow w ws h in
      All-append FormBelow (map (pair_form w) (writes_to w.slot ws)) (pair_forms ws)
      (All-map FormBelow (pair_form w) (writes_to w.slot ws)
      (All-weaker WriteBelow (λ v. FormBelow (pair_form w v)) (λ v k. pair_below w v first k) (writes_to w.slot ws)
      (all_kept WriteBelow (λ v. nat_eq w.slot v.slot) ws rest)))
      (pairs_below ws rest)

  pub defined_below : (slots : List CSlot) (s : CStmt) → All FormBelow s.outside → All WriteBelow s.writes →
      FormBelow (defined_form slots s)
  defined_below slots s h k =
      all_of_below (needs slots s)
      (All-append FormBelow (map not_form s.outside ++ map (write_form slots) s.writes) (pair_forms s.writes)
      (All-append FormBelow (map not_form s.outside) (map (write_form slots) s.writes)
      (All-map FormBelow not_form s.outside
      (All-weaker FormBelow (λ f. FormBelow (not_form f)) (λ f g. not_within step counts limit f g) s.outside h))
      (All-map FormBelow (write_form slots) s.writes
      (All-weaker WriteBelow (λ w. FormBelow (write_form slots w)) (λ w g. write_below slots w g) s.writes k)))
      (pairs_below s.writes k))

  pub slot_below : (ws : List CWrite) (n : ℕ) → All WriteBelow ws → TermBelow (Slot n) → TermBelow (slot_after ws n)
  slot_below [] n h k = k
  slot_below (w ∷ ws) n h k =
      let rest = slot_below ws n (All-tail WriteBelow w ws h) k in
      let first = All-head WriteBelow w ws h in
      elim (nat_eq w.slot n)
      as (λ b. TermBelow (cond b (choice_term w.when w.value (slot_after ws n)) (slot_after ws n))) [
        | true ↦ choice_within step counts limit w.when w.value (slot_after ws n) first.0 first.1 rest
        | false ↦ rest
      ]

  pub after_below : (ws : List CWrite) (q : CForm) → All WriteBelow ws → FormBelow q → FormBelow (form_after ws q)
  after_below ws q h k =
      form_within step counts limit (slot_after ws) (λ n. Param n)
      (λ n e. slot_below ws n h (omega (arith, e, count-Slot step counts n)))
      (λ n e. omega (arith, e, count-Param step counts n)) q k

  pub wp_below : (slots : List CSlot) (s : CStmt) (q : CForm) → All FormBelow s.outside → All WriteBelow s.writes →
      FormBelow q → FormBelow (wp_form slots s q)
  wp_below slots s q h k g =
      and_within step counts limit (defined_form slots s) (form_after s.writes q) (defined_below slots s h k)
      (after_below s.writes q k g)

pub slot_counts : Counts slots_step
slot_counts = record {
  constant = λ c. refl;
  sum = λ a b. refl;
  difference = λ a b. refl;
  multiple = λ k a. refl;
  quotient = λ k a. refl;
  remainder = λ k a. refl;
  choice = λ c a b. refl;
}

pub param_counts : Counts params_step
param_counts = record {
  constant = λ c. refl;
  sum = λ a b. refl;
  difference = λ a b. refl;
  multiple = λ k a. refl;
  quotient = λ k a. refl;
  remainder = λ k a. refl;
  choice = λ c a b. refl;
}

pub wp_slots : (slots : List CSlot) (s : CStmt) (q : CForm) → StatementFits slots s → form_slots q ≤ length slots →
    form_slots (wp_form slots s q) ≤ length slots
wp_slots slots s q h k =
    let limit = length slots in
    wp_below slots_step slot_counts limit slots s q
    (All-weaker (FormFits slots []) (λ f. form_slots f ≤ limit) (λ f g. g.slots_exist) s.outside h.outside)
    (All-weaker (WriteFits slots) (λ w. (form_slots w.when ≤ limit) × (term_slots w.value ≤ limit))
    (λ w g. (g.condition.slots_exist, g.value.slots_exist)) s.writes h.writes) k

outside_params : (slots : List CSlot) (s : CStmt) (limit : ℕ) → StatementFits slots s →
    All (λ f. form_params f ≤ limit) s.outside
outside_params slots s limit h =
    All-weaker (FormFits slots []) (λ f. form_params f ≤ limit)
    (λ f g. let none = g.params_exist in omega (arith, none)) s.outside h.outside

writes_params : (slots : List CSlot) (s : CStmt) (limit : ℕ) → StatementFits slots s →
    All (λ w. (form_params w.when ≤ limit) × (term_params w.value ≤ limit)) s.writes
writes_params slots s limit h =
    All-weaker (WriteFits slots) (λ w. (form_params w.when ≤ limit) × (term_params w.value ≤ limit))
    (λ w g. let one = g.condition.params_exist in let two = g.value.params_exist in
    (omega (arith, one), omega (arith, two))) s.writes h.writes

pub wp_params : (slots : List CSlot) (s : CStmt) (q : CForm) → StatementFits slots s →
    form_params (wp_form slots s q) ≤ form_params q
wp_params slots s q h =
    let limit = form_params q in
    wp_below params_step param_counts limit slots s q (outside_params slots s limit h)
    (writes_params slots s limit h)
    (omega arith)

-- what a statement needs names no parameter, nor does what a slot holds after it
pub defined_params : (slots : List CSlot) (s : CStmt) → StatementFits slots s → form_params (defined_form slots s) ≤ 0
defined_params slots s h =
    defined_below params_step param_counts 0 slots s (outside_params slots s 0 h) (writes_params slots s 0 h)

pub slot_params : (slots : List CSlot) (s : CStmt) (n : ℕ) → StatementFits slots s →
    term_params (slot_after s.writes n) ≤ 0
slot_params slots s n h =
    slot_below params_step param_counts 0 s.writes n (writes_params slots s 0 h)
    (let e = count-Slot params_step param_counts n in omega (arith, e))
