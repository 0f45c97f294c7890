-- What the further rules give stands.
use Rattle.std.proofs.Common.{◌≡◌, ℕ, max, nat_le, ◌^◌, ◌+◌, ℤ, List, [], ◌++◌, Bool, ◌&&◌, ◌||◌, IsTrue}
use Rattle.std.proofs.Common.{sym, ap, ◌∙◌, subst}
use Rattle.std.specs.List.{list_all}
use Rattle.case_tables.specs.declared.kind_table.Kind.{Kind}
use Rattle.case_tables.specs.declared.rule_table.RuleName.{RuleName}
use Rattle.case_tables.specs.declared.code_table.Code.{Code}
use Rattle.core_terms.proofs.FoldingLaws.{value-or_form, value-not_form}
use Rattle.core_terms.proofs.PartLaws.{value-Bottom, value-Or}
use Rattle.core_terms.proofs.SameLaws.{same_form_is}
use Rattle.core_terms.specs.Folding.{and_form, or_form, not_form}
use Rattle.core_terms.specs.Steps.{slot_ranges}
use Rattle.core_terms.specs.Trees.{same_form}
use Rattle.core_terms.specs.Values.{form_value}
use Rattle.core_terms.specs.declared.trees.CTerm.{CTerm}
use Rattle.core_terms.specs.declared.trees.CForm.{CForm, out-CForm, roll-CForm, roll-out-CForm}
use Rattle.core_terms.specs.declared.trees.CForm.TheOpen.{CForm-F}
use Rattle.core_terms.specs.declared.trees.CForm.TheVariants.{Bottom, rolls-Or}
use Rattle.fair_rounds.specs.Records.{holding, meets, KindStands, Stands}
use Rattle.fair_rounds.specs.from_executor.CoreSystem.{core_system}
use Rattle.fair_rounds.specs.declared.records.Record.{Record}
use Rattle.meaning_executions.specs.Execution.{System}
use Rattle.meaning_executions.specs.Properties.{Test, never, implied, Unless}
use Rattle.layer_laws.specs.from_meaning_laws.Stands.{InvariantStands, UnlessStands, ConstantStands, LeadsStands}
use Rattle.meaning_executions.specs.Systems.{kept}
use Rattle.layer_laws.specs.from_meaning_laws.Tests.{both_hold, one_holds, fails, Implies}
use Rattle.layer_laws.proofs.lemmas_from_meaning_laws.StandingTheorems.{unless_narrows, invariant_narrows}
use Rattle.layer_laws.proofs.lemmas_from_meaning_laws.StandingTheorems.{leads_narrows, unless_kept}
use Rattle.layer_laws.proofs.lemmas_from_meaning_laws.PairTheorems.{constancy_rule}
use Rattle.layer_laws.proofs.lemmas_from_meaning_laws.CompletionTheorems.{completion, leads_cancellation}
use Rattle.meaning_states.proofs.StepTheorems.{and_left, and_right, both_true}
use Rattle.meaning_states.specs.State.{State, is_state}
use Rattle.rules_table.proofs.CalcSound.{at_numbers, of_first, of_second, test_and, test_or, like, pair_sound}
use Rattle.rules_table.proofs.FormLaws.{all_append}
use Rattle.rules_table.proofs.SiteLaws.{met}
use Rattle.rules_table.proofs.TextSound.{given}
use Rattle.rules_table.specs.Further.{is_leadsto, record_within, derived, complete_of, ends_on, first_side}
use Rattle.rules_table.specs.Further.{lead_cancel_of, until_of, detects_of, constant_of, pair_by}
use Rattle.rules_table.specs.Sound.{IsSite, NameNoParameter, IsPremise, StandsWhereValid, CompleteSound}
use Rattle.rules_table.specs.Sound.{LeadCancelSound}
use Rattle.rules_table.specs.Sound.{IsSoundOfTwo, UntilSound, DetectsSound, ConstantSound}
use Rattle.rules_table.specs.Table.{Site, needs, under_with, concluded, is_unless, is_invariant}

-- formulas as tests

test_not : (e : List ℤ) (p : CForm) → fails (holding e p) ≡ holding e (not_form p)
test_not e p = λ i s. sym (value-not_form s e p) i

test_never : (e : List ℤ) → holding e Bottom ≡ never
test_never e = λ i s. value-Bottom s e i

test_implied : (e : List ℤ) (p q : CForm) → holding e (or_form (not_form p) q) ≡ implied (holding e p) (holding e q)
test_implied e p q = λ i s. (value-or_form s e (not_form p) q
    ∙ ap (λ b. b || form_value s e q) (value-not_form s e p)) i

-- an alternative whose second side is this formula
sides_value : (s e : List ℤ) (y : CForm-F CForm CTerm) (m : CForm) → IsTrue (ends_on y m) →
    form_value s e (roll-CForm y) ≡ (form_value s e (first_side y) || form_value s e m)
sides_value s e (CForm-F.Or q b) m t =
    ap (form_value s e) (rolls-Or q b) ∙ value-Or s e q b
    ∙ ap (λ f. form_value s e q || form_value s e f) (same_form_is b m t)
sides_value s e _ m t = cc

test_sides : (e : List ℤ) (f m : CForm) → IsTrue (ends_on (out-CForm f) m) →
    holding e f ≡ one_holds (holding e (first_side (out-CForm f))) (holding e m)
test_sides e f m t = λ i s. (ap (form_value s e) (sym (roll-out-CForm f)) ∙ sides_value s e (out-CForm f) m t) i

-- a formula that is equal to an alternative
test_same_or : (e : List ℤ) (f q r : CForm) → IsTrue (same_form f (or_form q r)) →
    holding e f ≡ one_holds (holding e q) (holding e r)
test_same_or e f q r t = ap (holding e) (same_form_is f (or_form q r) t) ∙ sym (test_or e q r)

-- what is asked, and what is concluded
derived_stands : (site : Site) (kinds alike : Bool) (kind : Kind) (p q : CForm) (more : List CForm) (bound : ℕ) →
    (IsTrue kinds → IsTrue alike → Stands site.slots site.program (record_within site kind p q more bound)) →
    StandsWhereValid site (derived site kinds alike kind p q more bound)
derived_stands site kinds alike kind p q more bound stands d e valid =
    let end = concluded site.slots site.params (record_within site kind p q more bound) [] in
    let one = met kinds Code.WrongKind (needs alike Code.MiddleDiffers
    (needs (nat_le bound (2 ^ 63)) Code.BoundTooLarge end)) d e in
    let two = met alike Code.MiddleDiffers (needs (nat_le bound (2 ^ 63)) Code.BoundTooLarge end) d one.1 in
    let three = met (nat_le bound (2 ^ 63)) Code.BoundTooLarge end d two.1 in
    given site (record_within site kind p q more bound) [] (λ all. stands one.0 two.0) d three.1 valid

-- at states that pass a test, where the records' formulas hold
module _ (site : Site) (u : Test) (e : List ℤ) where
  abbrev x : System
  x = core_system site.slots site.program

  leads_here : (r : Record) → Implies u (meets site.slots r.under) → (k : Kind) → IsTrue (is_leadsto k) →
      KindStands k site.slots site.program r e → LeadsStands x u (holding e r.p) (holding e r.q) r.bound
  leads_here r within Kind.Leadsto t stands =
      leads_narrows x (meets site.slots r.under) u (holding e r.p) (holding e r.q) r.bound within stands
  leads_here r within _ t stands = cc

  unless_here : (r : Record) → Implies u (meets site.slots r.under) → (k : Kind) → IsTrue (is_unless k) →
      KindStands k site.slots site.program r e → UnlessStands x u (holding e r.p) (holding e r.q)
  unless_here r within Kind.Unless t stands =
      unless_narrows x (meets site.slots r.under) u (holding e r.p) (holding e r.q) within stands
  unless_here r within _ t stands = cc

  invariant_here : (r : Record) → Implies u (meets site.slots r.under) → (k : Kind) → IsTrue (is_invariant k) →
      KindStands k site.slots site.program r e → InvariantStands x u (holding e r.p)
  invariant_here r within Kind.Invariant t stands =
      invariant_narrows x (meets site.slots r.under) u (holding e r.p) within stands
  invariant_here r within _ t stands = cc

  -- completion, where the ends are as the rule asks
  completed : (a b c d : Record) → IsTrue (same_form b.q d.q && (same_form a.q (or_form b.p b.q) && same_form c.q
      (or_form d.p d.q))) →
      LeadsStands x u (holding e a.p) (holding e a.q) a.bound → UnlessStands x u (holding e b.p) (holding e b.q) →
      LeadsStands x u (holding e c.p) (holding e c.q) c.bound → UnlessStands x u (holding e d.p) (holding e d.q) →
      LeadsStands x u (holding e (and_form a.p c.p)) (holding e (or_form (and_form b.p d.p) b.q)) (max a.bound c.bound)
  completed a b c d alike one safe two kept_safe =
      let first : Bool = same_form a.q (or_form b.p b.q) in
      let second : Bool = same_form c.q (or_form d.p d.q) in
      let escape : d.q ≡ b.q = sym (same_form_is b.q d.q (and_left (same_form b.q d.q) (first && second) alike)) in
      let ends = and_right (same_form b.q d.q) (first && second) alike in
      let one_end = test_same_or e a.q b.p b.q (and_left first second ends) in
      let two_end = test_same_or e c.q d.p d.q (and_right first second ends)
      ∙ ap (λ f. one_holds (holding e d.p) (holding e f)) escape in
      like (λ f g. LeadsStands x u f g (max a.bound c.bound)) (both_hold (holding e a.p) (holding e c.p))
      (holding e (and_form a.p c.p)) (one_holds (both_hold (holding e b.p) (holding e d.p)) (holding e b.q))
      (holding e (or_form (and_form b.p d.p) b.q)) (test_and e a.p c.p)
      (ap (λ f. one_holds f (holding e b.q)) (test_and e b.p d.p) ∙ test_or e (and_form b.p d.p) b.q)
      (completion (kept u x) (holding e a.p) (holding e b.p) (holding e c.p) (holding e d.p) (holding e b.q) a.bound
      c.bound (subst (λ f. LeadsStands x u (holding e a.p) f a.bound) one_end one)
      (unless_kept x u (holding e b.p) (holding e b.q) safe)
      (subst (λ f. LeadsStands x u (holding e c.p) f c.bound) two_end two)
      (subst (λ f. Unless (kept u x) (holding e d.p) (holding e f)) escape
      (unless_kept x u (holding e d.p) (holding e d.q) kept_safe)))

  -- cancellation, where the second starts at an end of the first
  cancelled : (a b : Record) → IsTrue (ends_on (out-CForm a.q) b.p) →
      LeadsStands x u (holding e a.p) (holding e a.q) a.bound →
      LeadsStands x u (holding e b.p) (holding e b.q) b.bound →
      LeadsStands x u (holding e a.p) (holding e (or_form (first_side (out-CForm a.q)) b.q)) (a.bound + b.bound)
  cancelled a b alike one two =
      let other : CForm = first_side (out-CForm a.q) in
      subst (λ f. LeadsStands x u (holding e a.p) f (a.bound + b.bound)) (test_or e other b.q)
      (leads_cancellation (kept u x) (holding e a.p) (holding e other) (holding e b.p) (holding e b.q) a.bound b.bound
      (subst (λ f. LeadsStands x u (holding e a.p) f a.bound) (test_sides e a.q b.p alike) one) two)

-- each record's states are among those of the conclusion
of_four : (site : Site) → NameNoParameter site.using → (a b c d : List CForm) →
    Implies (meets site.slots (under_with site ((a ++ b) ++ (c ++ d)))) (meets site.slots a) ×
    Implies (meets site.slots (under_with site ((a ++ b) ++ (c ++ d)))) (meets site.slots b) ×
    Implies (meets site.slots (under_with site ((a ++ b) ++ (c ++ d)))) (meets site.slots c) ×
    Implies (meets site.slots (under_with site ((a ++ b) ++ (c ++ d)))) (meets site.slots d)
of_four site closed a b c d = (
  λ s h. let first = of_first site closed (a ++ b) (c ++ d) s h in (split s a b first).0,
  λ s h. let first = of_first site closed (a ++ b) (c ++ d) s h in (split s a b first).1,
  λ s h. let second = of_second site closed (a ++ b) (c ++ d) s h in (split s c d second).0,
  λ s h. let second = of_second site closed (a ++ b) (c ++ d) s h in (split s c d second).1,
)
  where
    split : (s : State) (one two : List CForm) → IsTrue (meets site.slots (one ++ two) s) →
        IsTrue (meets site.slots one s) × IsTrue (meets site.slots two s)
    split s one two h =
        let test : CForm → Bool = λ f. form_value s [] f in
        let state = and_left (is_state (slot_ranges site.slots) s) (list_all test (one ++ two)) h in
        let parts = all_append test one two
        (and_right (is_state (slot_ranges site.slots) s) (list_all test (one ++ two)) h) in (
          both_true (is_state (slot_ranges site.slots) s) (list_all test one) state parts.0,
          both_true (is_state (slot_ranges site.slots) s) (list_all test two) state parts.1,
        )

pub complete_sound : CompleteSound
unfolding complete_of
complete_sound site good a b c d pa pb pc pd =
    let one : Bool = is_leadsto a.kind && is_unless b.kind in
    let two : Bool = is_leadsto c.kind && is_unless d.kind in
    let more : List CForm = (a.under ++ b.under) ++ (c.under ++ d.under) in
    let u : Test = meets site.slots (under_with site more) in
    let within = of_four site good.closed a.under b.under c.under d.under in
    derived_stands site (one && two)
    (same_form b.q d.q && (same_form a.q (or_form b.p b.q) && same_form c.q (or_form d.p d.q))) Kind.Leadsto
    (and_form a.p c.p) (or_form (and_form b.p d.p) b.q) more (max a.bound c.bound)
    (λ kinds alike n inside.
    let first = and_left one two kinds in
    let second = and_right one two kinds in
    completed site u n a b c d alike
    (leads_here site u n a within.0 a.kind (and_left (is_leadsto a.kind) (is_unless b.kind) first)
    (at_numbers site a pa n inside))
    (unless_here site u n b within.1 b.kind (and_right (is_leadsto a.kind) (is_unless b.kind) first)
    (at_numbers site b pb n inside))
    (leads_here site u n c within.2 c.kind (and_left (is_leadsto c.kind) (is_unless d.kind) second)
    (at_numbers site c pc n inside))
    (unless_here site u n d within.3 d.kind (and_right (is_leadsto c.kind) (is_unless d.kind) second)
    (at_numbers site d pd n inside)))

module _ (site : Site) (good : IsSite site) (a b : Record) (pa : IsPremise site a) (pb : IsPremise site b) where
  abbrev u : Test
  u = meets site.slots (under_with site (a.under ++ b.under))

  abbrev first : Implies u (meets site.slots a.under)
  first = of_first site good.closed a.under b.under

  abbrev second : Implies u (meets site.slots b.under)
  second = of_second site good.closed a.under b.under

  pub lead_cancel_stands : StandsWhereValid site (lead_cancel_of site a b)
  unfolding lead_cancel_of
  lead_cancel_stands =
      derived_stands site (is_leadsto a.kind && is_leadsto b.kind) (ends_on (out-CForm a.q) b.p) Kind.Leadsto a.p
      (or_form (first_side (out-CForm a.q)) b.q) (a.under ++ b.under) (a.bound + b.bound)
      (λ kinds alike n inside. cancelled site u n a b alike
      (leads_here site u n a first a.kind (and_left (is_leadsto a.kind) (is_leadsto b.kind) kinds)
      (at_numbers site a pa n inside))
      (leads_here site u n b second b.kind (and_right (is_leadsto a.kind) (is_leadsto b.kind) kinds)
      (at_numbers site b pb n inside)))

  pub until_stands : StandsWhereValid site (until_of site a b)
  unfolding until_of
  until_stands =
      derived_stands site (is_unless a.kind && is_leadsto b.kind) (same_form a.p b.p && same_form a.q b.q) Kind.Until
      a.p a.q (a.under ++ b.under) b.bound
      (λ kinds alike n inside.
      let same_p = sym (same_form_is a.p b.p (and_left (same_form a.p b.p) (same_form a.q b.q) alike)) in
      let same_q = sym (same_form_is a.q b.q (and_right (same_form a.p b.p) (same_form a.q b.q) alike)) in (
        unless_here site u n a first a.kind (and_left (is_unless a.kind) (is_leadsto b.kind) kinds)
            (at_numbers site a pa n inside),
        like (λ p q. LeadsStands (core_system site.slots site.program) u p q b.bound) (holding n b.p) (holding n a.p)
            (holding n b.q) (holding n a.q) (ap (holding n) same_p) (ap (holding n) same_q)
            (leads_here site u n b second b.kind (and_right (is_unless a.kind) (is_leadsto b.kind) kinds)
            (at_numbers site b pb n inside)),
      ))

  pub detects_stands : StandsWhereValid site (detects_of site a b)
  unfolding detects_of
  detects_stands =
      derived_stands site (is_invariant a.kind && is_leadsto b.kind) (same_form a.p (or_form (not_form b.q) b.p))
      Kind.Detects b.q b.p (a.under ++ b.under) b.bound
      (λ kinds alike n inside.
      let shape = ap (holding n) (same_form_is a.p (or_form (not_form b.q) b.p) alike) ∙ test_implied n b.q b.p in (
        subst (λ f. InvariantStands (core_system site.slots site.program) u f) shape
            (invariant_here site u n a first a.kind (and_left (is_invariant a.kind) (is_leadsto b.kind) kinds)
            (at_numbers site a pa n inside)),
        leads_here site u n b second b.kind (and_right (is_invariant a.kind) (is_leadsto b.kind) kinds)
            (at_numbers site b pb n inside),
      ))

  -- neither the formula nor its contrary ends
  steady : (n : List ℤ) → IsTrue (same_form b.p (not_form a.p) && (same_form a.q Bottom && same_form b.q Bottom)) →
      UnlessStands (core_system site.slots site.program) u (holding n a.p) (holding n a.q) →
      UnlessStands (core_system site.slots site.program) u (holding n b.p) (holding n b.q) →
      ConstantStands (core_system site.slots site.program) u (holding n a.p)
  steady n alike one two choice now next before after step =
      let x : System = core_system site.slots site.program in
      let ends : Bool = same_form a.q Bottom && same_form b.q Bottom in
      let ended = and_right (same_form b.p (not_form a.p)) ends alike in
      let one_end = ap (holding n) (same_form_is a.q Bottom (and_left (same_form a.q Bottom) (same_form b.q Bottom)
      ended)) ∙ test_never n in
      let two_end = ap (holding n) (same_form_is b.q Bottom (and_right (same_form a.q Bottom) (same_form b.q Bottom)
      ended)) ∙ test_never n in
      let contrary = ap (holding n) (same_form_is b.p (not_form a.p) (and_left (same_form b.p (not_form a.p)) ends
      alike)) ∙ sym (test_not n a.p) in
      constancy_rule x u u (holding n a.p) (subst (λ f. UnlessStands x u (holding n a.p) f) one_end one)
      (like (UnlessStands x u) (holding n b.p) (fails (holding n a.p)) (holding n b.q) never contrary two_end two)
      choice now next (both_true (u now) (u now) before before) (both_true (u next) (u next) after after) step

  pub constant_stands : StandsWhereValid site (constant_of site a b)
  unfolding constant_of
  constant_stands =
      derived_stands site (is_unless a.kind && is_unless b.kind)
      (same_form b.p (not_form a.p) && (same_form a.q Bottom && same_form b.q Bottom)) Kind.Constant a.p Bottom
      (a.under ++ b.under) 0
      (λ kinds alike n inside. steady n alike
      (unless_here site u n a first a.kind (and_left (is_unless a.kind) (is_unless b.kind) kinds)
      (at_numbers site a pa n inside))
      (unless_here site u n b second b.kind (and_right (is_unless a.kind) (is_unless b.kind) kinds)
      (at_numbers site b pb n inside)))

pub lead_cancel_sound : LeadCancelSound
lead_cancel_sound = lead_cancel_stands

pub until_sound : UntilSound
until_sound = until_stands

pub detects_sound : DetectsSound
detects_sound = detects_stands

pub constant_sound : ConstantSound
constant_sound = constant_stands

-- what two records give for a claim of any kind
pub pair_by_sound : (kind : Kind) (which : RuleName) → IsSoundOfTwo (λ site. pair_by site kind which)
pair_by_sound Kind.Leadsto which = lead_cancel_sound
pair_by_sound Kind.Until which = until_sound
pair_by_sound Kind.Detects which = detects_sound
pair_by_sound Kind.Constant which = constant_sound
pair_by_sound Kind.Defined which = λ site good. pair_sound site good which
pair_by_sound Kind.Invariant which = λ site good. pair_sound site good which
pair_by_sound Kind.Unless which = λ site good. pair_sound site good which
pair_by_sound Kind.Ensures which = λ site good. pair_sound site good which
pair_by_sound Kind.Fixed which = λ site good. pair_sound site good which
