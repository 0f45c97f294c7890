-- What `weaken`, the pair rules and instances give stands.
use Rattle.std.proofs.Common.{◌≡◌, ℕ, zero, suc, nat_eq, ℤ, pos, ◌+ℤ◌, List, [], ◌∷◌, ◌++◌, map, Bool, true, false}
use Rattle.std.proofs.Common.{not, ◌&&◌, ◌||◌, Option, Some, None, Ok, IsTrue, refl, sym, ap, ◌∙◌, subst, slice_get}
use Rattle.std.proofs.Common.{arith}
use Rattle.std.specs.List.{list_all, list_any}
use Rattle.std.proofs.lemmas.Int.{ints}
use borrow.Author.Differences.{le-true}
use Rattle.std.specs.Int.RustNames.{int_le}
use Rattle.case_tables.specs.declared.kind_table.Kind.{Kind}
use Rattle.case_tables.specs.declared.rule_table.RuleName.{RuleName}
use Rattle.case_tables.specs.declared.code_table.Code.{Code}
use Rattle.core_terms.proofs.BoolLaws.{le_passes}
use Rattle.core_terms.proofs.FoldingLaws.{value-and_form, value-or_form, value-not_form}
use Rattle.core_terms.proofs.ReplacingLaws.{form_at_value}
use Rattle.core_terms.proofs.SameLaws.{same_form_is}
use Rattle.core_terms.specs.Folding.{and_form, or_form, not_form}
use Rattle.core_terms.specs.Replacing.{form_at, arg_value, arg_values}
use Rattle.core_terms.specs.Steps.{slot_ranges}
use Rattle.core_terms.specs.Trees.{same_form}
use Rattle.core_terms.specs.Values.{number_at, form_value}
use Rattle.core_terms.specs.declared.documents.Arg.{Arg}
use Rattle.core_terms.specs.declared.documents.Helper.{Helper}
use Rattle.core_terms.specs.declared.programs.CProgram.{CProgram}
use Rattle.core_terms.specs.declared.programs.CSlot.{CSlot}
use Rattle.core_terms.specs.declared.trees.CForm.{CForm}
use Rattle.core_terms.specs.declared.trees.Range.{Range}
use Rattle.layer_laws.proofs.lemmas_from_meaning_laws.PairTheorems.{weaker_unless, weaker_ensures, conjunction_rule}
use Rattle.layer_laws.proofs.lemmas_from_meaning_laws.PairTheorems.{conjunction_ensured}
use Rattle.layer_laws.proofs.lemmas_from_meaning_laws.PairTheorems.{simple_conjunction, disjunction_rule}
use Rattle.layer_laws.proofs.lemmas_from_meaning_laws.PairTheorems.{simple_disjunction}
use Rattle.layer_laws.proofs.lemmas_from_meaning_laws.PairTheorems.{cancellation_rule}
use Rattle.layer_laws.proofs.lemmas_from_meaning_laws.StandingTheorems.{unless_narrows, ensures_narrows}
use Rattle.layer_laws.specs.from_meaning_laws.PairRules.{conjunction_end, disjunction_end}
use Rattle.layer_laws.specs.from_meaning_laws.Stands.{FixedStands, InvariantStands, UnlessStands, ConstantStands}
use Rattle.layer_laws.specs.from_meaning_laws.Stands.{LeadsStands}
use Rattle.layer_laws.specs.from_meaning_laws.Tests.{both_hold, Implies, one_holds, fails_with}
use Rattle.fair_rounds.specs.Records.{holding, are_in_ranges, meets, NamedAt, EnsuresNamed}
use Rattle.fair_rounds.specs.from_executor.CoreSystem.{core_system}
use Rattle.meaning_executions.specs.Counting.{ints_eq}
use Rattle.fair_rounds.specs.Records.{KindStands}
use Rattle.fair_rounds.specs.declared.records.Record.{Record}
use Rattle.rules_table.proofs.FormLaws.{imply_gives, all_append, all_join}
use Rattle.rules_table.proofs.SiteLaws.{met, meets_means}
use Rattle.rules_table.proofs.TextSound.{given}
use Rattle.rules_table.specs.Forms.{imply}
use Rattle.rules_table.specs.Limits.{fits}
use Rattle.rules_table.specs.Sound.{IsSite, NameNoParameter, IsPremise, StandsWhereValid, WeakenSound, PairSound}
use Rattle.rules_table.specs.Sound.{InstanceSound}
use Rattle.rules_table.specs.Table.{weaken_of, pair_of, Site, needs, under_with, record_of, concluded, is_unless}
use Rattle.rules_table.specs.Table.{is_ensures, paired, ends_of_both, ends_of_either, is_slot, lies_in, is_argument}
use Rattle.rules_table.specs.Table.{are_arguments, moved_at, put_in, helper_with, record_with, instance_of}
use Rattle.rules_table.specs.Validity.{IsValid}
use Rattle.meaning_states.proofs.StepTheorems.{and_left, and_right, both_true}
use Rattle.meaning_states.specs.State.{State, is_state}
use Rattle.meaning_executions.specs.Execution.{System}
use Rattle.meaning_executions.specs.Properties.{Test, implied}

pub or_cases : (a b : Bool) (C : Type 0) → IsTrue (a || b) → (IsTrue a → C) → (IsTrue b → C) → C
or_cases true b C t f g = f refl
or_cases false b C t f g = g t

-- a premise at these numbers
pub at_numbers : (site : Site) (a : Record) → IsPremise site a → (e : List ℤ) →
    IsTrue (are_in_ranges site.params e) → KindStands a.kind site.slots site.program a e
at_numbers site a premise e inside = premise.stands e (subst (λ rs. IsTrue (are_in_ranges rs e)) (sym premise.params)
    inside)

-- the conclusion's states are the premises' states
pub of_first : (site : Site) → NameNoParameter site.using → (one two : List CForm) →
    Implies (meets site.slots (under_with site (one ++ two))) (meets site.slots one)
of_first site closed one two s h =
    let here = meets_means site closed (one ++ two) s h in
    both_true (is_state (slot_ranges site.slots) s) (list_all (λ f. form_value s [] f) one) here.state
    (all_append (λ f. form_value s [] f) one two here.parts).0

pub of_second : (site : Site) → NameNoParameter site.using → (one two : List CForm) →
    Implies (meets site.slots (under_with site (one ++ two))) (meets site.slots two)
of_second site closed one two s h =
    let here = meets_means site closed (one ++ two) s h in
    both_true (is_state (slot_ranges site.slots) s) (list_all (λ f. form_value s [] f) two) here.state
    (all_append (λ f. form_value s [] f) one two here.parts).1

pub of_both : (site : Site) → NameNoParameter site.using → (one two : List CForm) →
    Implies (meets site.slots (under_with site (one ++ two)))
    (both_hold (meets site.slots one) (meets site.slots two))
of_both site closed one two s h = both_true (meets site.slots one s) (meets site.slots two s)
    (of_first site closed one two s h) (of_second site closed one two s h)

pub of_one : (site : Site) → NameNoParameter site.using → (one : List CForm) →
    Implies (meets site.slots (under_with site one)) (meets site.slots one)
of_one site closed one s h =
    let here = meets_means site closed one s h in
    both_true (is_state (slot_ranges site.slots) s) (list_all (λ f. form_value s [] f) one) here.state here.parts

module _ (site : Site) (good : IsSite site) (a : Record) (r : CForm) (e : List ℤ)
    (inside : IsTrue (are_in_ranges site.params e))
    (valid : IsValid site.slots site.params (imply (site.using ++ (a.q ∷ [])) r)) where
  abbrev w : Test
  w = meets site.slots (under_with site a.under)

  abbrev v : Test
  v = meets site.slots a.under

  weaker : (s : State) → IsTrue (w s) → IsTrue (holding e a.q s) → IsTrue (holding e r s)
  weaker s h t =
      let here = meets_means site good.closed a.under s h in
      imply_gives s e (site.using ++ (a.q ∷ [])) r (valid s e here.state inside)
      (all_join (λ f. form_value s e f) site.using (a.q ∷ []) (here.using e) (both_true (form_value s e a.q) true t
      refl))

  weaker_both : Implies (both_hold w (holding e a.q)) (holding e r)
  weaker_both s h = weaker s (and_left (w s) (holding e a.q s) h) (and_right (w s) (holding e a.q s) h)

  narrower : Implies w (both_hold w v)
  narrower s h = both_true (w s) (v s) h (of_one site good.closed a.under s h)

  weaker_kind : (k : Kind) → IsTrue (is_unless k || is_ensures k) → KindStands k site.slots site.program a e →
      KindStands k site.slots site.program (record_of site k a.p r a.under a.helper) e
  weaker_kind Kind.Unless t stands =
      unless_narrows (core_system site.slots site.program) (both_hold w v) w (holding e a.p) (holding e r) narrower
      (weaker_unless (core_system site.slots site.program) w v (holding e a.p) (holding e a.q) (holding e r)
      weaker_both stands)
  weaker_kind Kind.Ensures t stands = record {
    choice = stands.choice;
    ensured = ensures_narrows (core_system site.slots site.program) (both_hold w v) w (holding e a.p) (holding e r)
        stands.choice narrower
        (weaker_ensures (core_system site.slots site.program) w v (holding e a.p) (holding e a.q) (holding e r)
        stands.choice weaker_both stands.ensured);
    named = stands.named;
  }
  weaker_kind _ t stands = cc

pub weaken_sound : WeakenSound
unfolding weaken_of
weaken_sound site good a r premise d e valid =
    let made : Record = record_of site a.kind a.p r a.under a.helper in
    let asked = met (is_unless a.kind || is_ensures a.kind) Code.WrongKind (concluded site.slots site.params made
    (imply (site.using ++ (a.q ∷ [])) r ∷ [])) d e in
    given site made (imply (site.using ++ (a.q ∷ [])) r ∷ [])
    (λ all n inside. weaker_kind site good a r n inside all.0 a.kind asked.0 (at_numbers site a premise n inside)) d
    asked.1 valid

-- formulas as tests
pub test_and : (e : List ℤ) (f g : CForm) → both_hold (holding e f) (holding e g) ≡ holding e (and_form f g)
test_and e f g = λ i s. sym (value-and_form s e f g) i

pub test_or : (e : List ℤ) (f g : CForm) → one_holds (holding e f) (holding e g) ≡ holding e (or_form f g)
test_or e f g = λ i s. sym (value-or_form s e f g) i

test_ends : (e : List ℤ) (p q r s : CForm) → conjunction_end (holding e p) (holding e q) (holding e r)
    (holding e s) ≡ holding e (ends_of_both p q r s)
test_ends e p q r s =
    ap (λ t. one_holds (one_holds t (both_hold (holding e r) (holding e q))) (both_hold (holding e q) (holding e s)))
    (test_and e p s)
    ∙ ap (λ t. one_holds (one_holds (holding e (and_form p s)) t) (both_hold (holding e q) (holding e s)))
    (test_and e r q)
    ∙ ap (λ t. one_holds t (both_hold (holding e q) (holding e s))) (test_or e (and_form p s) (and_form r q))
    ∙ ap (λ t. one_holds (holding e (or_form (and_form p s) (and_form r q))) t) (test_and e q s)
    ∙ test_or e (or_form (and_form p s) (and_form r q)) (and_form q s)

test_fails : (e : List ℤ) (p s : CForm) → fails_with (holding e p) (holding e s) ≡ holding e (and_form (not_form p) s)
test_fails e p s = λ i t. (ap (λ b. b && form_value t e s) (sym (value-not_form t e p))
    ∙ sym (value-and_form t e (not_form p) s)) i

test_other_ends : (e : List ℤ) (p q r s : CForm) → disjunction_end (holding e p) (holding e q) (holding e r)
    (holding e s) ≡ holding e (ends_of_either p q r s)
test_other_ends e p q r s =
    ap (λ t. one_holds (one_holds t (fails_with (holding e r) (holding e q)))
    (both_hold (holding e q) (holding e s))) (test_fails e p s)
    ∙ ap (λ t. one_holds (one_holds (holding e (and_form (not_form p) s)) t) (both_hold (holding e q) (holding e s)))
    (test_fails e r q)
    ∙ ap (λ t. one_holds t (both_hold (holding e q) (holding e s))) (test_or e (and_form (not_form p) s)
    (and_form (not_form r) q))
    ∙ ap (λ t. one_holds (holding e (or_form (and_form (not_form p) s) (and_form (not_form r) q))) t) (test_and e q s)
    ∙ test_or e (or_form (and_form (not_form p) s) (and_form (not_form r) q)) (and_form q s)

pub like : (P : Test → Test → Type 0) (p p' q q' : Test) → p ≡ p' → q ≡ q' → P p q → P p' q'
like P p p' q q' e f h = subst (λ t. P p' t) f (subst (λ t. P t q) e h)

module _ (site : Site) (good : IsSite site) (a b : Record) (e : List ℤ) where
  abbrev x : System
  x = core_system site.slots site.program

  abbrev ua : Test
  ua = meets site.slots a.under

  abbrev ub : Test
  ub = meets site.slots b.under

  abbrev both : Test
  both = meets site.slots (under_with site (a.under ++ b.under))

  -- an unless of both, as one of the conclusion
  narrowed : (p q : Test) (f g : CForm) → p ≡ holding e f → q ≡ holding e g → UnlessStands x (both_hold ua ub) p q →
      UnlessStands x both (holding e f) (holding e g)
  narrowed p q f g i j h =
      like (UnlessStands x both) p (holding e f) q (holding e g) i j
      (unless_narrows x (both_hold ua ub) both p q (of_both site good.closed a.under b.under) h)

  abbrev Paired : Kind → Option Helper → CForm → CForm → Type 0
  Paired k h p q = KindStands k site.slots site.program (record_of site k p q (a.under ++ b.under) h) e

  conj_kind : (k l : Kind) → IsTrue (is_unless k && (is_unless l || is_ensures l)) →
      KindStands k site.slots site.program a e → KindStands l site.slots site.program b e →
      Paired l b.helper (and_form a.p b.p) (ends_of_both a.p a.q b.p b.q)
  conj_kind Kind.Unless Kind.Unless t one two =
      narrowed (both_hold (holding e a.p) (holding e b.p)) (conjunction_end (holding e a.p) (holding e a.q)
      (holding e b.p) (holding e b.q))
      (and_form a.p b.p) (ends_of_both a.p a.q b.p b.q) (test_and e a.p b.p) (test_ends e a.p a.q b.p b.q)
      (conjunction_rule x ua ub (holding e a.p) (holding e a.q) (holding e b.p) (holding e b.q) one two)
  conj_kind Kind.Unless Kind.Ensures t one two =
      like (λ p q. EnsuresNamed site.slots site.program both p q e b.helper) (both_hold (holding e a.p)
      (holding e b.p)) (holding e (and_form a.p b.p))
      (conjunction_end (holding e a.p) (holding e a.q) (holding e b.p) (holding e b.q))
      (holding e (ends_of_both a.p a.q b.p b.q))
      (test_and e a.p b.p) (test_ends e a.p a.q b.p b.q) (record {
        choice = two.choice;
        ensured = ensures_narrows x (both_hold ua ub) both (both_hold (holding e a.p) (holding e b.p))
            (conjunction_end (holding e a.p) (holding e a.q) (holding e b.p) (holding e b.q)) two.choice
            (of_both site good.closed a.under b.under)
            (conjunction_ensured x ua ub (holding e a.p) (holding e a.q) (holding e b.p) (holding e b.q) two.choice
            one two.ensured);
        named = two.named;
      })
  conj_kind Kind.Unless _ t one two = cc
  conj_kind _ l t one two = cc

  unless_kind : (k : Kind) → IsTrue (is_unless k) → (r : Record) → KindStands k site.slots site.program r e →
      UnlessStands x (meets site.slots r.under) (holding e r.p) (holding e r.q)
  unless_kind Kind.Unless t r stands = stands
  unless_kind _ t r stands = cc

  abbrev One : Type 0
  One = UnlessStands x ua (holding e a.p) (holding e a.q)

  abbrev Two : Type 0
  Two = UnlessStands x ub (holding e b.p) (holding e b.q)

  simpleconj : One → Two → Paired Kind.Unless None (and_form a.p b.p) (or_form a.q b.q)
  simpleconj one two =
      narrowed (both_hold (holding e a.p) (holding e b.p)) (one_holds (holding e a.q) (holding e b.q))
      (and_form a.p b.p) (or_form a.q b.q)
      (test_and e a.p b.p) (test_or e a.q b.q) (simple_conjunction x ua ub (holding e a.p) (holding e a.q)
      (holding e b.p) (holding e b.q) one two)

  disj : One → Two → Paired Kind.Unless None (or_form a.p b.p) (ends_of_either a.p a.q b.p b.q)
  disj one two =
      narrowed (one_holds (holding e a.p) (holding e b.p)) (disjunction_end (holding e a.p) (holding e a.q)
      (holding e b.p) (holding e b.q))
      (or_form a.p b.p) (ends_of_either a.p a.q b.p b.q) (test_or e a.p b.p) (test_other_ends e a.p a.q b.p b.q)
      (disjunction_rule x ua ub (holding e a.p) (holding e a.q) (holding e b.p) (holding e b.q) one two)

  simpledisj : One → Two → Paired Kind.Unless None (or_form a.p b.p) (or_form a.q b.q)
  simpledisj one two =
      narrowed (one_holds (holding e a.p) (holding e b.p)) (one_holds (holding e a.q) (holding e b.q))
      (or_form a.p b.p) (or_form a.q b.q)
      (test_or e a.p b.p) (test_or e a.q b.q) (simple_disjunction x ua ub (holding e a.p) (holding e a.q)
      (holding e b.p) (holding e b.q) one two)

  cancel : IsTrue (same_form a.q b.p) → One → Two → Paired Kind.Unless None (or_form a.p a.q) b.q
  cancel same one two =
      let middle = same_form_is a.q b.p same in
      narrowed (one_holds (holding e a.p) (holding e a.q)) (holding e b.q) (or_form a.p a.q) b.q (test_or e a.p a.q)
      refl
      (cancellation_rule x ua ub (holding e a.p) (holding e a.q) (holding e b.q) one
      (subst (λ f. UnlessStands x ub (holding e f) (holding e b.q)) (sym middle) two))

-- a rule over two unless
unlesses : (site : Site) (good : IsSite site) (a b : Record) → IsPremise site a → IsPremise site b → (p q : CForm) →
    ((e : List ℤ) → One site good a b e → Two site good a b e → Paired site good a b e Kind.Unless None p q) →
    StandsWhereValid site (needs (is_unless a.kind && is_unless b.kind) Code.WrongKind
    (paired site Kind.Unless None p q a b))
unlesses site good a b pa pb p q rule d e valid =
    let asked = met (is_unless a.kind && is_unless b.kind) Code.WrongKind (paired site Kind.Unless None p q a b) d e
    in
    given site (record_of site Kind.Unless p q (a.under ++ b.under) None) []
    (λ all n inside. rule n
    (unless_kind site good a b n a.kind (and_left (is_unless a.kind) (is_unless b.kind) asked.0) a
    (at_numbers site a pa n inside))
    (unless_kind site good a b n b.kind (and_right (is_unless a.kind) (is_unless b.kind) asked.0) b
    (at_numbers site b pb n inside)))
    d asked.1 valid

pub pair_sound : PairSound
unfolding pair_of
pair_sound site good RuleName.Conj a b pa pb d e valid =
    let made : Record = record_of site b.kind (and_form a.p b.p) (ends_of_both a.p a.q b.p b.q) (a.under ++ b.under)
    b.helper in
    let asked = met (is_unless a.kind && (is_unless b.kind || is_ensures b.kind)) Code.WrongKind
    (concluded site.slots site.params made []) d e in
    given site made []
    (λ all n inside. conj_kind site good a b n a.kind b.kind asked.0 (at_numbers site a pa n inside)
    (at_numbers site b pb n inside)) d asked.1 valid
pair_sound site good RuleName.Simpleconj a b pa pb d e valid =
    unlesses site good a b pa pb (and_form a.p b.p) (or_form a.q b.q) (λ n. simpleconj site good a b n) d e valid
pair_sound site good RuleName.Disj a b pa pb d e valid =
    unlesses site good a b pa pb (or_form a.p b.p) (ends_of_either a.p a.q b.p b.q) (λ n. disj site good a b n) d e
    valid
pair_sound site good RuleName.Simpledisj a b pa pb d e valid =
    unlesses site good a b pa pb (or_form a.p b.p) (or_form a.q b.q) (λ n. simpledisj site good a b n) d e valid
pair_sound site good RuleName.Cancel a b pa pb d e valid =
    let asked = met (is_unless a.kind && is_unless b.kind) Code.WrongKind
    (needs (same_form a.q b.p) Code.MiddleDiffers (paired site Kind.Unless None (or_form a.p a.q) b.q a b)) d e in
    let middle = met (same_form a.q b.p) Code.MiddleDiffers (paired site Kind.Unless None (or_form a.p a.q) b.q a b)
    d asked.1 in
    given site (record_of site Kind.Unless (or_form a.p a.q) b.q (a.under ++ b.under) None) []
    (λ all n inside. cancel site good a b n middle.0
    (unless_kind site good a b n a.kind (and_left (is_unless a.kind) (is_unless b.kind) asked.0) a
    (at_numbers site a pa n inside))
    (unless_kind site good a b n b.kind (and_right (is_unless a.kind) (is_unless b.kind) asked.0) b
    (at_numbers site b pb n inside)))
    d middle.1 valid
pair_sound site good _ a b pa pb d e valid = cc

-- instances

pub range_at : (ranges : List Range) (e : List ℤ) → IsTrue (are_in_ranges ranges e) → (n : ℕ) (r : Range) →
    slice_get ranges n ≡ Some r →
    IsTrue (int_le r.lo (number_at e n) && int_le (number_at e n) r.hi)
range_at [] [] t n r e = cc
range_at [] (z ∷ zs) t n r e = cc
range_at (q ∷ ranges) [] t n r e = cc
range_at (q ∷ ranges) (z ∷ zs) t zero r e =
    let same : q ≡ r = cc in
    subst (λ (v : Range). IsTrue (int_le v.lo z && int_le z v.hi)) same (and_left (int_le q.lo z && int_le z q.hi)
    (are_in_ranges ranges zs) t)
range_at (q ∷ ranges) (z ∷ zs) t (suc n) r e =
    range_at ranges zs (and_right (int_le q.lo z && int_le z q.hi) (are_in_ranges ranges zs) t) n r e

added : (range r : Range) (z add : ℤ) → IsTrue (int_le range.lo (r.lo +ℤ add) && int_le (r.hi +ℤ add) range.hi) →
    IsTrue (int_le r.lo z && int_le z r.hi) → IsTrue (int_le range.lo (z +ℤ add) && int_le (z +ℤ add) range.hi)
added range r z add t h =
    let a = le-true range.lo (r.lo +ℤ add) (and_left (int_le range.lo (r.lo +ℤ add)) (int_le (r.hi +ℤ add) range.hi)
    t) in
    let b = le-true (r.hi +ℤ add) range.hi (and_right (int_le range.lo (r.lo +ℤ add)) (int_le (r.hi +ℤ add) range.hi)
    t) in
    let c = le-true r.lo z (and_left (int_le r.lo z) (int_le z r.hi) h) in
    let d = le-true z r.hi (and_right (int_le r.lo z) (int_le z r.hi) h) in
    both_true (int_le range.lo (z +ℤ add)) (int_le (z +ℤ add) range.hi) (le_passes range.lo (z +ℤ add)
    (omega (arith, ints))) (le_passes (z +ℤ add) range.hi (omega (arith, ints)))

-- an argument's number lies in the parameter's range
argument_lies : (ranges : List Range) (e : List ℤ) → IsTrue (are_in_ranges ranges e) → (range : Range) (a : Arg) →
    IsTrue (is_argument ranges range a) →
    IsTrue (int_le range.lo (arg_value e a) && int_le (arg_value e a) range.hi)
argument_lies ranges e inside range (Arg.Number k) t = t
argument_lies ranges e inside range (Arg.Param n add) t = go (slice_get ranges n) refl t
  where
    go : (o : Option Range) → slice_get ranges n ≡ o → IsTrue (lies_in range o add) →
        IsTrue (int_le range.lo (number_at e n +ℤ add) && int_le (number_at e n +ℤ add) range.hi)
    go None i h = cc
    go (Some r) i h = added range r (number_at e n) add h (range_at ranges e inside n r i)
argument_lies ranges e inside range Arg.Slot t = cc

pub arguments_lie : (ranges : List Range) (e : List ℤ) → IsTrue (are_in_ranges ranges e) →
    (params : List Range) (args : List Arg) →
    IsTrue (are_arguments ranges params args) → IsTrue (are_in_ranges params (arg_values e args))
arguments_lie ranges e inside [] [] t = refl
arguments_lie ranges e inside [] (a ∷ args) t = cc
arguments_lie ranges e inside (r ∷ rs) [] t = cc
arguments_lie ranges e inside (r ∷ rs) (a ∷ args) t =
    both_true (int_le r.lo (arg_value e a) && int_le (arg_value e a) r.hi) (are_in_ranges rs (arg_values e args))
    (argument_lies ranges e inside r a (and_left (is_argument ranges r a) (are_arguments ranges rs args) t))
    (arguments_lie ranges e inside rs args (and_right (is_argument ranges r a) (are_arguments ranges rs args) t))

-- an index of a helper, with the arguments put in, is worth what it was at the arguments' numbers
zero_plus : (add : ℤ) → add ≡ pos 0 +ℤ add
zero_plus add = omega (arith, ints)

plus_plus : (x a b : ℤ) → x +ℤ (a +ℤ b) ≡ (x +ℤ a) +ℤ b
plus_plus x a b = omega (arith, ints)

moved_value : (e : List ℤ) (args : List Arg) (n : ℕ) (add : ℤ) → arg_value e (moved_at add (slice_get args n)) ≡
    number_at (arg_values e args) n +ℤ add
moved_value e [] n add = zero_plus add
moved_value e (Arg.Number k ∷ args) zero add = refl
moved_value e (Arg.Param m more ∷ args) zero add = plus_plus (number_at e m) more add
moved_value e (Arg.Slot ∷ args) zero add = zero_plus add
moved_value e (a ∷ args) (suc n) add = moved_value e args n add

put_value : (e : List ℤ) (args : List Arg) (a : Arg) → arg_value e (put_in args a) ≡ arg_value (arg_values e args) a
put_value e args (Arg.Number k) = refl
put_value e args (Arg.Param n add) = moved_value e args n add
put_value e args Arg.Slot = refl

put_values : (e : List ℤ) (args more : List Arg) → arg_values e (map (put_in args) more) ≡ arg_values
    (arg_values e args) more
put_values e args [] = refl
put_values e args (a ∷ more) = ap (λ z. z ∷ arg_values e (map (put_in args) more)) (put_value e args a)
    ∙ ap (λ zs. arg_value (arg_values e args) a ∷ zs) (put_values e args more)

pub test_with : (e : List ℤ) (args : List Arg) (f : CForm) → holding (arg_values e args) f ≡ holding e
    (form_at args f)
test_with e args f = λ i s. sym (form_at_value s e args f) i

named_with : (c : CProgram) (e : List ℤ) (args : List Arg) (h : Option Helper) (place : ℕ) →
    NamedAt c h (arg_values e args) place → NamedAt c (helper_with args h) e place
named_with c e args None place named = named
named_with c e args (Some h) place named = (
  named.0,
  named.1,
  subst (λ zs. IsTrue (nat_eq named.0.label h.label && ints_eq named.0.indices zs)) (sym (put_values e args h.args))
      named.2,
)

named_tests : (slots : List CSlot) (c : CProgram) (u : Test) (e : List ℤ) (h : Option Helper) (p p' q q' : Test) →
    p ≡ p' → q ≡ q' →
    EnsuresNamed slots c u p q e h → EnsuresNamed slots c u p' q' e h
named_tests slots c u e h p p' q q' i j stands = like (λ f g. EnsuresNamed slots c u f g e h) p p' q q' i j stands

module _ (site : Site) (a : Record) (args : List Arg) (e : List ℤ) where
  abbrev n : List ℤ
  n = arg_values e args

  abbrev y : System
  y = core_system site.slots site.program

  abbrev u : Test
  u = meets site.slots a.under

  moved_kind : (k : Kind) → KindStands k site.slots site.program a n → KindStands k site.slots site.program
      (record_with site a args) e
  moved_kind Kind.Defined stands = stands
  moved_kind Kind.Invariant stands = subst (λ t. InvariantStands y u t) (test_with e args a.p) stands
  moved_kind Kind.Unless stands = like (UnlessStands y u) (holding n a.p) (holding e (form_at args a.p))
      (holding n a.q) (holding e (form_at args a.q)) (test_with e args a.p) (test_with e args a.q) stands
  moved_kind Kind.Ensures stands =
      let here : EnsuresNamed site.slots site.program u (holding n a.p) (holding n a.q) e (helper_with args a.helper)
      =
      record {
        choice = stands.choice;
        ensured = stands.ensured;
        named =
            named_with site.program e args a.helper stands.choice stands.named;
      } in
      named_tests site.slots site.program u e (helper_with args a.helper) (holding n a.p)
      (holding e (form_at args a.p)) (holding n a.q) (holding e (form_at args a.q))
      (test_with e args a.p) (test_with e args a.q) here
  moved_kind Kind.Leadsto stands = like (λ p q. LeadsStands y u p q a.bound) (holding n a.p)
      (holding e (form_at args a.p)) (holding n a.q) (holding e (form_at args a.q)) (test_with e args a.p)
      (test_with e args a.q) stands
  moved_kind Kind.Until stands = like (λ p q. UnlessStands y u p q × LeadsStands y u p q a.bound) (holding n a.p)
      (holding e (form_at args a.p)) (holding n a.q) (holding e (form_at args a.q)) (test_with e args a.p)
      (test_with e args a.q) stands
  moved_kind Kind.Detects stands = like (λ p q. InvariantStands y u (implied p q) × LeadsStands y u q p a.bound)
      (holding n a.p) (holding e (form_at args a.p)) (holding n a.q) (holding e (form_at args a.q))
      (test_with e args a.p) (test_with e args a.q) stands
  moved_kind Kind.Constant stands = subst (λ t. ConstantStands y u t) (test_with e args a.p) stands
  moved_kind Kind.Fixed stands = subst (λ t. FixedStands y u t) (test_with e args a.p) stands

-- an instance that met its conditions is the record with the arguments put in
pub instance_is : (site : Site) (ranges : List Range) (a : Record) (args : List Arg) (r : Record) →
    instance_of site ranges a args ≡ Ok r →
    IsTrue (are_arguments ranges a.params args) × (record_with site a args ≡ r)
unfolding instance_of
instance_is site ranges a args r e =
    let one = met (not (list_any is_slot args)) Code.ParamEscapes
    (needs (are_arguments ranges a.params args) Code.BadArgument
    (needs (fits site.slots ranges (form_at args a.p) && fits site.slots ranges (form_at args a.q))
    Code.FormulaTooLarge (Ok (record_with site a args)))) r e in
    let two = met (are_arguments ranges a.params args) Code.BadArgument
    (needs (fits site.slots ranges (form_at args a.p) && fits site.slots ranges (form_at args a.q))
    Code.FormulaTooLarge (Ok (record_with site a args))) r one.1 in
    let three = met (fits site.slots ranges (form_at args a.p) && fits site.slots ranges (form_at args a.q))
    Code.FormulaTooLarge (Ok (record_with site a args)) r two.1 in
    (two.0, cc (three.1))

pub instance_sound : InstanceSound
instance_sound site ranges a args r stands e n inside =
    let is = instance_is site ranges a args r e in
    subst (λ (x : Record). KindStands x.kind site.slots site.program x n) is.1
    (moved_kind site a args n a.kind (stands (arg_values n args) (arguments_lie ranges n inside a.params args is.0)))
