-- What a proof term gives stands, by induction on the term.
use Rattle.std.proofs.Common.{◌≡◌, ℕ, nat_eq, nat_le, ◌^◌, max, ℤ, pos, ◌-ℤ◌, List, [], ◌∷◌, ◌++◌, map, Bool, true}
use Rattle.std.proofs.Common.{false, not, ◌&&◌, ◌||◌, Some, Result, Ok, IsTrue, refl, sym, ap, ◌∙◌, subst, slice_get}
use Rattle.std.specs.List.{list_all, list_any}
use Rattle.std.specs.Int.RustNames.{int_le, int_lt}
use Rattle.case_tables.specs.declared.kind_table.Kind.{Kind}
use Rattle.case_tables.specs.declared.code_table.Code.{Code}
use Rattle.core_terms.proofs.FoldingLaws.{value-and_form, value-or_form, value-at_least_form, value-zero_form}
use Rattle.core_terms.proofs.FoldingLaws.{value-difference_term}
use Rattle.core_terms.proofs.PartLaws.{value-Const, value-Param}
use Rattle.core_terms.proofs.SameLaws.{same_form_is}
use Rattle.core_terms.specs.Folding.{and_form, or_form, not_form, at_least_form, zero_form, difference_term}
use Rattle.core_terms.specs.Places.{names_param, term_names_param}
use Rattle.core_terms.specs.Steps.{slot_ranges}
use Rattle.core_terms.specs.Trees.{same_form}
use Rattle.core_terms.specs.Values.{term_value, form_value}
use Rattle.core_terms.specs.declared.documents.PTerm.{PTerm, roll-PTerm, fold-roll-PTerm, ind-PTerm}
use Rattle.core_terms.specs.declared.documents.PTerm.TheFolds.{map-PTerm}
use Rattle.core_terms.specs.declared.documents.PTerm.TheOpen.{PTerm-F}
use Rattle.core_terms.specs.declared.documents.Ref.{Ref}
use Rattle.core_terms.specs.declared.trees.CForm.{CForm}
use Rattle.core_terms.specs.declared.trees.CTerm.{CTerm}
use Rattle.core_terms.specs.declared.trees.CTerm.TheVariants.{Const, Param}
use Rattle.core_terms.specs.declared.trees.Range.{Range}
use Rattle.layer_laws.proofs.lemmas_from_meaning_laws.StandingTheorems.{unless_kept, unless_narrows, leads_narrows}
use Rattle.layer_laws.proofs.lemmas_from_meaning_laws.StandingTheorems.{ensures_leads_kept}
use Rattle.meaning_executions.specs.Systems.{kept}
use Rattle.layer_laws.specs.from_meaning_laws.Tests.{both_hold, Implies, one_holds}
use Rattle.fair_rounds.specs.Records.{holding, are_in_ranges, meets, KindStands}
use Rattle.fair_rounds.specs.from_executor.CoreSystem.{core_system}
use Rattle.fair_rounds.specs.declared.records.Record.{Record}
use Rattle.layer_laws.proofs.lemmas_from_meaning_laws.KeptTheorems.{kept_runs}
use Rattle.meaning_executions.proofs.PropertyTheorems.{within_none}
use Rattle.rules_table.proofs.CalcSound.{test_and, test_or, test_with, like, instance_is, instance_sound}
use Rattle.rules_table.proofs.FormLaws.{value_any, imply_gives, all_append, all_join}
use Rattle.rules_table.proofs.NumberLaws.{lies, changed, changed_in, changed_at, same_form_value, same_term_value}
use Rattle.rules_table.proofs.NumberLaws.{number_lies, gap_is, below_is, range_is}
use Rattle.rules_table.proofs.SiteLaws.{met, went_on, AreValid, are_valid, valid_parts, meets_means}
use Rattle.rules_table.proofs.TextSound.{but_not_forms}
use Rattle.rules_table.specs.Forms.{imply, any_of}
use Rattle.rules_table.specs.Limits.{fits}
use Rattle.rules_table.specs.Numbers.{numbers_of, args_from, form_for}
use Rattle.rules_table.specs.Sound.{IsSite, BookStands, TermSound}
use Rattle.rules_table.specs.Table.{Site, needs, go_on, under_with, instance_of, is_unless}
use Rattle.rules_table.specs.Terms.{Ask, found, referred, leads, within_rounds, node, leads_from, leads_by, leads_on}
use Rattle.rules_table.specs.Terms.{leads_either, leads_any, at_measure, below_measure, measure_lies, leads_down}
use Rattle.rules_table.specs.Terms.{leads_safely, leads_weaker, term_step, term_of, well_step, is_well_bound}
use Rattle.rules_table.specs.Terms.{same_range}
use Rattle.rules_table.specs.Validity.{IsValid}
use Rattle.rules_table.specs.declared.led.Led.{Led}
use Rattle.meaning_states.proofs.StepTheorems.{and_left, and_right, both_true}
use Rattle.meaning_states.specs.State.{State, int_eq, in_range, is_state}
use Rattle.meaning_executions.specs.Execution.{System}
use Rattle.meaning_executions.specs.Properties.{Test, but_not, Everywhere, Unless, LeadsTo}
use Rattle.layer_laws.proofs.lemmas_from_meaning_laws.ProgressTheorems as progress

-- a node that met its own conditions gives what it should
pub node_is : (site : Site) (ranges : List Range) (l m : Led) → node site ranges l ≡ Ok m → l ≡ m
node_is site ranges l m e =
    let one = met (nat_le l.bound (2 ^ 63)) Code.BoundTooLarge
    (needs (fits site.slots ranges l.p && fits site.slots ranges l.q) Code.FormulaTooLarge (Ok l)) m e in
    let two = met (fits site.slots ranges l.p && fits site.slots ranges l.q) Code.FormulaTooLarge (Ok l) m one.1 in
    cc (two.1)

pub turned_off : (b : Bool) → IsTrue (not b) → b ≡ false
turned_off false t = refl
turned_off true t = cc

-- what is required of the executions: at their states U holds, and what a term's records stand under
pub record Serves (site : Site) (v : Test) (under : List CForm) : Type 0 where
  pub state : (s : State) → IsTrue (v s) → IsTrue (is_state (slot_ranges site.slots) s)
  pub using : (s : State) (e : List ℤ) → IsTrue (v s) → IsTrue (list_all (λ f. form_value s e f) site.using)
  pub parts : (s : State) → IsTrue (v s) → IsTrue (list_all (λ f. form_value s [] f) under)

first_serves : (site : Site) (v : Test) (one two : List CForm) → Serves site v (one ++ two) → Serves site v one
first_serves site v one two good = record {
  state = good.state;
  using = good.using;
  parts = λ s h. (all_append (λ f. form_value s [] f) one two (good.parts s h)).0;
}

second_serves : (site : Site) (v : Test) (one two : List CForm) → Serves site v (one ++ two) → Serves site v two
second_serves site v one two good = record {
  state = good.state;
  using = good.using;
  parts = λ s h. (all_append (λ f. form_value s [] f) one two (good.parts s h)).1;
}

serves_implies : (site : Site) (v : Test) (under : List CForm) → Serves site v under →
    Implies v (meets site.slots under)
serves_implies site v under good s h =
    both_true (is_state (slot_ranges site.slots) s) (list_all (λ f. form_value s [] f) under) (good.state s h)
    (good.parts s h)

any_made : (s e : List ℤ) (make : ℤ → CForm) (numbers : List ℤ) → list_any (λ f. form_value s e f)
    (map make numbers) ≡ list_any (λ z. form_value s e (make z)) numbers
any_made s e make [] = refl
any_made s e make (z ∷ numbers) = ap (λ b. form_value s e (make z) || b) (any_made s e make numbers)

any_tests : (e : List ℤ) (make : ℤ → CForm) (numbers : List ℤ) →
    (λ s. list_any (λ z. holding e (make z) s) numbers) ≡ holding e (any_of (map make numbers))
any_tests e make numbers = λ i s. sym (value_any s e (map make numbers) ∙ any_made s e make numbers) i

-- what holds at the states that pass a test holds in the executions that are kept to it
everywhere_kept : (x : System) (v : Test) (P : State → Type 0) → ((s : State) → IsTrue (v s) → P s) →
    Everywhere (kept v x) P
everywhere_kept x v P holds first choices later run place s there =
    holds s (((kept_runs v x first choices later).0 run).1 place s there)

module _ (site : Site) (good : IsSite site) (book : List Record) (stands : BookStands site book)
    (ranges : List Range) where
  abbrev x : System
  x = core_system site.slots site.program

  abbrev Leads : Test → List ℤ → Led → Type 0
  Leads v e l = LeadsTo (kept v x) (holding e l.p) (holding e l.q) l.bound

  abbrev Sound : Ask → Type 0
  Sound ask = (l : Led) → ask ≡ Ok l → AreValid site.slots ranges l.forms → (v : Test) → Serves site v l.under →
      (e : List ℤ) → IsTrue (are_in_ranges ranges e) → Leads v e l

  -- for a node, it is enough to show it of what the node should give
  of_node : (l : Led) → (AreValid site.slots ranges l.forms → (v : Test) → Serves site v l.under → (e : List ℤ) →
      IsTrue (are_in_ranges ranges e) → Leads v e l) →
      Sound (node site ranges l)
  of_node l shown m e =
      subst (λ (k : Led). AreValid site.slots ranges k.forms → (v : Test) → Serves site v k.under → (n : List ℤ) →
      IsTrue (are_in_ranges ranges n) → Leads v n k)
      (node_is site ranges l m e) shown

  -- a part gave something, and what follows it is sound
  of_part : {A : Type 0} (r : Result A Code) (f : A → Ask) → ((y : A) → r ≡ Ok y → Sound (f y)) → Sound (go_on r f)
  of_part r f shown l e = let part = went_on r f l e in shown part.0 part.1 l part.2

  of_need : (b : Bool) (code : Code) (rest : Ask) → (IsTrue b → Sound rest) → Sound (needs b code rest)
  of_need b code rest shown l e = let one = met b code rest l e in shown one.0 l one.1

  -- the instance that a reference gives stands at all numbers
  reference : (serves : Kind → Bool) (r : Ref) (a : Record) → referred site ranges book serves r ≡ Ok a →
      (e : List ℤ) → IsTrue (are_in_ranges ranges e) →
      IsTrue (serves a.kind) × KindStands a.kind site.slots site.program a e
  reference serves r a h e inside =
      let one = went_on (found book r) (λ b. needs (nat_eq b.program site.program.name) Code.OtherProgram
      (needs (serves b.kind) Code.WrongKind (instance_of site ranges b r.args))) a h in
      let two = met (nat_eq one.0.program site.program.name) Code.OtherProgram
      (needs (serves one.0.kind) Code.WrongKind (instance_of site ranges one.0 r.args)) a one.2 in
      let three = met (serves one.0.kind) Code.WrongKind (instance_of site ranges one.0 r.args) a two.1 in
      let kinds : one.0.kind ≡ a.kind = ap (λ (c : Record). c.kind) (instance_is site ranges one.0 r.args a
      three.1).1 in (
        subst (λ k. IsTrue (serves k)) kinds three.0,
        instance_sound site ranges one.0 r.args a
            (stands r one.0 one.1 two.0) three.1 e inside,
      )

  implied : (premises : List CForm) (q : CForm) → IsValid site.slots ranges (imply (site.using ++ premises) q) →
      (v : Test) (under : List CForm) → Serves site v under →
      (e : List ℤ) → IsTrue (are_in_ranges ranges e) → (s : State) → IsTrue (v s) →
      IsTrue (list_all (λ f. form_value s e f) premises) → IsTrue (form_value s e q)
  implied premises q valid v under serves e inside s h t =
      imply_gives s e (site.using ++ premises) q (valid s e (serves.state s h) inside)
      (all_join (λ f. form_value s e f) site.using premises (serves.using s e h) t)

  -- p implies q at the states of the executions
  by_valid : (p q : CForm) → IsValid site.slots ranges (imply (site.using ++ (p ∷ [])) q) →
      (v : Test) (under : List CForm) → Serves site v under →
      (e : List ℤ) → IsTrue (are_in_ranges ranges e) → Everywhere (kept v x) (λ s. IsTrue (holding e p s) →
      IsTrue (holding e q s))
  by_valid p q valid v under serves e inside =
      everywhere_kept x v (λ s. IsTrue (holding e p s) → IsTrue (holding e q s))
      (λ s h t. implied (p ∷ []) q valid v under serves e inside s h (both_true (form_value s e p) true t refl))

  from_kind : (v : Test) (e : List ℤ) (a : Record) → Serves site v a.under → (k : Kind) → IsTrue (leads k) →
      KindStands k site.slots site.program a e →
      LeadsTo (kept v x) (holding e a.p) (holding e a.q) (within_rounds k a.bound)
  from_kind v e a serves Kind.Ensures t h =
      leads_narrows x (meets site.slots a.under) v (holding e a.p) (holding e a.q) 1
      (serves_implies site v a.under serves)
      (ensures_leads_kept x (meets site.slots a.under) (holding e a.p) (holding e a.q) h.choice h.ensured)
  from_kind v e a serves Kind.Leadsto t h =
      leads_narrows x (meets site.slots a.under) v (holding e a.p) (holding e a.q) a.bound
      (serves_implies site v a.under serves) h
  from_kind v e a serves _ t h = cc

  safe_kind : (v : Test) (e : List ℤ) (a : Record) → Serves site v a.under → (k : Kind) → IsTrue (is_unless k) →
      KindStands k site.slots site.program a e →
      Unless (kept v x) (holding e a.p) (holding e a.q)
  safe_kind v e a serves Kind.Unless t h =
      unless_kept x v (holding e a.p) (holding e a.q)
      (unless_narrows x (meets site.slots a.under) v (holding e a.p) (holding e a.q)
      (serves_implies site v a.under serves) h)
  safe_kind v e a serves _ t h = cc

  abbrev TermStands : PTerm → Type 0
  TermStands t = IsTrue (is_well_bound ranges t) → Sound (term_of site ranges book t)

  abbrev Gives : Type 0
  Gives = (t : PTerm) × TermStands t

  abbrev trees : PTerm-F Gives → PTerm-F PTerm
  trees y = map-PTerm Gives PTerm (λ g. g.0) y

  abbrev answer : PTerm → Ask
  answer = term_of site ranges book

  -- the tests of an induction's part, with m put to z
  at_tests : (m : ℕ) (range : Range) (here : IsTrue (same_range (slice_get ranges m) range)) (z : ℤ)
      (inr : IsTrue (lies range z)) (e : List ℤ) (inside : IsTrue (are_in_ranges ranges e))
      (measure : CTerm) (p : CForm) → term_names_param m measure ≡ false → names_param m p ≡ false →
      holding (changed ranges m range here z inr e inside) (at_measure measure m p) ≡ (λ s. holding e p s && int_eq
      (term_value s e measure) z)
  at_tests m range here z inr e inside measure p absent none = λ i s. (at s) i
    where
      at : (s : State) → form_value s (changed ranges m range here z inr e inside) (at_measure measure m p) ≡
          (form_value s e p && int_eq (term_value s e measure) z)
      at s =
          let n : List ℤ = changed ranges m range here z inr e inside in
          value-and_form s n p (zero_form (difference_term measure (Param m)))
          ∙ ap (λ b. b && form_value s n (zero_form (difference_term measure (Param m))))
          (same_form_value ranges m range here z inr e inside s p none)
          ∙ ap (λ b. form_value s e p && b) (value-zero_form s n (difference_term measure (Param m))
          ∙ ap (λ y. int_eq y (pos 0)) (value-difference_term s n measure (Param m)
          ∙ ap (λ y. y -ℤ term_value s n (Param m)) (same_term_value ranges m range here z inr e inside s measure
          absent)
          ∙ ap (λ y. term_value s e measure -ℤ y) (value-Param s n m ∙ changed_at ranges m range here z inr e inside))
          ∙ sym (gap_is (term_value s e measure) z))

  below_tests : (m : ℕ) (range : Range) (here : IsTrue (same_range (slice_get ranges m) range)) (z : ℤ)
      (inr : IsTrue (lies range z)) (e : List ℤ) (inside : IsTrue (are_in_ranges ranges e))
      (measure : CTerm) (p q : CForm) → term_names_param m measure ≡ false → names_param m p ≡ false →
      names_param m q ≡ false →
      holding (changed ranges m range here z inr e inside) (below_measure measure m p q) ≡
      (λ s. (holding e p s && int_lt (term_value s e measure) z) || holding e q s)
  below_tests m range here z inr e inside measure p q absent none free = λ i s. (at s) i
    where
      at : (s : State) → form_value s (changed ranges m range here z inr e inside) (below_measure measure m p q) ≡
          ((form_value s e p && int_lt (term_value s e measure) z) || form_value s e q)
      at s =
          let n : List ℤ = changed ranges m range here z inr e inside in
          let less : CTerm = difference_term (difference_term (Param m) measure) (Const (pos 1)) in
          value-or_form s n (and_form p (at_least_form less)) q
          ∙ ap (λ b. form_value s n (and_form p (at_least_form less)) || b) (same_form_value ranges m range here z
          inr e inside s q free)
          ∙ ap (λ b. b || form_value s e q) (value-and_form s n p (at_least_form less)
          ∙ ap (λ b. b && form_value s n (at_least_form less)) (same_form_value ranges m range here z inr e inside s
          p none)
          ∙ ap (λ b. form_value s e p && b) (value-at_least_form s n less
          ∙ ap (λ y. int_le (pos 0) y) (value-difference_term s n (difference_term (Param m) measure) (Const (pos 1))
          ∙ ap (λ y. y -ℤ term_value s n (Const (pos 1))) (value-difference_term s n (Param m) measure
          ∙ ap (λ y. y -ℤ term_value s n measure) (value-Param s n m ∙ changed_at ranges m range here z inr e inside)
          ∙ ap (λ y. z -ℤ y) (same_term_value ranges m range here z inr e inside s measure absent))
          ∙ ap (λ y. (z -ℤ term_value s e measure) -ℤ y) (value-Const s n (pos 1)))
          ∙ below_is (term_value s e measure) z))

  measure_lies_at : (s : State) (e : List ℤ) (measure : CTerm) (range : Range) →
      IsTrue (form_value s e (measure_lies measure range)) →
      IsTrue (in_range (Some (range.lo, range.hi)) (term_value s e measure))
  measure_lies_at s e measure range t =
      let low : CForm = at_least_form (difference_term measure (Const range.lo)) in
      let high : CForm = at_least_form (difference_term (Const range.hi) measure) in
      let one : form_value s e low ≡ int_le (pos 0) (term_value s e measure -ℤ range.lo) =
      value-at_least_form s e (difference_term measure (Const range.lo))
      ∙ ap (λ y. int_le (pos 0) y) (value-difference_term s e measure (Const range.lo)
      ∙ ap (λ y. term_value s e measure -ℤ y) (value-Const s e range.lo)) in
      let two : form_value s e high ≡ int_le (pos 0) (range.hi -ℤ term_value s e measure) =
      value-at_least_form s e (difference_term (Const range.hi) measure)
      ∙ ap (λ y. int_le (pos 0) y) (value-difference_term s e (Const range.hi) measure
      ∙ ap (λ y. y -ℤ term_value s e measure) (value-Const s e range.hi)) in
      range_is range.lo range.hi (term_value s e measure)
      (sym (value-and_form s e low high ∙ ap (λ b. b && form_value s e high) one
      ∙ ap (λ b. int_le (pos 0) (term_value s e measure -ℤ range.lo) && b) two) ∙ t)

  -- each node, where its parts are sound
  layer_sound : (y : PTerm-F Gives) → IsTrue (well_step ranges (map-PTerm PTerm Bool (is_well_bound ranges)
      (trees y))) →
      Sound (term_step site ranges book (map-PTerm PTerm Ask answer (trees y)))
  layer_sound (PTerm-F.Imply p q) w =
      of_node (leads_by site.using p q) (λ valid v serves e inside.
      (within_none (kept v x) (holding e p) (holding e q)).1 (by_valid p q valid.0 v [] serves e inside))
  layer_sound (PTerm-F.From r) w =
      of_part (referred site ranges book leads r) (λ a. node site ranges (leads_from a)) (λ a h.
      of_node (leads_from a) (λ valid v serves e inside.
      let both = reference leads r a h e inside in from_kind v e a serves a.kind both.0 both.1))
  layer_sound (PTerm-F.Trans t u) w =
      of_part (answer t.0) (λ a. go_on (answer u.0) (λ b. needs (same_form a.q b.p) Code.MiddleDiffers
      (node site ranges (leads_on a b)))) (λ a h.
      of_part (answer u.0) (λ b. needs (same_form a.q b.p) Code.MiddleDiffers (node site ranges (leads_on a b)))
      (λ b k.
      of_need (same_form a.q b.p) Code.MiddleDiffers (node site ranges (leads_on a b)) (λ same.
      of_node (leads_on a b) (λ valid v serves e inside.
      let parts = valid_parts site.slots ranges a.forms b.forms valid in
      let one = t.1 (and_left (is_well_bound ranges t.0) (is_well_bound ranges u.0) w) a h parts.0 v
      (first_serves site v a.under b.under serves) e inside in
      let two = u.1 (and_right (is_well_bound ranges t.0) (is_well_bound ranges u.0) w) b k parts.1 v
      (second_serves site v a.under b.under serves) e inside in
      progress.leads_on (kept v x) (holding e a.p) (holding e a.q) (holding e b.q) a.bound b.bound one
      (subst (λ f. LeadsTo (kept v x) (holding e f) (holding e b.q) b.bound) (sym (same_form_is a.q b.p same))
      two)))))
  layer_sound (PTerm-F.Either t u) w =
      of_part (answer t.0) (λ a. go_on (answer u.0) (λ b. needs (same_form a.q b.q) Code.MiddleDiffers
      (node site ranges (leads_either a b)))) (λ a h.
      of_part (answer u.0) (λ b. needs (same_form a.q b.q) Code.MiddleDiffers (node site ranges (leads_either a b)))
      (λ b k.
      of_need (same_form a.q b.q) Code.MiddleDiffers (node site ranges (leads_either a b)) (λ same.
      of_node (leads_either a b) (λ valid v serves e inside.
      let parts = valid_parts site.slots ranges a.forms b.forms valid in
      let one = t.1 (and_left (is_well_bound ranges t.0) (is_well_bound ranges u.0) w) a h parts.0 v
      (first_serves site v a.under b.under serves) e inside in
      let two = u.1 (and_right (is_well_bound ranges t.0) (is_well_bound ranges u.0) w) b k parts.1 v
      (second_serves site v a.under b.under serves) e inside in
      let both = progress.either_leads (kept v x) (holding e a.p) (holding e b.p) (holding e a.q) a.bound b.bound one
      (subst (λ f. LeadsTo (kept v x) (holding e b.p) (holding e f) b.bound) (sym (same_form_is a.q b.q same)) two) in
      subst (λ p. LeadsTo (kept v x) p (holding e a.q) (max a.bound b.bound)) (test_or e a.p b.p) both))))
  layer_sound (PTerm-F.Exists m range t) w =
      let here = and_left (same_range (slice_get ranges m) range) (is_well_bound ranges t.0) w in
      of_part (answer t.0) (λ a. needs (not (names_param m a.q)) Code.ParamEscapes
      (node site ranges (leads_any ranges m range a))) (λ a h.
      of_need (not (names_param m a.q)) Code.ParamEscapes (node site ranges (leads_any ranges m range a)) (λ free.
      of_node (leads_any ranges m range a) (λ valid v serves e inside.
      let any = progress.any_leads (kept v x) (λ z. holding e (form_for ranges m z a.p)) (holding e a.q) a.bound
      (numbers_of range) (λ k z there.
      let inr = number_lies range k z there in
      let n : List ℤ = changed ranges m range here z inr e inside in
      let one = t.1 (and_right (same_range (slice_get ranges m) range) (is_well_bound ranges t.0) w) a h valid v serves
      n (changed_in ranges m range here z inr e inside) in
      like (λ p q. LeadsTo (kept v x) p q a.bound) (holding n a.p) (holding e (form_for ranges m z a.p))
      (holding n a.q) (holding e a.q)
      (test_with e (args_from 0 m z ranges) a.p) (λ i s. same_form_value ranges m range here z inr e inside s a.q
      (turned_off (names_param m a.q) free) i) one) in
      subst (λ p. LeadsTo (kept v x) p (holding e a.q) a.bound) (any_tests e (λ z. form_for ranges m z a.p)
      (numbers_of range)) any)))
  layer_sound (PTerm-F.Induct m range measure p q t) w =
      let names = not (term_names_param m measure) && (not (names_param m p) && not (names_param m q)) in
      let own = and_left (same_range (slice_get ranges m) range && names) (is_well_bound ranges t.0) w in
      let here = and_left (same_range (slice_get ranges m) range) names own in
      let free = and_right (same_range (slice_get ranges m) range) names own in
      let absent = turned_off (term_names_param m measure) (and_left (not (term_names_param m measure))
      (not (names_param m p) && not (names_param m q)) free) in
      let rest = and_right (not (term_names_param m measure)) (not (names_param m p) && not (names_param m q)) free in
      let no_p = turned_off (names_param m p) (and_left (not (names_param m p)) (not (names_param m q)) rest) in
      let no_q = turned_off (names_param m q) (and_right (not (names_param m p)) (not (names_param m q)) rest) in
      of_part (answer t.0) (λ a. needs (same_form a.p (at_measure measure m p) && same_form a.q
      (below_measure measure m p q)) Code.MiddleDiffers
      (node site ranges (leads_down site.using range measure p q a))) (λ a h.
      of_need (same_form a.p (at_measure measure m p) && same_form a.q (below_measure measure m p q))
      Code.MiddleDiffers (node site ranges (leads_down site.using range measure p q a)) (λ same.
      of_node (leads_down site.using range measure p q a) (λ valid v serves e inside.
      let parts = valid_parts site.slots ranges a.forms (imply (site.using ++ (p ∷ not_form q ∷ []))
      (measure_lies measure range) ∷ []) valid in
      let start = same_form_is a.p (at_measure measure m p) (and_left (same_form a.p (at_measure measure m p))
      (same_form a.q (below_measure measure m p q)) same) in
      let end = same_form_is a.q (below_measure measure m p q) (and_right (same_form a.p (at_measure measure m p))
      (same_form a.q (below_measure measure m p q)) same) in
      progress.leads_by_induction (kept v x) (λ s. term_value s e measure) (range.lo, range.hi) (holding e p)
      (holding e q) a.bound
      (everywhere_kept x v (λ s. IsTrue (but_not (holding e p) (holding e q) s) →
      IsTrue (in_range (Some (range.lo, range.hi)) (term_value s e measure)))
      (λ s k c. measure_lies_at s e measure range (implied (p ∷ not_form q ∷ []) (measure_lies measure range)
      parts.1.0 v a.under serves e inside s k (but_not_forms s e p q c))))
      (λ z inr.
      let n : List ℤ = changed ranges m range here z inr e inside in
      let one = t.1 (and_right (same_range (slice_get ranges m) range && names) (is_well_bound ranges t.0) w) a h
      parts.0 v serves n (changed_in ranges m range here z inr e inside) in
      like (λ f g. LeadsTo (kept v x) f g a.bound) (holding n a.p) (λ s. holding e p s && int_eq
      (term_value s e measure) z) (holding n a.q)
      (λ s. (holding e p s && int_lt (term_value s e measure) z) || holding e q s)
      (ap (holding n) start ∙ at_tests m range here z inr e inside measure p absent no_p) (ap (holding n) end
      ∙ below_tests m range here z inr e inside measure p q absent no_p no_q) one))))
  layer_sound (PTerm-F.Psp t r) w =
      of_part (answer t.0) (λ a. go_on (referred site ranges book is_unless r)
      (λ b. node site ranges (leads_safely a b))) (λ a h.
      of_part (referred site ranges book is_unless r) (λ b. node site ranges (leads_safely a b)) (λ b k.
      of_node (leads_safely a b) (λ valid v serves e inside.
      let one = t.1 w a h valid v (first_serves site v a.under b.under serves) e inside in
      let both = reference is_unless r b k e inside in
      let safe = safe_kind v e b (second_serves site v a.under b.under serves) b.kind both.0 both.1 in
      like (λ p q. LeadsTo (kept v x) p q a.bound) (both_hold (holding e a.p) (holding e b.p))
      (holding e (and_form a.p b.p))
      (one_holds (both_hold (holding e a.q) (holding e b.p)) (holding e b.q))
      (holding e (or_form (and_form a.q b.p) b.q))
      (test_and e a.p b.p) (ap (λ f. one_holds f (holding e b.q)) (test_and e a.q b.p) ∙ test_or e (and_form a.q b.p)
      b.q)
      (progress.progress_with_safety (kept v x) (holding e a.p) (holding e a.q) (holding e b.p) (holding e b.q)
      a.bound one safe))))
  layer_sound (PTerm-F.Weaken p q t) w =
      of_part (answer t.0) (λ a. node site ranges (leads_weaker site.using p q a)) (λ a h.
      of_node (leads_weaker site.using p q a) (λ valid v serves e inside.
      let parts = valid_parts site.slots ranges a.forms (imply (site.using ++ (p ∷ [])) a.p ∷ imply
      (site.using ++ (a.q ∷ [])) q ∷ []) valid in
      let one = t.1 w a h parts.0 v serves e inside in
      progress.leads_weaker (kept v x) (holding e a.p) (holding e a.q) (holding e p) (holding e q) a.bound
      (by_valid p a.p parts.1.0 v a.under serves e inside) (by_valid a.q q parts.1.1.0 v a.under serves e inside)
      one))

  layer : (y : PTerm-F Gives) → TermStands (roll-PTerm (trees y))
  layer y w =
      let well = sym (fold-roll-PTerm Bool (well_step ranges) (trees y)) ∙ w in
      subst (λ ask. Sound ask) (sym (fold-roll-PTerm Ask (term_step site ranges book) (trees y))) (layer_sound y well)

  pub term_stands : (t : PTerm) → TermStands t
  term_stands t = ind-PTerm TermStands (λ z y e. subst (λ k. TermStands (roll-PTerm k)) e (layer y)) t

pub term_sound : TermSound
term_sound site good book stands t ranges well l e valid n inside =
    term_stands site good book stands ranges t well l e (are_valid site.slots ranges l.forms valid)
    (meets site.slots (under_with site l.under)) (record {
      state = λ s h. (meets_means site good.closed l.under s h).state;
      using = λ s k h. (meets_means site good.closed l.under s h).using k;
      parts = λ s h. (meets_means site good.closed l.under s h).parts;
    }) n inside
