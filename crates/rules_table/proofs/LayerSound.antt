-- What `superpose` gives stands of the layer, and what it stands under holds throughout it.
use Rattle.std.proofs.Common.{◌≡◌, ℕ, zero, suc, nat_eq, ℤ, List, [], ◌∷◌, ◌++◌, Bool, true, false, not}
use Rattle.std.proofs.Common.{◌&&◌, cond, Option, Some, None, Ok, IsTrue, refl, sym, ap, ◌∙◌, subst}
use Rattle.std.proofs.Common.{slice_get, length, take, arith}
use Rattle.std.specs.Prelude.{zip}
use Rattle.std.specs.List.{list_all}
use Rattle.std.proofs.lemmas.Bool.{eqb-true, eq-eqb}
use Rattle.std.proofs.lemmas.Option.{slice_get_within}
use Rattle.case_tables.specs.declared.kind_table.Kind.{Kind}
use Rattle.meaning_states.specs.State.{State, is_state, int_eq}
use Rattle.meaning_states.proofs.StepTheorems.{and_left, and_right, both_true}
use Rattle.meaning_executions.specs.Execution.{System}
use Rattle.meaning_executions.specs.Properties.{Test, IsInvariant}
use Rattle.meaning_executions.proofs.ExecutionTheorems.{get_at}
use Rattle.core_terms.specs.declared.trees.CForm.{CForm}
use Rattle.core_terms.specs.declared.programs.CStmt.{CStmt}
use Rattle.core_terms.specs.declared.programs.CProgram.{CProgram}
use Rattle.core_terms.specs.declared.documents.Helper.{Helper}
use Rattle.core_terms.specs.Values.{form_value}
use Rattle.core_terms.specs.Steps.{slot_ranges}
use Rattle.core_terms.specs.Replacing.{arg_values}
use Rattle.core_terms.specs.Conditions.{IsProgram}
use Rattle.layer_laws.specs.Layers.{Back, IsOver, IsBlind, Guards}
use Rattle.layer_laws.specs.Resets.{reset}
use Rattle.layer_laws.proofs.LayerTheorems.{unless_carried, ensures_carried, invariant_carried, leads_carried}
use Rattle.layer_laws.proofs.LayerTheorems.{throughout_carried}
use Rattle.layer_laws.proofs.ResetTheorems.{reset_is_state}
use Rattle.fair_rounds.specs.from_executor.CoreSystem.{core_system}
use Rattle.fair_rounds.specs.Records.{holding, meets, are_in_ranges, NamedAt}
use Rattle.meaning_executions.specs.Counting.{ints_eq}
use Rattle.fair_rounds.specs.Records.{KindStands}
use Rattle.fair_rounds.specs.declared.records.Record.{Record}
use Rattle.rules_table.specs.Conclusion.{Conclusion}
use Rattle.rules_table.specs.Table.{Site, under_with}
use Rattle.rules_table.specs.Sound.{IsSite, HoldThroughout}
use Rattle.rules_table.specs.Validity.{IsValid, AllValid}
use Rattle.rules_table.specs.Layers.{all_two, same_write, writes_below, is_prefix, extends, labels}
use Rattle.rules_table.specs.Layers.{labels_agree, same_pattern, is_layer, is_new, names_no_new, names_old, label_over}
use Rattle.rules_table.specs.Layers.{helper_over, is_carried, starts_below, record_over, superpose_of}
use Rattle.rules_table.specs.LayerLaws.{SuperposeSound, SuperposeBegins, SuperposeShows}
use Rattle.rules_table.proofs.NamedLaws.{closed_form}
use Rattle.rules_table.proofs.NumberLaws.{int_eq_is}
use Rattle.rules_table.proofs.FormLaws.{imply_gives, all_join}
use Rattle.rules_table.proofs.SiteLaws.{concluded_is, are_valid, closed_value, closed_all, meets_means}
use Rattle.rules_table.proofs.TextSound.{given}
use Rattle.rules_table.proofs.LayerLaws.{row_met}
use Rattle.rules_table.proofs.LayerOver.{layer_is_over, few_below, standing_extends, pattern, two_at, form_back}

ints_are : (ys zs : List ℤ) → IsTrue (ints_eq ys zs) → ys ≡ zs
ints_are [] [] t = refl
ints_are [] (z ∷ zs) t = cc
ints_are (y ∷ ys) [] t = cc
ints_are (y ∷ ys) (z ∷ zs) t =
    let one = int_eq_is y z (and_left (int_eq y z) (ints_eq ys zs) t) in
    let rest = ints_are ys zs (and_right (int_eq y z) (ints_eq ys zs) t) in
    λ i. one i ∷ rest i

-- labels

pair_at : (a : ℕ × ℕ) (fs hs : List CStmt) (i : ℕ) (s t : CStmt) → slice_get fs i ≡ Some s →
    slice_get hs i ≡ Some t → IsTrue (list_all (labels_agree a) (zip (labels fs) (labels (take (length fs) hs)))) →
    IsTrue (labels_agree a (s.label, t.label))
pair_at a [] hs i s t there above all = cc
pair_at a (x ∷ fs) [] i s t there above all = cc
pair_at a (x ∷ fs) (y ∷ hs) zero s t there above all =
    let one : x ≡ s = cc in
    let two : y ≡ t = cc in
    subst (λ (z : CStmt). IsTrue (labels_agree a (z.label, t.label))) one
    (subst (λ (z : CStmt). IsTrue (labels_agree a (x.label, z.label))) two
    (and_left (labels_agree a (x.label, y.label))
    (list_all (labels_agree a) (zip (labels fs) (labels (take (length fs) hs)))) all))
pair_at a (x ∷ fs) (y ∷ hs) (suc i) s t there above all =
    pair_at a fs hs i s t there above
    (and_right (labels_agree a (x.label, y.label))
    (list_all (labels_agree a) (zip (labels fs) (labels (take (length fs) hs)))) all)

-- where the label is one's below, it is the other's in the layer
agreed : (m n k l : ℕ) → IsTrue (labels_agree (m, k) (n, l)) → m ≡ n → k ≡ l
agreed m n k l t same = eqb-true k l (subst (λ b. IsTrue (cond b (nat_eq k l) (not (nat_eq k l)))) (eq-eqb m n same) t)

label_at : (fs hs : List CStmt) (label i : ℕ) (s t : CStmt) → slice_get fs i ≡ Some s → slice_get hs i ≡ Some t →
    s.label ≡ label → IsTrue (same_pattern (zip (labels fs) (labels (take (length fs) hs)))) →
    label_over fs hs label ≡ t.label
label_at [] hs label i s t there above named all = cc
label_at (x ∷ fs) [] label i s t there above named all = cc
label_at (x ∷ fs) (y ∷ hs) label zero s t there above named all =
    let one : x ≡ s = cc in
    let two : y ≡ t = cc in
    ap (λ b. cond b y.label (label_over fs hs label))
    (eq-eqb x.label label (ap (λ (z : CStmt). z.label) one ∙ named)) ∙ ap (λ (z : CStmt). z.label) two
label_at (x ∷ fs) (y ∷ hs) label (suc i) s t there above named all =
    let pairs : List (ℕ × ℕ) = zip (labels fs) (labels (take (length fs) hs)) in
    let mine = and_left (list_all (labels_agree (x.label, y.label)) pairs) (same_pattern pairs) all in
    let rest = and_right (list_all (labels_agree (x.label, y.label)) pairs) (same_pattern pairs) all in
    go (nat_eq x.label label) refl (pair_at (x.label, y.label) fs hs i s t there above mine)
    (label_at fs hs label i s t there above named rest)
  where
    go : (b : Bool) → nat_eq x.label label ≡ b → IsTrue (labels_agree (x.label, y.label) (s.label, t.label)) →
        label_over fs hs label ≡ t.label → cond (nat_eq x.label label) y.label (label_over fs hs label) ≡ t.label
    go true e pair later =
        ap (λ b. cond b y.label (label_over fs hs label)) e
        ∙ agreed x.label s.label y.label t.label pair (eqb-true x.label label e ∙ sym named)
    go false e pair later = ap (λ b. cond b y.label (label_over fs hs label)) e ∙ later

module _ (site : Site) (good : IsSite site) (layer : IsProgram site.slots site.program) (f : CProgram)
    (under : IsProgram site.slots f) (is : IsTrue (is_layer site.program f)) (a : Record)
    (old : IsTrue (names_old site.program f a)) where
  abbrev y : System
  y = core_system site.slots site.program

  abbrev x : System
  x = core_system site.slots f

  abbrev back : Back
  back = reset (is_new site.program f) 0

  abbrev u : Test
  u = meets site.slots a.under

  abbrev v : Test
  v = meets site.slots (under_with site a.under)

  over : IsOver y x back
  over = layer_is_over site.slots site.program f layer under is

  abbrev OldForm : CForm → Type 0
  OldForm g = IsTrue (names_no_new site.program f g)

  blind : (g : CForm) → OldForm g → (e : List ℤ) → IsBlind back (holding e g)
  blind g t e origin s = form_back (is_new site.program f) origin s e g t

  old_both : IsTrue (names_no_new site.program f a.p && names_no_new site.program f a.q)
  old_both = and_left (names_no_new site.program f a.p && names_no_new site.program f a.q)
      (list_all (names_no_new site.program f) a.under) old

  blind_p : (e : List ℤ) → IsBlind back (holding e a.p)
  blind_p e = blind a.p (and_left (names_no_new site.program f a.p) (names_no_new site.program f a.q) old_both) e

  blind_q : (e : List ℤ) → IsBlind back (holding e a.q)
  blind_q e = blind a.q (and_right (names_no_new site.program f a.p) (names_no_new site.program f a.q) old_both) e

  -- what holds of each formula holds where the layer's own slots are put back
  all_back : (fs : List CForm) → IsTrue (list_all (names_no_new site.program f) fs) →
      IsBlind back (λ s. list_all (λ g. form_value s [] g) fs)
  all_back [] t origin s = refl
  all_back (g ∷ fs) t origin s =
      let one = blind g (and_left (names_no_new site.program f g) (list_all (names_no_new site.program f) fs) t) []
      origin s in
      let rest = all_back fs
      (and_right (names_no_new site.program f g) (list_all (names_no_new site.program f) fs) t) origin s in
      λ i. one i && rest i

  under_back : IsBlind back (λ s. list_all (λ g. form_value s [] g) a.under)
  under_back = all_back a.under
      (and_right (names_no_new site.program f a.p && names_no_new site.program f a.q)
      (list_all (names_no_new site.program f) a.under) old)

  -- the first states of the layer, at which U holds, are first states of the program below
  begins : (e : List ℤ) → IsTrue (are_in_ranges site.params e) →
      IsValid site.slots site.params (starts_below site f) → (s : State) → IsTrue (y.initial s) →
      IsTrue (list_all (λ g. form_value s e g) site.using) → IsTrue (x.initial s)
  begins e inside valid s start using =
      let state = and_left (is_state (slot_ranges site.slots) s) (form_value s [] site.program.initially) start in
      let here : IsTrue (form_value s e site.program.initially) =
      closed_value s e site.program.initially good.initially
      ∙ and_right (is_state (slot_ranges site.slots) s) (form_value s [] site.program.initially) start in
      let all = all_join (λ g. form_value s e g) site.using (site.program.initially ∷ []) using
      (both_true (form_value s e site.program.initially) true here refl) in
      both_true (is_state (slot_ranges site.slots) s) (form_value s [] f.initially) state
      (sym (closed_value s e f.initially (closed_form site.slots f.initially under.initially))
      ∙ imply_gives s e (site.using ++ (site.program.initially ∷ [])) f.initially (valid s e state inside) all)

  guards : (e : List ℤ) → IsTrue (are_in_ranges site.params e) →
      IsValid site.slots site.params (starts_below site f) → Guards y x back u v
  guards e inside valid = record {
    starts = λ s start t. begins e inside valid s start ((meets_means site good.closed a.under s t).using e);
    keeps = λ origin s t w.
        let first = meets_means site good.closed a.under origin t in
        let here = meets_means site good.closed a.under s w in
        both_true (is_state (slot_ranges site.slots) (back origin s))
        (list_all (λ g. form_value (back origin s) [] g) a.under)
        (reset_is_state (is_new site.program f) 0 (slot_ranges site.slots) origin s first.state here.state)
        (under_back origin s ∙ here.parts);
  }

  -- the layer's instance over the one that helps below is named as it is
  named_over : (x : Option Helper) (e : List ℤ) (place : ℕ) → NamedAt f x e place →
      NamedAt site.program (helper_over site.program f x) e place
  named_over None e place named = named
  named_over (Some h) e place named =
      let i : CStmt = named.0 in
      let all = standing_extends site.slots site.program f layer under is in
      let few = few_below site.slots site.program f layer under is in
      let within = slice_get_within f.statements place i named.1 in
      let found = get_at site.program.statements place (omega (arith, few, within)) in
      let t : CStmt = found.0 in
      let ext = two_at (extends f.shown) f.statements site.program.statements all place i t named.1 found.1 in
      let indices = ints_are i.indices t.indices (and_left (ints_eq i.indices t.indices)
      (all_two same_write i.writes (writes_below f.shown t) && is_prefix i.outside t.outside) ext) in
      let label = label_at f.statements site.program.statements h.label place i t named.1 found.1
      (eqb-true i.label h.label (and_left (nat_eq i.label h.label) (ints_eq i.indices (arg_values e h.args)) named.2))
      (pattern site.slots site.program f layer under is) in (
        t,
        found.1,
        both_true (nat_eq t.label (label_over f.statements site.program.statements h.label))
            (ints_eq t.indices (arg_values e h.args)) (eq-eqb t.label _ (sym label))
            (subst (λ zs. IsTrue (ints_eq zs (arg_values e h.args))) indices
            (and_right (nat_eq i.label h.label) (ints_eq i.indices (arg_values e h.args)) named.2)),
      )

  carried : (e : List ℤ) → Guards y x back u v → (k : Kind) → IsTrue (is_carried k) →
      KindStands k site.slots f a e → KindStands k site.slots site.program (record_over site f a) e
  carried e guard Kind.Invariant t stands = invariant_carried y x back u v (holding e a.p) over guard (blind_p e) stands
  carried e guard Kind.Unless t stands =
      unless_carried y x back u v (holding e a.p) (holding e a.q) over guard (blind_p e) (blind_q e) stands
  carried e guard Kind.Ensures t stands = record {
    choice = stands.choice;
    ensured = ensures_carried y x back u v (holding e a.p) (holding e a.q) stands.choice over guard (blind_p e)
        (blind_q e) stands.ensured;
    named = named_over a.helper e stands.choice stands.named;
  }
  carried e guard Kind.Leadsto t stands =
      leads_carried y x back u v (holding e a.p) (holding e a.q) a.bound over guard (blind_p e) (blind_q e) stands
  carried e guard _ t stands = cc

  throughout : (e : List ℤ) → IsTrue (are_in_ranges site.params e) →
      IsValid site.slots site.params (starts_below site f) → HoldThroughout site site.using → IsInvariant x u →
      HoldThroughout site a.under
  throughout e inside valid using always =
      throughout_carried y x back (λ s. list_all (λ g. form_value s [] g) a.under) over under_back
      (λ s start. begins e inside valid s start (closed_all s e site.using good.closed
      (using s [] [] (record { starts = start; steps = tt }) zero s refl)))
      (λ first choices later run place s there.
      and_right (is_state (slot_ranges site.slots) s) (list_all (λ g. form_value s [] g) a.under)
      (always first choices later run place s there))

pub superpose_sound : SuperposeSound
superpose_sound site good layer f under a premise d e valid =
    let row = row_met site f a d e in
    given site (record_over site f a) (starts_below site f ∷ [])
    (λ all n inside.
    carried site good layer f under row.layer a row.old n
    (guards site good layer f under row.layer a row.old n inside all.0) a.kind row.carried
    (premise.stands n (subst (λ rs. IsTrue (are_in_ranges rs n)) (sym premise.params) inside)))
    d row.gives valid

-- what is left to be shown is valid
start_valid : (site : Site) (f : CProgram) (a : Record) (d : Conclusion) → superpose_of site f a ≡ Ok d →
    AllValid site.slots d.goals → IsValid site.slots site.params (starts_below site f)
start_valid site f a d e valid =
    let row = row_met site f a d e in
    let goals = concluded_is site.slots site.params (record_over site f a) (starts_below site f ∷ []) d row.gives in
    let all = are_valid site.slots site.params (starts_below site f ∷ [])
    (subst (λ (z : Conclusion). AllValid site.slots z.goals) goals valid) in
    all.0

pub superpose_begins : SuperposeBegins
superpose_begins site good layer f under n inside a d e valid s start using =
    let row = row_met site f a d e in
    begins site good layer f under row.layer a row.old n inside (start_valid site f a d e valid) s start using

pub superpose_shows : SuperposeShows
superpose_shows site good layer f under n inside a d e valid using always =
    let row = row_met site f a d e in
    throughout site good layer f under row.layer a row.old n inside (start_valid site f a d e valid) using always
