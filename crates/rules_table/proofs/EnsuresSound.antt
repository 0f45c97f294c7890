-- What `text with h` gives stands: the helper names one instance, the same for all states.
use Rattle.std.proofs.Common.{◌≡◌, ℕ, zero, suc, nat_eq, ℤ, pos, ◌+ℤ◌, ◌-ℤ◌, List, [], ◌∷◌, ◌++◌, map, Bool, true}
use Rattle.std.proofs.Common.{false, cond, ◌&&◌, ◌||◌, Some, IsTrue, refl, sym, ap, ◌∙◌, subst, slice_get, length}
use Rattle.std.proofs.Common.{arith, ◌<◌}
use Rattle.std.specs.List.{list_all, list_any, filter}
use Rattle.meaning_executions.specs.Execution.{act_step}
use Rattle.std.proofs.lemmas.Int.{ints}
use borrow.Author.Differences.{le-true}
use Rattle.std.specs.Int.RustNames.{int_le}
use Rattle.case_tables.specs.declared.kind_table.Kind.{Kind}
use Rattle.case_tables.specs.declared.code_table.Code.{Code}
use Rattle.core_terms.proofs.BoolLaws.{le_passes}
use Rattle.core_terms.proofs.FoldingLaws.{value-zero_form, value-difference_term}
use Rattle.core_terms.proofs.PartLaws.{value-Const}
use Rattle.core_terms.specs.Folding.{zero_form, difference_term, not_form}
use Rattle.core_terms.specs.Replacing.{shifted, arg_values}
use Rattle.core_terms.specs.Steps.{core_step}
use Rattle.core_terms.specs.Values.{number_at, term_value, form_value}
use Rattle.core_terms.specs.declared.documents.Arg.{Arg}
use Rattle.core_terms.specs.declared.documents.Helper.{Helper}
use Rattle.core_terms.specs.declared.programs.CStmt.{CStmt}
use Rattle.core_terms.specs.declared.trees.CForm.{CForm}
use Rattle.core_terms.specs.declared.trees.CTerm.TheVariants.{Const}
use Rattle.layer_laws.specs.from_meaning_laws.Stands.{UnlessStands}
use Rattle.fair_rounds.specs.Records.{holding, are_in_ranges, meets, EnsuresNamed}
use Rattle.fair_rounds.specs.from_executor.CoreSystem.{core_system}
use Rattle.meaning_executions.specs.Counting.{ints_eq}
use Rattle.rules_table.proofs.FormLaws.{value_any, value_all, all_join}
use Rattle.rules_table.proofs.SiteLaws.{met, AreValid, valid_at, valid_parts, meets_means, kept_after}
use Rattle.rules_table.proofs.TextSound.{given, but_not_forms, unless_stands}
use Rattle.rules_table.specs.Forms.{any_of}
use Rattle.fixed_points.specs.from_wp_substitution.Preconditions.{all_of}
use Rattle.rules_table.specs.Sound.{IsSite, EnsuresSound}
use Rattle.rules_table.specs.Table.{ensures_of, Site, under_with, record_of, concluded, unless_forms, args_agree}
use Rattle.rules_table.specs.Table.{instances_of, names_some, equations, is_helper, meant_forms, helped_form}
use Rattle.rules_table.specs.Table.{helper_forms}
use Rattle.meaning_states.proofs.StepTheorems.{and_left, and_right, both_true}
use Rattle.meaning_states.specs.State.{int_eq}
use Rattle.core_terms.proofs.ReplacingLaws.{value-arg_at}

zero_gap : (x z : ℤ) → IsTrue (int_eq (x -ℤ z) (pos 0)) → IsTrue (int_eq z x)
zero_gap x z t =
    let low = le-true (x -ℤ z) (pos 0) (and_left (int_le (x -ℤ z) (pos 0)) (int_le (pos 0) (x -ℤ z)) t) in
    let high = le-true (pos 0) (x -ℤ z) (and_right (int_le (x -ℤ z) (pos 0)) (int_le (pos 0) (x -ℤ z)) t) in
    both_true (int_le z x) (int_le x z) (le_passes z x (omega (arith, ints))) (le_passes x z (omega (arith, ints)))

no_gap : (x z : ℤ) → IsTrue (int_eq z x) → IsTrue (int_eq (x -ℤ z) (pos 0))
no_gap x z t =
    let low = le-true z x (and_left (int_le z x) (int_le x z) t) in
    let high = le-true x z (and_right (int_le z x) (int_le x z) t) in
    both_true (int_le (x -ℤ z) (pos 0)) (int_le (pos 0) (x -ℤ z)) (le_passes (x -ℤ z) (pos 0) (omega (arith, ints)))
    (le_passes (pos 0) (x -ℤ z) (omega (arith, ints)))

turned : (x z : ℤ) → IsTrue (int_eq x z) → IsTrue (int_eq z x)
turned x z t = both_true (int_le z x) (int_le x z) (and_right (int_le x z) (int_le z x) t)
    (and_left (int_le x z) (int_le z x) t)

-- the equation of an index
value_equation : (s e : List ℤ) (n : ℕ) (add z : ℤ) →
    form_value s e (zero_form (difference_term (shifted n add) (Const z))) ≡ int_eq ((number_at e n +ℤ add) -ℤ z)
    (pos 0)
value_equation s e n add z =
    value-zero_form s e (difference_term (shifted n add) (Const z))
    ∙ ap (λ x. int_eq x (pos 0)) (value-difference_term s e (shifted n add) (Const z)
    ∙ ap (λ x. x -ℤ term_value s e (Const z)) (value-arg_at s e (Arg.Param n add ∷ []) 0)
    ∙ ap (λ x. (number_at e n +ℤ add) -ℤ x) (value-Const s e z))

-- the equations and the constant indices together say which instance is meant
named_by : (s e : List ℤ) (args : List Arg) (zs : List ℤ) → IsTrue (args_agree args zs) →
    IsTrue (list_all (λ f. form_value s e f) (equations args zs)) →
    IsTrue (ints_eq zs (arg_values e args))
named_by s e [] [] a t = refl
named_by s e [] (z ∷ zs) a t = cc
named_by s e (x ∷ args) [] a t = cc
named_by s e (Arg.Number k ∷ args) (z ∷ zs) a t =
    both_true (int_eq z k) (ints_eq zs (arg_values e args)) (turned k z (and_left (int_eq k z) (args_agree args zs) a))
    (named_by s e args zs (and_right (int_eq k z) (args_agree args zs) a) t)
named_by s e (Arg.Param n add ∷ args) (z ∷ zs) a t =
    let f : CForm = zero_form (difference_term (shifted n add) (Const z)) in
    both_true (int_eq z (number_at e n +ℤ add)) (ints_eq zs (arg_values e args))
    (zero_gap (number_at e n +ℤ add) z (sym (value_equation s e n add z) ∙ and_left (form_value s e f)
    (list_all (λ g. form_value s e g) (equations args zs)) t))
    (named_by s e args zs a (and_right (form_value s e f) (list_all (λ g. form_value s e g) (equations args zs)) t))
named_by s e (Arg.Slot ∷ args) (z ∷ zs) a t = cc

-- and what is meant meets them, at every state
equations_hold : (s e : List ℤ) (args : List Arg) (zs : List ℤ) → IsTrue (ints_eq zs (arg_values e args)) →
    IsTrue (list_all (λ f. form_value s e f) (equations args zs))
equations_hold s e [] zs t = refl
equations_hold s e (x ∷ args) [] t = cc
equations_hold s e (Arg.Number k ∷ args) (z ∷ zs) t =
    equations_hold s e args zs (and_right (int_eq z k) (ints_eq zs (arg_values e args)) t)
equations_hold s e (Arg.Param n add ∷ args) (z ∷ zs) t =
    let f : CForm = zero_form (difference_term (shifted n add) (Const z)) in
    both_true (form_value s e f) (list_all (λ g. form_value s e g) (equations args zs))
    (value_equation s e n add z ∙ no_gap (number_at e n +ℤ add) z (and_left (int_eq z (number_at e n +ℤ add))
    (ints_eq zs (arg_values e args)) t))
    (equations_hold s e args zs (and_right (int_eq z (number_at e n +ℤ add)) (ints_eq zs (arg_values e args)) t))
equations_hold s e (Arg.Slot ∷ args) (z ∷ zs) t =
    equations_hold s e args zs (and_right (int_eq z (pos 0)) (ints_eq zs (arg_values e args)) t)

-- without names there are no equations
no_equations : (s e : List ℤ) (args : List Arg) (zs : List ℤ) → names_some args ≡ false →
    IsTrue (list_all (λ f. form_value s e f) (equations args zs))
no_equations s e [] zs t = refl
no_equations s e (x ∷ args) [] t = refl
no_equations s e (Arg.Number k ∷ args) (z ∷ zs) t = no_equations s e args zs t
no_equations s e (Arg.Param n add ∷ args) (z ∷ zs) t = cc
no_equations s e (Arg.Slot ∷ args) (z ∷ zs) t = no_equations s e args zs t

-- an item that passes a test
one_item : {X : Type 0} (test : X → Bool) (x : X) (xs : List X) →
    (IsTrue (list_any test xs) → (k : ℕ) × (y : X) × (slice_get xs k ≡ Some y) × IsTrue (test y)) →
    (b : Bool) → test x ≡ b → IsTrue (b || list_any test xs) → (k : ℕ) × (y : X) × (slice_get (x ∷ xs) k ≡ Some y) ×
    IsTrue (test y)
one_item test x xs rest true e h = (zero, x, refl, e)
one_item test x xs rest false e h = let more = rest h in (suc more.0, more.1, more.2, more.3)

pub some_item : {X : Type 0} (test : X → Bool) (xs : List X) → IsTrue (list_any test xs) →
    (k : ℕ) × (x : X) × (slice_get xs k ≡ Some x) × IsTrue (test x)
some_item test [] t = cc
some_item test (x ∷ xs) t = one_item test x xs (λ h. some_item test xs h) (test x) refl t

or_more : (a b c : Bool) → (IsTrue b → IsTrue c) → IsTrue (a || b) → IsTrue (a || c)
or_more true b c f h = refl
or_more false b c f h = f h

any_mapped : {X Y : Type 0} (test : Y → Bool) (make : X → Y) (xs : List X) → IsTrue (list_any test (map make xs)) →
    IsTrue (list_any (λ x. test (make x)) xs)
any_mapped test make [] t = t
any_mapped test make (x ∷ xs) t =
    or_more (test (make x)) (list_any test (map make xs)) (list_any (λ y. test (make y)) xs)
    (λ h. any_mapped test make xs h) t

-- the items that pass a test, and their places
one_from : {X : Type 0} (test : X → Bool) (y : X) (xs : List X) (x : X) →
    ((k : ℕ) → slice_get (filter test xs) k ≡ Some x → (place : ℕ) × (slice_get xs place ≡ Some x) × IsTrue (test x))
    →
    (b : Bool) → test y ≡ b → (k : ℕ) → slice_get (cond b (y ∷ filter test xs) (filter test xs)) k ≡ Some x →
    (place : ℕ) × (slice_get (y ∷ xs) place ≡ Some x) × IsTrue (test x)
one_from test y xs x rest true t zero e = let same : y ≡ x = cc in (zero, e, subst (λ v. IsTrue (test v)) same t)
one_from test y xs x rest true t (suc k) e = let more = rest k e in (suc more.0, more.1, more.2)
one_from test y xs x rest false t k e = let more = rest k e in (suc more.0, more.1, more.2)

from_filter : {X : Type 0} (test : X → Bool) (xs : List X) (k : ℕ) (x : X) → slice_get (filter test xs) k ≡ Some x →
    (place : ℕ) × (slice_get xs place ≡ Some x) × IsTrue (test x)
from_filter test [] k x e = cc
from_filter test (y ∷ xs) k x e = one_from test y xs x (λ j h. from_filter test xs j x h) (test y) refl k e

first_in : {X : Type 0} (test : X → Bool) (y x : X) (xs : List X) → Some y ≡ Some x → IsTrue (test x) → (b : Bool) →
    test y ≡ b →
    (k : ℕ) × (slice_get (cond b (y ∷ filter test xs) (filter test xs)) k ≡ Some x)
first_in test y x xs e t true h = (zero, e)
first_in test y x xs e t false h = let same : y ≡ x = cc in let yes = subst (λ v. IsTrue (test v)) (sym same) t in cc

later_in : {X : Type 0} (test : X → Bool) (y x : X) (xs : List X) →
    (k : ℕ) × (slice_get (filter test xs) k ≡ Some x) → (b : Bool) →
    (k : ℕ) × (slice_get (cond b (y ∷ filter test xs) (filter test xs)) k ≡ Some x)
later_in test y x xs rest true = (suc rest.0, rest.1)
later_in test y x xs rest false = rest

in_filter : {X : Type 0} (test : X → Bool) (xs : List X) (place : ℕ) (x : X) → slice_get xs place ≡ Some x →
    IsTrue (test x) →
    (k : ℕ) × (slice_get (filter test xs) k ≡ Some x)
in_filter test [] place x e t = cc
in_filter test (y ∷ xs) zero x e t = first_in test y x xs e t (test y) refl
in_filter test (y ∷ xs) (suc place) x e t = later_in test y x xs (in_filter test xs place x e t) (test y)

pub get_map : {X Y : Type 0} (make : X → Y) (xs : List X) (k : ℕ) (x : X) → slice_get xs k ≡ Some x →
    slice_get (map make xs) k ≡ Some (make x)
get_map make [] k x e = cc
get_map make (y ∷ xs) zero x e = let same : y ≡ x = cc in ap (λ v. Some (make v)) same
get_map make (y ∷ xs) (suc k) x e = get_map make xs k x e

pub mapped_within : {X Y : Type 0} (make : X → Y) (xs : List X) (k : ℕ) (x : X) → slice_get xs k ≡ Some x →
    k < length (map make xs)
mapped_within make [] k x e = cc
mapped_within make (y ∷ xs) zero x e = omega arith
mapped_within make (y ∷ xs) (suc k) x e = let rest = mapped_within make xs k x e in omega (arith, rest)

module _ (site : Site) (good : IsSite site) (h : Helper) (e : List ℤ) (inside : IsTrue (are_in_ranges site.params e))
  where
    abbrev may_be : CStmt → Bool
    may_be s = nat_eq s.label h.label && args_agree h.args s.indices

    -- one of the instances is meant: its place among those that may be, and that its equations hold
    abbrev Meant : Type 0
    Meant = (k : ℕ) × (i : CStmt) × (slice_get (instances_of site h) k ≡ Some i) ×
        IsTrue (list_all (λ f. form_value good.state e f) (equations h.args i.indices))

    meant : IsTrue (is_helper site h) → AreValid site.slots site.params (meant_forms site h) → Meant
    meant known valid = go (names_some h.args) refl (and_right
        (list_any (λ s. nat_eq s.label h.label && nat_eq (length s.indices) (length h.args)) site.program.statements)
        (names_some h.args || list_any may_be site.program.statements) known) valid
      where
        go : (b : Bool) → names_some h.args ≡ b → IsTrue (b || list_any may_be site.program.statements) →
            AreValid site.slots site.params
            (cond b (any_of (map (λ s. all_of (equations h.args s.indices)) (instances_of site h)) ∷ []) []) → Meant
        go true n t v =
            let some = value_any good.state e (map (λ (s : CStmt). all_of (equations h.args s.indices))
            (instances_of site h)) in
            let found = some_item (λ (s : CStmt). form_value good.state e (all_of (equations h.args s.indices)))
            (instances_of site h)
            (any_mapped (λ f. form_value good.state e f) (λ (s : CStmt). all_of (equations h.args s.indices))
            (instances_of site h)
            (sym some ∙ v.0 good.state e good.is_one inside)) in
            (found.0, found.1, found.2, sym (value_all good.state e (equations h.args found.1.indices)) ∙ found.3)
        go false n t v =
            let found = some_item may_be site.program.statements t in
            let place = in_filter may_be site.program.statements found.0 found.1 found.2 found.3 in
            (place.0, found.1, place.1, no_equations good.state e h.args found.1.indices n)

    pub helper_stands : (p q : CForm) → IsTrue (is_helper site h) →
        AreValid site.slots site.params (helper_forms site p q h) →
        UnlessStands (core_system site.slots site.program) (meets site.slots (under_with site [])) (holding e p)
        (holding e q) →
        EnsuresNamed site.slots site.program (meets site.slots (under_with site [])) (holding e p) (holding e q) e
        (Some h)
    helper_stands p q known valid unless =
        let parts = valid_parts site.slots site.params (meant_forms site h) (map (helped_form site p q h)
        (instances_of site h)) valid in
        let one = meant known parts.0 in
        let i : CStmt = one.1 in
        let there = from_filter may_be site.program.statements one.0 i one.2 in
        let named = named_by good.state e h.args i.indices (and_right (nat_eq i.label h.label)
        (args_agree h.args i.indices)
        there.2) one.3 in
        record {
          choice = there.0;
          ensured = record {
            unless = unless;
            within = mapped_within (core_step site.slots) site.program.statements there.0 i there.1;
            helps = λ now next first second step holds.
                let here = meets_means site good.closed [] now first in
                let after = meets_means site good.closed [] next second in
                kept_after site good (p ∷ not_form q ∷ equations h.args i.indices) q site.params i there.0 there.1
                (valid_at site.slots site.params (helped_form site p q h) (instances_of site h) parts.1 one.0 i one.2)
                e inside now next here.state (here.using e) (after.using e)
                (all_join (λ f. form_value now e f) (p ∷ not_form q ∷ []) (equations h.args i.indices)
                (but_not_forms now e p q holds) (equations_hold now e h.args i.indices named))
                (sym (ap (act_step now) (get_map (core_step site.slots) site.program.statements there.0 i there.1))
                ∙ step);
          };
          named = (
            i,
            there.1,
            both_true (nat_eq i.label h.label) (ints_eq i.indices (arg_values e h.args))
                (and_left (nat_eq i.label h.label) (args_agree h.args i.indices) there.2) named,
          );
        }

pub ensures_sound : EnsuresSound
unfolding ensures_of
ensures_sound site good p q h d e valid =
    let asked = met (is_helper site h) Code.NoSuchStatement
    (concluded site.slots site.params (record_of site Kind.Ensures p q [] (Some h))
    (unless_forms site p q ++ helper_forms site p q h)) d e in
    given site (record_of site Kind.Ensures p q [] (Some h)) (unless_forms site p q ++ helper_forms site p q h)
    (λ all n inside.
    let parts = valid_parts site.slots site.params (unless_forms site p q) (helper_forms site p q h) all in
    helper_stands site good h n inside p q asked.0 parts.1 (unless_stands site good p q parts.0 n inside []))
    d asked.1 valid
