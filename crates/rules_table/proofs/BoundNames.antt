-- The names that a term binds have their ranges at their numbers, and an induction's formulas do not name its own.
use Rattle.std.proofs.Common.{◌≡◌, ℕ, nat_eq, ◌+◌, ◌<◌, List, [], ◌∷◌, ◌++◌, Bool, true, false, cond, not, ◌&&◌, ◌||◌}
use Rattle.std.proofs.Common.{Option, Some, None, IsTrue, refl, sym, ap, ◌∙◌, subst, slice_get, length, length-append}
use Rattle.std.proofs.Common.{append_assoc, arith}
use Rattle.std.specs.Prelude.{option_and_then}
use Rattle.std.proofs.lemmas.Bool.{eqb-true}
use Rattle.std.proofs.lemmas.Int.{ints}
use Rattle.std.specs.Int.RustNames.{int_le}
use Rattle.meaning_states.specs.State.{int_eq}
use Rattle.meaning_states.proofs.StepTheorems.{both_true}
use Rattle.core_terms.specs.declared.trees.Range.{Range}
use Rattle.core_terms.specs.declared.trees.CTerm.{CTerm}
use Rattle.core_terms.specs.declared.trees.CForm.{CForm}
use Rattle.core_terms.specs.declared.documents.PTerm.{PTerm, roll-PTerm, fold-roll-PTerm, ind-PTerm, fold-PTerm}
use Rattle.core_terms.specs.declared.documents.PTerm.TheOpen.{PTerm-F}
use Rattle.core_terms.specs.declared.documents.PTerm.TheFolds.{map-PTerm}
use Rattle.core_terms.specs.Places.{names_param, term_names_param, form_names_only, term_names_only}
use Rattle.core_terms.specs.Conditions.{IsRange, Parts, parts_step, parts_of, also, any_place, numbered_step}
use Rattle.core_terms.specs.Conditions.{ranges_step, bound_ranges}
use Rattle.core_terms.proofs.BoolLaws.{le_passes}
use Rattle.rules_table.specs.Sound.{AreFull}
use Rattle.rules_table.specs.Terms.{same_range, well_step, is_well_bound}
use Rattle.rules_table.proofs.NamedLaws.{form_shown, term_shown}
use Rattle.rules_table.proofs.EachLaws.{Each, each_parts}

-- the number after those that a term binds
abbrev pub numbered : PTerm → ℕ → Option ℕ
numbered = fold-PTerm (ℕ → Option ℕ) numbered_step

abbrev pub FormSees : (ℕ → Bool) × CForm → Type 0
FormSees e = IsTrue (form_names_only any_place e.0 e.1)

abbrev pub TermSees : (ℕ → Bool) × CTerm → Type 0
TermSees e = IsTrue (term_names_only any_place e.0 e.1)

-- formulas and terms name only what is visible at them, and no range is empty
pub record Sees (parts : Parts) : Type 0 where
  pub forms : Each FormSees parts.forms
  pub terms : Each TermSees parts.terms
  pub ranges : Each IsRange parts.ranges

pub record WellBound (ranges bound : List Range) (test : Bool) (first next : ℕ) : Type 0 where
  pub well : IsTrue test
  pub count : next ≡ first + length bound
  pub full : AreFull bound

both_of : (f : ℕ → Option ℕ) (o : Option ℕ) (n : ℕ) → option_and_then f o ≡ Some n →
    (m : ℕ) × (o ≡ Some m) × (f m ≡ Some n)
both_of f None n e = cc
both_of f (Some m) n e = (m, refl, e)

at_number : (b : Bool) (o : Option ℕ) (n : ℕ) → cond b o None ≡ Some n → IsTrue b × (o ≡ Some n)
at_number true o n e = (refl, e)
at_number false o n e = cc

both_full : (xs ys : List Range) → AreFull xs → AreFull ys → AreFull (xs ++ ys)
both_full [] ys h k = k
both_full (x ∷ xs) ys h k = (h.0, both_full xs ys h.1 k)

full_range : (r : Range) → IsRange r → IsTrue (int_le r.lo r.hi)
full_range r is = le_passes r.lo r.hi is.some

got_at : (pre : List Range) (range : Range) (rest : List Range) → slice_get (pre ++ range ∷ rest) (length pre) ≡
    Some range
got_at [] range rest = refl
got_at (r ∷ pre) range rest = got_at pre range rest

same_int : (a b : Range) → IsTrue (int_eq a.lo a.lo && int_eq a.hi a.hi)
same_int a b =
    let low = le_passes a.lo a.lo (omega (arith, ints)) in
    let high = le_passes a.hi a.hi (omega (arith, ints)) in
    both_true (int_eq a.lo a.lo) (int_eq a.hi a.hi) (both_true (int_le a.lo a.lo) (int_le a.lo a.lo) low low)
    (both_true (int_le a.hi a.hi) (int_le a.hi a.hi) high high)

range_there : (rs pre rest : List Range) (range : Range) (m : ℕ) → m ≡ length pre → rs ≡ pre ++ range ∷ rest →
    IsTrue (same_range (slice_get rs m) range)
range_there rs pre rest range m same are =
    let there : slice_get rs m ≡ Some range =
    ap (slice_get rs) same ∙ ap (λ xs. slice_get xs (length pre)) are ∙ got_at pre range rest in
    subst (λ o. IsTrue (same_range o range)) (sym there) (same_int range range)

unless_true : (b : Bool) → (IsTrue b → ⊥) → IsTrue (not b)
unless_true true f = absurd (f refl)
unless_true false f = refl

-- a name that is not yet visible is not named
unnamed_form : (m first : ℕ) (v : ℕ → Bool) (f : CForm) → m ≡ first → ((k : ℕ) → IsTrue (v k) → k < first) →
    FormSees (v, f) → IsTrue (not (names_param m f))
unnamed_form m first v f same below sees =
    unless_true (names_param m f) (λ t.
    let less = below m ((form_shown m v f t).1 sees) in omega (arith, less, same))

unnamed_term : (m first : ℕ) (v : ℕ → Bool) (t : CTerm) → m ≡ first → ((k : ℕ) → IsTrue (v k) → k < first) →
    TermSees (v, t) → IsTrue (not (term_names_param m t))
unnamed_term m first v f same below sees =
    unless_true (term_names_param m f) (λ t.
    let less = below m ((term_shown m v f t).1 sees) in omega (arith, less, same))

also_below : (m first : ℕ) (v : ℕ → Bool) → m ≡ first → ((k : ℕ) → IsTrue (v k) → k < first) →
    (k : ℕ) → IsTrue (also m v k) → k < first + 1
also_below m first v same below k t = go (nat_eq m k) refl t
  where
    go : (b : Bool) → nat_eq m k ≡ b → IsTrue (b || v k) → k < first + 1
    go true e h = let is = eqb-true m k e in omega (arith, is, same)
    go false e h = let less = below k h in omega (arith, less)

-- what is to be shown of a term, at each place where it may stand
abbrev pub TermWell : PTerm → Type 0
TermWell t = (rs pre post : List Range) (v : ℕ → Bool) (next : ℕ) → numbered t (length pre) ≡ Some next →
    ((k : ℕ) → IsTrue (v k) → k < length pre) → Sees (parts_of t v) → rs ≡ pre ++ (bound_ranges t ++ post) →
    WellBound rs (bound_ranges t) (is_well_bound rs t) (length pre) next

abbrev Well : Type 0
Well = (t : PTerm) × TermWell t

abbrev trees : PTerm-F Well → PTerm-F PTerm
trees y = map-PTerm Well PTerm (λ g. g.0) y

-- of a layer, from its parts' numbers, parts, ranges and tests
abbrev LayerWell : PTerm-F PTerm → Type 0
LayerWell x = (rs pre post : List Range) (v : ℕ → Bool) (next : ℕ) →
    numbered_step (map-PTerm PTerm (ℕ → Option ℕ) numbered x) (length pre) ≡ Some next →
    ((k : ℕ) → IsTrue (v k) → k < length pre) →
    Sees (parts_step (map-PTerm PTerm ((ℕ → Bool) → Parts) parts_of x) v) →
    rs ≡ pre ++ (ranges_step (map-PTerm PTerm (List Range) bound_ranges x) ++ post) →
    WellBound rs (ranges_step (map-PTerm PTerm (List Range) bound_ranges x))
    (well_step rs (map-PTerm PTerm Bool (is_well_bound rs) x)) (length pre) next

no_names : (rs : List Range) (first next : ℕ) → Some first ≡ Some next → WellBound rs [] true first next
no_names rs first next e =
    let same : first ≡ next = cc in record { well = refl; count = omega (arith, same); full = tt }

both_well : (t u : Well) (rs pre post : List Range) (v : ℕ → Bool) (next : ℕ) →
    option_and_then (numbered u.0) (numbered t.0 (length pre)) ≡ Some next →
    ((k : ℕ) → IsTrue (v k) → k < length pre) →
    Sees (parts_of t.0 v) → Sees (parts_of u.0 v) →
    rs ≡ pre ++ ((bound_ranges t.0 ++ bound_ranges u.0) ++ post) →
    WellBound rs (bound_ranges t.0 ++ bound_ranges u.0) (is_well_bound rs t.0 && is_well_bound rs u.0) (length pre)
    next
both_well t u rs pre post v next e below sees_t sees_u are =
    let middle = both_of (numbered u.0) (numbered t.0 (length pre)) next e in
    let m : ℕ = middle.0 in
    let bt : List Range = bound_ranges t.0 in
    let bu : List Range = bound_ranges u.0 in
    let one = t.1 rs pre (bu ++ post) v m middle.1 below sees_t (are ∙ ap (λ xs. pre ++ xs)
    (append_assoc bt bu post)) in
    let long : length (pre ++ bt) ≡ length pre + length bt = length-append pre bt in
    let here : m ≡ length (pre ++ bt) = one.count ∙ sym long in
    let count = one.count in
    let two = u.1 rs (pre ++ bt) post v next (ap (numbered u.0) (sym here) ∙ middle.2)
    (λ k h. let less = below k h in omega (arith, less, long)) sees_u
    (are ∙ ap (λ xs. pre ++ xs) (append_assoc bt bu post) ∙ sym (append_assoc pre bt (bu ++ post))) in
    let count_u = two.count in
    record {
      well = both_true (is_well_bound rs t.0) (is_well_bound rs u.0) one.well two.well;
      count = let sum = length-append bt bu in omega (arith, sum, long, count_u);
      full = both_full bt bu one.full two.full;
    }

-- a name that is bound in a part
bound_well : (t : Well) (m : ℕ) (range : Range) (rs pre post : List Range) (v : ℕ → Bool) (next : ℕ) →
    cond (nat_eq m (length pre)) (numbered t.0 (length pre + 1)) None ≡ Some next →
    ((k : ℕ) → IsTrue (v k) → k < length pre) → IsRange range → Sees (parts_of t.0 (also m v)) →
    rs ≡ pre ++ ((range ∷ bound_ranges t.0) ++ post) →
    (m ≡ length pre) × IsTrue (same_range (slice_get rs m) range)
    × WellBound rs (range ∷ bound_ranges t.0) (is_well_bound rs t.0) (length pre) next
bound_well t m range rs pre post v next e below is sees are =
    let found = at_number (nat_eq m (length pre)) (numbered t.0 (length pre + 1)) next e in
    let same : m ≡ length pre = eqb-true m (length pre) found.0 in
    let long : length (pre ++ range ∷ []) ≡ length pre + 1 = length-append pre (range ∷ []) in
    let one = t.1 rs (pre ++ range ∷ []) post (also m v) next (ap (numbered t.0) long ∙ found.1)
    (λ k h. let less = also_below m (length pre) v same below k h in omega (arith, less, long)) sees
    (are ∙ sym (append_assoc pre (range ∷ []) (bound_ranges t.0 ++ post))) in
    let count = one.count in (
      same,
      range_there rs pre (bound_ranges t.0 ++ post) range m same are,
      record {
        well = one.well;
        count = omega (arith, long, count);
        full = (full_range range is, one.full);
      },
    )

first_sees : (a b : Parts) → Each FormSees (a.forms ++ b.forms) → Each TermSees (a.terms ++ b.terms) →
    Each IsRange (a.ranges ++ b.ranges) → Sees a × Sees b
first_sees a b f t r =
    let forms = each_parts FormSees a.forms b.forms f in
    let terms = each_parts TermSees a.terms b.terms t in
    let ranges = each_parts IsRange a.ranges b.ranges r in (
      record { forms = forms.0; terms = terms.0; ranges = ranges.0 },
      record { forms = forms.1; terms = terms.1; ranges = ranges.1 },
    )

layer_well : (y : PTerm-F Well) → LayerWell (trees y)
layer_well (PTerm-F.Imply p q) rs pre post v next e below sees are = no_names rs (length pre) next e
layer_well (PTerm-F.From r) rs pre post v next e below sees are = no_names rs (length pre) next e
layer_well (PTerm-F.Trans t u) rs pre post v next e below sees are =
    let each = first_sees (parts_of t.0 v) (parts_of u.0 v) sees.forms sees.terms sees.ranges in
    both_well t u rs pre post v next e below each.0 each.1 are
layer_well (PTerm-F.Either t u) rs pre post v next e below sees are =
    let each = first_sees (parts_of t.0 v) (parts_of u.0 v) sees.forms sees.terms sees.ranges in
    both_well t u rs pre post v next e below each.0 each.1 are
layer_well (PTerm-F.Exists m range t) rs pre post v next e below sees are =
    let bound = bound_well t m range rs pre post v next e below sees.ranges.0
    (record { forms = sees.forms; terms = sees.terms; ranges = sees.ranges.1 }) are in
    let part = bound.2 in
    record {
      well = both_true (same_range (slice_get rs m) range) (is_well_bound rs t.0) bound.1 part.well;
      count = part.count;
      full = part.full;
    }
layer_well (PTerm-F.Induct m range measure p q t) rs pre post v next e below sees are =
    let bound = bound_well t m range rs pre post v next e below sees.ranges.0
    (record { forms = sees.forms.1.1; terms = sees.terms.1; ranges = sees.ranges.1 }) are in
    let part = bound.2 in
    let no_measure = unnamed_term m (length pre) v measure bound.0 below sees.terms.0 in
    let no_p = unnamed_form m (length pre) v p bound.0 below sees.forms.0 in
    let no_q = unnamed_form m (length pre) v q bound.0 below sees.forms.1.0 in
    let names : Bool = not (term_names_param m measure) && (not (names_param m p) && not (names_param m q)) in
    let free : IsTrue names =
    both_true (not (term_names_param m measure)) (not (names_param m p) && not (names_param m q)) no_measure
    (both_true (not (names_param m p)) (not (names_param m q)) no_p no_q) in
    record {
      well = both_true (same_range (slice_get rs m) range && names) (is_well_bound rs t.0)
          (both_true (same_range (slice_get rs m) range) names bound.1 free) part.well;
      count = part.count;
      full = part.full;
    }
layer_well (PTerm-F.Psp t r) rs pre post v next e below sees are =
    t.1 rs pre post v next e below (record {
      forms = (each_parts FormSees (parts_of t.0 v).forms [] sees.forms).0;
      terms = (each_parts TermSees (parts_of t.0 v).terms [] sees.terms).0;
      ranges = (each_parts IsRange (parts_of t.0 v).ranges [] sees.ranges).0;
    }) are
layer_well (PTerm-F.Weaken p q t) rs pre post v next e below sees are =
    t.1 rs pre post v next e below
    (record { forms = sees.forms.1.1; terms = sees.terms; ranges = sees.ranges }) are

layer : (y : PTerm-F Well) → TermWell (roll-PTerm (trees y))
layer y rs pre post v next e below sees are =
    let x : PTerm-F PTerm = trees y in
    let bound : bound_ranges (roll-PTerm x) ≡ ranges_step (map-PTerm PTerm (List Range) bound_ranges x) =
    fold-roll-PTerm (List Range) ranges_step x in
    let one = layer_well y rs pre post v next
    (sym (ap (λ f. f (length pre)) (fold-roll-PTerm (ℕ → Option ℕ) numbered_step x)) ∙ e) below
    (subst (λ f. Sees (f v)) (fold-roll-PTerm ((ℕ → Bool) → Parts) parts_step x) sees)
    (are ∙ ap (λ b. pre ++ (b ++ post)) bound) in
    subst (λ b. WellBound rs b (is_well_bound rs (roll-PTerm x)) (length pre) next) (sym bound)
    (subst (λ w. WellBound rs (ranges_step (map-PTerm PTerm (List Range) bound_ranges x)) w (length pre) next)
    (sym (fold-roll-PTerm Bool (well_step rs) x)) one)

pub term_well : (t : PTerm) → TermWell t
term_well t = ind-PTerm TermWell (λ z y e. subst (λ k. TermWell (roll-PTerm k)) e (layer y)) t
