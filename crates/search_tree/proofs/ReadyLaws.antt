-- The branches that a search opens are ready for it.
use Rattle.std.proofs.Common.{◌≡◌, ℕ, zero, suc, ◌+◌, ◌-◌, ◌≤◌, ◌<◌, ◌^◌, nat_le, ℤ, pos, negsuc, neg_ℤ, not, ◌+ℤ◌}
use Rattle.std.proofs.Common.{◌<ℤ◌, ◌≤ℤ◌, Bool, true, false, cond, ◌&&◌, inl, inr, Option, Some, None, List, []}
use Rattle.std.proofs.Common.{◌∷◌, ◌++◌, length, map, nat_lt, slice_get, arith, refl, sym, ap, subst, ◌∙◌}
use Rattle.std.specs.List.{list_all}
use Rattle.std.specs.Int.RustNames.{int_le, unsigned_abs}
use Rattle.std.proofs.lemmas.Int.{ints}
use Rattle.std.proofs.lemmas.List.Folds.{list_all-append}
use Rattle.std.proofs.lemmas.Bool.{and_parts}
use Rattle.obligations.specs.declared.branches.Branch.{Branch}
use Rattle.obligations.specs.declared.branches.Obligation.{Obligation}
use Rattle.obligations.specs.declared.branches.Variable.{Variable}
use Rattle.core_terms.specs.declared.trees.CForm.{CForm, out-CForm}
use Rattle.core_terms.specs.declared.trees.Range.{Range}
use Rattle.obligations.specs.declared.certificates.Node.{Node}
use Rattle.case_tables.specs.declared.code_table.Code.{Code}
use Rattle.obligations.specs.declared.branches.Fact.{Fact}
use Rattle.obligations.specs.Settling.{settled, outcome, form_at, branch_holds}
use Rattle.obligations.proofs.NeedLaws.{settled-light, refused-light, need-within}
use Rattle.obligations.proofs.LightLaws.{first-side, second-side}
use Rattle.obligations.specs.Shapes.{shapes, cases_of}
use Rattle.search_tree.specs.Choices.{can_wait}
use Rattle.obligations.specs.Load.{is_narrow}
use Rattle.search_tree.proofs.ShapeLaws.{settled-more, refused-more, side-shapes, waits-some}
use Rattle.obligations.specs.Load.{need, is_light}
use Rattle.obligations.specs.Opening.{range_facts, ranges_only, first_branch}
use Rattle.obligations.specs.LinearForms.{fact_holds}
use Rattle.obligations.specs.Settling.{sides, added}
use Rattle.obligations.specs.Opening.{at_most, at_least}
use Rattle.certificate_rules.specs.Refutation.{split_at, made_quot, fails, opens, made, allowing}
use Rattle.obligations.specs.Reach.{is_exact, is_within, are_exact, some_out_of_reach}
use Rattle.obligations.specs.Plain.{Cut, ranges_of, first_cut, with_high, with_low, waiting_only, cuts_of}
use Rattle.obligations.specs.Plain.{plain_leaves, open_leaves, side_leaves, quot_leaves, cut_leaves}
use Rattle.obligations.specs.declared.branches.Replaced.{Replaced}
use Rattle.obligations.specs.Quotients.{is_either, without_quotient, with_quotient}
use Rattle.obligations.specs.Scopes.{next_param, scope_of}
use Rattle.search_tree.specs.Searching.{Ready, Fixes, Met, Has, AreBounded, is_slender, levels_of}
use Rattle.obligations.proofs.NumberLaws.{obligation-height, obligation-load, obligation-narrow, obligation-sound}
use Rattle.obligations.specs.Obligations.{is_sound_range, IsObligation, AreOwn, AreVariables}
use Rattle.meaning_states.specs.State.{int_eq}
use Rattle.linear_prover.specs.Chains.{is_plain_number}
use Rattle.search_tree.proofs.CutLaws.{good-cut}
use Rattle.search_tree.proofs.DividendLaws.{first-small, second-small}
use Rattle.search_tree.proofs.FixesLaws.{fixes-side, fixes-low, fixes-high, root-fixes}
use Rattle.search_tree.specs.Weighing.{form_dividends}
use Rattle.search_tree.proofs.LeafLaws.{leaf-facts}
use Rattle.search_tree.proofs.SlenderLaws.{settled-within, refused-within, first-narrow, second-narrow}
use Rattle.search_tree.proofs.ExactLaws.{settled-exact, refused-exact, ranges-exact}
use Rattle.search_tree.proofs.SearchLaws.{made-level}
use Rattle.obligations.specs.Closed.{NamesOnly}
use Rattle.obligations.proofs.ClosedLaws.{settled-closed}
use Rattle.obligations.proofs.ScopeLaws.{scope-length, scope-done}
use Rattle.certificate_rules.proofs.ClosedLaws.{closed-added, side-names}
use Rattle.certificate_rules.proofs.SoundLaws.{first-closed}

le-is : (a b : ℕ) → nat_le a b ≡ true → a ≤ b
le-is a b h = grind arith

le-true : (a b : ℕ) → a ≤ b → nat_le a b ≡ true
le-true a b h = grind arith

int-le-true : (a b : ℤ) → a ≤ℤ b → int_le a b ≡ true
int-le-true a b h = grind (arith, ints)

sound-ends : (r : Range) → is_sound_range r ≡ true → (unsigned_abs r.lo ≤ 2 ^ 62) × (unsigned_abs r.hi ≤ 2 ^ 62)
sound-ends r s =
    let a = and_parts (int_le r.lo r.hi) (nat_le (unsigned_abs r.lo) (2 ^ 62) && nat_le (unsigned_abs r.hi) (2 ^ 62))
    s in
    let b = and_parts (nat_le (unsigned_abs r.lo) (2 ^ 62)) (nat_le (unsigned_abs r.hi) (2 ^ 62)) a.1 in
    (le-is (unsigned_abs r.lo) (2 ^ 62) b.0, le-is (unsigned_abs r.hi) (2 ^ 62) b.1)

abs-high : (z : ℤ) (n : ℕ) → unsigned_abs z ≤ n → z ≤ℤ pos n
abs-high (pos a) n h = omega (arith, ints, h)
abs-high (negsuc a) n h = omega (arith, ints)

sound-high : (r : Range) → is_sound_range r ≡ true → r.hi ≤ℤ pos (2 ^ 62)
sound-high r s = abs-high r.hi (2 ^ 62) (sound-ends r s).1

-- a number between two small ones is small
between : (lo z hi : ℤ) → lo ≤ℤ z → z ≤ℤ hi → unsigned_abs lo ≤ 2 ^ 62 → unsigned_abs hi ≤ 2 ^ 62 → unsigned_abs z ≤ 2
    ^ 62
between lo (pos a) (pos b) p q h k = omega (arith, ints, q, k)
between lo (pos a) (negsuc b) p q h k = absurd (omega (arith, ints, q))
between (pos a) (negsuc c) hi p q h k = absurd (omega (arith, ints, p))
between (negsuc a) (negsuc c) hi p q h k = omega (arith, ints, p, h)

one-sum : (a b : ℕ) → 1 ≤ a → 1 ≤ a + b
one-sum a b h = omega (arith, h)

cut-some : (go : List Range → Branch → ℕ) (rs : List Range) (b : Branch) (o : Option Cut) →
    ((rs : List Range) (b : Branch) → 1 ≤ go rs b) → 1 ≤ cut_leaves go rs b o
cut-some go rs b None h = omega arith
cut-some go rs b (Some c) h = one-sum _ _ (h (with_high rs c.place c.at) (added b (at_most c.place c.at)))

open-some : (vs : List Variable) (go : List Range → Branch → ℕ) (rs : List Range) (b : Branch) (ws : List CForm) →
    ((rs : List Range) (b : Branch) → 1 ≤ go rs b) → 1 ≤ open_leaves vs go rs b ws
open-some vs go rs b [] h = cut-some go rs b (first_cut 0 rs) h
open-some vs go rs b (f ∷ fs) h = by_either (is_either f)
  where
    by_quotient : (o : Option Replaced) → 1 ≤ quot_leaves (scope_of vs b) go rs (waiting_only b fs) o
    by_quotient None = omega arith
    by_quotient (Some r) = h rs (with_quotient (scope_of vs b) r (waiting_only b fs))

    by_either : (t : Bool) → 1 ≤ cond t (side_leaves (scope_of vs b) go rs (waiting_only b fs) f)
        (quot_leaves (scope_of vs b) go rs (waiting_only b fs)
        (without_quotient (next_param (scope_of vs b)) f))
    by_either true = one-sum _ _ (h rs (settled (scope_of vs b) (sides f).0 (waiting_only b fs)))
    by_either false = by_quotient (without_quotient (next_param (scope_of vs b)) f)

either-some : (t : Bool) (n : ℕ) → 1 ≤ n → 1 ≤ cond t 1 n
either-some true n h = omega arith
either-some false n h = h

-- each tree has a leaf
pub leaves-some : (vs : List Variable) (k : ℕ) (rs : List Range) (b : Branch) → 1 ≤ plain_leaves vs k rs b
leaves-some vs zero rs b = omega arith
leaves-some vs (suc k) rs b = either-some (some_out_of_reach b.facts)
    (open_leaves vs (plain_leaves vs k) rs b b.waiting) (open-some vs (plain_leaves vs k) rs b b.waiting
    (leaves-some vs k))

pub unreached-leaves : (vs : List Variable) (k : ℕ) (rs : List Range) (b : Branch) → some_out_of_reach b.facts ≡ false
    → plain_leaves vs (suc k) rs b ≡ open_leaves vs (plain_leaves vs k) rs b b.waiting
unreached-leaves vs k rs b e = ap (λ t. cond t 1 (open_leaves vs (plain_leaves vs k) rs b b.waiting)) e

-- a branch where nothing waits, no range is to be split and no fact is out of reach is a leaf
pub leaf-count : (vs : List Variable) (k : ℕ) (rs : List Range) (b : Branch) → some_out_of_reach b.facts ≡ false →
    b.waiting ≡ [] → first_cut 0 rs ≡ None → plain_leaves vs k rs b ≡ 1
leaf-count vs zero rs b u w e = refl
leaf-count vs (suc k) rs b u w e = unreached-leaves vs k rs b u ∙ ap (open_leaves vs (plain_leaves vs k) rs b) w
    ∙ ap (cut_leaves (plain_leaves vs k) rs b) e

-- the leaves of a branch whose first waiting formula is an `Or`
pub either-leaves : (vs : List Variable) (k : ℕ) (rs : List Range) (b : Branch) (f : CForm) (fs : List CForm) →
    is_either f ≡ true → open_leaves vs (plain_leaves vs k) rs b (f ∷ fs) ≡ side_leaves (scope_of vs b)
    (plain_leaves vs k) rs (waiting_only b fs) f
either-leaves vs k rs b f fs either =
    ap (λ t. cond t (side_leaves (scope_of vs b) (plain_leaves vs k) rs (waiting_only b fs) f)
    (quot_leaves (scope_of vs b) (plain_leaves vs k) rs (waiting_only b fs)
    (without_quotient (next_param (scope_of vs b)) f))) either

-- those of a branch of which a quotient is taken next
pub quotient-leaves : (vs : List Variable) (k : ℕ) (rs : List Range) (b : Branch) (f : CForm) (fs : List CForm) →
    is_either f ≡ false → open_leaves vs (plain_leaves vs k) rs b (f ∷ fs) ≡ quot_leaves (scope_of vs b)
    (plain_leaves vs k) rs (waiting_only b fs) (without_quotient (next_param (scope_of vs b)) f)
quotient-leaves vs k rs b f fs either =
    ap (λ t. cond t (side_leaves (scope_of vs b) (plain_leaves vs k) rs (waiting_only b fs) f)
    (quot_leaves (scope_of vs b) (plain_leaves vs k) rs (waiting_only b fs)
    (without_quotient (next_param (scope_of vs b)) f))) either

-- The branches of a waiting formula.
pub case-opens : (vs : List Variable) (k : ℕ) (f : CForm) (b : Branch) → is_either f ≡ true →
    made vs (allowing (levels_of (suc k)) (waiting_only b (f ∷ b.waiting))) (Node.Case 1) ≡ opens
    (settled (scope_of vs b) (sides f).0 b ∷ settled (scope_of vs b) (sides f).1 b ∷ [])
case-opens vs k f b either =
    made-level vs (levels_of (suc k)) (waiting_only b (f ∷ b.waiting)) (Node.Case 1) (omega arith)
    ∙ ap (λ t. cond t
    (opens (settled (scope_of vs b) (sides f).0 b ∷ settled (scope_of vs b) (sides f).1 b ∷ []))
    (fails Code.NothingToCase)) either

-- the branch that its quotient opens
pub quot-opens : (vs : List Variable) (k : ℕ) (f : CForm) (r : Replaced) (b : Branch) →
    without_quotient (next_param (scope_of vs b)) f ≡ Some r →
    made vs (allowing (levels_of (suc k)) (waiting_only b (f ∷ b.waiting))) (Node.Quot 1) ≡ opens
    (with_quotient (scope_of vs b) r b ∷ [])
quot-opens vs k f r b is =
    made-level vs (levels_of (suc k)) (waiting_only b (f ∷ b.waiting)) (Node.Quot 1) (omega arith)
    ∙ ap (made_quot (scope_of vs b) (waiting_only b (f ∷ b.waiting)) 0) is

-- a formula that waits in a ready branch is light
pub ready-light : (vs : List Variable) (k : ℕ) (rs : List Range) (f : CForm) (b : Branch) → Ready vs k rs
    (waiting_only b (f ∷ b.waiting)) → (need f).yes ≤ 2 ^ 63
ready-light vs k rs f b r = light-bound f (2 ^ 63) (and_parts (is_light (2 ^ 63) f)
    (list_all (is_light (2 ^ 63)) b.waiting) r.light).0
  where
    light-bound : (f : CForm) (bound : ℕ) → is_light bound f ≡ true → (need f).yes ≤ bound
    light-bound f bound h = grind arith

-- The facts of a branch stay where more are added.
has-more : (facts more : List Fact) (f : Fact) → Has facts f → Has (facts ++ more) f
has-more [] more f h = absurd h
has-more (g ∷ facts) more f (inl e) = inl e
has-more (g ∷ facts) more f (inr h) = inr (has-more facts more f h)

pub bounded-more : (n : ℕ) (rs : List Range) (facts more : List Fact) → AreBounded n rs facts → AreBounded n rs
    (facts ++ more)
bounded-more n [] facts more h = tt
bounded-more n (r ∷ rs) facts more h = (
  has-more facts more (at_least n r.lo) h.0,
  has-more facts more
      (at_most n r.hi) h.1,
  bounded-more (suc n) rs facts more h.2,
)

has-last : (facts : List Fact) (f : Fact) → Has (facts ++ f ∷ []) f
has-last [] f = inl refl
has-last (g ∷ facts) f = inr (has-last facts f)

bounded-high : (n : ℕ) (rs : List Range) (i : ℕ) (k : ℤ) (facts : List Fact) → AreBounded n rs facts → AreBounded n
    (with_high rs i k) (facts ++ at_most (n + i) k ∷ [])
bounded-high n [] i k facts h = tt
bounded-high n (r ∷ rs) zero k facts h =
    let e : n + 0 ≡ n = omega arith in (
      has-more facts (at_most (n + 0) k ∷ []) (at_least n r.lo) h.0,
      subst (λ j. Has (facts ++ at_most j k ∷ []) (at_most n k)) (sym e) (has-last facts (at_most n k)),
      bounded-more (suc n) rs facts (at_most (n + 0) k ∷ []) h.2,
    )
bounded-high n (r ∷ rs) (suc i) k facts h =
    let e : suc n + i ≡ n + suc i = omega arith in (
      has-more facts _ (at_least n r.lo) h.0,
      has-more facts _ (at_most n r.hi) h.1,
      subst (λ j. AreBounded (suc n) (with_high rs i k) (facts ++ at_most j k ∷ [])) e
          (bounded-high (suc n) rs i k facts h.2),
    )

bounded-low : (n : ℕ) (rs : List Range) (i : ℕ) (k : ℤ) (facts : List Fact) → AreBounded n rs facts → AreBounded n
    (with_low rs i k) (facts ++ at_least (n + i) k ∷ [])
bounded-low n [] i k facts h = tt
bounded-low n (r ∷ rs) zero k facts h =
    let e : n + 0 ≡ n = omega arith in (
      subst (λ j. Has (facts ++ at_least j k ∷ []) (at_least n k)) (sym e) (has-last facts (at_least n k)),
      has-more facts (at_least (n + 0) k ∷ []) (at_most n r.hi) h.1,
      bounded-more (suc n) rs facts (at_least (n + 0) k ∷ []) h.2,
    )
bounded-low n (r ∷ rs) (suc i) k facts h =
    let e : suc n + i ≡ n + suc i = omega arith in (
      has-more facts _ (at_least n r.lo) h.0,
      has-more facts _ (at_most n r.hi) h.1,
      subst (λ j. AreBounded (suc n) (with_low rs i k) (facts ++ at_least j k ∷ [])) e
          (bounded-low (suc n) rs i k facts h.2),
    )

-- A side of a waiting formula.
side-ready : (vs : List Variable) (k : ℕ) (rs : List Range) (f g : CForm) (b : Branch) → Ready vs (suc k) rs
    (waiting_only b (f ∷ b.waiting)) → ((need f).yes ≤ 2 ^ 63 → (need g).yes ≤ 2 ^ 63) →
    (is_narrow f ≡ true → is_narrow g ≡ true) →
    (NamesOnly (scope_of vs b) f → NamesOnly (scope_of vs b) g) →
    ((weight : Bool → ℕ → ℕ) → form_dividends weight g ≤ form_dividends weight f) →
    suc (shapes g).yes.cases ≤ (shapes f).yes.cases → Ready vs k rs (settled (scope_of vs b) g b)
side-ready vs k rs f g b r light thin named small less =
    let us : List Variable = scope_of vs b in
    let waiting = r.closed.waiting in
    let waits = and_parts (can_wait f) (list_all can_wait b.waiting) r.waits in
    let lights = and_parts (is_light (2 ^ 63) f) (list_all (is_light (2 ^ 63)) b.waiting) r.light in
    let narrows = and_parts (is_narrow f) (list_all is_narrow b.waiting) r.narrow in
    let lighter = light (ready-light vs (suc k) rs f b r) in
    let w = settled-within us g b (thin narrows.0) lighter (record { slender = r.slender; narrow = narrows.1 }) in
    let more = settled-more us g b in
    let n = more.cases in let d = r.deep in
    record {
      deep = omega (arith, n, d, less);
      light = settled-light us (2 ^ 63) g b lighter lights.1;
      narrow = w.narrow;
      waits = more.waits waits.1;
      exact = settled-exact us g b r.exact;
      slender = w.slender;
      long = r.long;
      sound = r.sound;
      bounded = bounded-more 0 rs b.facts (outcome us g).yes.facts r.bounded;
      closed = settled-closed us g b (named waiting.0.names)
          (record { facts = r.closed.facts; waiting = waiting.1 });
      fixes = fixes-side vs rs f g b small r.fixes;
    }

pub ready-first : (vs : List Variable) (k : ℕ) (rs : List Range) (f : CForm) (b : Branch) → is_either f ≡ true →
    Ready vs (suc k) rs (waiting_only b (f ∷ b.waiting)) → Ready vs k rs (settled (scope_of vs b) (sides f).0 b)
ready-first vs k rs f b e r = side-ready vs k rs f (sides f).0 b r (first-side f (2 ^ 63)) (first-narrow f)
    (λ n. (side-names (scope_of vs b) f (out-CForm f) refl n).0) (λ weight. first-small weight f)
    (side-shapes f e).first

pub ready-second : (vs : List Variable) (k : ℕ) (rs : List Range) (f : CForm) (b : Branch) → is_either f ≡ true →
    Ready vs (suc k) rs (waiting_only b (f ∷ b.waiting)) → Ready vs k rs (settled (scope_of vs b) (sides f).1 b)
ready-second vs k rs f b e r = side-ready vs k rs f (sides f).1 b r (second-side f (2 ^ 63)) (second-narrow f)
    (λ n. (side-names (scope_of vs b) f (out-CForm f) refl n).1) (λ weight. second-small weight f)
    (side-shapes f e).second

-- while something waits, a level is left
pub ready-deep : (vs : List Variable) (k : ℕ) (rs : List Range) (f : CForm) (fs : List CForm) (b : Branch) →
    Ready vs k rs (waiting_only b (f ∷ fs)) → 1 ≤ k
ready-deep vs k rs f fs b r =
    let l = waits-some f (and_parts (can_wait f) (list_all can_wait fs) r.waits).0 in
    let d = r.deep in omega (arith, l, d)

pub ready-some : (vs : List Variable) (k : ℕ) (rs : List Range) (b : Branch) → Ready vs k rs b →
    0 < length b.waiting → 1 ≤ k
ready-some vs k rs b r h = by_list b.waiting refl
  where
    by_list : (ws : List CForm) → b.waiting ≡ ws → 1 ≤ k
    by_list [] e = let l = ap (λ (x : List CForm). length x) e in absurd (omega (arith, h, l))
    by_list (f ∷ fs) e = ready-deep vs k rs f fs b (subst (Ready vs k rs) (ap (waiting_only b) e) r)

-- a ready branch has so few added variables that its variables are as those of an obligation
pub ready-variables : (vs us : List Variable) (k : ℕ) (rs : List Range) (b : Branch) → AreOwn vs →
    us ≡ scope_of vs b → k ≤ 960 → Ready vs k rs b → AreVariables us
ready-variables vs us k rs b own e h r =
    let d = r.deep in scope-done vs us b.added own (omega (arith, d, h)) e

pub ready-exact : (vs us : List Variable) (k : ℕ) (rs : List Range) (b : Branch) → us ≡ scope_of vs b →
    Ready vs k rs b → are_exact (length us) b.facts ≡ true
ready-exact vs us k rs b e r = subst (λ (x : List Variable). are_exact (length x) b.facts ≡ true) (sym e) r.exact

pub ready-few : (vs : List Variable) (k : ℕ) (rs : List Range) (b : Branch) → k ≤ 960 → Ready vs k rs b →
    b.added ≤ 480
ready-few vs k rs b h r = let d = r.deep in omega (arith, d, h)

pub ready-ranges : (vs : List Variable) (k : ℕ) (rs : List Range) (b : Branch) → AreOwn vs → Ready vs k rs b →
    length rs < 2 ^ 32
ready-ranges vs k rs b own r = let l = r.long in let c = own.variables.count in omega (arith, l, c)

-- what a cut is
pub record CutIs (rs : List Range) (place : ℕ) (at : ℤ) : Type 0 where
  pub inside : place < length rs
  pub room : at <ℤ pos (2 ^ 63 - 1)
  pub simple : is_plain_number at ≡ true

pub cut-is : (vs : List Variable) (k : ℕ) (rs : List Range) (b : Branch) (place : ℕ) (at : ℤ) → Ready vs k rs b →
    first_cut 0 rs ≡ Some (record { place = place; at = at }) → CutIs rs place at
cut-is vs k rs b place at r e =
    let g = good-cut rs place at r.sound e in
    let i = g.inside in let h = g.middle.high in let q = g.is in
    let bound = sound-high g.range g.sound in
    let l = g.middle.low in
    let ends = sound-ends g.range g.sound in
    record {
      inside = i;
      room = omega (arith, ints, q, h, bound);
      simple = le-true (unsigned_abs at) (2 ^ 62) (between g.range.lo at g.range.hi (omega (arith, ints, q, l))
          (omega (arith, ints, q, h)) ends.0 ends.1);
    }

pub ready-cut : (vs : List Variable) (k : ℕ) (rs : List Range) (b : Branch) (place : ℕ) (at : ℤ) → Ready vs k rs b →
    first_cut 0 rs ≡ Some (record { place = place; at = at }) → 1 ≤ k
ready-cut vs k rs b place at r e = let l = (good-cut rs place at r.sound e).low in let d = r.deep in omega
    (arith, l, d)

length-high : (rs : List Range) (n : ℕ) (k : ℤ) → length (with_high rs n k) ≡ length rs
length-high [] n k = refl
length-high (r ∷ rs) zero k = refl
length-high (r ∷ rs) (suc n) k = ap suc (length-high rs n k)

length-low : (rs : List Range) (n : ℕ) (k : ℤ) → length (with_low rs n k) ≡ length rs
length-low [] n k = refl
length-low (r ∷ rs) zero k = refl
length-low (r ∷ rs) (suc n) k = ap suc (length-low rs n k)

sound-with-high : (rs : List Range) (n : ℕ) (r : Range) (k : ℤ) → slice_get rs n ≡ Some r → list_all is_sound_range rs
    ≡ true → is_sound_range (record { lo = r.lo; hi = k }) ≡ true → list_all is_sound_range (with_high rs n k) ≡ true
sound-with-high [] n r k e s h = refl
sound-with-high (x ∷ rs) zero r k e s h = let q : x ≡ r = cc in ap
    (λ (z : Range). is_sound_range (record { lo = z.lo; hi = k }) && list_all is_sound_range rs) q ∙ ap
    (λ z. z && list_all is_sound_range rs) h ∙ (and_parts (is_sound_range x) (list_all is_sound_range rs) s).1
sound-with-high (x ∷ rs) (suc n) r k e s h = let a = and_parts (is_sound_range x) (list_all is_sound_range rs) s in ap
    (λ z. z && list_all is_sound_range (with_high rs n k)) a.0 ∙ sound-with-high rs n r k e a.1 h

sound-with-low : (rs : List Range) (n : ℕ) (r : Range) (k : ℤ) → slice_get rs n ≡ Some r → list_all is_sound_range rs
    ≡ true → is_sound_range (record { lo = k; hi = r.hi }) ≡ true → list_all is_sound_range (with_low rs n k) ≡ true
sound-with-low [] n r k e s h = refl
sound-with-low (x ∷ rs) zero r k e s h = let q : x ≡ r = cc in ap
    (λ (z : Range). is_sound_range (record { lo = k; hi = z.hi }) && list_all is_sound_range rs) q ∙ ap
    (λ z. z && list_all is_sound_range rs) h ∙ (and_parts (is_sound_range x) (list_all is_sound_range rs) s).1
sound-with-low (x ∷ rs) (suc n) r k e s h = let a = and_parts (is_sound_range x) (list_all is_sound_range rs) s in ap
    (λ z. z && list_all is_sound_range (with_low rs n k)) a.0 ∙ sound-with-low rs n r k e a.1 h

pub all-last : {A : Type 0} (t : A → Bool) (xs : List A) (x : A) → list_all t xs ≡ true → t x ≡ true → list_all t
    (xs ++ x ∷ []) ≡ true
all-last t xs x p q = list_all-append t xs (x ∷ []) ∙ ap (λ z. z && list_all t (x ∷ [])) p ∙ ap (λ z. z && true) q

-- a branch without a waiting formula, with a fact more
cut-ready : (vs : List Variable) (k : ℕ) (rs qs : List Range) (b : Branch) (f : Fact) → Ready vs (suc k) rs b →
    b.waiting ≡ [] → suc (cuts_of qs) ≤ cuts_of rs → length qs ≡ length rs → list_all is_sound_range qs ≡ true →
    (is_exact 0 f.factors && is_within (length (scope_of vs b)) f.factors) ≡ true → is_slender f ≡ true →
    AreBounded 0 qs (b.facts ++ f ∷ []) → Fixes vs qs (added b f) → Ready vs k qs (added b f)
cut-ready vs k rs qs b f r w less long sound exact slender bounded fixes =
    let d = r.deep in
    let none : b.waiting ++ [] ≡ [] = ap (λ z. z ++ []) w in
    let c : cases_of (b.waiting ++ []) ≡ 0 = ap cases_of none in
    record {
      deep = omega (arith, d, less, c);
      light = ap (list_all (is_light (2 ^ 63))) none;
      waits = ap (list_all can_wait) none;
      narrow = ap (list_all is_narrow) none;
      exact = all-last _ b.facts f r.exact exact;
      slender = all-last is_slender b.facts f r.slender slender;
      long = long ∙ r.long;
      sound = sound;
      bounded = bounded;
      closed = closed-added (scope_of vs b) b f
          (and_parts (is_exact 0 f.factors) (is_within (length (scope_of vs b)) f.factors) exact).1 r.closed;
      fixes = fixes;
    }

pub one-exact : (count place : ℕ) (s : ℤ) → not (int_eq s (pos 0)) ≡ true → place < count →
    (is_exact 0 ((place, s) ∷ []) && is_within count ((place, s) ∷ [])) ≡ true
one-exact count place s n h =
    ap (λ t. ((t && not (int_eq s (pos 0))) && true) && (nat_le (suc place) count && true))
    (le-true 0 place (omega arith))
    ∙ ap (λ t. (t && true) && (nat_le (suc place) count && true)) n ∙ ap (λ t. t && true)
    (le-true (suc place) count (omega (arith, h)))

-- an obligation's variable is one of the branch's
scoped : (vs : List Variable) (b : Branch) (place : ℕ) → place < length vs → place < length (scope_of vs b)
scoped vs b place h = let s = scope-length vs b.added in omega (arith, h, s)

one-slender : (place : ℕ) (s k : ℤ) → nat_le (unsigned_abs s) (2 ^ 62) ≡ true → nat_le (unsigned_abs s + 0) (2 ^ 63) ≡
    true → unsigned_abs k ≤ 2 ^ 63 → is_slender (record { factors = (place, s) ∷ []; constant = k }) ≡ true
one-slender place s k n m h =
    ap (λ t. (t && true) && (nat_le (unsigned_abs s + 0) (2 ^ 63) && nat_le (unsigned_abs k) (2 ^ 64))) n
    ∙ ap (λ t. t && nat_le (unsigned_abs k) (2 ^ 64)) m ∙ le-true (unsigned_abs k) (2 ^ 64) (omega (arith, h))

sound-range : (lo hi : ℤ) → lo ≤ℤ hi → unsigned_abs lo ≤ 2 ^ 62 → unsigned_abs hi ≤ 2 ^ 62 → is_sound_range
    (record { lo = lo; hi = hi }) ≡ true
sound-range lo hi h p q =
    ap (λ t. t && (nat_le (unsigned_abs lo) (2 ^ 62) && nat_le (unsigned_abs hi) (2 ^ 62))) (int-le-true lo hi h)
    ∙ ap (λ t. t && nat_le (unsigned_abs hi) (2 ^ 62)) (le-true (unsigned_abs lo) (2 ^ 62) p) ∙ le-true
    (unsigned_abs hi) (2 ^ 62) q

-- the halves of a cut are sound
pub low-sound : (rs : List Range) (place : ℕ) (at : ℤ) → list_all is_sound_range rs ≡ true → first_cut 0 rs ≡ Some
    (record { place = place; at = at }) → list_all is_sound_range (with_high rs place at) ≡ true
low-sound rs place at s e =
    let g = good-cut rs place at s e in
    let ends = sound-ends g.range g.sound in
    let low : g.range.lo ≤ℤ at = let q = g.is in let m = g.middle.low in omega (arith, ints, q, m) in
    let high : at ≤ℤ g.range.hi = let q = g.is in let m = g.middle.high in omega (arith, ints, q, m) in
    sound-with-high rs place g.range at g.there s (sound-range g.range.lo at low ends.0
    (between g.range.lo at g.range.hi low high ends.0 ends.1))

pub high-sound : (rs : List Range) (place : ℕ) (at : ℤ) → list_all is_sound_range rs ≡ true → first_cut 0 rs ≡ Some
    (record { place = place; at = at }) → list_all is_sound_range (with_low rs place (at +ℤ pos 1)) ≡ true
high-sound rs place at s e =
    let g = good-cut rs place at s e in
    let ends = sound-ends g.range g.sound in
    let low : g.range.lo ≤ℤ (at +ℤ pos 1) = let q = g.is in let m = g.middle.low in omega (arith, ints, q, m) in
    let high : (at +ℤ pos 1) ≤ℤ g.range.hi = let q = g.is in let m = g.middle.high in omega (arith, ints, q, m) in
    sound-with-low rs place g.range (at +ℤ pos 1) g.there s (sound-range (at +ℤ pos 1) g.range.hi high
    (between g.range.lo (at +ℤ pos 1) g.range.hi low high ends.0 ends.1) ends.1)

pub ready-low : (vs : List Variable) (k : ℕ) (rs : List Range) (b : Branch) (place : ℕ) (at : ℤ) → Ready vs (suc k) rs
    b → b.waiting ≡ [] → first_cut 0 rs ≡ Some (record { place = place; at = at }) →
    Ready vs k (with_high rs place at) (added b (at_most place at))
ready-low vs k rs b place at r w e =
    let g = good-cut rs place at r.sound e in
    let i = g.inside in let l = r.long in
    let ends = sound-ends g.range g.sound in
    let low : g.range.lo ≤ℤ at = let q = g.is in let m = g.middle.low in omega (arith, ints, q, m) in
    let high : at ≤ℤ g.range.hi = let q = g.is in let m = g.middle.high in omega (arith, ints, q, m) in
    let size = between g.range.lo at g.range.hi low high ends.0 ends.1 in
    cut-ready vs k rs (with_high rs place at) b (at_most place at) r w g.low (length-high rs place at)
    (sound-with-high rs place g.range at g.there r.sound (sound-range g.range.lo at low ends.0 size))
    (one-exact (length (scope_of vs b)) place (negsuc 0) refl (scoped vs b place (omega (arith, i, l))))
    (one-slender place (negsuc 0) at refl refl (omega (arith, size)))
    (subst (λ j. AreBounded 0 (with_high rs place at) (b.facts ++ at_most j at ∷ [])) (zero-plus place)
    (bounded-high 0 rs place at b.facts r.bounded)) (fixes-low vs rs b place at r.sound w e r.fixes)
  where
    zero-plus : (n : ℕ) → 0 + n ≡ n
    zero-plus n = omega arith

pub ready-high : (vs : List Variable) (k : ℕ) (rs : List Range) (b : Branch) (place : ℕ) (at : ℤ) → Ready vs (suc k)
    rs b → b.waiting ≡ [] → first_cut 0 rs ≡ Some (record { place = place; at = at }) →
    Ready vs k (with_low rs place (at +ℤ pos 1)) (added b (at_least place (at +ℤ pos 1)))
ready-high vs k rs b place at r w e =
    let g = good-cut rs place at r.sound e in
    let i = g.inside in let l = r.long in
    let ends = sound-ends g.range g.sound in
    let low : g.range.lo ≤ℤ (at +ℤ pos 1) = let q = g.is in let m = g.middle.low in omega (arith, ints, q, m) in
    let high : (at +ℤ pos 1) ≤ℤ g.range.hi = let q = g.is in let m = g.middle.high in omega (arith, ints, q, m) in
    let size = between g.range.lo (at +ℤ pos 1) g.range.hi low high ends.0 ends.1 in
    cut-ready vs k rs (with_low rs place (at +ℤ pos 1)) b (at_least place (at +ℤ pos 1)) r w g.high
    (length-low rs place (at +ℤ pos 1))
    (sound-with-low rs place g.range (at +ℤ pos 1) g.there r.sound
    (sound-range (at +ℤ pos 1) g.range.hi high size ends.1))
    (one-exact (length (scope_of vs b)) place (pos 1) refl (scoped vs b place (omega (arith, i, l))))
    (one-slender place (pos 1) (neg_ℤ (at +ℤ pos 1)) refl refl
    (let n = abs-neg (at +ℤ pos 1) in omega (arith, size, n)))
    (subst (λ j. AreBounded 0 (with_low rs place (at +ℤ pos 1)) (b.facts ++ at_least j (at +ℤ pos 1) ∷ []))
    (zero-plus place) (bounded-low 0 rs place (at +ℤ pos 1) b.facts r.bounded))
    (fixes-high vs rs b place at r.sound w e r.fixes)
  where
    zero-plus : (n : ℕ) → 0 + n ≡ n
    zero-plus n = omega arith

    abs-neg : (z : ℤ) → unsigned_abs (neg_ℤ z) ≡ unsigned_abs z
    abs-neg (pos zero) = refl
    abs-neg (pos (suc n)) = refl
    abs-neg (negsuc n) = refl

length-map : (rs : List Range) → length (map (λ (r : Range). r.lo) rs) ≡ length rs
length-map [] = refl
length-map (r ∷ rs) = ap suc (length-map rs)

append-none : (xs : List ℤ) → xs ++ [] ≡ xs
append-none [] = refl
append-none (x ∷ xs) = ap (λ z. x ∷ z) (append-none xs)

-- a leaf without added variables
pub leaf-met : (vs : List Variable) (k : ℕ) (rs : List Range) (b : Branch) → Ready vs k rs b → b.added ≡ 0 →
    some_out_of_reach b.facts ≡ false → b.waiting ≡ [] → first_cut 0 rs ≡ None →
    Met vs b (map (λ (r : Range). r.lo) rs)
leaf-met vs k rs b r flat u w e =
    let values : List ℤ = map (λ (r : Range). r.lo) rs in
    let l = r.long in let s = scope-length vs b.added in
    let count : length rs ≡ length (scope_of vs b) = omega (arith, l, s, flat) in
    let facts = leaf-facts b.facts rs (ap (λ n. are_exact n b.facts) count ∙ r.exact) r.slender r.sound r.bounded u e in
    record {
      long = length-map rs ∙ r.long;
      holds = (
        [],
        sym flat,
        ap (λ z. branch_holds (scope_of vs b) z b) (append-none values)
            ∙ ap (λ z. list_all (fact_holds values) b.facts && list_all (form_at (scope_of vs b) values) z) w
            ∙ ap (λ z. z && true) facts,
      );
    }

bounded-same : (n : ℕ) (vs : List Variable) (facts : List Fact) →
    ((f : Fact) → Has (range_facts n vs) f → Has facts f) → AreBounded n (ranges_of vs) facts
bounded-same n [] facts h = tt
bounded-same n (v ∷ vs) facts h = (
  h (at_least n v.range.lo) (inl refl),
  h (at_most n v.range.hi) (inr (inl refl)),
  bounded-same (suc n) vs facts (λ f k. h f (inr (inr k))),
)

ranges-slender : (n : ℕ) (vs : List Variable) → list_all is_sound_range (ranges_of vs) ≡ true → list_all is_slender
    (range_facts n vs) ≡ true
ranges-slender n [] h = refl
ranges-slender n (v ∷ vs) h =
    let a = and_parts (is_sound_range v.range) (list_all is_sound_range (ranges_of vs)) h in
    let ends = sound-ends v.range a.0 in
    let low = abs-neg v.range.lo in
    let e0 = ends.0 in let e1 = ends.1 in
    ap (λ z. z && (is_slender (at_most n v.range.hi) && list_all is_slender (range_facts (suc n) vs)))
    (one-slender n (pos 1) (neg_ℤ v.range.lo) refl refl (omega (arith, low, e0)))
    ∙ ap (λ z. z && list_all is_slender (range_facts (suc n) vs))
    (one-slender n (negsuc 0) v.range.hi refl refl (omega (arith, e1))) ∙ ranges-slender (suc n) vs a.1
  where
    abs-neg : (z : ℤ) → unsigned_abs (neg_ℤ z) ≡ unsigned_abs z
    abs-neg (pos zero) = refl
    abs-neg (pos (suc n)) = refl
    abs-neg (negsuc n) = refl

length-ranges : (vs : List Variable) → length (ranges_of vs) ≡ length vs
length-ranges [] = refl
length-ranges (v ∷ vs) = ap suc (length-ranges vs)

pub ready-root : (o : Obligation) → IsObligation o → Ready o.variables 960 (ranges_of o.variables) (first_branch o)
ready-root o m =
    let more = refused-more o.variables o.form (ranges_only o.variables) in
    let c = more.cases in let h = (obligation-height o m) in
    let n = need-within o.form in let load = (obligation-load o m) in
    let bound : (need o.form).no ≤ 2 ^ 63 = omega (arith, n, load) in
    let w = refused-within o.variables o.form (ranges_only o.variables) (obligation-narrow o m) bound
    (record { slender = ranges-slender 0 o.variables (obligation-sound o m); narrow = refl }) in
    record {
      deep = omega (arith, c, h);
      light = refused-light o.variables (2 ^ 63) o.form (ranges_only o.variables) bound refl;
      waits = more.waits refl;
      narrow = w.narrow;
      exact = refused-exact o.variables o.form (ranges_only o.variables) (ranges-exact o.variables);
      slender = w.slender;
      long = length-ranges o.variables;
      sound = (obligation-sound o m);
      bounded = bounded-more 0 (ranges_of o.variables) (range_facts 0 o.variables)
          (outcome o.variables o.form).no.facts (bounded-same 0 o.variables (range_facts 0 o.variables) (λ f k. k));
      closed = first-closed o m;
      fixes = root-fixes o m;
    }

lt-true : (a b : ℕ) → a < b → nat_lt a b ≡ true
lt-true a b h = grind arith

pub split-opens : (vs : List Variable) (k : ℕ) (b : Branch) (place : ℕ) (at : ℤ) → place < length vs →
    made vs (allowing (levels_of (suc k)) b) (Node.Split (place + 1) at) ≡ opens
    (added b (at_most place at) ∷ added b (at_least place (at +ℤ pos 1)) ∷ [])
split-opens vs k b place at i =
    let one : place + 1 ≡ suc place = omega arith in
    made-level vs (levels_of (suc k)) b (Node.Split (place + 1) at) (omega arith)
    ∙ ap (λ v. split_at (scope_of vs b) b v at) one ∙ ap (λ t. cond t (opens
    (added b (at_most place at) ∷ added b (at_least place (at +ℤ pos 1)) ∷ [])) (fails Code.NoSuchVariable))
    (lt-true place (length (scope_of vs b)) (scoped vs b place i))
