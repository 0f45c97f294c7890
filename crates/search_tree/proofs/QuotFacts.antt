-- The facts of a quotient that is taken are slender and exact.
use Rattle.std.proofs.Common.{◌≡◌, ℕ, zero, suc, ◌≤◌, ◌^◌, ◌<◌, nat_le, ℤ, pos, negsuc, neg_ℤ, ◌-ℤ◌, ◌*ℤ◌, true}
use Rattle.std.proofs.Common.{Bool, not, ◌&&◌, Some, List, [], ◌∷◌, ◌++◌, length, arith, refl, sym, ap, subst, ◌∙◌}
use Rattle.std.proofs.Common.{IsTrue}
use Rattle.std.specs.List.{list_all}
use Rattle.std.specs.Int.RustNames.{int_le, unsigned_abs}
use Rattle.std.proofs.lemmas.Int.{ints, unsigned_abs-mul}
use Rattle.std.proofs.lemmas.Bool.{and_parts}
use Rattle.std.proofs.lemmas.List.Folds.{list_all-append}
use Rattle.core_terms.specs.declared.trees.CForm.{CForm}
use Rattle.core_terms.specs.declared.trees.Range.{Range}
use Rattle.meaning_states.specs.State.{int_eq}
use Rattle.meaning_states.proofs.DivisionTheorems.{divisor_is_positive}
use Rattle.obligations.specs.declared.branches.Branch.{Branch}
use Rattle.obligations.specs.declared.branches.Fact.{Fact}
use Rattle.obligations.specs.declared.branches.Line.{Line}
use Rattle.obligations.specs.declared.branches.Replaced.{Replaced}
use Rattle.obligations.specs.declared.branches.Variable.{Variable}
use Rattle.obligations.specs.LinearForms.{linear, negated, zeros}
use Rattle.obligations.specs.Load.{is_light, is_narrow, need, needs, no_size, term_load}
use Rattle.obligations.specs.Obligations.{AreOwn}
use Rattle.obligations.specs.Plain.{waiting_only}
use Rattle.obligations.specs.Quotients.{without_quotient, with_quotient, low_fact, high_fact, one_more, raised}
use Rattle.obligations.specs.Reach.{is_exact, is_within, are_exact}
use Rattle.obligations.specs.Scopes.{next_param, scope_of, with_next}
use Rattle.obligations.specs.Settling.{added, outcome}
use Rattle.obligations.proofs.LoadLaws.{sizes-zeros, norm-load}
use Rattle.obligations.proofs.NeedLaws.{own-same}
use Rattle.obligations.proofs.ScopeLaws.{scope-room}
use Rattle.obligations.proofs.TakenNames.{replaced-named, quotient-closed}
use Rattle.search_tree.specs.Searching.{Ready, is_slender}
use Rattle.search_tree.proofs.SlenderLaws.{size-width, constant-norm, sizes-plus, abs-plus}
use Rattle.search_tree.proofs.TakenReady.{without-lighter, with-slender, with-exact}
use Rattle.search_tree.proofs.QuotReady.{quot-ready}
use Rattle.search_tree.proofs.ReadyLaws.{all-last}

le-is : (a b : ℕ) → nat_le a b ≡ true → a ≤ b
le-is a b h = grind arith

abs-neg : (z : ℤ) → unsigned_abs (neg_ℤ z) ≡ unsigned_abs z
abs-neg (pos zero) = refl
abs-neg (pos (suc n)) = refl
abs-neg (negsuc n) = refl

nonzero : (d : ℤ) → IsTrue (int_le (pos 1) d) → not (int_eq d (pos 0)) ≡ true
nonzero d h = grind (arith, ints)

nonzero-neg : (d : ℤ) → IsTrue (int_le (pos 1) d) → not (int_eq (neg_ℤ d) (pos 0)) ≡ true
nonzero-neg d h = grind (arith, ints)

abbrev IsExact : Fact → Bool
IsExact f = is_exact 0 f.factors

exact-only : (count : ℕ) (fs : List Fact) → are_exact count fs ≡ true → list_all IsExact fs ≡ true
exact-only count [] h = refl
exact-only count (f ∷ fs) h =
    let a = and_parts (IsExact f && is_within count f.factors) (are_exact count fs) h in
    ap (λ t. t && list_all IsExact fs) (and_parts (IsExact f) (is_within count f.factors) a.0).0
    ∙ exact-only count fs a.1

both-all : (count : ℕ) (fs : List Fact) → list_all IsExact fs ≡ true →
    list_all (λ (f : Fact). is_within count f.factors) fs ≡ true → are_exact count fs ≡ true
both-all count [] p q = refl
both-all count (f ∷ fs) p q =
    let a = and_parts (IsExact f) (list_all IsExact fs) p in
    let b = and_parts (is_within count f.factors) (list_all (λ (g : Fact). is_within count g.factors) fs) q in
    ap (λ t. (t && is_within count f.factors) && are_exact count fs) a.0 ∙ ap (λ t. t && are_exact count fs) b.0
    ∙ both-all count fs a.1 b.1

module _ (vs : List Variable) (k : ℕ) (rs : List Range) (f : CForm) (r : Replaced) (b : Branch)
    (is : without_quotient (next_param (scope_of vs b)) f ≡ Some r)
    (ready : Ready vs (suc k) rs (waiting_only b (f ∷ b.waiting))) where
  abbrev us : List Variable
  us = scope_of vs b

  abbrev low : Fact
  low = low_fact us r.taken

  abbrev high : Fact
  high = high_fact us r.taken

  abbrev base : Branch
  base = added (added (one_more b) low) high

  light-need : (needs unsigned_abs f).yes ≤ 2 ^ 63
  light-need = le-is _ (2 ^ 63)
      (and_parts (is_light (2 ^ 63) f) (list_all (is_light (2 ^ 63)) b.waiting) ready.light).0

  narrow-need : (needs no_size f).yes ≤ 2 ^ 62
  narrow-need = le-is _ (2 ^ 62) (and_parts (is_narrow f) (list_all is_narrow b.waiting) ready.narrow).0

  low-slender : is_slender low ≡ true
  low-slender =
      let w = without-lighter no_size (next_param us) f r is in
      let l = without-lighter unsigned_abs (next_param us) f r is in
      let s = size-width us r.taken.of in let n = norm-load us r.taken.of in
      let c = constant-norm (linear us r.taken.of) in let o = own-same r.taken.of in
      let w0 = w.of in let w1 = w.divisor in let l0 = l.of in let x = light-need in let y = narrow-need in
      let g = abs-neg r.taken.divisor in
      with-slender (linear us r.taken.of) (neg_ℤ r.taken.divisor) (omega (arith, s, w0, y)) (omega (arith, w1, y, g))
      (omega (arith, c, n, o, l0, x))

  high-slender : is_slender high ≡ true
  high-slender =
      let w = without-lighter no_size (next_param us) f r is in
      let l = without-lighter unsigned_abs (next_param us) f r is in
      let s = size-width us r.taken.of in let n = norm-load us r.taken.of in
      let c = constant-norm (linear us r.taken.of) in let o = own-same r.taken.of in
      let w0 = w.of in let w1 = w.divisor in let l0 = l.of in let x = light-need in let y = narrow-need in
      let m = sizes-plus (negsuc 0) (zeros us) (linear us r.taken.of).factors in let z = sizes-zeros us in
      let a = abs-plus (pos 0) (negsuc 0 *ℤ (linear us r.taken.of).constant) in
      let u = unsigned_abs-mul (negsuc 0) (linear us r.taken.of).constant in
      let line : Line = negated us (linear us r.taken.of) in
      let v = abs-plus line.constant (r.taken.divisor -ℤ pos 1) in
      let d = abs-plus r.taken.divisor (negsuc 0) in
      with-slender (raised line (r.taken.divisor -ℤ pos 1)) r.taken.divisor (omega (arith, m, z, s, w0, y))
      (omega (arith, w1, y)) (omega (arith, ints, v, d, a, u, c, n, o, l0, x, w1, y))

  pub base-slender : list_all is_slender base.facts ≡ true
  base-slender = all-last is_slender (b.facts ++ low ∷ []) high (all-last is_slender b.facts low ready.slender
      low-slender) high-slender

  pub base-exact : are_exact (length (with_next us)) base.facts ≡ true
  base-exact =
      let named = replaced-named us f r is in
      let some = divisor_is_positive named.by in
      let positive = subst (λ d. IsTrue (int_le (pos 1) d)) (sym named.divides) some in
      let d = r.taken.divisor in
      let low-exact = with-exact 0 (length (linear us r.taken.of).factors) (linear us r.taken.of).factors (neg_ℤ d)
      (omega arith) (nonzero-neg d positive) in
      let line : Line = negated us (linear us r.taken.of) in
      let high-exact = with-exact 0 (length line.factors) line.factors d (omega arith) (nonzero d positive) in
      let closed = quotient-closed us b f r is ready.closed.waiting.0.names
      (record { facts = ready.closed.facts; waiting = ready.closed.waiting.1 }) in
      let more = (outcome (with_next us) r.form).yes.facts in
      let within : Fact → Bool = λ (f : Fact). is_within (length (with_next us)) f.factors in
      both-all (length (with_next us)) base.facts
      (all-last IsExact (b.facts ++ low ∷ []) high
      (all-last IsExact b.facts low (exact-only (length us) b.facts ready.exact) low-exact) high-exact)
      (and_parts (list_all within base.facts) (list_all within more)
      (sym (list_all-append within base.facts more) ∙ closed.facts)).0

  pub quotient-ready : Ready vs k rs (with_quotient us r b)
  quotient-ready = quot-ready vs k rs f r b is ready base-slender base-exact

  pub quotient-load : (term_load r.taken.of).own ≤ 2 ^ 66
  quotient-load =
      let l = (without-lighter unsigned_abs (next_param us) f r is).of in
      let o = own-same r.taken.of in let x = light-need in
      omega (arith, l, o, x)

  pub quotient-light : (need r.form).yes ≤ 2 ^ 66
  quotient-light =
      let l = (without-lighter unsigned_abs (next_param us) f r is).form in let x = light-need in
      omega (arith, l, x)

-- a parameter more can be numbered, as the code meets it
pub number-room : (vs us : List Variable) (k : ℕ) (rs : List Range) (b : Branch) (n : ℕ) → AreOwn vs →
    us ≡ scope_of vs b → suc k ≤ 960 → Ready vs (suc k) rs b → n ≡ next_param us → n < 2 ^ 32
number-room vs us k rs b n own scoped h r e =
    let d = r.deep in
    let room = (scope-room vs b.added own (omega (arith, d, h))).numbered in
    let same = e ∙ ap next_param scoped in
    omega (arith, room, same)
