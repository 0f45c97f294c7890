-- A branch with a quotient taken meets what the search asks for.
use Rattle.std.proofs.Common.{◌≡◌, ℕ, suc, ◌≤◌, ◌^◌, nat_le, true, Some, List, [], ◌∷◌, ◌++◌, length, arith, refl, ap}
use Rattle.std.proofs.Common.{◌∙◌}
use Rattle.std.specs.List.{list_all}
use Rattle.std.specs.Int.RustNames.{unsigned_abs}
use Rattle.std.proofs.lemmas.Bool.{and_parts}
use Rattle.core_terms.specs.declared.trees.CForm.{CForm}
use Rattle.core_terms.specs.declared.trees.Range.{Range}
use Rattle.obligations.specs.declared.branches.Branch.{Branch}
use Rattle.obligations.specs.declared.branches.Fact.{Fact}
use Rattle.obligations.specs.declared.branches.Replaced.{Replaced}
use Rattle.obligations.specs.declared.branches.Variable.{Variable}
use Rattle.obligations.specs.Load.{is_light, is_narrow, no_size}
use Rattle.obligations.specs.Plain.{waiting_only}
use Rattle.obligations.specs.Quotients.{without_quotient, with_quotient, low_fact, high_fact, one_more}
use Rattle.obligations.specs.Reach.{are_exact}
use Rattle.obligations.specs.Scopes.{next_param, scope_of, with_next}
use Rattle.obligations.specs.Settling.{added, outcome}
use Rattle.obligations.proofs.NeedLaws.{settled-light}
use Rattle.obligations.proofs.TakenNames.{quotient-closed}
use Rattle.search_tree.specs.Choices.{can_wait}
use Rattle.search_tree.specs.Searching.{Ready, is_slender}
use Rattle.search_tree.proofs.FixesLaws.{fixes-quot}
use Rattle.search_tree.proofs.ReadyLaws.{bounded-more}
use Rattle.search_tree.proofs.ShapeLaws.{settled-more, cases-append}
use Rattle.search_tree.proofs.QuotientShapes.{without-less}
use Rattle.search_tree.proofs.SlenderLaws.{settled-within}
use Rattle.search_tree.proofs.ExactLaws.{settled-exact}
use Rattle.search_tree.proofs.TakenReady.{without-lighter}

le-is : (a b : ℕ) → nat_le a b ≡ true → a ≤ b
le-is a b h = grind arith

le-true : (a b : ℕ) → a ≤ b → nat_le a b ≡ true
le-true a b h = grind arith

append-none : {A : Type 0} (xs : List A) → xs ++ [] ≡ xs
append-none [] = refl
append-none (x ∷ xs) = ap (λ z. x ∷ z) (append-none xs)

module _ (vs : List Variable) (k : ℕ) (rs : List Range) (f : CForm) (r : Replaced) (b : Branch)
    (is : without_quotient (next_param (scope_of vs b)) f ≡ Some r)
    (ready : Ready vs (suc k) rs (waiting_only b (f ∷ b.waiting))) where
  abbrev us : List Variable
  us = scope_of vs b

  abbrev low : Fact
  low = low_fact us r.taken

  abbrev high : Fact
  high = high_fact us r.taken

  abbrev base : Branch
  base = added (added (one_more b) low) high

  same-waiting : base.waiting ≡ b.waiting
  same-waiting = append-none (b.waiting ++ []) ∙ append-none b.waiting

  pub quot-light : is_light (2 ^ 63) r.form ≡ true
  quot-light =
      let a = and_parts (is_light (2 ^ 63) f) (list_all (is_light (2 ^ 63)) b.waiting) ready.light in
      let n = le-is _ (2 ^ 63) a.0 in
      let l = (without-lighter unsigned_abs (next_param us) f r is).form in
      le-true _ (2 ^ 63) (omega (arith, n, l))

  pub quot-narrow : is_narrow r.form ≡ true
  quot-narrow =
      let a = and_parts (is_narrow f) (list_all is_narrow b.waiting) ready.narrow in
      let n = le-is _ (2 ^ 62) a.0 in
      let l = (without-lighter no_size (next_param us) f r is).form in
      le-true _ (2 ^ 62) (omega (arith, n, l))

  pub quot-ready : list_all is_slender base.facts ≡ true → are_exact (length (with_next us)) base.facts ≡ true →
      Ready vs k rs (with_quotient us r b)
  quot-ready slender exact =
      let more = settled-more (with_next us) r.form base in
      let n = more.cases in let d = ready.deep in
      let l = (without-less (next_param us) f r is).cases in
      let c = cases-append (b.waiting ++ []) [] in let e = cases-append b.waiting [] in
      let lights = and_parts (is_light (2 ^ 63) f) (list_all (is_light (2 ^ 63)) b.waiting) ready.light in
      let waits = and_parts (can_wait f) (list_all can_wait b.waiting) ready.waits in
      let narrows = and_parts (is_narrow f) (list_all is_narrow b.waiting) ready.narrow in
      let need = le-is _ (2 ^ 63) quot-light in
      let w = settled-within (with_next us) r.form base quot-narrow need (record {
        slender = slender;
        narrow = ap (list_all is_narrow) same-waiting ∙ narrows.1;
      }) in
      let waiting = ready.closed.waiting in
      record {
        deep = omega (arith, n, d, l, c, e);
        light = settled-light (with_next us) (2 ^ 63) r.form base need
            (ap (list_all (is_light (2 ^ 63))) same-waiting ∙ lights.1);
        waits = more.waits (ap (list_all can_wait) same-waiting ∙ waits.1);
        narrow = w.narrow;
        exact = settled-exact (with_next us) r.form base exact;
        slender = w.slender;
        long = ready.long;
        sound = ready.sound;
        bounded = bounded-more 0 rs base.facts (outcome (with_next us) r.form).yes.facts
            (bounded-more 0 rs (b.facts ++ low ∷ []) (high ∷ []) (bounded-more 0 rs b.facts (low ∷ []) ready.bounded));
        closed = quotient-closed us b f r is waiting.0.names
            (record { facts = ready.closed.facts; waiting = waiting.1 });
        fixes = fixes-quot vs rs f r b is ready.long ready.closed.facts ready.fixes;
      }
