use Rattle.std.proofs.Common.{◌<◌, ◌+◌, ℕ, arith, subst, sym}
use Rattle.std.specs.Prelude.{All}
use Rattle.std.proofs.lemmas.List.Elements.{All-push}
use Rattle.core_terms.specs.Conditions.{EachPair, is_shown}
use Rattle.examples_bounds.proofs.TableLaws.{all_at, all_raised, pairs_push, shown_push}
use Rattle.std.proofs.Common.{IsTrue}
use Rattle.examples_bounds.proofs.tables.all_shown.Goals as goal

pub loop-slot-preserved : goal.loop-slot-preserved
loop-slot-preserved c =
    let xs = c.loop-slot.shown in
    let n : ℕ = c.loop-slot.slot in
    let same = sym c.in_ok-push.ensures.ok in record {
      all = subst (λ ss. (m : ℕ) → m < n + 1 → IsTrue (is_shown ss m)) same
          (shown_push xs n c.loop-slot.invariant.all);
      some = subst (λ ss. All (λ m. m < n + 1) ss) same
          (All-push (λ m. m < n + 1) xs n (all_raised xs n c.loop-slot.invariant.some) (omega arith));
      rising = subst (λ ss. EachPair (λ l m. l < m) ss) same
          (pairs_push (λ l m. l < m) xs n c.loop-slot.invariant.rising
          (all_at (λ m. m < n) xs c.loop-slot.invariant.some));
    }
