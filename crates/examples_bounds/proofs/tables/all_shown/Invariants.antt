use Rattle.std.proofs.Common.{◌<◌, ℕ, IsTrue}
use Rattle.std.specs.Prelude.{All}
use Rattle.core_terms.specs.Conditions.{EachPair, is_shown}
use Rattle.examples_bounds.proofs.tables.all_shown.Given as goal

abbrev pub invariant-loop-slot : goal.invariant-loop-slot
invariant-loop-slot l = record {
  all : (n : ℕ) → n < l.slot → IsTrue (is_shown l.shown n);
  some : All (λ n. n < l.slot) l.shown;
  rising : EachPair (λ m n. m < n) l.shown;
}
