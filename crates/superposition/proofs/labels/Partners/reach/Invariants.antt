use Rattle.std.proofs.Common.{◌≡◌, ℕ, length}
use Rattle.superposition.specs.Labels.{partner_in}
use Rattle.superposition.proofs.labels.Partners.reach.Given as goal

abbrev pub invariant-loop-place : goal.invariant-loop-place
invariant-loop-place l = record {
  count : length l.self.by_label ≡ l._place;
  same : (n : ℕ) → partner_in l.self.by_label n ≡ partner_in l.initial.self.by_label n;
}
