use Rattle.std.proofs.Common.{◌≡◌, take}
use Rattle.fair_rounds.specs.Counts.{CountStandsFor}
use Rattle.fair_rounds.proofs.counts.rounds.Given as goal

abbrev pub invariant-loop-choice : goal.invariant-loop-choice
invariant-loop-choice l = record {
  instances : l.count.instances ≡ l.k;
  stands : CountStandsFor l.count (take l.choice-index l.choices);
}
