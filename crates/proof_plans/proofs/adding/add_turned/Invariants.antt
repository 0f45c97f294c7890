use Rattle.std.proofs.Common.{◌≡◌, ◌++◌, length, map, reverse}
use Rattle.obligations.specs.declared.branches.Obligation.{Obligation}
use Rattle.proof_plans.proofs.adding.add_turned.Given as goal

abbrev pub invariant-items : goal.invariant-items
invariant-items l = record {
  records : l.plan.records ≡ l.initial.plan.records;
  obligations : l.plan.obligations ++ reverse l.left ≡ l.initial.plan.obligations ++ reverse l.initial.left;
  owner : l.plan.owner ++ map (λ (o : Obligation). l.place) (reverse l.left)
      ≡ l.initial.plan.owner ++ map (λ (o : Obligation). l.place) (reverse l.initial.left);
}

abbrev pub decreases-items : goal.decreases-items
decreases-items l = length l.left
