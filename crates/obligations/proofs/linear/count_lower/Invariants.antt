use Rattle.std.proofs.Common.{◌≡◌, ◌≤◌, ◌-◌, true, not, length, take, drop}
use Rattle.std.specs.List.{list_all}
use Rattle.obligations.specs.Obligations.{is_lower}
use Rattle.obligations.proofs.linear.count_lower.Given as goal

abbrev pub invariant-halves : goal.invariant-halves
invariant-halves l = record {
  ends : l.low ≤ l.high;
  bound : l.high ≤ length l.vs;
  before : list_all (λ v. is_lower v.param v.number l.param l.number) (take l.low l.vs) ≡ true;
  after : list_all (λ v. not (is_lower v.param v.number l.param l.number)) (drop l.high l.vs) ≡ true;
}

abbrev pub decreases-halves : goal.decreases-halves
decreases-halves l = l.high - l.low
