-- What every obligation has: a certificate within what always suffices, or values at which it is false.
use Rattle.std.specs.Prelude.{ℕ, ◌<◌, ℤ, List}
use Rattle.obligations.specs.declared.branches.Obligation.{Obligation}
use Rattle.obligations.specs.declared.certificates.Node.{Node}
use Rattle.obligations.specs.Obligations.{IsObligation}
use Rattle.obligations.specs.Plain.{enough}
use Rattle.search_tree.specs.Searching.{Proof, Counterexample}

-- a certificate within the budget and within what always suffices; or values in range at which the form is false; or
-- a budget of less than what always suffices
pub data Ending (o : Obligation) (budget : ℕ) : Type 0 where
  proved : (nodes : List Node) → Proof o budget nodes → Ending o budget
  refuted : (values : List ℤ) → Counterexample o values → Ending o budget
  short : budget < enough o → Ending o budget

-- each obligation has one of these, whatever the budget
abbrev pub SearchEnds : Type 0
SearchEnds = (o : Obligation) (budget : ℕ) → IsObligation o → Ending o budget
