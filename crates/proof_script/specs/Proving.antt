-- What a search for certificates answers of a document.
use Rattle.std.specs.Prelude.{◌≡◌, ℕ, ◌+◌, ◌≤◌, ◌<◌, ℤ, true, List, ◌∷◌, ◌++◌, map, length, sum, All, slice_get}
use Rattle.std.specs.Prelude.{Some, Result, Ok, Err}
use Rattle.std.specs.List.{list_all}
use Rattle.core_terms.specs.declared.documents.CDocument.{CDocument}
use Rattle.obligations.specs.declared.branches.Variable.{Variable}
use Rattle.obligations.specs.declared.branches.Obligation.{Obligation}
use Rattle.obligations.specs.declared.certificates.Cert.{Cert}
use Rattle.obligations.specs.Certificates.{units}
use Rattle.obligations.specs.Opening.{Valid}
use Rattle.obligations.specs.Plain.{enough, quotients_in}
use Rattle.fair_rounds.specs.declared.records.Record.{Record}
use Rattle.proof_search.specs.from_linear_prover.Chains.{is_plain_node}
use Rattle.proof_search.specs.from_search_tree.Searching.{Counterexample, is_found_node}
use Rattle.proof_plans.specs.declared.plans.Plan.{Plan}
use Rattle.proof_plans.specs.declared.plans.StepFault.{StepFault}
use Rattle.proof_plans.specs.declared.plans.ScriptError.{ScriptError}
use Rattle.proof_script.specs.declared.plans.Proof.{Proof}
use Rattle.proof_plans.specs.Giving.{AreWhole}
use Rattle.proof_plans.specs.Reaching.{Reach, reach_of, reached}
use Rattle.proof_plans.specs.Verdicts.{verdict_of}

-- the units of all certificates together
abbrev pub units_of : List Cert → ℕ
units_of certs = sum (map (λ (c : Cert). units c.nodes) certs)

-- the units that always suffice for all of these
abbrev pub enough_for : List Obligation → ℕ
enough_for os = sum (map enough os)

-- they have only nodes that a search can write, and no number in these is outside plus or minus 2^62
abbrev pub AreFound : List Cert → Type 0
AreFound certs = All (λ (c : Cert). list_all is_found_node c.nodes ≡ true) certs

-- they have only nodes that version 1 has, and no number in these is outside
abbrev pub ArePlain : List Cert → Type 0
ArePlain certs = All (λ (c : Cert). list_all is_plain_node c.nodes ≡ true) certs

-- no quotient can be taken in the obligation
abbrev pub IsWithoutQuotient : Obligation → Type 0
IsWithoutQuotient o = quotients_in o ≡ 0

-- nor in any that the steps leave, up to the first that fails
abbrev pub HasNoQuotients : CDocument → Type 0
HasNoQuotients d = All IsWithoutQuotient (reached (reach_of d)).obligations

-- the document is accepted with these certificates, which have at most so many units together
pub record ProvedWithin (d : CDocument) (budget : ℕ) (plan : Plan) (certs : List Cert) : Type 0 where
  pub verdict : verdict_of d certs ≡ Ok plan
  pub within : units_of certs ≤ budget
  pub whole : AreWhole certs
  pub found : AreFound certs
  pub plain : HasNoQuotients d → ArePlain certs

-- the first failure of a rule or a proof's end; all obligations of the steps before it are valid
pub record IsStopped (r : Reach) (fault : StepFault) : Type 0 where
  pub plan : Plan
  pub stops : r ≡ Err (record { plan = plan; fault = fault })
  pub valid : All Valid plan.obligations

-- the obligation of this number, from 1; those before it are valid
pub record ComesAtNumber (os : List Obligation) (number : ℕ) (o : Obligation) : Type 0 where
  pub front : List Obligation
  pub rest : List Obligation
  pub parts : os ≡ front ++ o ∷ rest
  pub numbered : number ≡ length front + 1
  pub valid : All Valid front

-- the obligation of this number, from 1, is left by this step
pub record IsOwner (plan : Plan) (number program step : ℕ) : Type 0 where
  pub place : ℕ
  pub at : ℕ
  pub made : Record
  pub numbered : number ≡ place + 1
  pub owner : slice_get plan.owner place ≡ Some at
  pub there : slice_get plan.records at ≡ Some made
  pub program_is : made.program ≡ program
  pub step_is : made.name ≡ step

-- it is false at these values of its variables, which lie in their ranges
pub record IsFalse (os : List Obligation) (number : ℕ) (variables : List Variable) (values : List ℤ) : Type 0 where
  pub obligation : Obligation
  pub comes : ComesAtNumber os number obligation
  pub variables_are : variables ≡ obligation.variables
  pub fails : Counterexample obligation values

-- the budget is less than what always suffices for the obligations up to this one
pub record BudgetIsShort (os : List Obligation) (number budget : ℕ) : Type 0 where
  pub obligation : Obligation
  pub comes : ComesAtNumber os number obligation
  pub short : budget < enough_for comes.front + enough obligation

-- what is found of a document with a budget: certificates with which it is accepted; or the first obligation that is
-- false, at values; or one up to which the budget does not suffice; or the first failure of a rule. Each comes with
-- its step; the obligations are those of the steps before any that fails
abbrev pub Finds : CDocument → ℕ → Result Proof ScriptError → Type 0
Finds d budget (Ok (Proof.Proved plan certs)) = ProvedWithin d budget plan certs
Finds d budget (Ok (Proof.Refuted program step number variables values)) =
    IsFalse (reached (reach_of d)).obligations number variables values
    × IsOwner (reached (reach_of d)) number program step
Finds d budget (Ok (Proof.Budget program step number)) =
    BudgetIsShort (reached (reach_of d)).obligations number budget × IsOwner (reached (reach_of d)) number program step
Finds d budget (Err (ScriptError.Step fault)) = IsStopped (reach_of d) fault
Finds d budget (Err ScriptError.Memory) = Unit {0}
