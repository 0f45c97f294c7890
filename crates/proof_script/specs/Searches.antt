-- How far a search for certificates has come.
use Rattle.std.specs.Prelude.{◌≡◌, ℕ, ◌+◌, ◌≤◌, List, ◌++◌, length, Result, Ok, Err}
use Rattle.std.specs.Prelude.{All}
use Rattle.obligations.specs.declared.branches.Obligation.{Obligation}
use Rattle.obligations.specs.Obligations.{IsObligation}
use Rattle.proof_script.specs.declared.finding.Finding.{Finding}
use Rattle.proof_script.specs.declared.finding.Halt.{Halt}
use Rattle.proof_plans.specs.Giving.{AreWhole}
use Rattle.proof_script.specs.Proving.{units_of, enough_for, AreFound, ArePlain, IsWithoutQuotient, IsFalse}
use Rattle.proof_script.specs.Proving.{BudgetIsShort}
use Rattle.proof_plans.specs.Shown.{AreShown}

-- one certificate for each of these obligations, which both versions take
pub record HasCertificates (os : List Obligation) (f : Finding) : Type 0 where
  pub makeable : All IsObligation os
  pub count : length f.certs ≡ length os
  pub shown : AreShown 1024 f.certs 0 os
  pub whole : AreWhole f.certs
  pub found : AreFound f.certs
  pub plain : All IsWithoutQuotient os → ArePlain f.certs
  pub spent : units_of f.certs + f.left ≡ f.budget
  pub cheap : units_of f.certs ≤ enough_for os

-- why a search among these obligations stops, with so many units for all of them
abbrev pub Halts : Halt → List Obligation → ℕ → Finding → Type 0
Halts (Halt.Refuted place) os budget new = IsFalse os (place + 1) new.variables new.values
Halts (Halt.Short place) os budget new = BudgetIsShort os (place + 1) budget
Halts Halt.Memory os budget new = Unit {0}

-- the search among some obligations, after those before
abbrev pub Searches : Result (Unit {0}) Halt → List Obligation → List Obligation → Finding → Finding → Type 0
Searches (Ok done) before os old new = HasCertificates (before ++ os) new × (new.budget ≡ old.budget)
Searches (Err halt) before os old new = Halts halt (before ++ os) old.budget new
