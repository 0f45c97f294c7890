-- Kinds by their tests.
use Rattle.std.proofs.Common.{◌≡◌, IsTrue, refl}
use Rattle.case_tables.specs.declared.kind_table.Kind.{Kind}
use Rattle.rules_table.specs.Table.{claims_defined, is_invariant, is_unless, is_ensures}
use Rattle.rules_table.specs.Further.{is_leadsto}
use Rattle.rules_table.specs.Walk.{is_until, is_detects, claims_constant, claims_fixed, is_kind}

pub defined_is : (k : Kind) → IsTrue (claims_defined k) → k ≡ Kind.Defined
defined_is Kind.Defined t = refl
defined_is _ t = cc

pub invariant_is : (k : Kind) → IsTrue (is_invariant k) → k ≡ Kind.Invariant
invariant_is Kind.Invariant t = refl
invariant_is _ t = cc

pub unless_is : (k : Kind) → IsTrue (is_unless k) → k ≡ Kind.Unless
unless_is Kind.Unless t = refl
unless_is _ t = cc

pub ensures_is : (k : Kind) → IsTrue (is_ensures k) → k ≡ Kind.Ensures
ensures_is Kind.Ensures t = refl
ensures_is _ t = cc

pub leadsto_is : (k : Kind) → IsTrue (is_leadsto k) → k ≡ Kind.Leadsto
leadsto_is Kind.Leadsto t = refl
leadsto_is _ t = cc

pub until_is : (k : Kind) → IsTrue (is_until k) → k ≡ Kind.Until
until_is Kind.Until t = refl
until_is _ t = cc

pub detects_is : (k : Kind) → IsTrue (is_detects k) → k ≡ Kind.Detects
detects_is Kind.Detects t = refl
detects_is _ t = cc

pub constant_is : (k : Kind) → IsTrue (claims_constant k) → k ≡ Kind.Constant
constant_is Kind.Constant t = refl
constant_is _ t = cc

pub fixed_is : (k : Kind) → IsTrue (claims_fixed k) → k ≡ Kind.Fixed
fixed_is Kind.Fixed t = refl
fixed_is _ t = cc

pub same_kind : (k l : Kind) → IsTrue (is_kind k l) → l ≡ k
same_kind Kind.Defined l t = defined_is l t
same_kind Kind.Invariant l t = invariant_is l t
same_kind Kind.Unless l t = unless_is l t
same_kind Kind.Ensures l t = ensures_is l t
same_kind Kind.Leadsto l t = leadsto_is l t
same_kind Kind.Until l t = until_is l t
same_kind Kind.Detects l t = detects_is l t
same_kind Kind.Constant l t = constant_is l t
same_kind Kind.Fixed l t = fixed_is l t
