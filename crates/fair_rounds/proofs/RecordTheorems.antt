-- Records that are kept have their properties.
use Rattle.std.proofs.Common.{ℤ, List, subst}
use Rattle.executor.specs.from_case_tables.declared.kind_table.Kind.{Kind}
use Rattle.meaning_laws.specs.from_meaning_executions.Properties.{implied, IsAlwaysDefined, IsInvariant}
use Rattle.meaning_laws.proofs.StandingTheorems.{defined_holds, invariant_holds, unless_holds, ensures_holds}
use Rattle.meaning_laws.proofs.StandingTheorems.{leads_holds, fixed_holds, constant_holds}
use Rattle.executor.specs.from_core_terms.declared.programs.CSlot.{CSlot}
use Rattle.executor.specs.from_core_terms.declared.programs.CProgram.{CProgram}
use Rattle.fair_rounds.specs.declared.records.Record.{Record}
use Rattle.executor.specs.CoreSystem.{core_system}
use Rattle.fair_rounds.specs.Records.{holding, meets, KindStands, KindHolds}
use Rattle.fair_rounds.specs.RecordLaws.{DefinedKept, InvariantKept, KeptHolds}

pub defined_kept : DefinedKept
defined_kept slots c r e same inside kept =
    defined_holds (core_system slots c) (meets slots r.under) kept.under
    (subst (λ k. KindStands k slots c r e) same (kept.stands e inside))

pub invariant_kept : InvariantKept
invariant_kept slots c r e same inside kept =
    invariant_holds (core_system slots c) (meets slots r.under) (holding e r.p) kept.under
    (subst (λ k. KindStands k slots c r e) same (kept.stands e inside))

holds_kind : (slots : List CSlot) (c : CProgram) (r : Record) → IsAlwaysDefined (core_system slots c) →
    IsInvariant (core_system slots c) (meets slots r.under) → (e : List ℤ) → (k : Kind) →
    KindStands k slots c r e → KindHolds k slots c r e
holds_kind slots c r always under e Kind.Defined h = always
holds_kind slots c r always under e Kind.Invariant h =
    invariant_holds (core_system slots c) (meets slots r.under) (holding e r.p) under h
holds_kind slots c r always under e Kind.Unless h =
    unless_holds (core_system slots c) (meets slots r.under) (holding e r.p) (holding e r.q) under h
holds_kind slots c r always under e Kind.Ensures h =
    ensures_holds (core_system slots c) (meets slots r.under) (holding e r.p) (holding e r.q) h.choice under always
    h.ensured
holds_kind slots c r always under e Kind.Leadsto h =
    leads_holds (core_system slots c) (meets slots r.under) (holding e r.p) (holding e r.q) r.bound under h
holds_kind slots c r always under e Kind.Until h = record {
  unless = unless_holds (core_system slots c) (meets slots r.under) (holding e r.p) (holding e r.q) under h.0;
  leads = leads_holds (core_system slots c) (meets slots r.under) (holding e r.p) (holding e r.q) r.bound under h.1;
}
holds_kind slots c r always under e Kind.Detects h = record {
  always = invariant_holds (core_system slots c) (meets slots r.under) (implied (holding e r.p) (holding e r.q)) under
      h.0;
  leads = leads_holds (core_system slots c) (meets slots r.under) (holding e r.q) (holding e r.p) r.bound under h.1;
}
holds_kind slots c r always under e Kind.Constant h =
    constant_holds (core_system slots c) (meets slots r.under) (holding e r.p) under h
holds_kind slots c r always under e Kind.Fixed h =
    fixed_holds (core_system slots c) (meets slots r.under) (holding e r.p) under h

pub kept_holds : KeptHolds
kept_holds slots c r always kept e inside = holds_kind slots c r always kept.under e r.kind (kept.stands e inside)
