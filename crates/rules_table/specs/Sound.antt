-- That what the rules give stands: where the premises stand and the obligations are valid.
use Rattle.std.specs.Prelude.{All, ◌≡◌, ℕ, nat_eq, ◌<◌, ℤ, Bool, false, List, [], ◌∷◌, ◌++◌, Result, Ok, IsTrue}
use Rattle.std.specs.Prelude.{length}
use Rattle.case_tables.specs.declared.rule_table.RuleName.{RuleName}
use Rattle.case_tables.specs.declared.code_table.Code.{Code}
use Rattle.core_terms.specs.Conditions.{StatementFits, bound_ranges}
use Rattle.core_terms.specs.Folding.{and_form}
use Rattle.core_terms.specs.Places.{names_param}
use Rattle.core_terms.specs.Steps.{slot_ranges}
use Rattle.core_terms.specs.Values.{form_value}
use Rattle.core_terms.specs.declared.documents.Arg.{Arg}
use Rattle.core_terms.specs.declared.documents.Helper.{Helper}
use Rattle.core_terms.specs.declared.documents.PTerm.{PTerm}
use Rattle.core_terms.specs.declared.documents.Ref.{Ref}
use Rattle.core_terms.specs.declared.programs.CProgram.{CProgram}
use Rattle.core_terms.specs.declared.trees.CForm.{CForm}
use Rattle.core_terms.specs.declared.trees.Range.{Range}
use Rattle.layer_laws.specs.from_meaning_laws.Stands.{LeadsStands}
use Rattle.fair_rounds.specs.Records.{holding, are_in_ranges, meets, KindStands, Stands}
use Rattle.fair_rounds.specs.from_executor.CoreSystem.{core_system}
use Rattle.fair_rounds.specs.declared.records.Record.{Record}
use Rattle.rules_table.specs.Conclusion.{Conclusion}
use Rattle.rules_table.specs.Table.{Site, under_with, goals_of, defined_of, invariant_of, unless_of, fixed_of}
use Rattle.rules_table.specs.Table.{ensures_of, weaken_of, pair_of, instance_of, union_defined_of, union_invariant_of}
use Rattle.rules_table.specs.Table.{union_unless_of, union_ensures_of, shown_forms}
use Rattle.rules_table.specs.Further.{complete_of, lead_cancel_of, until_of, detects_of, constant_of}
use Rattle.rules_table.specs.Terms.{found, term_of, derive_of, all_ranges, is_well_bound}
use Rattle.rules_table.specs.Validity.{AllValid}
use Rattle.rules_table.specs.declared.led.Led.{Led}
use Rattle.meaning_states.specs.State.{State, is_state}
use Rattle.meaning_executions.specs.Properties.{Everywhere, IsInvariant}
use Rattle.std.specs.Int.RustNames.{int_le}
use Rattle.std.specs.List.{list_all}

-- a formula names no parameter
abbrev pub NamesNoParameter : CForm → Type 0
NamesNoParameter f = (n : ℕ) → names_param n f ≡ false

abbrev pub NameNoParameter : List CForm → Type 0
NameNoParameter [] = Unit {0}
NameNoParameter (f ∷ fs) = NamesNoParameter f × NameNoParameter fs

-- what the conditions of a rule call give
pub record IsSite (site : Site) : Type 0 where
  pub closed : NameNoParameter site.using
  pub initially : NamesNoParameter site.program.initially
  -- ranges are not empty, so there is a state
  pub state : State
  pub is_one : IsTrue (is_state (slot_ranges site.slots) state)
  pub statements : All (StatementFits site.slots) site.program.statements

-- what a rule gave stands, where its obligations are valid
abbrev pub StandsWhereValid : Site → Result Conclusion Code → Type 0
StandsWhereValid site answer = (d : Conclusion) → answer ≡ Ok d → AllValid site.slots d.goals →
    Stands site.slots site.program d.made

abbrev pub InvariantSound : Type 0
InvariantSound = (site : Site) → IsSite site → (p : CForm) → StandsWhereValid site (invariant_of site p)

abbrev pub UnlessSound : Type 0
UnlessSound = (site : Site) → IsSite site → (p q : CForm) → StandsWhereValid site (unless_of site p q)

-- `fixed p`: each state of U with p is a fixed point
abbrev pub FixedSound : Type 0
FixedSound = (site : Site) → IsSite site → (p : CForm) → StandsWhereValid site (fixed_of site p)

abbrev pub EnsuresSound : Type 0
EnsuresSound = (site : Site) → IsSite site → (p q : CForm) (h : Helper) → StandsWhereValid site
    (ensures_of site p q h)

-- a premise is a record of the site's program and parameters
pub record IsPremise (site : Site) (a : Record) : Type 0 where
  pub params : a.params ≡ site.params
  pub stands : Stands site.slots site.program a

abbrev pub WeakenSound : Type 0
WeakenSound = (site : Site) → IsSite site → (a : Record) (q : CForm) → IsPremise site a →
    StandsWhereValid site (weaken_of site a q)

abbrev pub PairSound : Type 0
PairSound = (site : Site) → IsSite site → (which : RuleName) (a b : Record) → IsPremise site a → IsPremise site b →
    StandsWhereValid site (pair_of site which a b)

-- the further rules: completion, within the greater of two bounds
abbrev pub CompleteSound : Type 0
CompleteSound = (site : Site) → IsSite site → (a b c d : Record) → IsPremise site a → IsPremise site b →
    IsPremise site c → IsPremise site d → StandsWhereValid site (complete_of site a b c d)

-- a rule from two records
abbrev pub IsSoundOfTwo : (Site → Record → Record → Result Conclusion Code) → Type 0
IsSoundOfTwo rule = (site : Site) → IsSite site → (a b : Record) → IsPremise site a → IsPremise site b →
    StandsWhereValid site (rule site a b)

-- cancellation for a leads-to, within the sum of two bounds
abbrev pub LeadCancelSound : Type 0
LeadCancelSound = IsSoundOfTwo lead_cancel_of

abbrev pub UntilSound : Type 0
UntilSound = IsSoundOfTwo until_of

abbrev pub DetectsSound : Type 0
DetectsSound = IsSoundOfTwo detects_of

abbrev pub ConstantSound : Type 0
ConstantSound = IsSoundOfTwo constant_of

-- an instance, at numbers of the parameters and of the names that are bound where it stands
abbrev pub InstanceSound : Type 0
InstanceSound = (site : Site) (ranges : List Range) (a : Record) (args : List Arg) (r : Record) →
    Stands site.slots site.program a →
    instance_of site ranges a args ≡ Ok r → (e : List ℤ) → IsTrue (are_in_ranges ranges e) →
    KindStands r.kind site.slots site.program r e

-- the records of this program that references find stand
abbrev pub BookStands : Site → List Record → Type 0
BookStands site book = (r : Ref) (a : Record) → found book r ≡ Ok a → IsTrue (nat_eq a.program site.program.name) →
    Stands site.slots site.program a

-- what a term gives stands for all numbers of the parameters and of the names that it binds, in the executions whose
-- states meet U and its `under`
abbrev pub TermSound : Type 0
TermSound = (site : Site) → IsSite site → (book : List Record) → BookStands site book → (t : PTerm) →
    (ranges : List Range) → IsTrue (is_well_bound ranges t) →
    (l : Led) → term_of site ranges book t ≡ Ok l → AllValid site.slots (goals_of ranges l.forms) →
    (e : List ℤ) → IsTrue (are_in_ranges ranges e) →
    LeadsStands (core_system site.slots site.program) (meets site.slots (under_with site l.under)) (holding e l.p)
    (holding e l.q) l.bound

-- a formula names none but the first so many parameters
abbrev pub NamesBelow : ℕ → CForm → Type 0
NamesBelow count f = (n : ℕ) → IsTrue (names_param n f) → n < count

-- no range is empty
abbrev pub AreFull : List Range → Type 0
AreFull [] = Unit {0}
AreFull (r ∷ rs) = IsTrue (int_le r.lo r.hi) × AreFull rs

-- where the conclusion names the step's own parameters alone, the record stands
abbrev pub DeriveSound : Type 0
DeriveSound = (site : Site) → IsSite site → (book : List Record) → BookStands site book → (t : PTerm) →
    IsTrue (is_well_bound (all_ranges site t) t) →
    AreFull (bound_ranges t) → (d : Conclusion) → derive_of site t book ≡ Ok d →
    NamesBelow (length site.params) d.made.p → NamesBelow (length site.params) d.made.q →
    AllValid site.slots d.goals → Stands site.slots site.program d.made

-- the site's program is the union of two others
pub record IsUnionOf (site : Site) (f g : CProgram) : Type 0 where
  pub statements : site.program.statements ≡ f.statements ++ g.statements
  pub initially : site.program.initially ≡ and_form f.initially g.initially

-- a premise of a union: a record of a part, with the site's parameters
pub record IsPartPremise (site : Site) (c : CProgram) (a : Record) : Type 0 where
  pub params : a.params ≡ site.params
  pub stands : Stands site.slots c a

abbrev pub UnionDefinedSound : Type 0
UnionDefinedSound = (site : Site) → IsSite site → (f g : CProgram) → IsUnionOf site f g → (starts : Bool) →
    (a b : Record) → IsPartPremise site f a → IsPartPremise site g b → StandsWhereValid site
    (union_defined_of site starts a b)

abbrev pub UnionInvariantSound : Type 0
UnionInvariantSound = (site : Site) → IsSite site → (f g : CProgram) → IsUnionOf site f g → (a b : Record) →
    IsPartPremise site f a → IsPartPremise site g b → StandsWhereValid site (union_invariant_of site a b)

abbrev pub UnionUnlessSound : Type 0
UnionUnlessSound = (site : Site) → IsSite site → (f g : CProgram) → IsUnionOf site f g → (a b : Record) →
    IsPartPremise site f a → IsPartPremise site g b →
    StandsWhereValid site (union_unless_of site a b)

abbrev pub UnionEnsuresSound : Type 0
UnionEnsuresSound = (site : Site) → IsSite site → (f g : CProgram) → IsUnionOf site f g → (a b : Record) →
    IsPartPremise site f a → IsPartPremise site g b →
    StandsWhereValid site (union_ensures_of site a b)

-- at each state of each execution these formulas hold
abbrev pub HoldThroughout : Site → List CForm → Type 0
HoldThroughout site fs = Everywhere (core_system site.slots site.program)
    (λ s. IsTrue (list_all (λ f. form_value s [] f) fs))

-- a record's `under` holds throughout, where U and the premises' `under` do
abbrev pub UnderHolds : Type 0
UnderHolds = (site : Site) → IsSite site → (more : List CForm) → HoldThroughout site site.using →
    HoldThroughout site more →
    IsInvariant (core_system site.slots site.program) (meets site.slots (under_with site more))

-- a union's obligations show that its parts' `under` holds throughout the union
abbrev pub UnionShows : Type 0
UnionShows = (site : Site) → IsSite site → (e : List ℤ) → IsTrue (are_in_ranges site.params e) → (a b : Record) →
    NameNoParameter (a.under ++ b.under) →
    HoldThroughout site site.using → AllValid site.slots (goals_of site.params (shown_forms site a b)) →
    HoldThroughout site (a.under ++ b.under)

-- `defined`: at states of U no step is undefined
abbrev pub DefinedSound : Type 0
DefinedSound = (site : Site) → IsSite site → (starts : Bool) → StandsWhereValid site (defined_of site starts)
