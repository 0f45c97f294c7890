-- Records with arguments for their parameters, and what their helpers' indices may be.
use Rattle.std.specs.Prelude.{◌≡◌, ◌+◌, ◌^◌, ◌≤◌, ℤ, ◌+ℤ◌, List, true, false, IsTrue, Option, Some, None, []}
use Rattle.std.specs.Prelude.{Result, Ok, Err, All, ⊤, slice_get, length}
use Rattle.std.specs.Int.RustNames.{unsigned_abs}
use Rattle.case_tables.specs.declared.code_table.Code.{Code}
use Rattle.core_terms.specs.declared.trees.Range.{Range}
use Rattle.core_terms.specs.declared.trees.CForm.{CForm}
use Rattle.core_terms.specs.declared.programs.CSlot.{CSlot}
use Rattle.core_terms.specs.declared.documents.Arg.{Arg}
use Rattle.core_terms.specs.declared.documents.Helper.{Helper}
use Rattle.core_terms.specs.Conditions.{FormFits, IsRange}
use Rattle.core_terms.specs.Places.{form_params}
use Rattle.core_terms.specs.Replacing.{form_at, IsSmallArg}
use Rattle.fair_rounds.specs.declared.records.Record.{Record}
use Rattle.fair_rounds.specs.Records.{are_in_ranges, KindStands}
use Rattle.rules_table.specs.Limits.{fits}
use Rattle.rules_table.specs.Table.{Site, helper_with}
use Rattle.wp_substitution.specs.Joined.{IsLight}
use Rattle.safety_rules.specs.declared.places.Place.{Place}
use Rattle.safety_rules.specs.declared.places.RuleError.{RuleError}
use Rattle.safety_rules.specs.Usable.{NamesExist}

-- outside plus or minus (2^62 + 1,000,000,000) there is no index of a helper
abbrev pub IsSmallIndex : ℤ → Type 0
IsSmallIndex z = unsigned_abs z ≤ 2 ^ 62 + 1000000000

abbrev pub SumFits : Option Range → ℤ → Type 0
SumFits None add = IsSmallIndex add
SumFits (Some r) add = IsSmallIndex (r.lo +ℤ add) × IsSmallIndex (r.hi +ℤ add)

-- at all values of the parameters in their ranges
abbrev pub IndexFits : List Range → Arg → Type 0
IndexFits params (Arg.Number k) = IsSmallIndex k
IndexFits params (Arg.Param n add) = SumFits (slice_get params n) add
IndexFits params Arg.Slot = ⊥

abbrev pub HelperFits : List Range → Option Helper → Type 0
HelperFits params None = ⊤
HelperFits params (Some h) = All (IndexFits params) h.args

-- a record whose parts fit its own parameters
pub record RecordFits (slots : List CSlot) (a : Record) : Type 0 where
  pub params : All IsRange a.params
  pub p : FormFits slots a.params a.p
  pub q : FormFits slots a.params a.q
  pub under : All (FormFits slots []) a.under
  pub helper : HelperFits a.params a.helper

-- arguments can be put for the parameters of a formula
pub record CanPut (slots : List CSlot) (ranges : List Range) (args : List Arg) (f : CForm) : Type 0 where
  pub params : form_params f ≤ length args
  pub small : All IsSmallArg args
  pub light : IsLight f
  pub names : NamesExist slots ranges (form_at args f)

-- what is added to an argument stays within bounds
abbrev pub CanMove : ℤ → Option Arg → Type 0
CanMove add None = IsSmallIndex add
CanMove add (Some (Arg.Number k)) = IsSmallIndex (k +ℤ add)
CanMove add (Some (Arg.Param n more)) = unsigned_abs (more +ℤ add) ≤ 2 ^ 62 + 2000000000
CanMove add (Some Arg.Slot) = IsSmallIndex add

-- the index that an argument is put for stays within bounds
abbrev pub MayPut : List Arg → Arg → Type 0
MayPut args (Arg.Number k) = ⊤
MayPut args (Arg.Param n add) = CanMove add (slice_get args n)
MayPut args Arg.Slot = ⊤

abbrev pub AllMayPut : List Arg → Option Helper → Type 0
AllMayPut args None = ⊤
AllMayPut args (Some h) = All (MayPut args) h.args

-- the instance of a record, with these formulas
abbrev pub instance_with : Site → Record → List Arg → CForm → CForm → Record
instance_with site a args p q = record {
  name = a.name;
  program = a.program;
  kind = a.kind;
  p = p;
  q = q;
  under = a.under;
  params = site.params;
  bound = a.bound;
  helper = helper_with args a.helper;
}

-- the call gives what the table gives, or the code of the first condition that fails; want of memory says nothing
abbrev pub AnswersRecord : Result Record RuleError → Result Record Code → Type 0
AnswersRecord (Ok r) (Ok x) = r ≡ x
AnswersRecord (Ok r) (Err code) = ⊥
AnswersRecord (Err (RuleError.Fault code)) (Ok x) = ⊥
AnswersRecord (Err (RuleError.Fault code)) (Err first) = code ≡ first
AnswersRecord (Err RuleError.Memory) x = Unit {0}

-- the formula, if it is small enough; want of memory says nothing
abbrev pub AnswersForm : Result CForm RuleError → List CSlot → List Range → CForm → Type 0
AnswersForm (Ok g) slots ranges f = (g ≡ f) × (fits slots ranges f ≡ true)
AnswersForm (Err (RuleError.Fault code)) slots ranges f = (code ≡ Code.FormulaTooLarge) × (fits slots ranges f ≡ false)
AnswersForm (Err RuleError.Memory) slots ranges f = Unit {0}

-- a record stands at all numbers of these ranges
abbrev pub StandsIn : Place → List Range → Record → Type 0
StandsIn pl ranges r = (e : List ℤ) → IsTrue (are_in_ranges ranges e) →
    KindStands r.kind pl.slots.now pl.program.now r e
