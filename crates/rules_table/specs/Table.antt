-- The table of rules: what each gives, or the first of its conditions that fails.
use Rattle.std.specs.Prelude.{ℕ, nat_eq, ℤ, Bool, true, false, cond, not, ◌&&◌, ◌||◌, ◌+ℤ◌, List, [], ◌∷◌, ◌++◌, map}
use Rattle.std.specs.Prelude.{length, Option, Some, None, Result, Ok, Err, slice_get}
use Rattle.std.specs.List.{list_all, list_any, filter}
use Rattle.std.specs.Int.RustNames.{int_le}
use Rattle.case_tables.specs.declared.kind_table.Kind.{Kind}
use Rattle.case_tables.specs.declared.rule_table.RuleName.{RuleName}
use Rattle.case_tables.specs.declared.code_table.Code.{Code}
use Rattle.core_terms.specs.Folding.{zero_form, difference_term, and_form, or_form, not_form}
use Rattle.core_terms.specs.Replacing.{arg_term, form_at}
use Rattle.core_terms.specs.Trees.{same_form}
use Rattle.core_terms.specs.declared.documents.Arg.{Arg}
use Rattle.core_terms.specs.declared.documents.Helper.{Helper}
use Rattle.core_terms.specs.declared.programs.CProgram.{CProgram}
use Rattle.core_terms.specs.declared.programs.CSlot.{CSlot}
use Rattle.core_terms.specs.declared.programs.CStmt.{CStmt}
use Rattle.core_terms.specs.declared.trees.CForm.{CForm}
use Rattle.core_terms.specs.declared.trees.CForm.TheVariants.{Top, Bottom}
use Rattle.core_terms.specs.declared.trees.CTerm.TheVariants.{Const}
use Rattle.core_terms.specs.declared.trees.Range.{Range}
use Rattle.fair_rounds.specs.declared.records.Record.{Record}
use Rattle.rules_table.specs.Conclusion.{Conclusion}
use Rattle.rules_table.specs.Forms.{any_of, imply}
use Rattle.rules_table.specs.Limits.{fits, is_provable}
use Rattle.fixed_points.specs.from_wp_substitution.Preconditions.{all_of, defined_form, wp_form}
use Rattle.fixed_points.specs.FixedForms.{fixed_part}
use Rattle.rules_table.specs.Validity.{Goal}
use Rattle.meaning_states.specs.State.{int_eq}

-- where a rule is applied; `using` are the predicates of the invariants that the step names
pub record Site : Type 0 where
  pub program : CProgram
  pub slots : List CSlot
  pub params : List Range
  pub name : ℕ
  pub using : List CForm

-- a condition, with the code of its failure, before what follows
abbrev pub needs : {A : Type 0} → Bool → Code → Result A Code → Result A Code
needs true code rest = rest
needs false code rest = Err code

abbrev pub go_on : {A B : Type 0} → Result A Code → (A → Result B Code) → Result B Code
go_on (Ok x) f = f x
go_on (Err code) f = Err code

-- formulas, each once, in the order of their first places
abbrev pub with_each : List CForm → List CForm → List CForm
with_each seen [] = seen
with_each seen (f ∷ rest) = with_each (cond (list_any (same_form f) seen) seen (seen ++ (f ∷ []))) rest

-- U followed by the premises' `under`, each formula once
abbrev pub under_with : Site → List CForm → List CForm
under_with site more = with_each [] (site.using ++ more)

-- a record that has the step's name, program and parameters
abbrev pub record_of : Site → Kind → CForm → CForm → List CForm → Option Helper → Record
record_of site kind p q more helper = record {
  name = site.name;
  program = site.program.name;
  kind = kind;
  p = p;
  q = q;
  under = under_with site more;
  params = site.params;
  bound = 0;
  helper = helper;
}

abbrev pub goals_of : List Range → List CForm → List Goal
goals_of params forms = map (λ f. record { form = f; params = params }) forms

-- the conclusion and each obligation are small enough
unfoldable pub concluded : List CSlot → List Range → Record → List CForm → Result Conclusion Code
concluded slots ranges made forms =
    needs ((fits slots ranges made.p && fits slots ranges made.q) && list_all (is_provable slots ranges) forms)
    Code.FormulaTooLarge (Ok (record { made = made; goals = goals_of ranges forms }))

-- `text`

abbrev pub defined_forms : Site → List CForm
defined_forms site = map (λ s. imply site.using (defined_form site.slots s)) site.program.statements

-- what holds before a step by s gives that q holds after it, where U holds there
abbrev pub kept_form : Site → List CForm → CForm → CStmt → CForm
kept_form site before q s = imply (site.using ++ before) (wp_form site.slots s (imply site.using q))

abbrev pub invariant_forms : Site → CForm → List CForm
invariant_forms site p = imply (site.using ++ (site.program.initially ∷ [])) p ∷ map (kept_form site (p ∷ []) p)
    site.program.statements

abbrev pub unless_form : Site → CForm → CForm → CStmt → CForm
unless_form site p q s = kept_form site (p ∷ not_form q ∷ []) (or_form p q) s

abbrev pub unless_forms : Site → CForm → CForm → List CForm
unless_forms site p q = map (unless_form site p q) site.program.statements

abbrev pub unless_record : Site → CForm → CForm → Record
unless_record site p q = record_of site Kind.Unless p q [] None

-- where U and p hold, the step of each statement leads back
abbrev pub fixed_forms : Site → CForm → List CForm
fixed_forms site p = map (λ s. imply (site.using ++ (p ∷ [])) (fixed_part site.slots s)) site.program.statements

unfoldable pub defined_of : Site → Bool → Result Conclusion Code
defined_of site starts = needs starts Code.NoStart (concluded site.slots site.params
    (record_of site Kind.Defined Top Top [] None) (defined_forms site))

unfoldable pub invariant_of : Site → CForm → Result Conclusion Code
invariant_of site p = concluded site.slots site.params (record_of site Kind.Invariant p Bottom [] None)
    (invariant_forms site p)

unfoldable pub unless_of : Site → CForm → CForm → Result Conclusion Code
unless_of site p q = concluded site.slots site.params (record_of site Kind.Unless p q [] None) (unless_forms site p q)

unfoldable pub fixed_of : Site → CForm → Result Conclusion Code
fixed_of site p = concluded site.slots site.params (record_of site Kind.Fixed p Bottom [] None) (fixed_forms site p)

-- `text with h`

-- the constant indices of a helper are a statement's
abbrev pub args_agree : List Arg → List ℤ → Bool
args_agree [] [] = true
args_agree [] (z ∷ zs) = false
args_agree (a ∷ args) [] = false
args_agree (Arg.Number k ∷ args) (z ∷ zs) = int_eq k z && args_agree args zs
args_agree (Arg.Param n add ∷ args) (z ∷ zs) = args_agree args zs
args_agree (Arg.Slot ∷ args) (z ∷ zs) = false

-- the instances that may be meant
abbrev pub instances_of : Site → Helper → List CStmt
instances_of site h = filter (λ s. nat_eq s.label h.label && args_agree h.args s.indices) site.program.statements

abbrev pub names_some : List Arg → Bool
names_some [] = false
names_some (Arg.Param n add ∷ args) = true
names_some (_ ∷ args) = names_some args

-- the indices that name parameters are the statement's
abbrev pub equations : List Arg → List ℤ → List CForm
equations [] zs = []
equations (a ∷ args) [] = []
equations (Arg.Param n add ∷ args) (z ∷ zs) = zero_form (difference_term (arg_term (Some (Arg.Param n add)))
    (Const z)) ∷ equations args zs
equations (Arg.Number k ∷ args) (z ∷ zs) = equations args zs
equations (Arg.Slot ∷ args) (z ∷ zs) = equations args zs

-- label and number of indices are some statement's; with constant indices it is an instance
abbrev pub is_helper : Site → Helper → Bool
is_helper site h = list_any (λ s. nat_eq s.label h.label && nat_eq (length s.indices) (length h.args))
    site.program.statements &&
    (names_some h.args || list_any (λ s. nat_eq s.label h.label && args_agree h.args s.indices) site.program.statements)

abbrev pub meant_forms : Site → Helper → List CForm
meant_forms site h = cond (names_some h.args) (any_of (map (λ s. all_of (equations h.args s.indices))
    (instances_of site h)) ∷ []) []

abbrev pub helped_form : Site → CForm → CForm → Helper → CStmt → CForm
helped_form site p q h s = kept_form site (p ∷ not_form q ∷ equations h.args s.indices) q s

abbrev pub helper_forms : Site → CForm → CForm → Helper → List CForm
helper_forms site p q h = meant_forms site h ++ map (helped_form site p q h) (instances_of site h)

unfoldable pub ensures_of : Site → CForm → CForm → Helper → Result Conclusion Code
ensures_of site p q h =
    needs (is_helper site h) Code.NoSuchStatement
    (concluded site.slots site.params (record_of site Kind.Ensures p q [] (Some h))
    (unless_forms site p q ++ helper_forms site p q h))

-- `weaken R`

abbrev pub is_unless : Kind → Bool
is_unless Kind.Unless = true
is_unless _ = false

abbrev pub is_ensures : Kind → Bool
is_ensures Kind.Ensures = true
is_ensures _ = false

unfoldable pub weaken_of : Site → Record → CForm → Result Conclusion Code
weaken_of site a q =
    needs (is_unless a.kind || is_ensures a.kind) Code.WrongKind
    (concluded site.slots site.params (record_of site a.kind a.p q a.under a.helper)
    (imply (site.using ++ (a.q ∷ [])) q ∷ []))

-- pair rules

-- the kinds of the two steps from which a pair rule gives a step of this kind
abbrev pub pair_kinds : RuleName → Kind → Kind × Kind
pair_kinds RuleName.Cancel kind = (kind, kind)
pair_kinds RuleName.Until kind = (Kind.Unless, Kind.Leadsto)
pair_kinds RuleName.Detects kind = (Kind.Invariant, Kind.Leadsto)
pair_kinds RuleName.Constant kind = (Kind.Unless, Kind.Unless)
pair_kinds _ kind = (Kind.Unless, kind)

abbrev pub ends_of_both : CForm → CForm → CForm → CForm → CForm
ends_of_both p q r s = or_form (or_form (and_form p s) (and_form r q)) (and_form q s)

abbrev pub ends_of_either : CForm → CForm → CForm → CForm → CForm
ends_of_either p q r s = or_form (or_form (and_form (not_form p) s) (and_form (not_form r) q)) (and_form q s)

-- what a pair rule concludes, from p unless q and r unless s
abbrev pub paired : Site → Kind → Option Helper → CForm → CForm → Record → Record → Result Conclusion Code
paired site kind helper p q a b = concluded site.slots site.params (record_of site kind p q (a.under ++ b.under)
    helper) []

unfoldable pub pair_of : Site → RuleName → Record → Record → Result Conclusion Code
pair_of site RuleName.Conj a b =
    needs (is_unless a.kind && (is_unless b.kind || is_ensures b.kind)) Code.WrongKind
    (paired site b.kind b.helper (and_form a.p b.p) (ends_of_both a.p a.q b.p b.q) a b)
pair_of site RuleName.Simpleconj a b =
    needs (is_unless a.kind && is_unless b.kind) Code.WrongKind (paired site Kind.Unless None (and_form a.p b.p)
    (or_form a.q b.q) a b)
pair_of site RuleName.Disj a b =
    needs (is_unless a.kind && is_unless b.kind) Code.WrongKind
    (paired site Kind.Unless None (or_form a.p b.p) (ends_of_either a.p a.q b.p b.q) a b)
pair_of site RuleName.Simpledisj a b =
    needs (is_unless a.kind && is_unless b.kind) Code.WrongKind (paired site Kind.Unless None (or_form a.p b.p)
    (or_form a.q b.q) a b)
pair_of site RuleName.Cancel a b =
    needs (is_unless a.kind && is_unless b.kind) Code.WrongKind
    (needs (same_form a.q b.p) Code.MiddleDiffers (paired site Kind.Unless None (or_form a.p a.q) b.q a b))
pair_of site _ a b = Err Code.WrongKind

-- `union R S`; each formula of a part's `under` has to follow from U

abbrev pub shown_forms : Site → Record → Record → List CForm
shown_forms site a b = map (imply site.using) (a.under ++ b.under)

abbrev pub are_parts : Option (ℕ × ℕ) → ℕ → ℕ → Bool
are_parts None f g = false
are_parts (Some fg) f g = nat_eq f fg.0 && nat_eq g fg.1

abbrev pub is_part_pair : Site → Record → Record → Bool
is_part_pair site a b = are_parts site.program.parts a.program b.program

unfoldable pub union_unless_of : Site → Record → Record → Result Conclusion Code
union_unless_of site a b =
    needs (is_part_pair site a b) Code.OtherProgram
    (needs (is_unless a.kind && is_unless b.kind) Code.WrongKind
    (needs (same_form a.p b.p && same_form a.q b.q) Code.MiddleDiffers
    (concluded site.slots site.params (record_of site Kind.Unless a.p a.q (a.under ++ b.under) None)
    (shown_forms site a b))))

abbrev pub first_helper : Record → Record → Option Helper
first_helper a b = cond (is_ensures a.kind) a.helper b.helper

unfoldable pub union_ensures_of : Site → Record → Record → Result Conclusion Code
union_ensures_of site a b =
    needs (is_part_pair site a b) Code.OtherProgram
    (needs ((is_ensures a.kind && is_unless b.kind) || (is_unless a.kind && is_ensures b.kind)) Code.WrongKind
    (needs (same_form a.p b.p && same_form a.q b.q) Code.MiddleDiffers
    (concluded site.slots site.params (record_of site Kind.Ensures a.p a.q (a.under ++ b.under) (first_helper a b))
    (shown_forms site a b))))

abbrev pub claims_defined : Kind → Bool
claims_defined Kind.Defined = true
claims_defined _ = false

abbrev pub is_invariant : Kind → Bool
is_invariant Kind.Invariant = true
is_invariant _ = false

unfoldable pub union_defined_of : Site → Bool → Record → Record → Result Conclusion Code
union_defined_of site starts a b =
    needs (is_part_pair site a b) Code.OtherProgram
    (needs (claims_defined a.kind && claims_defined b.kind) Code.WrongKind
    (needs starts Code.NoStart (concluded site.slots site.params (record_of site Kind.Defined Top Top
    (a.under ++ b.under) None) (shown_forms site a b))))

-- the formula after which the unless of the two ends
abbrev pub ending : Record → Record → CForm
ending a b = cond (is_unless a.kind) a.q b.q

unfoldable pub union_invariant_of : Site → Record → Record → Result Conclusion Code
union_invariant_of site a b =
    needs (is_part_pair site a b) Code.OtherProgram
    (needs ((is_invariant a.kind && is_unless b.kind) || (is_unless a.kind && is_invariant b.kind)) Code.WrongKind
    (needs (same_form a.p b.p && same_form (ending a b) Bottom) Code.MiddleDiffers
    (concluded site.slots site.params (record_of site Kind.Invariant a.p Bottom (a.under ++ b.under) None)
    (shown_forms site a b))))

-- the instance of a record

abbrev pub is_slot : Arg → Bool
is_slot Arg.Slot = true
is_slot _ = false

abbrev pub lies_in : Range → Option Range → ℤ → Bool
lies_in range None add = false
lies_in range (Some r) add = int_le range.lo (r.lo +ℤ add) && int_le (r.hi +ℤ add) range.hi

-- the argument's numbers, where those of names lie in these ranges, all lie in the parameter's range
abbrev pub is_argument : List Range → Range → Arg → Bool
is_argument ranges range (Arg.Number k) = int_le range.lo k && int_le k range.hi
is_argument ranges range (Arg.Param n add) = lies_in range (slice_get ranges n) add
is_argument ranges range Arg.Slot = false

abbrev pub are_arguments : List Range → List Range → List Arg → Bool
are_arguments ranges [] [] = true
are_arguments ranges [] (a ∷ args) = false
are_arguments ranges (r ∷ rs) [] = false
are_arguments ranges (r ∷ rs) (a ∷ args) = is_argument ranges r a && are_arguments ranges rs args

-- an index of a helper, with the arguments put in
abbrev pub moved : ℤ → Arg → Arg
moved add (Arg.Number k) = Arg.Number (k +ℤ add)
moved add (Arg.Param n more) = Arg.Param n (more +ℤ add)
moved add Arg.Slot = Arg.Number add

abbrev pub moved_at : ℤ → Option Arg → Arg
moved_at add None = Arg.Number add
moved_at add (Some a) = moved add a

abbrev pub put_in : List Arg → Arg → Arg
put_in args (Arg.Number k) = Arg.Number k
put_in args (Arg.Param n add) = moved_at add (slice_get args n)
put_in args Arg.Slot = Arg.Slot

abbrev pub helper_with : List Arg → Option Helper → Option Helper
helper_with args None = None
helper_with args (Some h) = Some (record { label = h.label; args = map (put_in args) h.args })

abbrev pub record_with : Site → Record → List Arg → Record
record_with site a args = record {
  name = a.name;
  program = a.program;
  kind = a.kind;
  p = form_at args a.p;
  q = form_at args a.q;
  under = a.under;
  params = site.params;
  bound = a.bound;
  helper = helper_with args a.helper;
}

-- `ranges`: those of the step's parameters, and then of the names that its term binds
unfoldable pub instance_of : Site → List Range → Record → List Arg → Result Record Code
instance_of site ranges a args =
    needs (not (list_any is_slot args)) Code.ParamEscapes
    (needs (are_arguments ranges a.params args) Code.BadArgument
    (needs (fits site.slots ranges (form_at args a.p) && fits site.slots ranges (form_at args a.q))
    Code.FormulaTooLarge (Ok (record_with site a args))))
