-- What holds of formulas, programs and documents that are handed to a call.
use Rattle.std.specs.Prelude.{◌≡◌, ℕ, ◌+◌, ◌-◌, ◌^◌, ◌<◌, ◌≤◌, nat_eq, nat_lt, ℤ, pos, ◌≤ℤ◌, List, [], ◌∷◌, ◌++◌, map}
use Rattle.std.specs.Prelude.{◌⊎◌, length, Bool, true, cond, ◌||◌, Option, Some, None, IsTrue, IsSome, All, Contains}
use Rattle.std.specs.Prelude.{option_and_then, slice_get, sum, take, ⊤}
use Rattle.std.specs.List.{list_any}
use Rattle.std.specs.Int.RustNames.{unsigned_abs}
use Rattle.case_tables.specs.declared.kind_table.Kind.{Kind}
use Rattle.core_terms.specs.declared.trees.Range.{Range}
use Rattle.core_terms.specs.declared.trees.CTerm.{CTerm}
use Rattle.core_terms.specs.declared.trees.CForm.{CForm}
use Rattle.core_terms.specs.declared.trees.CForm.TheVariants.{Top, Bottom}
use Rattle.core_terms.specs.declared.programs.Print.{Print}
use Rattle.core_terms.specs.declared.programs.CSlot.{CSlot}
use Rattle.core_terms.specs.declared.programs.CWrite.{CWrite}
use Rattle.core_terms.specs.declared.programs.CStmt.{CStmt}
use Rattle.core_terms.specs.declared.programs.CProgram.{CProgram}
use Rattle.core_terms.specs.declared.documents.Arg.{Arg}
use Rattle.core_terms.specs.declared.documents.Ref.{Ref}
use Rattle.core_terms.specs.declared.documents.Helper.{Helper}
use Rattle.core_terms.specs.declared.documents.PTerm.{PTerm, fold-PTerm}
use Rattle.core_terms.specs.declared.documents.PTerm.TheOpen.{PTerm-F}
use Rattle.core_terms.specs.declared.documents.CRule.{CRule}
use Rattle.core_terms.specs.declared.documents.CStep.{CStep}
use Rattle.core_terms.specs.declared.documents.CProof.{CProof}
use Rattle.core_terms.specs.declared.documents.CSchedule.{CSchedule}
use Rattle.core_terms.specs.declared.documents.CDocument.{CDocument}
use Rattle.core_terms.specs.Weights.{term_weights, form_weight, slot_weight, place_weight}
use Rattle.core_terms.specs.Places.{term_slots, form_slots, term_params, form_params, term_names_only, form_names_only}
use Rattle.core_terms.specs.Unions.{joined_programs}

-- not empty, and no end outside plus or minus 1,000,000,000
pub record IsRange (r : Range) : Type 0 where
  pub some : r.lo ≤ℤ r.hi
  pub low : unsigned_abs r.lo ≤ 1000000000
  pub high : unsigned_abs r.hi ≤ 1000000000

-- a formula names only slots that exist, and only parameters that exist, and no part weighs more than 2^62
pub record FormFits (slots : List CSlot) (params : List Range) (f : CForm) : Type 0 where
  pub slots_exist : form_slots f ≤ length slots
  pub params_exist : form_params f ≤ length params
  pub weight : form_weight (slot_weight slots) (place_weight params) f ≤ 2 ^ 62

-- and so does a term
pub record TermFits (slots : List CSlot) (params : List Range) (t : CTerm) : Type 0 where
  pub slots_exist : term_slots t ≤ length slots
  pub params_exist : term_params t ≤ length params
  pub weight : (term_weights (slot_weight slots) (place_weight params) t).most ≤ 2 ^ 62

-- a write goes to a slot that exists, and its parts fit; a statement names no parameter
pub record WriteFits (slots : List CSlot) (w : CWrite) : Type 0 where
  pub target : w.slot < length slots
  pub condition : FormFits slots [] w.when
  pub value : TermFits slots [] w.value

pub record StatementFits (slots : List CSlot) (s : CStmt) : Type 0 where
  pub outside : All (FormFits slots []) s.outside
  pub writes : All (WriteFits slots) s.writes

-- any two items of a list have the relation, the earlier one first
abbrev pub EachPair : {X : Type 0} → (X → X → Type 0) → List X → Type 0
EachPair {X} R xs = (i j : ℕ) (x y : X) → i < j → slice_get xs i ≡ Some x → slice_get xs j ≡ Some y → R x y

-- two statements differ in label or indices, and those of one label have equally many indices
pub record AreApart (s t : CStmt) : Type 0 where
  pub differ : s.label ≡ t.label → s.indices ≡ t.indices → ⊥
  pub alike : s.label ≡ t.label → length s.indices ≡ length t.indices

-- a start value lies in the range of its slot
abbrev pub StartFits : List CSlot → ℕ × ℤ → Type 0
StartFits slots e = (s : CSlot) × (slice_get slots e.0 ≡ Some s) × (s.range.lo ≤ℤ e.1) × (e.1 ≤ℤ s.range.hi)

-- the slot is among those shown
abbrev pub is_shown : List ℕ → ℕ → Bool
is_shown shown n = list_any (λ m. nat_eq m n) shown

-- any parameter or slot may be named
abbrev pub any_place : ℕ → Bool
any_place n = true

-- a statement names only slots that are shown
pub record NamesShown (shown : List ℕ) (s : CStmt) : Type 0 where
  pub outside : All (λ f. IsTrue (form_names_only (is_shown shown) any_place f)) s.outside
  pub targets : All (λ w. IsTrue (is_shown shown w.slot)) s.writes
  pub conditions : All (λ w. IsTrue (form_names_only (is_shown shown) any_place w.when)) s.writes
  pub values : All (λ w. IsTrue (term_names_only (is_shown shown) any_place w.value)) s.writes

-- a program over these slots
pub record IsProgram (slots : List CSlot) (c : CProgram) : Type 0 where
  pub some : 1 ≤ length c.statements
  pub few : length c.statements ≤ 4096
  pub apart : EachPair AreApart c.statements
  pub statements : All (StatementFits slots) c.statements
  pub initially : FormFits slots [] c.initially
  pub one_start : EachPair (λ d e. d.0 ≡ e.0 → ⊥) c.start
  pub start : All (StartFits slots) c.start
  pub shown : All (λ n. n < length slots) c.shown
  pub rising : EachPair (λ m n. m < n) c.shown
  pub shown_initially : IsTrue (form_names_only (is_shown c.shown) any_place c.initially)
  pub shown_start : All (λ e. IsTrue (is_shown c.shown e.0)) c.start
  pub shown_statements : All (NamesShown c.shown) c.statements

-- a slot that prints truths has the range 0..1, and one that prints words a word for each of 0 and up
abbrev pub PrintFits : Range → Print → Type 0
PrintFits r Print.Number = ⊤
PrintFits r Print.Truth = (r.lo ≡ pos 0) × (r.hi ≡ pos 1)
PrintFits r (Print.Words words) = (r.lo ≡ pos 0) × (r.hi ≡ pos (length words - 1)) × (0 < length words)

pub record IsSlot (s : CSlot) : Type 0 where
  pub range : IsRange s.range
  pub print : PrintFits s.range s.print

-- no number in an argument is outside plus or minus 2^62
abbrev pub ArgFits : Arg → Type 0
ArgFits (Arg.Number k) = unsigned_abs k ≤ 2 ^ 62
ArgFits (Arg.Param n add) = unsigned_abs add ≤ 2 ^ 62
ArgFits Arg.Slot = ⊤

-- the argument is no variable
abbrev pub IsIndex : Arg → Type 0
IsIndex (Arg.Number k) = ⊤
IsIndex (Arg.Param n add) = ⊤
IsIndex Arg.Slot = ⊥

-- the number of an argument's parameter passes the test
abbrev pub arg_names_only : (ℕ → Bool) → Arg → Bool
arg_names_only visible (Arg.Number k) = true
arg_names_only visible (Arg.Param n add) = visible n
arg_names_only visible Arg.Slot = true

-- the formulas, the terms and the arguments in a proof term, each with the test of which parameters are visible
-- at it, and the ranges
pub record Parts : Type 0 where
  pub forms : List ((ℕ → Bool) × CForm)
  pub terms : List ((ℕ → Bool) × CTerm)
  pub args : List ((ℕ → Bool) × List Arg)
  pub ranges : List Range

abbrev pub no_parts : Parts
no_parts = record { forms = []; terms = []; args = []; ranges = [] }

abbrev pub both_parts : Parts → Parts → Parts
both_parts a b = record {
  forms = a.forms ++ b.forms;
  terms = a.terms ++ b.terms;
  args = a.args ++ b.args;
  ranges = a.ranges ++ b.ranges;
}

-- a name bound within a part is visible there
abbrev pub also : ℕ → (ℕ → Bool) → ℕ → Bool
also m visible n = nat_eq m n || visible n

-- a bound name is visible in the last part of its node alone
abbrev pub parts_step : PTerm-F ((ℕ → Bool) → Parts) → (ℕ → Bool) → Parts
parts_step (PTerm-F.Imply p q) v = record no_parts { forms = (v, p) ∷ (v, q) ∷ [] }
parts_step (PTerm-F.From r) v = record no_parts { args = (v, r.args) ∷ [] }
parts_step (PTerm-F.Trans t u) v = both_parts (t v) (u v)
parts_step (PTerm-F.Either t u) v = both_parts (t v) (u v)
parts_step (PTerm-F.Exists m range t) v = both_parts (record no_parts { ranges = range ∷ [] }) (t (also m v))
parts_step (PTerm-F.Induct m range measure p q t) v =
    both_parts (record {
      forms = (v, p) ∷ (v, q) ∷ [];
      terms = (v, measure) ∷ [];
      args = [];
      ranges =
          range ∷ [];
    }) (t (also m v))
parts_step (PTerm-F.Psp t r) v = both_parts (t v) (record no_parts { args = (v, r.args) ∷ [] })
parts_step (PTerm-F.Weaken p q t) v = both_parts (record no_parts { forms = (v, p) ∷ (v, q) ∷ [] }) (t v)

abbrev pub parts_of : PTerm → (ℕ → Bool) → Parts
parts_of = fold-PTerm ((ℕ → Bool) → Parts) parts_step

-- arguments name only what is visible, and their numbers are within bounds
pub record ArgsWellScoped (visible : ℕ → Bool) (args : List Arg) : Type 0 where
  pub numbers : All ArgFits args
  pub names : All (λ a. IsTrue (arg_names_only visible a)) args

-- a helper has no variable among its arguments
pub record HelperWellScoped (visible : ℕ → Bool) (h : Helper) : Type 0 where
  pub args : ArgsWellScoped visible h.args
  pub indices : All IsIndex h.args

-- a term names only what is visible, and its parts fit, where parameters and bound names have these ranges
pub record TermWellScoped (slots : List CSlot) (ranges : List Range) (visible : ℕ → Bool) (t : PTerm) : Type 0 where
  pub forms : All (λ e. FormFits slots ranges e.1) (parts_of t visible).forms
  pub form_names : All (λ e. IsTrue (form_names_only any_place e.0 e.1)) (parts_of t visible).forms
  pub terms : All (λ e. TermFits slots ranges e.1) (parts_of t visible).terms
  pub term_names : All (λ e. IsTrue (term_names_only any_place e.0 e.1)) (parts_of t visible).terms
  pub args : All (λ e. ArgsWellScoped e.0 e.1) (parts_of t visible).args
  pub ranges_are : All IsRange (parts_of t visible).ranges

-- the number after those that a term binds, if they follow this one in reading order
abbrev pub numbered_step : PTerm-F (ℕ → Option ℕ) → ℕ → Option ℕ
numbered_step (PTerm-F.Imply p q) n = Some n
numbered_step (PTerm-F.From r) n = Some n
numbered_step (PTerm-F.Trans t u) n = option_and_then u (t n)
numbered_step (PTerm-F.Either t u) n = option_and_then u (t n)
numbered_step (PTerm-F.Exists m range t) n = cond (nat_eq m n) (t (n + 1)) None
numbered_step (PTerm-F.Induct m range measure p q t) n = cond (nat_eq m n) (t (n + 1)) None
numbered_step (PTerm-F.Psp t r) n = t n
numbered_step (PTerm-F.Weaken p q t) n = t n

-- a term's bound names have the numbers from this one on, in reading order
abbrev pub NumbersBoundNames : ℕ → PTerm → Type 0
NumbersBoundNames first t = IsSome (fold-PTerm (ℕ → Option ℕ) numbered_step t first)

-- the ranges of a term's bound names, in reading order
abbrev pub ranges_step : PTerm-F (List Range) → List Range
ranges_step (PTerm-F.Imply p q) = []
ranges_step (PTerm-F.From r) = []
ranges_step (PTerm-F.Trans t u) = t ++ u
ranges_step (PTerm-F.Either t u) = t ++ u
ranges_step (PTerm-F.Exists m range t) = range ∷ t
ranges_step (PTerm-F.Induct m range measure p q t) = range ∷ t
ranges_step (PTerm-F.Psp t r) = t
ranges_step (PTerm-F.Weaken p q t) = t

abbrev pub bound_ranges : PTerm → List Range
bound_ranges = fold-PTerm (List Range) ranges_step

-- the references of a term, in reading order
abbrev pub refs_step : PTerm-F (List Ref) → List Ref
refs_step (PTerm-F.Imply p q) = []
refs_step (PTerm-F.From r) = r ∷ []
refs_step (PTerm-F.Trans t u) = t ++ u
refs_step (PTerm-F.Either t u) = t ++ u
refs_step (PTerm-F.Exists m range t) = t
refs_step (PTerm-F.Induct m range measure p q t) = t
refs_step (PTerm-F.Psp t r) = t ++ r ∷ []
refs_step (PTerm-F.Weaken p q t) = t

abbrev pub term_refs : PTerm → List Ref
term_refs = fold-PTerm (List Ref) refs_step

-- the references of a rule, in reading order
abbrev pub rule_refs : CRule → List Ref
rule_refs CRule.Text = []
rule_refs (CRule.TextWith h) = []
rule_refs (CRule.WeakenStep r) = r ∷ []
rule_refs (CRule.Pair which r s) = r ∷ s ∷ []
rule_refs (CRule.Union r s) = r ∷ s ∷ []
rule_refs (CRule.Superpose r) = r ∷ []
rule_refs (CRule.Complete r s t u) = r ∷ s ∷ t ∷ u ∷ []
rule_refs (CRule.Proof t) = term_refs t

-- the ranges of the names that a rule binds
abbrev pub rule_ranges : CRule → List Range
rule_ranges (CRule.Proof t) = bound_ranges t
rule_ranges _ = []

-- a rule names only what is visible, in the order of its numbers
abbrev pub RuleWellScoped : List CSlot → List Range → (ℕ → Bool) → ℕ → CRule → Type 0
RuleWellScoped slots ranges visible count (CRule.TextWith h) = HelperWellScoped visible h
RuleWellScoped slots ranges visible count (CRule.Proof t) = TermWellScoped slots ranges visible t × NumbersBoundNames
    count t
RuleWellScoped slots ranges visible count _ = ⊤

-- the parameters of a step are visible
abbrev pub is_below : ℕ → ℕ → Bool
is_below count n = nat_lt n count

-- what the formulas of a kind are where it does not have two, and that `defined` and `invariant` have no parameters
abbrev pub KindFits : Kind → List Range → CForm → CForm → Type 0
KindFits Kind.Defined params p q = (params ≡ []) × (p ≡ Top) × (q ≡ Top)
KindFits Kind.Invariant params p q = (params ≡ []) × (q ≡ Bottom)
KindFits Kind.Unless params p q = ⊤
KindFits Kind.Ensures params p q = ⊤
KindFits Kind.Leadsto params p q = ⊤
KindFits Kind.Until params p q = ⊤
KindFits Kind.Detects params p q = ⊤
KindFits Kind.Constant params p q = q ≡ Bottom
KindFits Kind.Fixed params p q = q ≡ Bottom

-- a step over these slots
pub record IsStep (slots : List CSlot) (s : CStep) : Type 0 where
  pub params : All IsRange s.params
  pub names : length s.param_names ≡ length s.params + length (rule_ranges s.rule)
  pub p : FormFits slots s.params s.p
  pub q : FormFits slots s.params s.q
  pub kind : KindFits s.kind s.params s.p s.q
  pub rule : RuleWellScoped slots (s.params ++ rule_ranges s.rule) (is_below (length s.params)) (length s.params) s.rule
  pub refs : All (λ r. ArgsWellScoped (is_below (length s.params + length (rule_ranges s.rule))) r.args)
      (rule_refs s.rule)
  pub using : All (λ r. ArgsWellScoped (is_below (length s.params)) r.args) s.using

-- a number of a word is its place among them
abbrev pub IsWord : List (List ℕ) → ℕ → Type 0
IsWord words n = n < length words

pub record RefWords (words : List (List ℕ)) (r : Ref) : Type 0 where
  pub program : IsWord words r.program
  pub step : IsWord words r.step

abbrev pub PrintWords : List (List ℕ) → Print → Type 0
PrintWords words (Print.Words ws) = All (IsWord words) ws
PrintWords words _ = ⊤

abbrev pub RuleWords : List (List ℕ) → CRule → Type 0
RuleWords words (CRule.TextWith h) = IsWord words h.label
RuleWords words _ = ⊤

pub record StepWords (words : List (List ℕ)) (s : CStep) : Type 0 where
  pub name : IsWord words s.name
  pub params : All (IsWord words) s.param_names
  pub rule : RuleWords words s.rule
  pub refs : All (RefWords words) (rule_refs s.rule)
  pub using : All (RefWords words) s.using

pub record ProgramWords (words : List (List ℕ)) (c : CProgram) : Type 0 where
  pub name : IsWord words c.name
  pub labels : All (λ s. IsWord words s.label) c.statements

-- a union is what `join_programs` gives for two programs before it, which its parts name
abbrev pub UnionFits : List CProgram → CProgram → Option (ℕ × ℕ) → Type 0
UnionFits before h None = ⊤
UnionFits before h (Some parts) = (f : CProgram) × (g : CProgram) × Contains before f × Contains before g
    × (f.name ≡ parts.0) × (g.name ≡ parts.1) × (h ≡ joined_programs h.name f g)

-- some program has the name
abbrev pub IsNamed : List CProgram → ℕ → Type 0
IsNamed programs name = IsTrue (list_any (λ c. nat_eq c.name name) programs)

pub record IsProof (slots : List CSlot) (programs : List CProgram) (p : CProof) : Type 0 where
  pub program : IsNamed programs p.program
  pub steps : All (IsStep slots) p.steps
  pub names : EachPair (λ s t. s.name ≡ t.name → ⊥) p.steps

-- a schedule, if there is one, names a program, and its labels are words
abbrev pub ScheduleFits : List (List ℕ) → List CProgram → Option CSchedule → Type 0
ScheduleFits words programs None = ⊤
ScheduleFits words programs (Some s) = IsNamed programs s.program × All (λ c. IsWord words c.label) s.choices

-- a whole document
pub record IsCoreDocument (d : CDocument) : Type 0 where
  pub version : (d.version ≡ 1) ⊎ (d.version ≡ 2)
  pub slots : All IsSlot d.slots
  pub slot_words : All (λ s. IsWord d.words s.name × PrintWords d.words s.print) d.slots
  pub programs : All (IsProgram d.slots) d.programs
  pub program_words : All (ProgramWords d.words) d.programs
  pub program_names : EachPair (λ f g. f.name ≡ g.name → ⊥) d.programs
  pub unions : (place : ℕ) (h : CProgram) → slice_get d.programs place ≡ Some h →
      UnionFits (take place d.programs) h h.parts
  pub proofs : All (IsProof d.slots d.programs) d.proofs
  pub proof_words : All (λ p. All (StepWords d.words) p.steps) d.proofs
  pub proof_programs : EachPair (λ p r. p.program ≡ r.program → ⊥) d.proofs
  pub few_steps : sum (map (λ p. length p.steps) d.proofs) < 2 ^ 31
  pub schedule : ScheduleFits d.words d.programs d.schedule
