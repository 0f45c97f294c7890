-- The steps of a document, one after the other: each step's record by the table, or the first failure.
use Rattle.std.specs.Prelude.{ℕ, nat_eq, Bool, true, false, cond, not, ◌&&◌, ◌||◌, List, [], ◌∷◌, ◌++◌, map, length}
use Rattle.std.specs.Prelude.{Option, Some, None, Result, Ok, Err}
use Rattle.std.specs.List.{list_any, find}
use Rattle.case_tables.specs.declared.kind_table.Kind.{Kind}
use Rattle.case_tables.specs.declared.rule_table.RuleName.{RuleName}
use Rattle.case_tables.specs.declared.code_table.Code.{Code}
use Rattle.core_terms.specs.declared.trees.CForm.{CForm}
use Rattle.core_terms.specs.declared.programs.CSlot.{CSlot}
use Rattle.core_terms.specs.declared.programs.CProgram.{CProgram}
use Rattle.core_terms.specs.declared.documents.Ref.{Ref}
use Rattle.core_terms.specs.declared.documents.PTerm.{PTerm, out-PTerm}
use Rattle.core_terms.specs.declared.documents.PTerm.TheOpen.{PTerm-F}
use Rattle.core_terms.specs.declared.documents.CRule.{CRule}
use Rattle.core_terms.specs.declared.documents.CStep.{CStep}
use Rattle.core_terms.specs.declared.documents.CProof.{CProof}
use Rattle.core_terms.specs.declared.documents.CDocument.{CDocument}
use Rattle.core_terms.specs.Trees.{same_form}
use Rattle.fair_rounds.specs.declared.records.Record.{Record}
use Rattle.rules_table.specs.Validity.{Goal}
use Rattle.rules_table.specs.Conclusion.{Conclusion}
use Rattle.rules_table.specs.Table.{Site, needs, go_on, claims_defined, is_invariant, is_unless, is_ensures}
use Rattle.rules_table.specs.Table.{instance_of}
use Rattle.rules_table.specs.Table.{record_of, concluded, defined_of, invariant_of, unless_of, fixed_of, ensures_of}
use Rattle.rules_table.specs.Table.{weaken_of, pair_kinds, union_defined_of, union_invariant_of, union_unless_of}
use Rattle.rules_table.specs.Table.{union_ensures_of}
use Rattle.rules_table.specs.Further.{is_leadsto, complete_of, pair_by}
use Rattle.rules_table.specs.Layers.{is_carried, superpose_of}
use Rattle.rules_table.specs.Terms.{found, referred, derive_of}

-- what a step sees of its document; the test says whether the start state of a program meets its initially section
pub record Around : Type 0 where
  pub version : ℕ
  pub slots : List CSlot
  pub programs : List CProgram
  pub starts : CProgram → Bool

abbrev pub around_of : CDocument → (CProgram → Bool) → Around
around_of d starts = record { version = d.version; slots = d.slots; programs = d.programs; starts = starts }

abbrev pub is_until : Kind → Bool
is_until Kind.Until = true
is_until _ = false

abbrev pub is_detects : Kind → Bool
is_detects Kind.Detects = true
is_detects _ = false

abbrev pub claims_constant : Kind → Bool
claims_constant Kind.Constant = true
claims_constant _ = false

abbrev pub claims_fixed : Kind → Bool
claims_fixed Kind.Fixed = true
claims_fixed _ = false

abbrev pub is_kind : Kind → Kind → Bool
is_kind Kind.Defined k = claims_defined k
is_kind Kind.Invariant k = is_invariant k
is_kind Kind.Unless k = is_unless k
is_kind Kind.Ensures k = is_ensures k
is_kind Kind.Leadsto k = is_leadsto k
is_kind Kind.Until k = is_until k
is_kind Kind.Detects k = is_detects k
is_kind Kind.Constant k = claims_constant k
is_kind Kind.Fixed k = claims_fixed k

-- a kind that may stand before the `defined` step
abbrev pub is_first : Kind → Bool
is_first k = claims_defined k || is_invariant k

-- a `defined` step of this program stands before
abbrev pub has_defined : ℕ → List Record → Bool
has_defined program book = list_any (λ a. nat_eq a.program program && claims_defined a.kind) book

abbrev pub is_empty : {X : Type 0} → List X → Bool
is_empty [] = true
is_empty (_ ∷ _) = false

-- U: the predicates of the invariants that `using` names
abbrev pub used : CProgram → List Record → List Ref → Result (List CForm) Code
used c book [] = Ok []
used c book (r ∷ rest) =
    go_on (found book r) (λ a.
    needs (nat_eq a.program c.name) Code.OtherProgram
    (needs (is_invariant a.kind && is_empty r.args) Code.NotInvariant
    (go_on (used c book rest) (λ fs. Ok (a.p ∷ fs)))))

-- the rule's word gives the claimed kind, in a document of this version

abbrev pub has_end : Kind → Bool
has_end kind = is_unless kind || is_ensures kind

abbrev pub suits_term : PTerm-F PTerm → Kind → Bool
suits_term (PTerm-F.From r) kind = is_leadsto kind || has_end kind
suits_term _ kind = is_leadsto kind

abbrev pub suits_pair : ℕ → RuleName → Kind → Bool
suits_pair version RuleName.Conj kind = has_end kind
suits_pair version RuleName.Simpleconj kind = is_unless kind
suits_pair version RuleName.Disj kind = is_unless kind
suits_pair version RuleName.Simpledisj kind = is_unless kind
suits_pair version RuleName.Cancel kind = is_unless kind || (is_leadsto kind && nat_eq version 2)
suits_pair version RuleName.Until kind = is_until kind
suits_pair version RuleName.Detects kind = is_detects kind
suits_pair version RuleName.Constant kind = claims_constant kind
suits_pair version _ kind = false

abbrev pub suits : ℕ → CRule → Kind → Bool
suits version CRule.Text kind = (is_first kind || is_unless kind) || claims_fixed kind
suits version (CRule.TextWith h) kind = is_ensures kind
suits version (CRule.WeakenStep r) kind = has_end kind
suits version (CRule.Pair which r s) kind = suits_pair version which kind
suits version (CRule.Union r s) kind = is_first kind || has_end kind
suits version (CRule.Superpose r) kind = is_carried kind
suits version (CRule.Complete r s t u) kind = is_leadsto kind
suits version (CRule.Proof t) kind = suits_term (out-PTerm t) kind

-- by the program's text; the test says whether the start state of a program meets its initially section
abbrev pub text_of : (CProgram → Bool) → Site → CStep → Kind → Result Conclusion Code
text_of starts site step Kind.Defined = defined_of site (starts site.program)
text_of starts site step Kind.Invariant = invariant_of site step.p
text_of starts site step Kind.Unless = unless_of site step.p step.q
text_of starts site step Kind.Fixed = fixed_of site step.p
text_of starts site step _ = Err Code.WrongKind

-- `from R` for an unless or an ensures: R's instance under the step's name
abbrev pub same_again : Site → Record → Result Conclusion Code
same_again site a = concluded site.slots site.params (record_of site a.kind a.p a.q a.under a.helper) []

abbrev pub again_of : Site → CStep → List Record → PTerm-F PTerm → Result Conclusion Code
again_of site step book (PTerm-F.From r) = go_on (referred site site.params book (is_kind step.kind) r)
    (same_again site)
again_of site step book _ = Err Code.WrongKind

abbrev pub proof_of : Site → CStep → List Record → Kind → PTerm → Result Conclusion Code
proof_of site step book Kind.Leadsto t = derive_of site t book
proof_of site step book kind t = again_of site step book (out-PTerm t)

-- the instance of a record of this part of a union
abbrev pub part_record : Site → List Record → Option ℕ → (Kind → Bool) → Ref → Result Record Code
part_record site book None serves r = go_on (found book r) (λ a. Err Code.OtherProgram)
part_record site book (Some part) serves r =
    go_on (found book r) (λ a.
    needs (nat_eq a.program part) Code.OtherProgram
    (needs (serves a.kind) Code.WrongKind (instance_of site site.params a r.args)))

abbrev pub first_part : Option (ℕ × ℕ) → Option ℕ
first_part None = None
first_part (Some parts) = Some parts.0

abbrev pub second_part : Option (ℕ × ℕ) → Option ℕ
second_part None = None
second_part (Some parts) = Some parts.1

-- which kinds of the first part's record serve for a claim of this kind
abbrev pub serves_union : Kind → Kind → Bool
serves_union Kind.Ensures k = is_unless k || is_ensures k
serves_union Kind.Invariant k = is_unless k || is_invariant k
serves_union claimed k = is_kind claimed k

-- and which of the second part's, after the first's
abbrev pub serves_after : Kind → Kind → Kind → Bool
serves_after Kind.Ensures first k = cond (is_ensures first) (is_unless k) (is_ensures k)
serves_after Kind.Invariant first k = cond (is_unless first) (is_invariant k) (is_unless k)
serves_after claimed first k = is_kind claimed k

abbrev pub united : (CProgram → Bool) → Site → Kind → Record → Record → Result Conclusion Code
united starts site Kind.Defined a b = union_defined_of site (starts site.program) a b
united starts site Kind.Invariant a b = union_invariant_of site a b
united starts site Kind.Unless a b = union_unless_of site a b
united starts site Kind.Ensures a b = union_ensures_of site a b
united starts site _ a b = Err Code.WrongKind

-- the program of a name
abbrev pub program_of : List CProgram → ℕ → Option CProgram
program_of programs name = find (λ c. nat_eq c.name name) programs

-- the instance of a record of another program
abbrev pub other_record : Site → List Record → (Kind → Bool) → Ref → Result Record Code
other_record site book serves r =
    go_on (found book r) (λ a.
    needs (not (nat_eq a.program site.program.name)) Code.OtherProgram
    (needs (serves a.kind) Code.WrongKind (instance_of site site.params a r.args)))

-- each program with a proof stands in the document
abbrev pub some_program : Option CProgram → Result CProgram Code
some_program None = Err Code.NoSuchStep
some_program (Some f) = Ok f

-- `superpose R`: from a record of the program below, over which the site's is a layer
abbrev pub superposed : Around → Site → CStep → List Record → Ref → Result Conclusion Code
superposed seen site step book r =
    go_on (other_record site book (is_kind step.kind) r) (λ a.
    go_on (some_program (program_of seen.programs a.program)) (λ f. superpose_of site f a))

-- by the rule
abbrev pub applied : Around → Site → CStep → List Record → CRule → Result Conclusion Code
applied seen site step book CRule.Text = text_of seen.starts site step step.kind
applied seen site step book (CRule.TextWith h) = ensures_of site step.p step.q h
applied seen site step book (CRule.WeakenStep r) =
    go_on (referred site site.params book (is_kind step.kind) r) (λ a. weaken_of site a step.q)
applied seen site step book (CRule.Pair which r s) =
    go_on (referred site site.params book (is_kind (pair_kinds which step.kind).0) r) (λ a.
    go_on (referred site site.params book (is_kind (pair_kinds which step.kind).1) s) (λ b.
    pair_by site step.kind which a b))
applied seen site step book (CRule.Union r s) =
    go_on (part_record site book (first_part site.program.parts) (serves_union step.kind) r) (λ a.
    go_on (part_record site book (second_part site.program.parts) (serves_after step.kind a.kind) s) (λ b.
    united seen.starts site step.kind a b))
applied seen site step book (CRule.Superpose r) = superposed seen site step book r
applied seen site step book (CRule.Complete r s t u) =
    go_on (referred site site.params book (is_kind Kind.Leadsto) r) (λ a.
    go_on (referred site site.params book (is_kind Kind.Unless) s) (λ b.
    go_on (referred site site.params book (is_kind Kind.Leadsto) t) (λ c.
    go_on (referred site site.params book (is_kind Kind.Unless) u) (λ d. complete_of site a b c d))))
applied seen site step book (CRule.Proof t) = proof_of site step book step.kind t

-- the derived p and q are the claimed ones
abbrev pub claims : CStep → Conclusion → Bool
claims step x = same_form x.made.p step.p && same_form x.made.q step.q

-- where a step of this program applies its rule, with U
abbrev pub step_site : List CSlot → CProgram → CStep → List CForm → Site
step_site slots c step using =
    record { program = c; slots = slots; params = step.params; name = step.name; using = using }

-- a step's row of the table, with all its conditions in order
unfoldable pub rule_of : Around → CProgram → CStep → List Record → Result Conclusion Code
rule_of seen c step book =
    needs (is_first step.kind || has_defined c.name book) Code.DefinedMissing
    (go_on (used c book step.using) (λ using.
    needs (suits seen.version step.rule step.kind) Code.WrongKind
    (go_on (applied seen (step_site seen.slots c step using) step book step.rule) (λ x.
    needs (claims step x) Code.ConclusionDiffers (Ok x)))))

-- steps taken so far: their records, what is left to be shown, and of each of these the place of its record
pub record Plan : Type 0 where
  pub records : List Record
  pub goals : List Goal
  pub owner : List ℕ

abbrev pub planned : Plan → Conclusion → Plan
planned plan x = record {
  records = plan.records ++ x.made ∷ [];
  goals = plan.goals ++ x.goals;
  owner = plan.owner ++ map (λ g. length plan.records) x.goals;
}

-- which step failed, by its program's and its own name; none at a proof's end
pub record Failure : Type 0 where
  pub code : Code
  pub program : ℕ
  pub step : Option ℕ

abbrev pub or_failure : {A : Type 0} → ℕ → Option ℕ → Result A Code → Result A Failure
or_failure program step (Ok x) = Ok x
or_failure program step (Err code) = Err (record { code = code; program = program; step = step })

abbrev pub further : {A B : Type 0} → Result A Failure → (A → Result B Failure) → Result B Failure
further (Ok x) f = f x
further (Err e) f = Err e

abbrev pub steps_of : Around → CProgram → List CStep → Plan → Result Plan Failure
steps_of seen c [] plan = Ok plan
steps_of seen c (s ∷ rest) plan =
    further (or_failure c.name (Some s.name) (rule_of seen c s plan.records)) (λ x.
    steps_of seen c rest (planned plan x))

-- a proof has a `defined` step
abbrev pub proof_end : CProgram → Plan → Result Plan Failure
proof_end c plan =
    or_failure c.name None (needs (has_defined c.name plan.records) Code.DefinedMissing (Ok plan))

abbrev pub proof_steps : Around → Option CProgram → CProof → Plan → Result Plan Failure
proof_steps seen None proof plan = Ok plan
proof_steps seen (Some c) proof plan = further (steps_of seen c proof.steps plan) (proof_end c)

abbrev pub proofs_of : Around → List CProof → Plan → Result Plan Failure
proofs_of seen [] plan = Ok plan
proofs_of seen (proof ∷ rest) plan =
    further (proof_steps seen (program_of seen.programs proof.program) proof plan) (proofs_of seen rest)

-- all steps of all proofs, or the first failure
abbrev pub walk_of : CDocument → (CProgram → Bool) → Result Plan Failure
walk_of d starts = proofs_of (around_of d starts) d.proofs (record { records = []; goals = []; owner = [] })
