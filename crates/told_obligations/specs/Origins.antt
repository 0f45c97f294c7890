-- Which part of its step's rule each obligation of a step is, in the order in which the rules leave them.
use Rattle.std.specs.Prelude.{ℕ, nat_eq, Bool, ◌&&◌, cond, List, [], ◌∷◌, ◌++◌, map, filter, find, Option}
use Rattle.std.specs.List.{flat_map}
use Rattle.std.specs.Option.{option_map, option_map_or}
use Rattle.case_tables.specs.declared.kind_table.Kind.{Kind}
use Rattle.core_terms.specs.Trees.{same_form}
use Rattle.core_terms.specs.declared.trees.CForm.{CForm}
use Rattle.core_terms.specs.declared.trees.CForm.TheVariants.{Bottom}
use Rattle.core_terms.specs.declared.programs.CStmt.{CStmt}
use Rattle.core_terms.specs.declared.programs.CProgram.{CProgram}
use Rattle.core_terms.specs.declared.documents.Helper.{Helper}
use Rattle.core_terms.specs.declared.documents.Ref.{Ref}
use Rattle.core_terms.specs.declared.documents.PTerm.{PTerm, fold-PTerm}
use Rattle.core_terms.specs.declared.documents.PTerm.TheOpen.{PTerm-F}
use Rattle.core_terms.specs.declared.documents.CRule.{CRule}
use Rattle.core_terms.specs.declared.documents.CStep.{CStep}
use Rattle.core_terms.specs.declared.documents.CProof.{CProof}
use Rattle.core_terms.specs.declared.documents.CDocument.{CDocument}
use Rattle.fair_rounds.specs.declared.records.Record.{Record}
use Rattle.safety_rules.specs.from_rules_table.Table.{is_invariant, names_some}
use Rattle.safety_rules.specs.from_rules_table.Walk.{program_of}
use Rattle.safety_rules.specs.Helpers.{may_mean}
use Rattle.told_obligations.specs.declared.origins.Asked.{Asked}
use Rattle.told_obligations.specs.declared.origins.Origin.{Origin}

-- the same is asked of each instance
abbrev pub each : Asked → List CStmt → List Origin
each asked statements = map (Origin.Of asked) statements

-- of an unless that never ends, that p is kept
abbrev pub passing : CForm → Asked
passing q = cond (same_form q Bottom) Asked.Keeps Asked.Goes

-- by the program's text
abbrev pub text_origins : Kind → CForm → List CStmt → List Origin
text_origins Kind.Defined q statements = each Asked.Defined statements
text_origins Kind.Invariant q statements = Origin.Start ∷ each Asked.Keeps statements
text_origins Kind.Unless q statements = each (passing q) statements
text_origins Kind.Fixed q statements = each Asked.Rests statements
text_origins _ q statements = []

-- with a statement that helps
abbrev pub helped_origins : Helper → List CStmt → List Origin
helped_origins h statements =
    each Asked.Goes statements ++ (cond (names_some h.args) (Origin.Meant ∷ []) []
    ++ each Asked.Helps (filter (may_mean h) statements))

-- an invariant claims this formula
abbrev pub claims : CForm → Record → Bool
claims f a = is_invariant a.kind && same_form a.p f

abbrev pub invariant_of : List Record → CForm → Option ℕ
invariant_of records f = option_map (λ a. a.name) (find (claims f) records)

abbrev pub shown : List Record → CForm → Origin
shown records f = Origin.Shown (invariant_of records f)

-- of a union: what the step of a part was proved under
abbrev pub part_origins : List Record → Ref → List Origin
part_origins records r =
    option_map_or (λ a. map (shown records) a.under)
    (find (λ a. nat_eq a.program r.program && nat_eq a.name r.step) records) []

-- of a proof term: those of its parts first
abbrev pub term_step : PTerm-F (List Origin) → List Origin
term_step (PTerm-F.Imply p q) = Origin.Given ∷ []
term_step (PTerm-F.From r) = []
term_step (PTerm-F.Trans t u) = t ++ u
term_step (PTerm-F.Either t u) = t ++ u
term_step (PTerm-F.Exists m range t) = t
term_step (PTerm-F.Induct m range measure p q t) = t ++ Origin.Measure ∷ []
term_step (PTerm-F.Psp t r) = t
term_step (PTerm-F.Weaken p q t) = t ++ Origin.LeftSide ∷ Origin.RightSide ∷ []

abbrev pub term_origins : PTerm → List Origin
term_origins = fold-PTerm (List Origin) term_step

-- by its rule
abbrev pub rule_origins : CProgram → List Record → Kind → CForm → CRule → List Origin
rule_origins c records kind q CRule.Text = text_origins kind q c.statements
rule_origins c records kind q (CRule.TextWith h) = helped_origins h c.statements
rule_origins c records kind q (CRule.WeakenStep r) = Origin.RightSide ∷ []
rule_origins c records kind q (CRule.Pair which r s) = []
rule_origins c records kind q (CRule.Union r s) = part_origins records r ++ part_origins records s
rule_origins c records kind q (CRule.Superpose r) = Origin.Begins c.name r.program ∷ []
rule_origins c records kind q (CRule.Complete r s t u) = []
rule_origins c records kind q (CRule.Proof t) = term_origins t

abbrev pub step_origins : CProgram → List Record → CStep → List Origin
step_origins c records s = rule_origins c records s.kind s.q s.rule

abbrev pub proof_origins : List CProgram → List Record → CProof → List Origin
proof_origins programs records proof =
    option_map_or (λ c. flat_map (step_origins c records) proof.steps) (program_of programs proof.program) []

-- of all steps of a document, which gave these records
abbrev pub document_origins : CDocument → List Record → List Origin
document_origins d records = flat_map (proof_origins d.programs records) d.proofs
