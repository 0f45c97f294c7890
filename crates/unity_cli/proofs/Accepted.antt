-- What an accepted document claims is true, and its programs have executions.
use Rattle.std.proofs.Common.{◌≡◌, ◌↔◌, ℕ, ◌≤◌, List, Ok, refl, sym, ap, subst, arith}
use Rattle.unity_syntax.specs.declared.document.Document.{Document}
use Rattle.unity_syntax.specs.Classes.{terminals, says_later}
use Rattle.core_terms.specs.Conditions.{IsCoreDocument}
use Rattle.executor.specs.StartState.{start_state}
use Rattle.fixed_correct.specs.from_expand_documents.Cores.{core_document}
use Rattle.streamed_documents.proofs.lemmas_from_expand_fits.Parsed.Reading.{read_cores}
use Rattle.unity_parser.specs.Document.{IsDocument}
use Rattle.unity_parser.proofs.Readings.{one_document}
use Rattle.cli_texts.specs.from_proof_plans.Giving.{AreWhole}
use Rattle.cli_texts.specs.from_proof_plans.declared.plans.Plan.{Plan}
use Rattle.cli_texts.specs.from_proof_plans.Following.{Follows}
use Rattle.cli_texts.specs.from_proof_plans.Laws.{IsValidPlan}
use Rattle.cli_texts.specs.from_proof_plans.Verdicts.{verdict_of}
use Rattle.cli_texts.specs.from_rules_steps.Starts.{starts_in}
use Rattle.cli_texts.proofs.lemmas_from_proof_plans.FollowLaws.{accepted_follows}
use Rattle.cli_texts.proofs.lemmas_from_proof_plans.VerdictLaws.{accepted_valid}
use Rattle.soundness.specs.Properties.{IsValidlyPlanned as IsProvedBy}
use Rattle.soundness.specs.Written.{AreClaims}
use Rattle.soundness.proofs.Words.{claims_are_written}
use Rattle.soundness.proofs.Claims.{each_claim_is_true}
use Rattle.soundness.proofs.Starts.{executions_exist}
use Rattle.soundness.specs.Layers.{LayersCarry}
use Rattle.soundness.proofs.LayerRuns.{superposed_project}
use Rattle.cli_texts.specs.Verdicts.{accepted_text}
use Rattle.soundness.specs.Told.{TellsClaims}
use Rattle.soundness.proofs.Lines.{accepted_tells}
use Rattle.certificate_reading.specs.Certificates.{certificates_of}
use Rattle.certificate_reading.proofs.Whole.{are_whole_trees}
use Rattle.unity_cli.specs.Admitted.{greatest_size, IsAdmitted}
use Rattle.unity_cli.specs.Answer.Check.{IsAccepted}
use Rattle.unity_cli.specs.Truth.{ClaimsAreTrue, ProgramsRun}
use Rattle.unity_cli.specs.Starts.{ProgramsStart}
use Rattle.unity_cli.specs.Following.{FollowsTheRules}
use Rattle.unity_cli.specs.Laws.{FollowedCarry}

-- the core form of what was read meets all conditions on core documents
pub read_core : (most : ℕ) → most ≤ greatest_size → (bytes : List ℕ) (d : Document) → IsAdmitted most bytes d →
    IsCoreDocument (core_document d)
read_core most h bytes d r =
    let few = r.size in
    read_cores bytes d (omega (arith, few, h)) r.reading.is_document r.reading.named r.reading.expands

-- its certificates are whole trees
pub read_whole : (most : ℕ) (bytes : List ℕ) (d : Document) → IsAdmitted most bytes d → AreWhole (certificates_of d)
read_whole most bytes d r = are_whole_trees bytes d r.reading.is_document

claims_written : (bytes : List ℕ) (d : Document) → IsAdmitted greatest_size bytes d → AreClaims d
claims_written bytes d r =
    claims_are_written d (terminals (says_later r.reading.is_document.tokens) bytes r.reading.is_document.tokens)
    r.reading.is_document.parsed.0

-- the verdict is a plan exactly where the document follows
rules_followed : (bytes : List ℕ) (d : Document) → IsAdmitted greatest_size bytes d →
    ((plan : Plan) × (verdict_of (core_document d) (certificates_of d) ≡ Ok plan)) ↔
    Follows (core_document d) (certificates_of d)
rules_followed bytes d r =
    accepted_follows (core_document d) (certificates_of d) (read_core greatest_size (omega arith) bytes d r)
    (read_whole greatest_size bytes d r)

pub accepted_follow : (bytes text : List ℕ) → IsAccepted bytes text → FollowsTheRules bytes
accepted_follow bytes text a = record {
  document = a.document;
  read = a.read;
  follows = (rules_followed bytes a.document a.read).0 (a.plan, a.verdict);
}

pub followed_accepts : (bytes : List ℕ) → FollowsTheRules bytes → (text : List ℕ) × IsAccepted bytes text
followed_accepts bytes f =
    let verdict = (rules_followed bytes f.document f.read).1 f.follows in (
      accepted_text (core_document f.document).words verdict.0,
      record { document = f.document; read = f.read; plan = verdict.0; verdict = verdict.1; text_is = refl },
    )

pub valid_by : (bytes text : List ℕ) (a : IsAccepted bytes text) →
    IsValidPlan (core_document a.document) (certificates_of a.document) a.plan
valid_by bytes text a =
    accepted_valid (core_document a.document) (certificates_of a.document) a.plan
    (read_core greatest_size (omega arith) bytes a.document a.read) a.verdict

pub proved_by : (bytes text : List ℕ) (a : IsAccepted bytes text) →
    IsProvedBy a.document (starts_in (core_document a.document).slots) (valid_by bytes text a).steps
proved_by bytes text a = record {
  named = a.read.reading.named;
  faultless = a.read.reading.expands;
  core = read_core greatest_size (omega arith) bytes a.document a.read;
  walked = (valid_by bytes text a).walked;
  valid = (valid_by bytes text a).valid;
}

claims_true : (bytes text : List ℕ) (a : IsAccepted bytes text) → ClaimsAreTrue a.document
claims_true bytes text a place at proof part number step there =
    let told = each_claim_is_true a.document (starts_in (core_document a.document).slots)
    (valid_by bytes text a).steps
    (proved_by bytes text a) (claims_written bytes a.document a.read) place at proof part number step there in
    (told.1.bound, told.3.claims)

programs_run : (bytes text : List ℕ) (a : IsAccepted bytes text) → ProgramsRun a.document
programs_run bytes text a place at proof part =
    let e = executions_exist a.document (valid_by bytes text a).steps (proved_by bytes text a) place at proof part in
    record {
      program = e.program;
      named = e.is_core.source;
      first = start_state (core_document a.document).slots e.core;
      initial = e.initial;
      runs = e.runs;
    }

programs_start : (bytes text : List ℕ) (a : IsAccepted bytes text) → ProgramsStart a.document
programs_start bytes text a place at proof part =
    let e = executions_exist a.document (valid_by bytes text a).steps (proved_by bytes text a) place at proof part in
    record { program = e.program; core = e.core; is_core = e.is_core; initial = e.initial }

tells_true : (bytes text : List ℕ) (a : IsAccepted bytes text) → TellsClaims a.document text
tells_true bytes text a =
    let plan = valid_by bytes text a in
    subst (TellsClaims a.document) (sym a.text_is)
    (accepted_tells a.document (starts_in (core_document a.document).slots) plan.steps a.plan
    (proved_by bytes text a) (claims_written bytes a.document a.read) (ap (λ p. p.records) plan.planned))

pub accepted_tells_true : (bytes text : List ℕ) (d : Document) → IsAccepted bytes text → IsDocument bytes d →
    TellsClaims d text
accepted_tells_true bytes text d a r =
    subst (λ e. TellsClaims e text) (one_document bytes a.document d a.read.reading.is_document r)
    (tells_true bytes text a)

pub accepted_true : (bytes text : List ℕ) (d : Document) → IsAccepted bytes text → IsDocument bytes d → ClaimsAreTrue d
accepted_true bytes text d a r =
    subst ClaimsAreTrue (one_document bytes a.document d a.read.reading.is_document r)
    (claims_true bytes text a)

pub accepted_runs : (bytes text : List ℕ) (d : Document) → IsAccepted bytes text → IsDocument bytes d → ProgramsRun d
accepted_runs bytes text d a r =
    subst ProgramsRun (one_document bytes a.document d a.read.reading.is_document r)
    (programs_run bytes text a)

pub accepted_starts : (bytes text : List ℕ) (d : Document) → IsAccepted bytes text → IsDocument bytes d →
    ProgramsStart d
accepted_starts bytes text d a r =
    subst ProgramsStart (one_document bytes a.document d a.read.reading.is_document r) (programs_start bytes text a)

layers_carry : (bytes text : List ℕ) (a : IsAccepted bytes text) → LayersCarry a.document
layers_carry bytes text a =
    superposed_project a.document (starts_in (core_document a.document).slots) (valid_by bytes text a).steps
    (proved_by bytes text a)

pub followed_carry : FollowedCarry
followed_carry bytes d f r =
    let a = followed_accepts bytes f in
    subst LayersCarry (one_document bytes a.1.document d a.1.read.reading.is_document r) (layers_carry bytes a.0 a.1)
