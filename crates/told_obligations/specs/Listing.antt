-- The text of what is left to be shown: a line for each step, and for each of its obligations a line that says where
-- it comes from, and the script that asks a solver whether it can be false.
use Rattle.std.specs.Prelude.{ℕ, suc, zero, nat_eq, ◌+◌, cond, List, [], ◌∷◌, ◌++◌, Option, Some, None, slice_get, length}
use Rattle.std.specs.Prelude.{drop, codes, decimal, unwrap_or}
use Rattle.std.specs.List.{flat_map}
use Rattle.std.specs.Option.{option_map_or}
use Rattle.core_terms.specs.declared.programs.CSlot.{CSlot}
use Rattle.core_terms.specs.declared.programs.CStmt.{CStmt}
use Rattle.core_terms.specs.declared.documents.CStep.{CStep}
use Rattle.core_terms.specs.declared.documents.CProof.{CProof}
use Rattle.core_terms.specs.declared.documents.CDocument.{CDocument}
use Rattle.obligations.specs.declared.branches.Obligation.{Obligation}
use Rattle.fair_rounds.specs.declared.records.Record.{Record}
use Rattle.schedule_replay.specs.Lines.{word_text, instance_text}
use Rattle.proof_plans.specs.declared.plans.Plan.{Plan}
use Rattle.cli_texts.specs.Verdicts.{kind_text}
use Rattle.solver_scripts.specs.Scripts.{script_text}
use Rattle.told_obligations.specs.declared.origins.Asked.{Asked}
use Rattle.told_obligations.specs.declared.origins.Origin.{Origin}
use Rattle.told_obligations.specs.declared.listing.Listing.{Listing}

-- a document's words, variables and proofs, the record of each step, what is left to be shown with the number of its
-- step and its origin, and of each step its first byte and its line
pub record Told : Type 0 where
  pub words : List (List ℕ)
  pub slots : List CSlot
  pub proofs : List CProof
  pub records : List Record
  pub obligations : List Obligation
  pub owner : List ℕ
  pub origins : List Origin
  pub places : List ℕ
  pub lines : List ℕ

abbrev pub told_in : Listing → Told
told_in l = record {
  words = l.words.now;
  slots = l.slots.now;
  proofs = l.proofs.now;
  records = l.records.now;
  obligations = l.obligations.now;
  owner = l.owner.now;
  origins = l.origins.now;
  places = l.places.now;
  lines = l.lines.now;
}

-- of a document with this plan
abbrev pub told_of : CDocument → Plan → List Origin → List ℕ → List ℕ → Told
told_of d plan origins places lines = record {
  words = d.words;
  slots = d.slots;
  proofs = d.proofs;
  records = plan.records;
  obligations = plan.obligations;
  owner = plan.owner;
  origins = origins;
  places = places;
  lines = lines;
}

-- what is asked of an instance
abbrev pub asked_text : List (List ℕ) → Asked → CStmt → List ℕ
asked_text words Asked.Defined s = instance_text words s ++ codes " is defined"
asked_text words Asked.Keeps s = instance_text words s ++ codes " keeps it"
asked_text words Asked.Goes s = codes "after " ++ instance_text words s ++ codes " the left or the right side holds"
asked_text words Asked.Helps s = instance_text words s ++ codes " helps"
asked_text words Asked.Rests s = instance_text words s ++ codes " leaves the state as it is"

-- the invariant that a union keeps
abbrev pub kept_text : List (List ℕ) → Option ℕ → List ℕ
kept_text words None = codes "what is used is kept by the union"
kept_text words (Some name) = word_text words name ++ codes " is kept by the union"

abbrev pub origin_text : List (List ℕ) → Origin → List ℕ
origin_text words (Origin.Of asked s) = asked_text words asked s
origin_text words Origin.Start = codes "start"
origin_text words Origin.Meant = codes "some statement is meant"
origin_text words Origin.Given = codes "left side gives right side"
origin_text words Origin.LeftSide = codes "left side"
origin_text words Origin.RightSide = codes "right side"
origin_text words Origin.Measure = codes "the metric is in range"
origin_text words (Origin.Shown name) = kept_text words name
origin_text words (Origin.Begins layer below) =
    word_text words layer ++ codes " begins where " ++ word_text words below ++ codes " may"

abbrev pub known_origin : List (List ℕ) → Option Origin → List ℕ
known_origin words None = []
known_origin words (Some origin) = origin_text words origin

-- `PROGRAM.STEP`
abbrev pub name_text : List (List ℕ) → Record → List ℕ
name_text words r = word_text words r.program ++ codes "." ++ word_text words r.name

-- the line of the step of this number, from 0
abbrev pub step_line : Told → ℕ → Record → List ℕ
step_line t number r =
    codes "; step " ++ name_text t.words r ++ codes " byte " ++ decimal (unwrap_or (slice_get t.places number) 0)
    ++ codes " line " ++ decimal (unwrap_or (slice_get t.lines number) 0) ++ kind_text r.kind r.bound

-- the line of the obligation of this number, from 0
abbrev pub obligation_line : Told → Record → ℕ → List ℕ
obligation_line t r number =
    codes "; obligation " ++ decimal (number + 1) ++ codes " " ++ name_text t.words r ++ codes " "
    ++ known_origin t.words (slice_get t.origins number) ++ codes "\n"

-- and its script, where parameters have these names
abbrev pub known_text : Told → Record → List ℕ → ℕ → Obligation → List ℕ
known_text t r params number o =
    obligation_line t r number ++ script_text t.words t.slots params o

abbrev pub obligation_text : Told → Record → List ℕ → ℕ → List ℕ
obligation_text t r params number =
    option_map_or (known_text t r params number) (slice_get t.obligations number) []

-- so many obligations, from this number on
abbrev pub obligations_from : Told → Record → List ℕ → ℕ → ℕ → List ℕ
obligations_from t r params number zero = []
obligations_from t r params number (suc count) =
    obligation_text t r params number ++ obligations_from t r params (suc number) count

-- how many obligations are the step's of this number, before the first of another
abbrev pub own : ℕ → List ℕ → ℕ
own step [] = 0
own step (owner ∷ owners) = cond (nat_eq owner step) (suc (own step owners)) 0

-- a step, the first number of its obligations, and what follows it
abbrev pub step_text : Told → ℕ → ℕ → CStep → (ℕ → ℕ → List ℕ) → Record → List ℕ
step_text t step number s next r =
    step_line t step r ++ (obligations_from t r s.param_names number (own step (drop number t.owner))
    ++ next (step + 1) (number + own step (drop number t.owner)))

-- steps, from the step and the obligation of these numbers on
abbrev pub steps_text : Told → ℕ → ℕ → List CStep → List ℕ
steps_text t step number [] = []
steps_text t step number (s ∷ rest) =
    option_map_or (step_text t step number s (λ i n. steps_text t i n rest)) (slice_get t.records step) []

-- how many steps and obligations there are, and which logic the scripts are in
abbrev pub first_lines : Told → List ℕ
first_lines t =
    codes "; unity obligations: " ++ decimal (length t.records) ++ codes " steps "
    ++ decimal (length t.obligations) ++ codes " obligations\n(set-logic ALL)\n"

abbrev pub all_steps : List CProof → List CStep
all_steps proofs = flat_map (λ (p : CProof). p.steps) proofs

-- all that is left to be shown
abbrev pub obligations_text : Told → List ℕ
obligations_text t = first_lines t ++ steps_text t 0 0 (all_steps t.proofs)
