-- What `obligations` answers.
use Rattle.std.specs.Prelude.{◌≡◌, ℕ, List, map, Ok, Err}
use Rattle.unity_syntax.specs.declared.document.Document.{Document}
use Rattle.fixed_correct.specs.from_expand_documents.Cores.{core_document}
use Rattle.cli_texts.specs.from_proof_plans.declared.plans.Plan.{Plan}
use Rattle.cli_texts.specs.from_proof_plans.Reaching.{Stop, reach_of}
use Rattle.cli_texts.specs.Verdicts.{rejected_text}
use Rattle.streamed_documents.specs.Places.{step_places}
use Rattle.told_obligations.specs.Origins.{document_origins}
use Rattle.told_obligations.specs.Places.{line_of}
use Rattle.told_obligations.specs.Listing.{obligations_text, told_of}
use Rattle.unity_cli.specs.declared.status.Status.{Status}
use Rattle.unity_cli.specs.Admitted.{greatest_bare_size, IsAdmitted, IsBad}

-- what is left to be shown of a document with this plan: with the origin of each obligation, and the first byte of each
-- step's name and its line
abbrev pub told_text : List ℕ → Document → Plan → List ℕ
told_text bytes d plan =
    obligations_text (told_of (core_document d) plan (document_origins (core_document d) plan.records) (step_places d)
    (map (line_of bytes) (step_places d)))

-- each step follows its rule, and each proof has its `defined` step: this is left to be shown
pub record IsListed (bytes : List ℕ) (text : List ℕ) : Type 0 where
  pub document : Document
  pub read : IsAdmitted greatest_bare_size bytes document
  pub plan : Plan
  pub planned : reach_of (core_document document) ≡ Ok plan
  pub text_is : text ≡ told_text bytes document plan

-- this is the first step that does not follow its rule, or the first proof without a `defined` step
pub record IsStopped (bytes : List ℕ) (text : List ℕ) : Type 0 where
  pub document : Document
  pub read : IsAdmitted greatest_bare_size bytes document
  pub stop : Stop
  pub planned : reach_of (core_document document) ≡ Err stop
  pub text_is : text ≡ rejected_text (core_document document).words stop.fault

-- what `obligations` answers for these bytes
abbrev pub Listed : List ℕ → Status → List ℕ → Type 0
Listed bytes Status.Done text = IsListed bytes text
Listed bytes Status.Rejected text = IsStopped bytes text
Listed bytes Status.BadDocument text = IsBad greatest_bare_size bytes text
Listed bytes status text = ⊥
