-- What `upgrade` answers.
use Rattle.std.specs.Prelude.{◌≡◌, ◌≤◌, ℕ, List, length}
use Rattle.unity_syntax.specs.declared.document.Document.{Document}
use Rattle.plain_quotients.specs.from_upgraded_texts.Upgraded.{upgraded_text}
use Rattle.unity_cli.specs.declared.status.Status.{Status}
use Rattle.unity_cli.specs.Admitted.{greatest_bare_size, IsAdmitted, IsBad}
use Rattle.unity_cli.specs.Answer.Check.{IsAccepted, IsRejected}

-- `check` accepts the document, and of its text with a `2` as the version's number it writes the same
pub record IsUpgraded (bytes : List ℕ) (text : List ℕ) : Type 0 where
  pub document : Document
  pub read : IsAdmitted greatest_bare_size bytes document
  pub verdict : List ℕ
  pub accepted : IsAccepted bytes verdict
  pub text_is : text ≡ upgraded_text bytes document
  pub again : IsAccepted text verdict

-- what `upgrade` answers for these bytes: what `check` does, but for the text where it accepts them
abbrev pub Upgraded : List ℕ → Status → List ℕ → Type 0
Upgraded bytes Status.Done text = IsUpgraded bytes text
Upgraded bytes Status.Rejected text = (length bytes ≤ greatest_bare_size) × IsRejected bytes text
Upgraded bytes Status.BadDocument text = IsBad greatest_bare_size bytes text
Upgraded bytes status text = ⊥
