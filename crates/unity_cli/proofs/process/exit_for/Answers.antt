use Rattle.std.proofs.Common.{◌≡◌, ◌∙◌, ℕ, List, Option, sym, ap, subst}
use Rattle.std.specs.Process.{exit_status}
use Rattle.cli_words.specs.Requests.{Request, asked}
use Rattle.unity_cli.specs.declared.status.Status.{Status}
use Rattle.unity_cli.specs.Status.{status_number}
use Rattle.unity_cli.specs.Answer.{IsSaidOf, IsAnswer, Tells}
use Rattle.unity_cli.specs.Exits.{ExitTells}
use Rattle.unity_cli.proofs.ExitLaws.{exit_has_text, exit_is_done, done_is_exit, exit_is_violated}
use Rattle.unity_cli.proofs.process.exit_for.Goals as goal

-- what was told of the bytes that the source had is told of those of its reader
exit_tells : (request : Option Request) (left given : Option (List ℕ)) (status : Status) (exit : ℕ)
    (old new : Option (List ℕ)) → left ≡ given → exit ≡ status_number status → Tells request left status old new →
    ExitTells request given exit
exit_tells request left given status exit old new same is told =
    record {
      status = status;
      text = told.text;
      number = is;
      answer = subst (λ l. IsAnswer request l status told.text)
          same told.answer;
    }

pub returns-clause-answer : goal.returns-clause-answer
returns-clause-answer g c = λ whole said.
    let same = ap g.R.Read.remaining c.new-src.ensures.reader in
    let is = c.from.ensures ∙ c.number.ensures in
    exit_tells (asked c.args.words.now) (g.R.Read.remaining c.new-src.result.reader)
    (g.R.Read.remaining c.args.reader) c.unity-status.result (exit_status c.from.result) _ _ same is
    (c.unity-status.ensures.answer (exit_has_text c.unity-status.result (exit_status c.from.result) is whole)
    (subst (IsSaidOf (asked c.args.words.now)) (sym same) said))

pub returns-clause-follows : goal.returns-clause-follows
returns-clause-follows g c = λ whole is_check bytes left.
    let same = ap g.R.Read.remaining c.new-src.ensures.reader in
    let is = c.from.ensures ∙ c.number.ensures in
    let follows = c.unity-status.ensures.follows
    (exit_has_text c.unity-status.result (exit_status c.from.result) is whole) is_check bytes (same ∙ left) in (
      λ zero. follows.0 (exit_is_done c.unity-status.result (exit_status c.from.result) is zero),
      λ f. done_is_exit c.unity-status.result (exit_status c.from.result) is (follows.1 f),
    )

pub returns-clause-safe : goal.returns-clause-safe
returns-clause-safe g c = λ zero is_check bytes d left is_document.
    c.unity-status.ensures.safe (exit_is_done c.unity-status.result (exit_status c.from.result)
    (c.from.ensures ∙ c.number.ensures) zero) is_check bytes d
    (ap g.R.Read.remaining c.new-src.ensures.reader ∙ left) is_document

pub returns-clause-runs : goal.returns-clause-runs
returns-clause-runs g c = λ zero is_check bytes d left is_document.
    c.unity-status.ensures.runs (exit_is_done c.unity-status.result (exit_status c.from.result)
    (c.from.ensures ∙ c.number.ensures) zero) is_check bytes d
    (ap g.R.Read.remaining c.new-src.ensures.reader ∙ left) is_document

pub returns-clause-starts : goal.returns-clause-starts
returns-clause-starts g c = λ zero is_check bytes d left is_document.
    c.unity-status.ensures.starts (exit_is_done c.unity-status.result (exit_status c.from.result)
    (c.from.ensures ∙ c.number.ensures) zero) is_check bytes d
    (ap g.R.Read.remaining c.new-src.ensures.reader ∙ left) is_document

pub returns-clause-kept : goal.returns-clause-kept
returns-clause-kept g c = λ ten is_watch bytes left.
    c.unity-status.ensures.kept (exit_is_violated c.unity-status.result (exit_status c.from.result)
    (c.from.ensures ∙ c.number.ensures) ten) is_watch bytes
    (ap g.R.Read.remaining c.new-src.ensures.reader ∙ left)
