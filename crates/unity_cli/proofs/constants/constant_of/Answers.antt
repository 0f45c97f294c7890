use Rattle.std.proofs.Common.{ap, sym}
use Rattle.cli_words.specs.Requests.{meant}
use Rattle.unity_cli.specs.Answer.Constants.{constant_text, help_text, version_text}
use Rattle.unity_cli.proofs.constants.constant_of.Goals as goal

pub returns-in-Help : goal.returns-in-Help
unfolding help_text
returns-in-Help c = sym (ap (λ command. constant_text (meant command)) c.in-Help.is)

pub returns-in-Version : goal.returns-in-Version
unfolding version_text
returns-in-Version c = sym (ap (λ command. constant_text (meant command)) c.in-Version.is)
