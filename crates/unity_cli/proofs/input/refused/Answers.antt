use Rattle.std.proofs.Common.{subst}
use Rattle.streamed_documents.specs.Found.{IsRefused}
use Rattle.unity_cli.proofs.input.refused.Goals as goal

pub returns-in-TooLong : goal.returns-in-TooLong
returns-in-TooLong c = λ most bytes h. subst (IsRefused most bytes) c.in-TooLong.is h

pub returns-in-Fault : goal.returns-in-Fault
returns-in-Fault c = λ most bytes h. subst (IsRefused most bytes) c.in-Fault.is h
