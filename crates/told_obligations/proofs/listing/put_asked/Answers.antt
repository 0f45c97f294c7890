use Rattle.std.proofs.Common.{sym, ap}
use Rattle.schedule_replay.proofs.BufferLaws.{put_then, put_same}
use Rattle.told_obligations.specs.Listing.{asked_text}
use Rattle.told_obligations.proofs.listing.put_asked.Goals as goal

pub returns-in-Defined : goal.returns-in-Defined
returns-in-Defined g c =
    put_same (ap (λ asked. asked_text c.args.words.now asked c.args.statement.now) (sym c.in-Defined.is))
    (put_then c.put_instance.ensures c.put.ensures)

pub returns-in-Keeps : goal.returns-in-Keeps
returns-in-Keeps g c =
    put_same (ap (λ asked. asked_text c.args.words.now asked c.args.statement.now) (sym c.in-Keeps.is))
    (put_then c.put_instance-in-Keeps.ensures c.put-in-Keeps.ensures)

pub returns-in-Helps : goal.returns-in-Helps
returns-in-Helps g c =
    put_same (ap (λ asked. asked_text c.args.words.now asked c.args.statement.now) (sym c.in-Helps.is))
    (put_then c.put_instance-in-Helps.ensures c.put-in-Helps.ensures)

pub returns-in-Rests : goal.returns-in-Rests
returns-in-Rests g c =
    put_same (ap (λ asked. asked_text c.args.words.now asked c.args.statement.now) (sym c.in-Rests.is))
    (put_then c.put_instance-in-Rests.ensures c.put-in-Rests.ensures)

pub returns-in-Goes : goal.returns-in-Goes
returns-in-Goes g c =
    put_same (ap (λ asked. asked_text c.args.words.now asked c.args.statement.now) (sym c.in-Goes.is))
    (put_then (put_then c.put-in-Goes.ensures c.put_instance-in-Goes.ensures) c.put-in-Goes-2.ensures)
