use Rattle.streamed_documents.proofs.Answers.{flaw_refused, nothing_passed}
use Rattle.streamed_documents.proofs.Hearings.{stays_for}
use Rattle.streamed_documents.proofs.Passing.{all_out}
use Rattle.streamed_documents.proofs.fronts.pass_behind.Goals as goal

pub returns-in-Some-clause-found : goal.returns-in-Some-clause-found
returns-in-Some-clause-found g c = λ bytes f d front version read on.
    flaw_refused c.args.w.now (g.S.Source.left c.args.src.now) bytes f front d read
    c.args.version version c.args.pending
    c.read_behind.new.pending c.in_ok-flaw.field-0 c.in_ok-flaw.ensures.behind c.in_ok-flaw.ensures.none c.in-Some.flaw
    c.in-Some.is

pub returns-in-Some-clause-end : goal.returns-in-Some-clause-end
returns-in-Some-clause-end g c =
    all_out c.args.w.now c.read_behind.new.w (g.S.Source.left c.args.src.now) (g.S.Source.left c.read_behind.new.src)
    c.in_ok-flaw.field-0 c.in_ok-flaw.ensures.end

pub returns-in-None-clause-found : goal.returns-in-None-clause-found
returns-in-None-clause-found g c = λ bytes f d front version read on.
    nothing_passed c.args.w.now (g.S.Source.left c.args.src.now) bytes f front d read
    c.args.version version c.args.pending
    c.read_behind.new.pending c.in_ok-flaw.field-0 c.in_ok-flaw.ensures.behind c.in_ok-flaw.ensures.none c.in-None.is on
    c.requires.ready

pub returns-in-None-clause-end : goal.returns-in-None-clause-end
returns-in-None-clause-end g c =
    all_out c.args.w.now c.read_behind.new.w (g.S.Source.left c.args.src.now) (g.S.Source.left c.read_behind.new.src)
    c.in_ok-flaw.field-0 c.in_ok-flaw.ensures.end

pub returns-in-None-clause-ready : goal.returns-in-None-clause-ready
returns-in-None-clause-ready g c = λ listener ready.
    stays_for listener c.args.pending c.read_behind.new.pending ready c.in_ok-flaw.ensures.ready
