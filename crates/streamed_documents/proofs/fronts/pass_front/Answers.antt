use Rattle.std.proofs.Common.{◌≡◌, subst, arith}
use Rattle.streamed_documents.specs.declared.fronts.Opened.{Opened}
use Rattle.streamed_documents.specs.Fronts.{IsOpening, MayGoOn}
use Rattle.streamed_documents.proofs.Answers.{fault_refused, found_behind, front_whole, passage_for}
use Rattle.streamed_documents.proofs.Hearings.{ready_may}
use Rattle.streamed_documents.proofs.Passing.{flaw_out}
use Rattle.streamed_documents.proofs.fronts.pass_front.Goals as goal

pub open_front-requires : goal.open_front-requires
open_front-requires g c =
    let inside = c.args.w.now.in_limit in
    (c.args.w.now.at, omega (arith, inside, c.requires.limit), c.requires.orderly)

pub returns-in_ok-skimmed-in-Fault-clause-found : goal.returns-in_ok-skimmed-in-Fault-clause-found
returns-in_ok-skimmed-in-Fault-clause-found g c = λ bytes front.
    let is : c.in_ok-code.field-0 ≡ Opened.Fault c.in-Fault.code c.in-Fault.at = cc in
    fault_refused c.args.w.now (g.S.Source.left c.args.src.now) bytes c.args.front front c.in-Fault.code c.in-Fault.at
    c.in_ok-skimmed-in-Fault.field-0 (subst (IsOpening c.args.front) is c.in_ok-code.ensures.opened)
    c.in_ok-skimmed-in-Fault.ensures.skimmed

pub returns-in_ok-skimmed-in-Fault-clause-end : goal.returns-in_ok-skimmed-in-Fault-clause-end
returns-in_ok-skimmed-in-Fault-clause-end g c =
    flaw_out c.args.w.now c.skimmed.new.w (g.S.Source.left c.args.src.now) (g.S.Source.left c.skimmed.new.src)
    c.in_ok-skimmed-in-Fault.field-0 c.in_ok-skimmed-in-Fault.ensures.end

pub pass_behind-requires : goal.pass_behind-requires
pass_behind-requires g c =
    let is : c.in_ok-code.field-0 ≡ Opened.Document c.in-Document.version c.in-Document.pending = cc in
    let opened = subst (IsOpening c.args.front) is c.in_ok-code.ensures.opened in
    let may = subst (MayGoOn c.args.listener) is c.in_ok-code.ensures.ready in
    record {
      version = may.1;
      none = λ none. c.requires.none (front_whole c.args.front c.in-Document.version opened.0 none);
      ready = ready_may c.args.listener c.in-Document.pending may.0;
    }

pub returns-in-Document-clause-found : goal.returns-in-Document-clause-found
returns-in-Document-clause-found g c =
    let is : c.in_ok-code.field-0 ≡ Opened.Document c.in-Document.version c.in-Document.pending = cc in
    found_behind c.args.w.now (g.S.Source.left c.args.src.now) c.args.front c.in-Document.version c.in-Document.pending
    c.pass_behind.result (subst (IsOpening c.args.front) is c.in_ok-code.ensures.opened) c.pass_behind.ensures.found

pub returns-in-Document-clause-ready : goal.returns-in-Document-clause-ready
returns-in-Document-clause-ready g c =
    let is : c.in_ok-code.field-0 ≡ Opened.Document c.in-Document.version c.in-Document.pending = cc in
    let may = subst (MayGoOn c.args.listener) is c.in_ok-code.ensures.ready in
    passage_for c.args.listener c.in-Document.pending c.pass_behind.result c.pass_behind.ensures.ready may.0
