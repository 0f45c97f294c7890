use Rattle.std.proofs.Common.{◌∙◌, inr, subst, arith}
use Rattle.unity_lexer.specs.Tokens.{AreInOrder}
use Rattle.unity_lexer.specs.Scans.{IsFrontError}
use Rattle.streamed_documents.specs.declared.fronts.Passage.{Passage}
use Rattle.streamed_documents.proofs.Answers.{found_from, drained_refused, found_at, long_found, long_out}
use Rattle.streamed_documents.proofs.Answers.{kept_same, rest_same, rest_from}
use Rattle.streamed_documents.proofs.Passing.{out_from, flaw_from, rest_of}
use Rattle.streamed_documents.proofs.sources.read_through.Goals as goal

pub pass_front-requires : goal.pass_front-requires
pass_front-requires g c =
    let same = c.read_front.ensures.passed.limit in
    record {
      orderly = record {
        order = subst (λ n. AreInOrder n c.read_front.new.w.at c.in-Ok.front.tokens) c.in_ok-w.ensures.at
            c.in-Ok.ensures.places;
        small = c.in-Ok.ensures.numbers;
        none = c.in-Ok.ensures.none;
      };
      limit = omega (arith, same, c.in_ok-w.ensures.limit, c.requires);
      none = c.in-Ok.ensures.end;
    }

pub returns-in-Ok-clause-found : goal.returns-in-Ok-clause-found
returns-in-Ok-clause-found g c =
    found_from c.in_ok-w.w c.read_front.new.w (g.S.Source.left c.args.src.now) (g.S.Source.left c.read_front.new.src)
    c.in-Ok.front c.args.most c.pass_front.result c.in_ok-w.ensures.held c.in_ok-w.ensures.at c.in_ok-w.ensures.limit
    c.read_front.ensures.passed c.in-Ok.ensures.front c.pass_front.ensures.found

pub returns-in-Ok-clause-end : goal.returns-in-Ok-clause-end
returns-in-Ok-clause-end g c =
    out_from c.in_ok-w.w c.read_front.new.w c.pass_front.new.w (g.S.Source.left c.args.src.now)
    (g.S.Source.left c.read_front.new.src) (g.S.Source.left c.pass_front.new.src) c.args.most c.pass_front.result
    c.in_ok-w.ensures.held c.in_ok-w.ensures.at c.in_ok-w.ensures.limit c.read_front.ensures.passed
    c.pass_front.ensures.end

pub returns-in-Ok-clause-rest : goal.returns-in-Ok-clause-rest
returns-in-Ok-clause-rest g c =
    rest_from c.in_ok-w.w c.read_front.new.w c.pass_front.new.w (g.S.Source.left c.args.src.now)
    (g.S.Source.left c.read_front.new.src) (g.S.Source.left c.pass_front.new.src) c.in_ok-w.ensures.held
    c.read_front.ensures.passed c.pass_front.ensures.passed

pub returns-in-Err-Fault-clause-found : goal.returns-in-Err-Fault-clause-found
returns-in-Err-Fault-clause-found g c = λ bytes left.
    let w = c.in_ok-w.w in
    let x = c.read_front.new.w in
    let a = g.S.Source.left c.args.src.now in
    let b = g.S.Source.left c.read_front.new.src in
    found_at c.args.most x.limit bytes (Passage.Refused c.in_ok-drained-in-Err-Fault.field-0)
    (c.read_front.ensures.passed.limit ∙ c.in_ok-w.ensures.limit)
    (drained_refused w x a b bytes c.in-Err-Fault.code c.in-Err-Fault.at c.in_ok-drained-in-Err-Fault.field-0
    c.in_ok-w.ensures.held c.in_ok-w.ensures.at c.read_front.ensures.passed left
    (λ all told. subst (IsFrontError w.limit all) c.in-Err-Fault.field-0-is
    (c.in-Err-Fault.ensures.error c.in_ok-w.ensures.at all told))
    (λ rest told. kept_same x.limit x.at rest _ c.in-Err-Fault.code _ c.in-Err-Fault.at
    c.in_ok-drained-in-Err-Fault.field-0 c.in-Err-Fault.code-is c.in-Err-Fault.at-is
    (c.in_ok-drained-in-Err-Fault.ensures.kept rest told)))

pub returns-in-Err-Fault-clause-end : goal.returns-in-Err-Fault-clause-end
returns-in-Err-Fault-clause-end g c =
    flaw_from c.in_ok-w.w c.read_front.new.w c.drained.new.w (g.S.Source.left c.args.src.now)
    (g.S.Source.left c.read_front.new.src) (g.S.Source.left c.drained.new.src) c.args.most
    c.in_ok-drained-in-Err-Fault.field-0 c.in_ok-w.ensures.held c.in_ok-w.ensures.at c.in_ok-w.ensures.limit
    c.read_front.ensures.passed c.in_ok-drained-in-Err-Fault.ensures.end

pub returns-in-Err-TooLong-clause-found : goal.returns-in-Err-TooLong-clause-found
returns-in-Err-TooLong-clause-found g c =
    long_found c.in_ok-w.w (g.S.Source.left c.args.src.now) c.args.most c.in_ok-w.ensures.held c.in_ok-w.ensures.at
    c.in_ok-w.ensures.limit (λ all told. subst (IsFrontError c.in_ok-w.w.limit all) c.in-Err-TooLong.field-0-is
    (c.in-Err-TooLong.ensures.error c.in_ok-w.ensures.at all told))

pub returns-in-Err-TooLong-clause-end : goal.returns-in-Err-TooLong-clause-end
returns-in-Err-TooLong-clause-end g c =
    inr (long_out c.in_ok-w.w (g.S.Source.left c.args.src.now) c.args.most c.in_ok-w.ensures.held c.in_ok-w.ensures.at
    c.in_ok-w.ensures.limit (λ all told. subst (IsFrontError c.in_ok-w.w.limit all) c.in-Err-TooLong.field-0-is
    (c.in-Err-TooLong.ensures.error c.in_ok-w.ensures.at all told)))

pub returns-in-Err-Fault-clause-rest : goal.returns-in-Err-Fault-clause-rest
returns-in-Err-Fault-clause-rest g c =
    rest_from c.in_ok-w.w c.read_front.new.w c.drained.new.w (g.S.Source.left c.args.src.now)
    (g.S.Source.left c.read_front.new.src) (g.S.Source.left c.drained.new.src) c.in_ok-w.ensures.held
    c.read_front.ensures.passed c.drained.ensures.passed

pub returns-in_err-drained-in-Err-Fault-clause-rest : goal.returns-in_err-drained-in-Err-Fault-clause-rest
returns-in_err-drained-in-Err-Fault-clause-rest g c =
    rest_from c.in_ok-w.w c.read_front.new.w c.drained.new.w (g.S.Source.left c.args.src.now)
    (g.S.Source.left c.read_front.new.src) (g.S.Source.left c.drained.new.src) c.in_ok-w.ensures.held
    c.read_front.ensures.passed c.drained.ensures.passed

pub returns-in-Err-TooLong-clause-rest : goal.returns-in-Err-TooLong-clause-rest
returns-in-Err-TooLong-clause-rest g c =
    rest_of c.in_ok-w.w c.read_front.new.w (g.S.Source.left c.args.src.now) (g.S.Source.left c.read_front.new.src)
    c.in_ok-w.ensures.held c.read_front.ensures.passed

pub returns-in-Err-Failed-clause-rest : goal.returns-in-Err-Failed-clause-rest
returns-in-Err-Failed-clause-rest g c =
    rest_of c.in_ok-w.w c.read_front.new.w (g.S.Source.left c.args.src.now) (g.S.Source.left c.read_front.new.src)
    c.in_ok-w.ensures.held c.read_front.ensures.passed

pub returns-clause-rest : goal.returns-clause-rest
returns-clause-rest g c =
    rest_of c.in_ok-w.w c.read_front.new.w (g.S.Source.left c.args.src.now) (g.S.Source.left c.read_front.new.src)
    c.in_ok-w.ensures.held c.read_front.ensures.passed

pub returns-in_err-w-clause-rest : goal.returns-in_err-w-clause-rest
returns-in_err-w-clause-rest g c = rest_same (g.S.Source.left c.args.src.now)
