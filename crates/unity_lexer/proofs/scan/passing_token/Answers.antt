use Rattle.std.proofs.Common.{◌≡◌, [], refl, ◌∙◌, arith}
use Rattle.unity_lexer.specs.declared.ahead.Next.TheVariants as next
use Rattle.unity_lexer.specs.declared.piece.Piece.TheVariants as pieces
use Rattle.unity_lexer.proofs.Blanks.{blanks_passed, blanks_reading}
use Rattle.unity_lexer.proofs.ScanSteps.{read_reading, read_passed, passed_then}
use Rattle.unity_lexer.proofs.ScanSteps.{turn_passed}
use Rattle.unity_lexer.proofs.ScanSteps.{gap_reading, comment_reading, token_scan, fault_scan, end_scan, result_then}
use Rattle.unity_lexer.proofs.ScanSteps.{ahead_is, held_is, rises_then}
use Rattle.unity_lexer.proofs.scan.passing_token.Goals as goal

pub gaps-init : goal.gaps-init
gaps-init g c =
    let u = c.args.w.now in
    let w = c.skip_blanks.new.w in
    let a = g.S.Source.left c.args.src.now in
    record {
      passed = blanks_passed u w a c.skip_blanks.ensures;
      same = refl;
      reads = blanks_reading u w a c.skip_blanks.ensures;
    }

pub gaps-preserved-in-Piece-Gap : goal.gaps-preserved-in-Piece-Gap
gaps-preserved-in-Piece-Gap g c =
    let u = c.args.w.now in
    let w = c.next_piece.new.w in
    let x = c.skip.new.self in
    let a = g.S.Source.left c.args.src.now in
    let b = g.S.Source.left c.gaps.src in
    let left = g.S.Source.left c.next_piece.new.src in
    let size = c.in-Piece-Gap.size in
    let is : c.in_ok-size.field-0 ≡ next.Piece (pieces.Gap size) = cc in
    let held = held_is w left _ _ is c.in_ok-size.ensures.held in
    let r = read_reading u c.gaps.w w a b left [] c.gaps.invariant.reads c.next_piece.ensures.read in
    record {
      passed = turn_passed u c.gaps.w w x a b left size c.gaps.invariant.passed c.next_piece.ensures.read held.1
          c.skip.ensures.dropped;
      same = c.in_ok-size.ensures.cause.same refl ∙ c.gaps.invariant.same;
      reads = gap_reading u w x a left left [] r size held.1 c.skip.ensures.dropped
          (ahead_is w left _ _ is c.in_ok-size.ensures.ahead);
    }

pub returns-in-Piece-Token-clause-scan : goal.returns-in-Piece-Token-clause-scan
returns-in-Piece-Token-clause-scan g c =
    let u = c.args.w.now in
    let w = c.next_piece.new.w in
    let a = g.S.Source.left c.args.src.now in
    let b = g.S.Source.left c.gaps.src in
    let left = g.S.Source.left c.next_piece.new.src in
    let kind = c.in-Piece-Token.kind in
    let size = c.in-Piece-Token.size in
    let is : c.in_ok-size.field-0 ≡ next.Piece (pieces.Token kind size) = cc in
    let held = held_is w left _ _ is c.in_ok-size.ensures.held in
    let r = read_reading u c.gaps.w w a b left [] c.gaps.invariant.reads c.next_piece.ensures.read in
    token_scan u w c.held_token.new.w a left kind size c.held_token.result r held.1 c.held_token.ensures.dropped
    (ahead_is w left _ _ is c.in_ok-size.ensures.ahead) c.held_token.ensures.token

pub returns-in-Piece-Token-clause-passed : goal.returns-in-Piece-Token-clause-passed
returns-in-Piece-Token-clause-passed g c =
    let w = c.next_piece.new.w in
    let left = g.S.Source.left c.next_piece.new.src in
    let size = c.in-Piece-Token.size in
    let is : c.in_ok-size.field-0 ≡ next.Piece (pieces.Token c.in-Piece-Token.kind size) = cc in
    let held = held_is w left _ _ is c.in_ok-size.ensures.held in
    turn_passed c.args.w.now c.gaps.w w c.held_token.new.w (g.S.Source.left c.args.src.now)
    (g.S.Source.left c.gaps.src) left size c.gaps.invariant.passed c.next_piece.ensures.read held.1
    c.held_token.ensures.dropped

pub returns-in-Piece-Token-clause-rises : goal.returns-in-Piece-Token-clause-rises
returns-in-Piece-Token-clause-rises g c =
    let w = c.next_piece.new.w in
    let left = g.S.Source.left c.next_piece.new.src in
    let size = c.in-Piece-Token.size in
    let is : c.in_ok-size.field-0 ≡ next.Piece (pieces.Token c.in-Piece-Token.kind size) = cc in
    let held = held_is w left _ _ is c.in_ok-size.ensures.held in
    let some = held.0.1 in
    let passed = c.gaps.invariant.passed.at in
    let read = c.next_piece.ensures.read.at in
    let dropped = c.held_token.ensures.dropped.at in
    omega arith

pub returns-in-Piece-Fault-clause-scan : goal.returns-in-Piece-Fault-clause-scan
returns-in-Piece-Fault-clause-scan g c =
    let u = c.args.w.now in
    let w = c.next_piece.new.w in
    let a = g.S.Source.left c.args.src.now in
    let left = g.S.Source.left c.next_piece.new.src in
    let code = c.in-Piece-Fault.code in
    let is : c.in_ok-size.field-0 ≡ next.Piece (pieces.Fault code) = cc in
    let r = read_reading u c.gaps.w w a (g.S.Source.left c.gaps.src) left [] c.gaps.invariant.reads
    c.next_piece.ensures.read in
    fault_scan u w a left code c.at.result c.at.ensures r (ahead_is w left _ _ is c.in_ok-size.ensures.ahead)

pub returns-in_err-skip_comment-in-Comment-clause-passed : goal.returns-in_err-skip_comment-in-Comment-clause-passed
returns-in_err-skip_comment-in-Comment-clause-passed g c =
    let a = g.S.Source.left c.args.src.now in
    let left = g.S.Source.left c.next_piece.new.src in
    passed_then c.args.w.now c.next_piece.new.w c.skip_comment.new.w a left (g.S.Source.left c.skip_comment.new.src)
    (read_passed c.args.w.now c.gaps.w c.next_piece.new.w a (g.S.Source.left c.gaps.src) left
    c.gaps.invariant.passed c.next_piece.ensures.read) c.skip_comment.ensures.passed

pub returns-then-not-branch-clause-passed : goal.returns-then-not-branch-clause-passed
returns-then-not-branch-clause-passed g c =
    let a = g.S.Source.left c.args.src.now in
    let left = g.S.Source.left c.next_piece.new.src in
    passed_then c.args.w.now c.next_piece.new.w c.skip_comment.new.w a left (g.S.Source.left c.skip_comment.new.src)
    (read_passed c.args.w.now c.gaps.w c.next_piece.new.w a (g.S.Source.left c.gaps.src) left
    c.gaps.invariant.passed c.next_piece.ensures.read) c.skip_comment.ensures.passed

pub gaps-preserved : goal.gaps-preserved
gaps-preserved g c =
    let u = c.args.w.now in
    let w = c.next_piece.new.w in
    let x = c.skip_comment.new.w in
    let a = g.S.Source.left c.args.src.now in
    let b = g.S.Source.left c.gaps.src in
    let left = g.S.Source.left c.next_piece.new.src in
    let after = g.S.Source.left c.skip_comment.new.src in
    let is : c.in_ok-size.field-0 ≡ next.Comment = c.in-Comment.is in
    let r = read_reading u c.gaps.w w a b left [] c.gaps.invariant.reads c.next_piece.ensures.read in
    record {
      passed = passed_then u w x a left after
          (read_passed u c.gaps.w w a b left c.gaps.invariant.passed c.next_piece.ensures.read)
          c.skip_comment.ensures.passed;
      same = c.in_ok-skip_comment-in-Comment.ensures.cause.same refl ∙ (c.in_ok-size.ensures.cause.same refl
          ∙ c.gaps.invariant.same);
      reads = comment_reading u w x a left after [] r
          (c.in_ok-skip_comment-in-Comment.ensures.gap c.if-not-branch.false)
          (ahead_is w left _ _ is c.in_ok-size.ensures.ahead);
    }

pub returns-in-Word-clause-scan : goal.returns-in-Word-clause-scan
returns-in-Word-clause-scan g c =
    let u = c.args.w.now in
    let w = c.next_piece.new.w in
    let a = g.S.Source.left c.args.src.now in
    let b = g.S.Source.left c.gaps.src in
    let left = g.S.Source.left c.next_piece.new.src in
    let r = read_reading u c.gaps.w w a b left [] c.gaps.invariant.reads c.next_piece.ensures.read in
    let p = read_passed u c.gaps.w w a b left c.gaps.invariant.passed c.next_piece.ensures.read in
    result_then u w c.long_word.new.w a left (g.S.Source.left c.long_word.new.src) c.long_word.result r p.limit
    c.long_word.ensures.scan

pub returns-in-Word-clause-passed : goal.returns-in-Word-clause-passed
returns-in-Word-clause-passed g c =
    let a = g.S.Source.left c.args.src.now in
    let left = g.S.Source.left c.next_piece.new.src in
    passed_then c.args.w.now c.next_piece.new.w c.long_word.new.w a left (g.S.Source.left c.long_word.new.src)
    (read_passed c.args.w.now c.gaps.w c.next_piece.new.w a (g.S.Source.left c.gaps.src) left
    c.gaps.invariant.passed c.next_piece.ensures.read) c.long_word.ensures.passed

pub returns-in-Word-clause-rises : goal.returns-in-Word-clause-rises
returns-in-Word-clause-rises g c =
    let passed = c.gaps.invariant.passed.at in
    let read = c.next_piece.ensures.read.at in
    rises_then c.args.w.now.at c.next_piece.new.w.at c.long_word.new.w.at c.long_word.result (omega arith)
    c.long_word.ensures.rises

pub returns-in-End-clause-scan : goal.returns-in-End-clause-scan
returns-in-End-clause-scan g c =
    let u = c.args.w.now in
    let w = c.next_piece.new.w in
    let a = g.S.Source.left c.args.src.now in
    let left = g.S.Source.left c.next_piece.new.src in
    let is : c.in_ok-size.field-0 ≡ next.End = c.in-End.is in
    let r = read_reading u c.gaps.w w a (g.S.Source.left c.gaps.src) left [] c.gaps.invariant.reads
    c.next_piece.ensures.read in
    end_scan u w a left r (ahead_is w left _ _ is c.in_ok-size.ensures.ahead)
