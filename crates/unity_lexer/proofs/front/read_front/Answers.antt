use Rattle.std.proofs.Common.{◌≡◌, ◌++◌, None, Some, refl, sym, subst, take, ◌∙◌, ap, arith}
use Rattle.std.proofs.lemmas.Result.{err_from_is_err_and}
use Rattle.unity_base.specs.Window.{held}
use Rattle.unity_lexer.specs.declared.ahead.Next.TheVariants as next
use Rattle.unity_lexer.specs.declared.piece.Piece.TheVariants as pieces
use Rattle.unity_syntax.specs.declared.token.Token.{Token}
use Rattle.unity_syntax.specs.declared.token.TokenKind.TheVariants as kind
use Rattle.unity_lexer.specs.declared.front.Front.{Front}
use Rattle.unity_lexer.specs.Tokens.{FirstBad}
use Rattle.unity_lexer.proofs.FrontSteps.{turn_taken, given_taken, start_taken, start_tokens, start_none, pushed}
use Rattle.unity_lexer.proofs.FrontSteps.{none_pushed, no_section, name_no_section, section_front, whole_front}
use Rattle.unity_lexer.proofs.FrontSteps.{fault_front, still, stop_front}
use Rattle.unity_lexer.proofs.FrontSteps.{start_order, start_small, order_later, order_token, order_word, small_pushed}
use Rattle.unity_lexer.proofs.ScanSteps.{read_reading, gap_reading, token_reading, comment_reading, word_reading}
use Rattle.unity_lexer.proofs.ScanSteps.{ahead_is, held_is, dropped_passed, passed_then}
use Rattle.unity_lexer.proofs.Taking.{taken_read, taken_passed}
use Rattle.unity_lexer.proofs.front.read_front.Goals as goal

pub pieces-init : goal.pieces-init
pieces-init g c =
    let u = c.args.w.now in
    let a = g.S.Source.left c.args.src.now in
    record {
      taken = start_taken u a c.new-bytes.result.items c.new-bytes.ensures.items;
      same = refl;
      reads = start_tokens u a c.new-tokens.result c.new-tokens.ensures;
      none = start_none c.new-tokens.result c.new-tokens.ensures;
      order = start_order c.args.w.now.at c.new-tokens.result c.new-tokens.ensures;
      small = start_small c.new-tokens.result c.new-tokens.ensures;
    }

pub pieces-preserved-in_ok-keep-in-Piece-Gap : goal.pieces-preserved-in_ok-keep-in-Piece-Gap
pieces-preserved-in_ok-keep-in-Piece-Gap g c =
    let u = c.args.w.now in
    let w = c.next_piece.new.w in
    let x = c.keep.new.w in
    let a = g.S.Source.left c.args.src.now in
    let b = g.S.Source.left c.pieces.src in
    let left = g.S.Source.left c.next_piece.new.src in
    let size = c.in-Piece-Gap.size in
    let is : c.in_ok-size.field-0 ≡ next.Piece (pieces.Gap size) = cc in
    let held = held_is w left _ _ is c.in_ok-size.ensures.held in
    let dropped = c.in_ok-keep-in-Piece-Gap.ensures.dropped in
    let r = read_reading u c.pieces.w w a b left c.pieces.tokens c.pieces.invariant.reads c.next_piece.ensures.read in
    record {
      taken = turn_taken u c.pieces.w w x a b left size c.pieces.bytes.items c.keep.new.kept.items
          c.pieces.invariant.taken c.next_piece.ensures.read held.1 dropped
          c.in_ok-keep-in-Piece-Gap.ensures.kept;
      same = c.in_ok-size.ensures.cause.same refl ∙ c.pieces.invariant.same;
      reads = gap_reading u w x a left left c.pieces.tokens r size held.1 dropped
          (ahead_is w left _ _ is c.in_ok-size.ensures.ahead);
      none = c.pieces.invariant.none;
      order = order_later c.pieces.tokens u.at c.pieces.w.at x.at c.pieces.invariant.order
          (omega (arith, c.next_piece.ensures.read.at, dropped.at));
      small = c.pieces.invariant.small;
    }

pub returns-then-is_section-clause-front : goal.returns-then-is_section-clause-front
returns-then-is_section-clause-front g c =
    let u = c.args.w.now in
    let w = c.next_piece.new.w in
    let a = g.S.Source.left c.args.src.now in
    let b = g.S.Source.left c.pieces.src in
    let left = g.S.Source.left c.next_piece.new.src in
    let ts = c.pieces.tokens in
    let kept = c.pieces.bytes.items in
    let kind = c.in-Piece-Token.kind in
    let size = c.in-Piece-Token.size in
    let is : c.in_ok-size.field-0 ≡ next.Piece (pieces.Token kind size) = cc in
    let fits = held_is w left _ _ is c.in_ok-size.ensures.held in
    let r = read_reading u c.pieces.w w a b left ts c.pieces.invariant.reads c.next_piece.ensures.read in
    let t = taken_read u c.pieces.w w a b left kept c.pieces.invariant.taken c.next_piece.ensures.read in
    let x = c.skip.new.self in
    let f : Front = record { bytes = c.pieces.bytes; tokens = ts; cut = Some c.at.result } in
    let all = turn_taken u c.pieces.w w x a b left size kept (kept ++ take size (held w)) c.pieces.invariant.taken
    c.next_piece.ensures.read fits.1 c.skip.ensures.dropped refl in
    λ first bytes e. (
      c.pieces.invariant.none,
      (
        x.at,
        section_front u w x a left ts kept first r t bytes e f kind size c.at.result c.at.ensures refl refl
            (c.is_section.ensures.0 c.if-is_section.true) fits.1 c.skip.ensures.dropped all
            (ahead_is w left _ _ is c.in_ok-size.ensures.ahead),
      ),
    )

pub returns-then-is_section-clause-places : goal.returns-then-is_section-clause-places
returns-then-is_section-clause-places g c =
    order_later c.pieces.tokens c.args.w.now.at c.pieces.w.at c.skip.new.self.at c.pieces.invariant.order
    (omega (arith, c.next_piece.ensures.read.at, c.skip.ensures.dropped.at))

pub returns-in-End-clause-places : goal.returns-in-End-clause-places
returns-in-End-clause-places g c =
    order_later c.pieces.tokens c.args.w.now.at c.pieces.w.at c.next_piece.new.w.at c.pieces.invariant.order
    (omega (arith, c.next_piece.ensures.read.at))

pub returns-then-is_section-clause-passed : goal.returns-then-is_section-clause-passed
returns-then-is_section-clause-passed g c =
    let u = c.args.w.now in
    let w = c.next_piece.new.w in
    let a = g.S.Source.left c.args.src.now in
    let b = g.S.Source.left c.pieces.src in
    let left = g.S.Source.left c.next_piece.new.src in
    let ts = c.pieces.tokens in
    let kept = c.pieces.bytes.items in
    let kind = c.in-Piece-Token.kind in
    let size = c.in-Piece-Token.size in
    let is : c.in_ok-size.field-0 ≡ next.Piece (pieces.Token kind size) = cc in
    let fits = held_is w left _ _ is c.in_ok-size.ensures.held in
    let t = taken_read u c.pieces.w w a b left kept c.pieces.invariant.taken c.next_piece.ensures.read in
    let p = taken_passed u w a left kept t in
    passed_then u w c.skip.new.self a left left p
    (dropped_passed w c.skip.new.self left size fits.1 c.skip.ensures.dropped)

pub pieces-preserved-in_ok-push-in-Piece-Token : goal.pieces-preserved-in_ok-push-in-Piece-Token
pieces-preserved-in_ok-push-in-Piece-Token g c =
    let u = c.args.w.now in
    let w = c.next_piece.new.w in
    let a = g.S.Source.left c.args.src.now in
    let b = g.S.Source.left c.pieces.src in
    let left = g.S.Source.left c.next_piece.new.src in
    let ts = c.pieces.tokens in
    let kept = c.pieces.bytes.items in
    let kind = c.in-Piece-Token.kind in
    let size = c.in-Piece-Token.size in
    let is : c.in_ok-size.field-0 ≡ next.Piece (pieces.Token kind size) = cc in
    let fits = held_is w left _ _ is c.in_ok-size.ensures.held in
    let r = read_reading u c.pieces.w w a b left ts c.pieces.invariant.reads c.next_piece.ensures.read in
    let x = c.keep_token.new.w in
    let made = c.in_ok-keep_token-in-Piece-Token.ensures in
    let add = c.in_ok-push-in-Piece-Token.ensures.ok in
    record {
      taken = turn_taken u c.pieces.w w x a b left size kept c.keep_token.new.kept.items c.pieces.invariant.taken
          c.next_piece.ensures.read fits.1 made.dropped made.kept;
      same = c.in_ok-size.ensures.cause.same refl ∙ c.pieces.invariant.same;
      reads = pushed u x a left ts c.push.new.self c.in_ok-keep_token-in-Piece-Token.field-0 _
          (token_reading u w x a left left ts r kind size fits.1 made.dropped
          (ahead_is w left _ _ is c.in_ok-size.ensures.ahead)) made.token add;
      none = none_pushed ts c.push.new.self c.in_ok-keep_token-in-Piece-Token.field-0 c.pieces.invariant.none
          (no_section c.in_ok-keep_token-in-Piece-Token.field-0 _ c.is_section.result made.token
          c.is_section.ensures c.if-is_section.false) add;
      order = order_token ts c.push.new.self c.in_ok-keep_token-in-Piece-Token.field-0 kind u.at c.pieces.w.at w.at
          size x.at c.pieces.invariant.order (omega (arith, c.next_piece.ensures.read.at)) fits.0.1
          (omega (arith, made.dropped.at)) made.token add;
      small = small_pushed ts c.push.new.self c.in_ok-keep_token-in-Piece-Token.field-0 kind c.pieces.invariant.small
          (ap (λ (t : Token). t.kind) made.token) fits.0.0 add;
    }

pub returns-in_err-push-in-Piece-Token-clause-passed : goal.returns-in_err-push-in-Piece-Token-clause-passed
returns-in_err-push-in-Piece-Token-clause-passed g c =
    let u = c.args.w.now in
    let w = c.next_piece.new.w in
    let a = g.S.Source.left c.args.src.now in
    let b = g.S.Source.left c.pieces.src in
    let left = g.S.Source.left c.next_piece.new.src in
    let ts = c.pieces.tokens in
    let kept = c.pieces.bytes.items in
    let kind = c.in-Piece-Token.kind in
    let size = c.in-Piece-Token.size in
    let is : c.in_ok-size.field-0 ≡ next.Piece (pieces.Token kind size) = cc in
    let fits = held_is w left _ _ is c.in_ok-size.ensures.held in
    let t = taken_read u c.pieces.w w a b left kept c.pieces.invariant.taken c.next_piece.ensures.read in
    let p = taken_passed u w a left kept t in
    passed_then u w c.keep_token.new.w a left left p
    (dropped_passed w c.keep_token.new.w left size fits.1 c.in_ok-keep_token-in-Piece-Token.ensures.dropped)

pub returns-in-Piece-Fault-clause-error : goal.returns-in-Piece-Fault-clause-error
returns-in-Piece-Fault-clause-error g c =
    let u = c.args.w.now in
    let w = c.next_piece.new.w in
    let a = g.S.Source.left c.args.src.now in
    let b = g.S.Source.left c.pieces.src in
    let left = g.S.Source.left c.next_piece.new.src in
    let ts = c.pieces.tokens in
    let kept = c.pieces.bytes.items in
    let code = c.in-Piece-Fault.code in
    let is : c.in_ok-size.field-0 ≡ next.Piece (pieces.Fault code) = cc in
    let r = read_reading u c.pieces.w w a b left ts c.pieces.invariant.reads c.next_piece.ensures.read in
    let t = taken_read u c.pieces.w w a b left kept c.pieces.invariant.taken c.next_piece.ensures.read in
    λ first bytes e. subst (λ place. FirstBad bytes code place) (sym c.at-in-Piece-Fault.ensures)
    (fault_front u w w a left ts kept first r t bytes e code (ahead_is w left _ _ is c.in_ok-size.ensures.ahead))

pub pieces-preserved-in_ok-keep_comment-in-Comment : goal.pieces-preserved-in_ok-keep_comment-in-Comment
pieces-preserved-in_ok-keep_comment-in-Comment g c =
    let u = c.args.w.now in
    let w = c.next_piece.new.w in
    let a = g.S.Source.left c.args.src.now in
    let b = g.S.Source.left c.pieces.src in
    let left = g.S.Source.left c.next_piece.new.src in
    let ts = c.pieces.tokens in
    let kept = c.pieces.bytes.items in
    let r = read_reading u c.pieces.w w a b left ts c.pieces.invariant.reads c.next_piece.ensures.read in
    let x = c.keep_comment.new.w in
    let after = g.S.Source.left c.keep_comment.new.src in
    let is : c.in_ok-size.field-0 ≡ next.Comment = c.in-Comment.is in
    let made = c.in_ok-keep_comment-in-Comment.ensures in
    record {
      taken = given_taken u c.pieces.w w x a b left after kept c.keep_comment.new.kept.items
          c.pieces.invariant.taken c.next_piece.ensures.read made.taken;
      same = still _ _ c.in_ok-keep_comment-in-Comment.field-0 made.cause
          ∙ (c.in_ok-size.ensures.cause.same refl ∙ c.pieces.invariant.same);
      reads = comment_reading u w x a left after ts r made.gap
          (ahead_is w left _ _ is c.in_ok-size.ensures.ahead);
      none = c.pieces.invariant.none;
      order = order_later c.pieces.tokens u.at c.pieces.w.at x.at c.pieces.invariant.order
          (let rises = made.rises in let read = c.next_piece.ensures.read.at in omega arith);
      small = c.pieces.invariant.small;
    }

pub returns-in_err-keep_comment-in-Comment-clause-error : goal.returns-in_err-keep_comment-in-Comment-clause-error
returns-in_err-keep_comment-in-Comment-clause-error g c =
    let u = c.args.w.now in
    let w = c.next_piece.new.w in
    let a = g.S.Source.left c.args.src.now in
    let b = g.S.Source.left c.pieces.src in
    let left = g.S.Source.left c.next_piece.new.src in
    let ts = c.pieces.tokens in
    let kept = c.pieces.bytes.items in
    let r = read_reading u c.pieces.w w a b left ts c.pieces.invariant.reads c.next_piece.ensures.read in
    let t = taken_read u c.pieces.w w a b left kept c.pieces.invariant.taken c.next_piece.ensures.read in
    let p = err_from_is_err_and c.from_residual-in_err-keep_comment-in-Comment.result
    c.from_residual-in_err-keep_comment-in-Comment.ensures.1 in
    rw (p.1, p.2) (λ first bytes e. stop_front u w w a left ts kept first r t bytes e (sym t.limit)
    c.in_err-keep_comment-in-Comment.field-0.0 c.in_err-keep_comment-in-Comment.ensures.stop)

pub returns-in_err-keep_comment-in-Comment-clause-passed : goal.returns-in_err-keep_comment-in-Comment-clause-passed
returns-in_err-keep_comment-in-Comment-clause-passed g c =
    let u = c.args.w.now in
    let w = c.next_piece.new.w in
    let a = g.S.Source.left c.args.src.now in
    let b = g.S.Source.left c.pieces.src in
    let left = g.S.Source.left c.next_piece.new.src in
    let ts = c.pieces.tokens in
    let kept = c.pieces.bytes.items in
    let t = taken_read u c.pieces.w w a b left kept c.pieces.invariant.taken c.next_piece.ensures.read in
    let p = taken_passed u w a left kept t in
    passed_then u w c.keep_comment.new.w a left (g.S.Source.left c.keep_comment.new.src) p c.keep_comment.ensures.passed

pub returns-in_err-keep_word-in-Word-clause-error : goal.returns-in_err-keep_word-in-Word-clause-error
returns-in_err-keep_word-in-Word-clause-error g c =
    let u = c.args.w.now in
    let w = c.next_piece.new.w in
    let a = g.S.Source.left c.args.src.now in
    let b = g.S.Source.left c.pieces.src in
    let left = g.S.Source.left c.next_piece.new.src in
    let ts = c.pieces.tokens in
    let kept = c.pieces.bytes.items in
    let r = read_reading u c.pieces.w w a b left ts c.pieces.invariant.reads c.next_piece.ensures.read in
    let t = taken_read u c.pieces.w w a b left kept c.pieces.invariant.taken c.next_piece.ensures.read in
    let p = err_from_is_err_and c.from_residual-in_err-keep_word-in-Word.result
    c.from_residual-in_err-keep_word-in-Word.ensures.1 in
    rw (p.1, p.2) (λ first bytes e. stop_front u w w a left ts kept first r t bytes e (sym t.limit)
    c.in_err-keep_word-in-Word.field-0.0 c.in_err-keep_word-in-Word.ensures.stop)

pub returns-in_err-keep_word-in-Word-clause-passed : goal.returns-in_err-keep_word-in-Word-clause-passed
returns-in_err-keep_word-in-Word-clause-passed g c =
    let u = c.args.w.now in
    let w = c.next_piece.new.w in
    let a = g.S.Source.left c.args.src.now in
    let b = g.S.Source.left c.pieces.src in
    let left = g.S.Source.left c.next_piece.new.src in
    let ts = c.pieces.tokens in
    let kept = c.pieces.bytes.items in
    let t = taken_read u c.pieces.w w a b left kept c.pieces.invariant.taken c.next_piece.ensures.read in
    let p = taken_passed u w a left kept t in
    passed_then u w c.keep_word.new.w a left (g.S.Source.left c.keep_word.new.src) p c.keep_word.ensures.passed

pub pieces-preserved : goal.pieces-preserved
pieces-preserved g c =
    let u = c.args.w.now in
    let w = c.next_piece.new.w in
    let a = g.S.Source.left c.args.src.now in
    let b = g.S.Source.left c.pieces.src in
    let left = g.S.Source.left c.next_piece.new.src in
    let ts = c.pieces.tokens in
    let kept = c.pieces.bytes.items in
    let r = read_reading u c.pieces.w w a b left ts c.pieces.invariant.reads c.next_piece.ensures.read in
    let x = c.keep_word.new.w in
    let after = g.S.Source.left c.keep_word.new.src in
    let made = c.in_ok-keep_word-in-Word.ensures in
    let add = c.in_ok-push-in-Word.ensures.ok in
    let word = c.in_ok-keep_word-in-Word.field-0 in
    record {
      taken = given_taken u c.pieces.w w x a b left after kept c.keep_word.new.kept.items
          c.pieces.invariant.taken c.next_piece.ensures.read made.taken;
      same = still _ _ word made.cause ∙ (c.in_ok-size.ensures.cause.same refl ∙ c.pieces.invariant.same);
      reads = pushed u x a after ts c.push-in-Word.new.self word _
          (word_reading u w x a left after ts r made.word) made.token add;
      none = none_pushed ts c.push-in-Word.new.self word c.pieces.invariant.none
          (name_no_section word _ made.token refl) add;
      order = order_word ts c.push-in-Word.new.self word u.at c.pieces.w.at w.at x.at c.pieces.invariant.order
          (omega (arith, c.next_piece.ensures.read.at)) made.rises made.token add;
      small = small_pushed ts c.push-in-Word.new.self word kind.Word c.pieces.invariant.small
          (ap (λ (t : Token). t.kind) made.token) (omega arith) add;
    }

pub returns-in_err-push-in-Word-clause-passed : goal.returns-in_err-push-in-Word-clause-passed
returns-in_err-push-in-Word-clause-passed g c =
    let u = c.args.w.now in
    let w = c.next_piece.new.w in
    let a = g.S.Source.left c.args.src.now in
    let b = g.S.Source.left c.pieces.src in
    let left = g.S.Source.left c.next_piece.new.src in
    let ts = c.pieces.tokens in
    let kept = c.pieces.bytes.items in
    let t = taken_read u c.pieces.w w a b left kept c.pieces.invariant.taken c.next_piece.ensures.read in
    let p = taken_passed u w a left kept t in
    passed_then u w c.keep_word.new.w a left (g.S.Source.left c.keep_word.new.src) p c.keep_word.ensures.passed

pub returns-in-End-clause-front : goal.returns-in-End-clause-front
returns-in-End-clause-front g c =
    let u = c.args.w.now in
    let w = c.next_piece.new.w in
    let a = g.S.Source.left c.args.src.now in
    let b = g.S.Source.left c.pieces.src in
    let left = g.S.Source.left c.next_piece.new.src in
    let ts = c.pieces.tokens in
    let kept = c.pieces.bytes.items in
    let is : c.in_ok-size.field-0 ≡ next.End = c.in-End.is in
    let r = read_reading u c.pieces.w w a b left ts c.pieces.invariant.reads c.next_piece.ensures.read in
    let t = taken_read u c.pieces.w w a b left kept c.pieces.invariant.taken c.next_piece.ensures.read in
    let f : Front = record { bytes = c.pieces.bytes; tokens = ts; cut = None } in
    λ first bytes e. (
      c.pieces.invariant.none,
      whole_front u w w a left ts kept first r t bytes e f refl refl (sym t.limit)
          (ahead_is w left _ _ is c.in_ok-size.ensures.ahead),
    )
