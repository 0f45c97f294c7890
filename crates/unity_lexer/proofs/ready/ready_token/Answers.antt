use Rattle.unity_lexer.proofs.ReadyTokens.{slice_begins, slice_room, blanks_within, same_passed}
use Rattle.std.proofs.Common.{refl, ◌∙◌, ap}
use Rattle.std.specs.List.{prefix_len}
use Rattle.unity_syntax.specs.declared.token.TokenKind.TheVariants as kind
use Rattle.unity_lexer.specs.Tokens.{is_blank}
use Rattle.unity_lexer.proofs.ready.ready_token.Goals as goal

pub slice_bounds-decided_token-count : goal.slice_bounds-decided_token-count
slice_bounds-decided_token-count c =
    blanks_within c.bytes-bytes.result.now c.blanks_ahead-blanks.result c.blanks_ahead-blanks.ensures

pub slice_bounds-decided_token-start : goal.slice_bounds-decided_token-start
slice_bounds-decided_token-start c =
    blanks_within c.bytes-bytes.result.now c.blanks_ahead-blanks.result c.blanks_ahead-blanks.ensures

pub take_ready-requires-clause-blanks : goal.take_ready-requires-clause-blanks
take_ready-requires-clause-blanks c = c.blanks_ahead-blanks.ensures ∙ ap (prefix_len is_blank) c.bytes-bytes.ensures

pub take_ready-requires-clause-begins : goal.take_ready-requires-clause-begins
take_ready-requires-clause-begins c =
    slice_begins c.bytes-bytes.result.now c.blanks_ahead-blanks.result c.in-Some.size c.in-Some.kind _
    c.bytes-bytes.ensures c.in-Some.ensures.begins

pub take_ready-requires-clause-decided : goal.take_ready-requires-clause-decided
take_ready-requires-clause-decided c =
    slice_room c.bytes-bytes.result.now c.blanks_ahead-blanks.result c.in-Some.size _ c.bytes-bytes.ensures
    c.in-Some.ensures.decided

pub returns-in_default-clause-passed : goal.returns-in_default-clause-passed
returns-in_default-clause-passed c = λ left. same_passed c.args.w.now c.args.w.now left refl
