use Rattle.std.proofs.Common.{◌++◌, ◌∷◌, []}
use Rattle.std.proofs.lemmas.List.Elements.{All-push, All-same}
use Rattle.std.proofs.lemmas.Result.{on_ok_weaker}
use Rattle.wp_substitution.specs.Memos.{IsPart}
use Rattle.wp_substitution.proofs.settling.push_both.Goals as goal

pub returns : goal.returns
returns c =
    let P = IsPart c.args.pool.now c.args.memo.now.mark in
    let once = All-same P c.push.new.self (c.args.todo.now ++ c.args.next ∷ []) c.in_ok-push.ensures.ok
    (All-push P c.args.todo.now c.args.next c.requires.todo c.requires.next) in
    on_ok_weaker c.push-2.result (λ e. All-same P c.push-2.new.self (c.push.new.self ++ c.args.first ∷ []) e
    (All-push P c.push.new.self c.args.first once c.requires.first)) c.push-2.ensures.ok
