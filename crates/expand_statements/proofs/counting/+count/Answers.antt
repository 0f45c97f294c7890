use Rattle.std.proofs.Common.{map, sym, subst}
use Rattle.std.proofs.lemmas.Result.{IfOk-weaker}
use Rattle.expand_counting.specs.Nests.{LeavesRoom}
use Rattle.expand_rules.specs.Lists.{item_count, total}
use Rattle.expand_statements.specs.Standing.{standing_in}
use Rattle.expand_statements.proofs.CountLaws.{count-parts, room_both}
use Rattle.expand_statements.proofs.counting.+count.Goals as goal

pub room_after_items-returns-in-Some-clause-count : goal.room_after_items-returns-in-Some-clause-count
room_after_items-returns-in-Some-clause-count t c =
    let x = c.args.items.now in
    let bs = standing_in c.args.chain.now in
    IfOk-weaker c.room_after_further.result _ _
    (λ r h. subst (λ n. LeavesRoom r c.args.room n) (sym (count-parts x bs))
    (room_both r c.args.room c.in-Some.left (item_count x.first bs) (total (map (λ i. item_count i bs) x.rest))
    (subst (λ o. LeavesRoom o c.args.room (item_count x.first bs)) c.in-Some.is c.in_ok-room_after_item.ensures.count)
    (subst (λ k. LeavesRoom r c.in-Some.left (total (map (λ i. item_count i (standing_in k)) x.rest)))
    c.in_ok-room_after_item.ensures.chain h)))
    c.room_after_further.ensures.count
