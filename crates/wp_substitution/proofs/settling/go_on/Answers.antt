use Rattle.wp_substitution.proofs.MemoLaws.{parts_stay, part_stays}
use Rattle.std.proofs.Common.{sym, subst}
use Rattle.wp_substitution.specs.Memos.{IsPart}
use Rattle.wp_substitution.proofs.settling.go_on.Goals as goal

pub add_parts-requires-clause-todo : goal.add_parts-requires-clause-todo
add_parts-requires-clause-todo c =
    parts_stay c.args.pool.now c.settle.new.pool c.args.memo.now.mark _ _ c.requires.known.fits c.settle.ensures.kept
    c.settle.ensures.mark c.next_part-next.ensures.todo

pub add_parts-requires-clause-next : goal.add_parts-requires-clause-next
add_parts-requires-clause-next c =
    subst (λ m. IsPart c.settle.new.pool m c.next_part-next.result) (sym c.settle.ensures.mark)
    (part_stays c.args.pool.now c.settle.new.pool c.args.memo.now.mark c.next_part-next.result c.requires.known.fits
    c.settle.ensures.kept c.next_part-next.ensures.next)
