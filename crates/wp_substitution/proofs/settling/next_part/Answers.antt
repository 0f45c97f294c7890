use Rattle.wp_substitution.specs.Memos.{IsPart}
use Rattle.wp_substitution.proofs.MemoLaws.{last_taken, none_taken}
use Rattle.wp_substitution.proofs.settling.next_part.Goals as goal

pub returns-in-Some-clause-todo : goal.returns-in-Some-clause-todo
returns-in-Some-clause-todo c =
    (last_taken (IsPart c.args.pool.now c.args.memo.now.mark) c.args.todo.now c.pop.new.self c.in-Some.next
    c.in-Some.ensures c.requires.todo).0

pub returns-in-Some-clause-next : goal.returns-in-Some-clause-next
returns-in-Some-clause-next c =
    (last_taken (IsPart c.args.pool.now c.args.memo.now.mark) c.args.todo.now c.pop.new.self c.in-Some.next
    c.in-Some.ensures c.requires.todo).1

pub returns-in-None-clause-todo : goal.returns-in-None-clause-todo
returns-in-None-clause-todo c =
    none_taken (IsPart c.args.pool.now c.args.memo.now.mark) c.pop.new.self c.in-None.ensures.1
