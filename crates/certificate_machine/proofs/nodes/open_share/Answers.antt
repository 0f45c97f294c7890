use Rattle.std.proofs.Common.{arith, refl, ◌∙◌}
use Rattle.certificate_machine.proofs.MachineLaws.{fact-goes, share-opens}
use Rattle.certificate_machine.proofs.ScopedLaws.{line-count}
use Rattle.certificate_machine.specs.Sums.{sum_line}
use Rattle.certificate_machine.proofs.nodes.open_share.Goals as goal

pub statement-requires-clause-count : goal.statement-requires-clause-count
statement-requires-clause-count c =
    line-count c.args.vs.now _ c.args.machine.now (sum_line c.args.sum.now) c.requires.own c.requires.scoped refl
    c.requires.size

pub statement-requires-2-clause-count : goal.statement-requires-2-clause-count
statement-requires-2-clause-count c =
    line-count c.args.vs.now _ c.args.machine.now (sum_line c.args.sum.now) c.requires.own c.requires.scoped refl
    c.requires.size

pub returns-clause-ok : goal.returns-clause-ok
returns-clause-ok c =
    let b = c.args.machine.now.branch in
    let opened = share-opens b _ (sum_line c.args.sum.now) _ _ refl c.in_ok-statement.ensures
    (c.in_ok-new.ensures ∙ c.in_ok-statement-2.ensures) in
    fact-goes c.args.vs.now c.args.machine.now.levels b c.add.new.branch c.len-facts.result c.len-waits.result
    b.added c.args.machine.now.frames c.push.new.self _ _ _ c.args.machine.now.done c.requires.levels c.requires.fits
    (grind arith) (grind arith) refl c.requires.scoped.room c.in_ok-push.ensures.ok refl tt c.in_ok-add.ensures opened
    c.requires.going
