use Rattle.std.proofs.Common.{◌≡◌, to_z, of_z, w64, refl, arith}
use Rattle.std.proofs.lemmas.Int.{to_z-of_z}
use Rattle.certificate_machine.proofs.MachineLaws.{fact-goes, split-opens}
use Rattle.certificate_machine.proofs.ScopedLaws.{machine-variables}
use Rattle.certificate_machine.proofs.nodes.open_split.Goals as goal

pub overflow_cast-place : goal.overflow_cast-place
overflow_cast-place c =
    let few = (machine-variables c.args.vs.now c.args.machine.now.variables c.args.machine.now c.requires.own
    c.requires.scoped refl).count in
    grind (arith, few)

pub returns-clause-ok : goal.returns-clause-ok
returns-clause-ok c =
    let vs = c.args.vs.now in
    let b = c.args.machine.now.branch in
    let same : to_z w64 (of_z w64 c.args.k) ≡ c.args.k = grind (arith, to_z-of_z) in
    let opened = split-opens c.args.machine.now.variables b c.args.variable _ c.args.k _ _ _ (grind arith)
    (grind arith) (grind (arith, to_z-of_z)) same c.bound_above.ensures in
    fact-goes vs c.args.machine.now.levels b c.add.new.branch c.len-facts.result c.len-waits.result
    b.added c.args.machine.now.frames c.push.new.self _ _ _ c.args.machine.now.done c.requires.levels c.requires.fits
    (grind arith) (grind arith) refl c.requires.scoped.room c.in_ok-push.ensures.ok refl tt c.in_ok-add.ensures opened
    c.requires.going
