use Rattle.std.proofs.Common.{◌∙◌, rules, refl}
use Rattle.std.proofs.lemmas.Option.{slice_get_read}
use Rattle.std.proofs.lemmas.List.{at_drop_all}
use Rattle.executor.specs.Preparing.{is_target}
use Rattle.executor.proofs.PreparingLaws.{levelled, same_items}
use Rattle.executor.proofs.preparing.level.Goals as goal

pub loop-write-preserved : goal.loop-write-preserved
loop-write-preserved c =
    let there = slice_get_read _ _ _ _ refl c.loop-write-test.true c.write-item.is in
    let inside = c.requires.targets _ _ there in
    levelled c.args.state.now c.loop-write.next _ c.loop-write.marked _ c.args.writes.now c.loop-write.write-index
    c.write-item.result there inside (c.loop-write.auto.next ∙ c.requires.next)
    (c.loop-write.auto.marked ∙ c.requires.marked) (search rules) refl c.loop-write.invariant

pub returns-clause-next : goal.returns-clause-next
returns-clause-next c =
    same_items _ _ (λ n. (c.loop-write.invariant n
    (at_drop_all (λ ws. is_target ws n) c.args.writes.now c.loop-write.write-index c.loop-write-test.false)).0)

pub returns-clause-marked : goal.returns-clause-marked
returns-clause-marked c =
    same_items _ _ (λ n. (c.loop-write.invariant n
    (at_drop_all (λ ws. is_target ws n) c.args.writes.now c.loop-write.write-index c.loop-write-test.false)).1)
