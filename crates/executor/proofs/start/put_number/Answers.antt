use Rattle.std.proofs.Common.{rules, sym, arith, ◌∙◌}
use Rattle.executor.proofs.StartLaws.{put-slice_set, put-past}
use Rattle.executor.proofs.start.put_number.Goals as goal

pub returns-then-place-len : goal.returns-then-place-len
returns-then-place-len c = let k = c.replace-old.ensures.rest ∙ put-slice_set _ _ _ in search (rules, k)

pub returns-else-place-len : goal.returns-else-place-len
returns-else-place-len c = sym (put-past _ _ _ (omega arith))
