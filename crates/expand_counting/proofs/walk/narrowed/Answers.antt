use Rattle.std.proofs.Common.{◌∷◌, [], subst, sym}
use Rattle.expand_counting.specs.Conditions.{Narrows}
use Rattle.expand_counting.proofs.NarrowLaws.{narrows_left}
use Rattle.expand_counting.proofs.walk.narrowed.Goals as goal

pub returns : goal.returns
returns c =
    subst (λ i. Narrows c.args.values.now (c.args.c.now ∷ []) c.args.old.now i) (sym c.left_by.ensures)
    (narrows_left c.args.values.now c.args.c.now c.args.k c.args.old.now c.most-most.result c.least-least.result
    c.requires.here c.most-most.ensures c.least-least.ensures)
