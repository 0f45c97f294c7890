use Rattle.std.proofs.Common.{◌∙◌, subst, sym}
use Rattle.ranges_types.specs.Numbers.{MeaningIsSmall}
use Rattle.ranges_types.proofs.Small.{small_at}
use Rattle.ranges_types.proofs.naming.Names.meaning.Goals as goal

pub returns-clause-small : goal.returns-clause-small
returns-clause-small c =
    let same = c.copied.ensures ∙ c.get.ensures.value ∙ c.self.invariant.meanings c.args.at in
    subst MeaningIsSmall (sym same) (small_at c.self.inside.words c.args.at c.self.invariant.small)
