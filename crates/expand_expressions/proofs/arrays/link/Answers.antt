use Rattle.std.proofs.lemmas.Result.{IfOk-weaker}
use Rattle.std.proofs.Common.{◌≡◌, ◌≤◌, subst, sym}
use Rattle.core_terms.specs.Weights.{plain_weights}
use Rattle.expand_expressions.proofs.Elements.{link_most}
use Rattle.expand_expressions.proofs.arrays.link.Goals as goal

pub returns-clause-most : goal.returns-clause-most
returns-clause-most c =
    let index = c.args.index.now in
    let same' : index.term ≡ c.in_ok-copy.copy = sym c.in_ok-copy.ensures in
    IfOk-weaker c.choice_known.result _ _
    (λ t e. link_most c.in_ok-copy.copy c.in_ok-constant.constant c.in_ok-less.less c.in_ok-read.read c.args.rest t
    c.in_ok-same.same
    c.args.place.at c.args.place.slot index.measure.own index.measure.most c.in_ok-constant.ensures
    c.in_ok-read.ensures
    (subst (λ u. (plain_weights u).own ≤ index.measure.own) same' c.requires.sound.fits.1)
    (subst (λ u. (plain_weights u).most ≤ index.measure.most) same' c.requires.sound.fits.2) c.in_ok-less.ensures.most
    c.in_ok-same.ensures.weight e)
    c.choice_known.ensures.most
