use Rattle.std.proofs.Common.{◌^◌, ◌≤◌, sym, subst}
use Rattle.obligations.specs.Load.{term_load}
use Rattle.obligations.proofs.QuotientLaws.{negative-constant}
use Rattle.obligations.proofs.quotients.high_fact.Goals as goal

pub raised-line-requires : goal.raised-line-requires
raised-line-requires c =
    negative-constant c.args.vs.now c.get.result.now c.in_ok-negative_of.field-0 (2 ^ 66)
    c.in_ok-negative_of.ensures.line
    (subst (λ t. (term_load t).own ≤ 2 ^ 66) (sym c.get.ensures) c.requires.load)
