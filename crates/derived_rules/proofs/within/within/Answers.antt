use Rattle.std.proofs.Common.{◌++◌, sym, ◌∙◌}
use Rattle.safety_rules.specs.Answers.{site_of}
use Rattle.derived_rules.proofs.WithinLaws.{within_given}
use Rattle.derived_rules.proofs.within.within.Goals as goal

pub returns : goal.returns
returns c =
    within_given (site_of c.args.pl.now) c.args.kind c.args.p c.args.q (c.args.first.now ++ c.args.second.now)
    c.args.rounds c.in-Some.bound c.new.result c.conclude.result c.lengthened.result
    (sym c.bounded.ensures ∙ c.in-Some.is) c.new.ensures c.conclude.ensures c.lengthened.ensures
