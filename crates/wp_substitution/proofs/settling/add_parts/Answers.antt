use Rattle.std.specs.Prelude.{MatchOption}
use Rattle.std.proofs.Common.{subst}
use Rattle.wp_substitution.specs.Memos.{IsPart}
use Rattle.wp_substitution.proofs.settling.add_parts.Goals as goal

pub push_both-requires-clause-first : goal.push_both-requires-clause-first
push_both-requires-clause-first c =
    subst (λ o. MatchOption o (Unit {0}) (IsPart c.args.pool.now c.args.memo.now.mark)) c.in-Some.is c.requires.first
