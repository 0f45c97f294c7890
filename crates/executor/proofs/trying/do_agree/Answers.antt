use Rattle.std.proofs.Common.{◌∙◌, sym}
use Rattle.executor.proofs.TryingLaws.{rising_agree}
use Rattle.executor.proofs.trying.do_agree.Goals as goal

pub returns-then-are_rising : goal.returns-then-are_rising
returns-then-are_rising c =
    c.if-are_rising.true ∙ sym (rising_agree c.args.state.now 0 c.args.writes.now (sym c.if-are_rising.ensures))
