use Rattle.std.proofs.Common.{refl, sym}
use Rattle.expand_rules.proofs.FlawLaws.{flaws_none}
use Rattle.expand_steps.proofs.step_rules.rule.Goals as goal

pub returns-in_ok-completion-in-Complete : goal.returns-in_ok-completion-in-Complete
returns-in_ok-completion-in-Complete c = rw c.in-Complete.is (record {
  same = c.in_ok-completion-in-Complete.ensures;
  noted = sym (flaws_none c.args.bad.now);
  fits = refl;
})
