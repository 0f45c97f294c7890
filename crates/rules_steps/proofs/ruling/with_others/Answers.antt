use Rattle.std.proofs.Common.{Result, subst}
use Rattle.fair_rounds.specs.declared.records.Record.{Record}
use Rattle.safety_rules.specs.from_rules_table.Further.{complete_of}
use Rattle.safety_rules.specs.from_rules_table.Table.{go_on}
use Rattle.safety_rules.specs.declared.places.RuleError.{RuleError}
use Rattle.safety_rules.specs.Answers.{site_of}
use Rattle.safety_rules.specs.Instances.{AnswersRecord}
use Rattle.rules_steps.proofs.AnswerLaws.{answered_on}
use Rattle.rules_steps.proofs.ruling.with_others.Goals as goal

pub returns-in-Ok : goal.returns-in-Ok
returns-in-Ok c = λ row next last one two three.
    answered_on c.in-Ok.second row
    (λ (b : Record). go_on next (λ d. go_on last (complete_of (site_of c.args.pl.now) c.args.first b d)))
    c.with_third.result c.args.pl.now.slots.now
    (subst (λ (answer : Result Record RuleError). AnswersRecord answer row) c.in-Ok.is one)
    (c.with_third.ensures next last two three)
