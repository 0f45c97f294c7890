use Rattle.std.proofs.Common.{subst}
use Rattle.fair_rounds.specs.declared.records.Record.{Record}
use Rattle.rules_table.specs.Table.{is_unless}
use Rattle.rules_table.specs.Terms.{node, referred, leads_safely}
use Rattle.safety_rules.specs.Answers.{site_of}
use Rattle.leadsto_rules.specs.Leading.{TermGives}
use Rattle.leadsto_rules.proofs.GivesLaws.{record_given}
use Rattle.leadsto_rules.proofs.cited.led_safely.Goals as goal

pub returns-clause-answer : goal.returns-clause-answer
returns-clause-answer c =
    let site = site_of c.args.pl.now in
    let given = λ (a : Record). node site c.args.ranges.now (leads_safely c.args.t a) in
    record_given c.in_ok-a.a (referred site c.args.ranges.now c.args.book.now is_unless c.args.r.now) given
    c.kept_safe.result c.in_ok-a.ensures.answer
    (subst (λ a. TermGives c.kept_safe.result (given a)) c.get.ensures c.kept_safe.ensures.answer)
