use Rattle.std.proofs.Common.{subst}
use Rattle.fair_rounds.specs.declared.records.Record.{Record}
use Rattle.rules_table.specs.Terms.{leads, node, referred, leads_from}
use Rattle.safety_rules.specs.Answers.{site_of}
use Rattle.leadsto_rules.specs.Leading.{TermGives}
use Rattle.leadsto_rules.proofs.GivesLaws.{record_given}
use Rattle.leadsto_rules.proofs.cited.led_from.Goals as goal

pub returns-clause-answer : goal.returns-clause-answer
returns-clause-answer c =
    let site = site_of c.args.pl.now in
    let given = λ (a : Record). node site c.args.ranges.now (leads_from a) in
    record_given c.in_ok-a.a (referred site c.args.ranges.now c.args.book.now leads c.args.r.now) given
    c.told.result c.in_ok-a.ensures.answer
    (subst (λ a. TermGives c.told.result (given a)) c.get.ensures c.told.ensures.answer)
