use Rattle.std.proofs.Common.{Result, subst}
use Rattle.case_tables.specs.declared.kind_table.Kind.{Kind}
use Rattle.case_tables.specs.declared.code_table.Code.{Code}
use Rattle.core_terms.specs.declared.documents.Ref.{Ref}
use Rattle.fair_rounds.specs.declared.records.Record.{Record}
use Rattle.safety_rules.specs.from_rules_table.Conclusion.{Conclusion}
use Rattle.safety_rules.specs.from_rules_table.Further.{pair_by}
use Rattle.safety_rules.specs.from_rules_table.Table.{Site, go_on}
use Rattle.safety_rules.specs.from_rules_table.Terms.{referred}
use Rattle.safety_rules.specs.from_rules_table.Walk.{is_kind}
use Rattle.safety_rules.specs.Answers.{site_of, RuleAnswers}
use Rattle.rules_steps.proofs.AnswerLaws.{answered_on}
use Rattle.rules_steps.proofs.ruling.by_pair.Goals as goal

pub returns-in-Ok : goal.returns-in-Ok
returns-in-Ok c =
    let site : Site = site_of c.args.pl.now in
    let row : Kind → Ref → Result Record Code =
    λ kind r. referred site site.params c.args.book.now (is_kind kind) r in
    let paired : Kind → Record → Result Conclusion Code =
    λ second a. go_on (row second c.args.s.now) (pair_by site c.args.kind c.args.which a) in
    let kinds : Kind × Kind = c.pair_kinds-one.result in
    subst (λ (ks : Kind × Kind). RuleAnswers c.with_second.result c.args.pl.now.slots.now
    (go_on (row ks.0 c.args.r.now) (paired ks.1))) c.pair_kinds-one.ensures
    (answered_on c.in-Ok.first (row kinds.0 c.args.r.now) (paired kinds.1) c.with_second.result
    c.args.pl.now.slots.now c.in-Ok.ensures.answer
    (c.with_second.ensures (row kinds.1 c.args.s.now) c.referred-second.ensures.answer))
