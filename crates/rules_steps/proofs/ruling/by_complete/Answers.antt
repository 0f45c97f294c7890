use Rattle.std.proofs.Common.{Result}
use Rattle.case_tables.specs.declared.kind_table.Kind.{Kind}
use Rattle.case_tables.specs.declared.code_table.Code.{Code}
use Rattle.core_terms.specs.declared.documents.Ref.{Ref}
use Rattle.fair_rounds.specs.declared.records.Record.{Record}
use Rattle.safety_rules.specs.from_rules_table.Further.{complete_of}
use Rattle.safety_rules.specs.from_rules_table.Table.{Site, go_on}
use Rattle.safety_rules.specs.from_rules_table.Terms.{referred}
use Rattle.safety_rules.specs.from_rules_table.Walk.{is_kind}
use Rattle.safety_rules.specs.Answers.{site_of}
use Rattle.rules_steps.proofs.AnswerLaws.{answered_on}
use Rattle.rules_steps.proofs.ruling.by_complete.Goals as goal

pub returns-in-Ok : goal.returns-in-Ok
returns-in-Ok c =
    let site : Site = site_of c.args.pl.now in
    let row : Kind → Ref → Result Record Code =
    λ kind r. referred site site.params c.args.book.now (is_kind kind) r in
    answered_on c.in-Ok.first (row Kind.Leadsto c.args.r.now)
    (λ (a : Record). go_on (row Kind.Unless c.args.s.now) (λ b. go_on (row Kind.Leadsto c.args.t.now) (λ d.
    go_on (row Kind.Unless c.args.u.now) (complete_of site a b d))))
    c.with_others.result c.args.pl.now.slots.now c.in-Ok.ensures.answer
    (c.with_others.ensures (row Kind.Unless c.args.s.now) (row Kind.Leadsto c.args.t.now)
    (row Kind.Unless c.args.u.now) c.referred-second.ensures.answer c.referred-third.ensures.answer
    c.referred-fourth.ensures.answer)
