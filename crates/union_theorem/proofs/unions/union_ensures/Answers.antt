use Rattle.std.proofs.Common.{◌&&◌, ◌++◌, subst, ◌∙◌}
use Rattle.case_tables.specs.declared.kind_table.Kind.{Kind}
use Rattle.core_terms.specs.Trees.{same_form}
use Rattle.fair_rounds.specs.declared.records.Record.{Record}
use Rattle.safety_rules.specs.from_rules_table.Table.{Site, record_of, concluded, shown_forms, union_ensures_of}
use Rattle.safety_rules.proofs.lemmas_from_rules_table.UnionSound.{union_ensures_sound}
use Rattle.safety_rules.specs.Answers.{site_of, RuleAnswers}
use Rattle.safety_rules.proofs.AnswerLaws.{refused, given_by}
use Rattle.safety_rules.proofs.SoundLaws.{site_good, answer_stands}
use Rattle.union_theorem.proofs.UnionRows.{union_ensures-is, united_ensures, one_ensures, row_fails, row_met}
use Rattle.union_theorem.proofs.unions.union_ensures.Goals as goal

pub returns-in-Some-clause-answer : goal.returns-in-Some-clause-answer
returns-in-Some-clause-answer c =
    let site : Site = site_of c.args.pl.now in
    let a : Record = c.args.a.now in
    let b : Record = c.args.b.now in
    refused site.slots c.in-Some.code _
    (union_ensures-is site a b
    ∙ row_fails site a b (one_ensures a b) (same_form a.p b.p && same_form a.q b.q) c.is_ensured.result
    c.are_alike.result
    (united_ensures site a b) c.fault_of.result c.is_ensured.ensures c.are_alike.ensures (c.fault_of.ensures
    (united_ensures site a b))
    c.in-Some.code c.in-Some.is)

pub returns-in-None-clause-answer : goal.returns-in-None-clause-answer
returns-in-None-clause-answer c =
    let site : Site = site_of c.args.pl.now in
    let a : Record = c.args.a.now in
    let b : Record = c.args.b.now in
    given_by site.slots c.united.result _ (united_ensures site a b)
    (union_ensures-is site a b
    ∙ row_met site a b (one_ensures a b) (same_form a.p b.p && same_form a.q b.q) c.is_ensured.result
    c.are_alike.result
    (united_ensures site a b) c.fault_of.result c.is_ensured.ensures c.are_alike.ensures (c.fault_of.ensures
    (united_ensures site a b))
    c.in-None.is)
    (subst (λ h. RuleAnswers c.united.result site.slots (concluded site.slots site.params
    (record_of site Kind.Ensures a.p a.q (a.under ++ b.under) h) (shown_forms site a b)))
    c.first_helper-helper.ensures
    c.united.ensures)

pub returns-in-None-clause-sound : goal.returns-in-None-clause-sound
returns-in-None-clause-sound c f g parts one two =
    let site : Site = site_of c.args.pl.now in
    answer_stands c.args.pl.now c.united.result (union_ensures_of site c.args.a.now c.args.b.now)
    (λ x e valid. union_ensures_sound site (site_good c.args.pl.now c.requires.place) f g parts c.args.a.now
    c.args.b.now one two x e valid) (returns-in-None-clause-answer c)
