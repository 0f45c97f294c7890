use Rattle.std.proofs.Common.{List, sym, subst, ◌∙◌}
use Rattle.std.specs.Prelude.{All}
use Rattle.core_terms.specs.Conditions.{IsRange}
use Rattle.core_terms.specs.declared.documents.PTerm.{PTerm}
use Rattle.fair_rounds.specs.declared.records.Record.{Record}
use Rattle.rules_table.specs.Table.{Site, go_on, concluded}
use Rattle.rules_table.specs.Terms.{derive_of, term_of, leads_record}
use Rattle.safety_rules.specs.Answers.{site_of, RuleAnswers}
use Rattle.safety_rules.proofs.SoundLaws.{site_good, answer_stands}
use Rattle.leadsto_rules.specs.Leading.{IsTermIn}
use Rattle.leadsto_rules.proofs.DeriveLaws.{all_are_ranges, sees_parts, derived_stands}
use Rattle.leadsto_rules.proofs.derivation.derive.Goals as goal

pub derive_in-requires-clause-ranges : goal.derive_in-requires-clause-ranges
derive_in-requires-clause-ranges c =
    subst (λ rs. All IsRange rs) (sym (c.as_slice.ensures ∙ c.in_ok-ranges.ensures))
    (all_are_ranges c.args.pl.now.slots.now c.args.pl.now.params.now c.args.t.now c.requires.place.params
    c.requires.term)

pub derive_in-requires-clause-term : goal.derive_in-requires-clause-term
derive_in-requires-clause-term c =
    subst (λ rs. IsTermIn c.args.pl.now.slots.now rs c.args.t.now)
    (sym (c.as_slice.ensures ∙ c.in_ok-ranges.ensures))
    (sees_parts c.args.pl.now.slots.now c.args.pl.now.params.now c.args.t.now c.requires.term)

pub returns-clause-answer : goal.returns-clause-answer
unfolding derive_of
returns-clause-answer c =
    let site : Site = site_of c.args.pl.now in
    let t : PTerm = c.args.t.now in
    let book : List Record = c.args.book.now in
    subst (λ rs. RuleAnswers c.derive_in.result site.slots (go_on (term_of site rs book t)
    (λ l. concluded site.slots rs (leads_record site l) l.forms))) (c.as_slice.ensures ∙ c.in_ok-ranges.ensures)
    c.derive_in.ensures

pub returns-clause-sound : goal.returns-clause-sound
returns-clause-sound c stands =
    let site : Site = site_of c.args.pl.now in
    let t : PTerm = c.args.t.now in
    let book : List Record = c.args.book.now in
    answer_stands c.args.pl.now c.derive_in.result (derive_of site t book)
    (derived_stands site (site_good c.args.pl.now c.requires.place) book stands t c.requires.term c.requires.numbers)
    (returns-clause-answer c)
