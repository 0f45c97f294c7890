use Rattle.std.proofs.Common.{◌&&◌, ◌∙◌}
use Rattle.core_terms.specs.Trees.{same_form}
use Rattle.core_terms.specs.declared.trees.CForm.TheVariants.{Bottom}
use Rattle.fair_rounds.specs.declared.records.Record.{Record}
use Rattle.safety_rules.specs.from_rules_table.Table.{Site, ending, union_invariant_of}
use Rattle.safety_rules.proofs.lemmas_from_rules_table.UnionSound.{union_invariant_sound}
use Rattle.safety_rules.specs.Answers.{site_of}
use Rattle.safety_rules.proofs.AnswerLaws.{refused, given_by}
use Rattle.safety_rules.proofs.SoundLaws.{site_good, answer_stands}
use Rattle.union_theorem.proofs.UnionRows.{union_invariant-is, united_invariant, one_invariant, row_fails, row_met}
use Rattle.union_theorem.proofs.unions.union_invariant.Goals as goal

pub returns-in-Some-clause-answer : goal.returns-in-Some-clause-answer
returns-in-Some-clause-answer c =
    let site : Site = site_of c.args.pl.now in
    let a : Record = c.args.a.now in
    let b : Record = c.args.b.now in
    refused site.slots c.in-Some.code _
    (union_invariant-is site a b
    ∙ row_fails site a b (one_invariant a b) (same_form a.p b.p && same_form (ending a b) Bottom) c.is_kept.result
    c.are_stable.result
    (united_invariant site a b) c.fault_of.result c.is_kept.ensures c.are_stable.ensures (c.fault_of.ensures
    (united_invariant site a b))
    c.in-Some.code c.in-Some.is)

pub returns-clause-answer : goal.returns-clause-answer
returns-clause-answer c =
    let site : Site = site_of c.args.pl.now in
    let a : Record = c.args.a.now in
    let b : Record = c.args.b.now in
    given_by site.slots c.united.result _ (united_invariant site a b)
    (union_invariant-is site a b
    ∙ row_met site a b (one_invariant a b) (same_form a.p b.p && same_form (ending a b) Bottom) c.is_kept.result
    c.are_stable.result
    (united_invariant site a b) c.fault_of.result c.is_kept.ensures c.are_stable.ensures (c.fault_of.ensures
    (united_invariant site a b))
    c.in-None.is)
    c.united.ensures

pub returns-clause-sound : goal.returns-clause-sound
returns-clause-sound c f g parts one two =
    let site : Site = site_of c.args.pl.now in
    answer_stands c.args.pl.now c.united.result (union_invariant_of site c.args.a.now c.args.b.now)
    (λ x e valid. union_invariant_sound site (site_good c.args.pl.now c.requires.place) f g parts c.args.a.now
    c.args.b.now one two x e valid) (returns-clause-answer c)
