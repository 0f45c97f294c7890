use Rattle.std.proofs.Common.{◌&&◌, ◌||◌, sym, ◌∙◌}
use Rattle.case_tables.specs.declared.code_table.Code.{Code}
use Rattle.core_terms.specs.Folding.{and_form}
use Rattle.fair_rounds.specs.declared.records.Record.{Record}
use Rattle.rules_table.specs.Table.{Site, is_unless, is_ensures, ends_of_both}
use Rattle.rules_table.proofs.RowEquations.{conj-is}
use Rattle.safety_rules.specs.Answers.{site_of}
use Rattle.safety_rules.proofs.UsableLaws.{fits_max, fits_and, fits_ends}
use Rattle.safety_rules.proofs.AnswerLaws.{needs_met, needs_not, refused, given_by, paired_given}
use Rattle.safety_rules.proofs.pairs.conj.Goals as goal

pub returns-then-not-may_join : goal.returns-then-not-may_join
returns-then-not-may_join c =
    refused (site_of c.args.pl.now).slots Code.WrongKind _
    (conj-is (site_of c.args.pl.now) c.args.a.now c.args.b.now
    ∙ needs_not (is_unless c.args.a.now.kind && (is_unless c.args.b.now.kind || is_ensures c.args.b.now.kind))
    Code.WrongKind _ (sym c.may_join.ensures ∙ c.if-not-may_join.true))

pub both-requires : goal.both-requires
both-requires c = fits_max _ _ _ _ c.requires.a.p c.requires.b.p

pub ends_of_both-requires-clause-a : goal.ends_of_both-requires-clause-a
ends_of_both-requires-clause-a c = fits_max _ _ _ _ c.requires.a.p c.requires.a.q

pub ends_of_both-requires-clause-b : goal.ends_of_both-requires-clause-b
ends_of_both-requires-clause-b c = fits_max _ _ _ _ c.requires.b.p c.requires.b.q

pub conclude-requires-clause-p : goal.conclude-requires-clause-p
conclude-requires-clause-p c = fits_and _ _ _ _ _ c.requires.a.p c.requires.b.p c.in_ok-both.ensures.tree

pub conclude-requires-clause-q : goal.conclude-requires-clause-q
conclude-requires-clause-q c = fits_ends _ _ _ _ _ _ _ c.requires.a.p c.requires.a.q c.requires.b.p c.requires.b.q
    c.in_ok-ends_of_both.ensures

pub returns : goal.returns
returns c =
    let site : Site = site_of c.args.pl.now in
    let a : Record = c.args.a.now in
    let b : Record = c.args.b.now in
    given_by site.slots c.conclude.result _ _
    (conj-is site a b
    ∙ needs_met (is_unless a.kind && (is_unless b.kind || is_ensures b.kind)) Code.WrongKind _
    (sym c.may_join.ensures ∙ c.if-not-may_join.false))
    (paired_given site a b b.kind (and_form a.p b.p) (ends_of_both a.p a.q b.p b.q) c.in_ok-both.field-0
    c.in_ok-ends_of_both.field-0 c.as_slice.result.now c.as_slice-2.result.now b.helper c.in_ok-copied_helper.field-0
    c.new.result c.conclude.result c.in_ok-both.ensures.tree c.in_ok-ends_of_both.ensures c.as_slice.ensures
    c.as_slice-2.ensures c.in_ok-copied_helper.ensures c.new.ensures c.conclude.ensures)
