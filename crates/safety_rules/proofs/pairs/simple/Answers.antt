use Rattle.std.proofs.Common.{◌≡◌, List, None, ◌&&◌, sym, ◌∙◌}
use Rattle.case_tables.specs.declared.code_table.Code.{Code}
use Rattle.case_tables.specs.declared.kind_table.Kind.{Kind}
use Rattle.core_terms.specs.declared.known.Joining.{Joining}
use Rattle.core_terms.specs.declared.trees.CForm.{CForm}
use Rattle.core_terms.specs.declared.trees.Range.{Range}
use Rattle.core_terms.specs.declared.programs.CSlot.{CSlot}
use Rattle.core_terms.specs.Conditions.{FormFits}
use Rattle.core_terms.specs.Folding.{or_form}
use Rattle.core_terms.specs.Senses.{joined_form}
use Rattle.fair_rounds.specs.declared.records.Record.{Record}
use Rattle.rules_table.specs.Table.{Site, is_unless, needs, paired, pair_of}
use Rattle.rules_table.proofs.RowEquations.{simpleconj-is, simpledisj-is}
use Rattle.safety_rules.specs.Answers.{site_of}
use Rattle.safety_rules.specs.Pairs.{simple_rule}
use Rattle.safety_rules.specs.Usable.{NamesExist}
use Rattle.safety_rules.proofs.UsableLaws.{fits_max, fits_and, fits_or}
use Rattle.safety_rules.proofs.AnswerLaws.{needs_met, needs_not, refused, given_by, same_pair}
use Rattle.safety_rules.proofs.pairs.simple.Goals as goal

simple-is : (joining : Joining) (site : Site) (a b : Record) → pair_of site (simple_rule joining) a b ≡
    needs (is_unless a.kind && is_unless b.kind) Code.WrongKind
    (paired site Kind.Unless None (joined_form joining a.p b.p) (or_form a.q b.q) a b)
simple-is Joining.Both site a b = simpleconj-is site a b
simple-is Joining.Either site a b = simpledisj-is site a b

fits_joined : (joining : Joining) (slots : List CSlot) (params : List Range) (f p q : CForm) →
    FormFits slots params p → FormFits slots params q → f ≡ joined_form joining p q → NamesExist slots params f
fits_joined Joining.Both = fits_and
fits_joined Joining.Either = fits_or

pub returns-then-not-are_unless : goal.returns-then-not-are_unless
returns-then-not-are_unless c =
    refused (site_of c.args.pl.now).slots Code.WrongKind _
    (simple-is c.args.joining (site_of c.args.pl.now) c.args.a.now c.args.b.now
    ∙ needs_not (is_unless c.args.a.now.kind && is_unless c.args.b.now.kind) Code.WrongKind _
    (sym c.are_unless.ensures ∙ c.if-not-are_unless.true))

pub joined_two-requires : goal.joined_two-requires
joined_two-requires c = fits_max _ _ _ _ c.requires.a.p c.requires.b.p

pub either-requires : goal.either-requires
either-requires c = fits_max _ _ _ _ c.requires.a.q c.requires.b.q

pub paired-requires-clause-p : goal.paired-requires-clause-p
paired-requires-clause-p c = fits_joined c.args.joining _ _ _ _ _ c.requires.a.p c.requires.b.p c.in_ok-p.ensures

pub paired-requires-clause-q : goal.paired-requires-clause-q
paired-requires-clause-q c = fits_or _ _ _ _ _ c.requires.a.q c.requires.b.q c.in_ok-q.ensures.tree

pub returns : goal.returns
returns c =
    let site : Site = site_of c.args.pl.now in
    let a : Record = c.args.a.now in
    let b : Record = c.args.b.now in
    given_by site.slots c.paired.result _ _
    (simple-is c.args.joining site a b
    ∙ needs_met (is_unless a.kind && is_unless b.kind) Code.WrongKind _
    (sym c.are_unless.ensures ∙ c.if-not-are_unless.false))
    (same_pair site a b (joined_form c.args.joining a.p b.p)
    (or_form a.q b.q) c.in_ok-p.p c.in_ok-q.q c.paired.result c.in_ok-p.ensures c.in_ok-q.ensures.tree
    c.paired.ensures)
