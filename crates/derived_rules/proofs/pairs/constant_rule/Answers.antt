use Rattle.std.proofs.Common.{◌≡◌, ◌+◌, ◌++◌, List, Bool, ◌&&◌, refl, sym, ap, ◌∙◌, subst, arith}
use Rattle.case_tables.specs.declared.kind_table.Kind.{Kind}
use Rattle.core_terms.specs.Folding.{or_form, not_form}
use Rattle.core_terms.specs.Trees.{same_form}
use Rattle.core_terms.specs.declared.programs.CSlot.{CSlot}
use Rattle.core_terms.specs.declared.trees.Range.{Range}
use Rattle.core_terms.specs.declared.trees.CForm.{out-CForm}
use Rattle.core_terms.specs.declared.trees.CForm.TheVariants.{Bottom}
use Rattle.fair_rounds.specs.declared.records.Record.{Record}
use Rattle.safety_rules.specs.from_rules_table.Table.{Site, is_unless, is_invariant}
use Rattle.safety_rules.specs.from_rules_table.Further.{is_leadsto, ends_on, first_side, constant_of}
use Rattle.safety_rules.proofs.lemmas_from_rules_table.RowEquations.{constant-is}
use Rattle.safety_rules.proofs.lemmas_from_rules_table.FurtherSound.{constant_sound}
use Rattle.safety_rules.specs.Answers.{site_of}
use Rattle.safety_rules.specs.Usable.{NamesExist}
use Rattle.safety_rules.proofs.UsableLaws.{usable, fits_max, fits_exist, exist_or}
use Rattle.safety_rules.proofs.SoundLaws.{site_good, premise_good, answer_stands}
use Rattle.derived_rules.proofs.SideLaws.{side_usable}
use Rattle.derived_rules.proofs.WithinLaws.{other_kinds, other_shapes, derived_given}
use Rattle.derived_rules.proofs.pairs.constant_rule.Goals as goal

pub returns-then-not-both_keep-clause-answer : goal.returns-then-not-both_keep-clause-answer
returns-then-not-both_keep-clause-answer c =
    let pl = c.args.pl.now in
    let site : Site = site_of pl in
    let a : Record = c.args.a.now in
    let b : Record = c.args.b.now in
    let kinds : Bool = is_unless a.kind && is_unless b.kind in
    let alike : Bool = same_form b.p (not_form a.p) && (same_form a.q Bottom && same_form b.q Bottom) in
    other_kinds site kinds alike Kind.Constant a.p Bottom (a.under ++ b.under) 0 (constant_of site a b)
    (constant-is site a b) (sym c.both_keep.ensures ∙ c.if-not-both_keep.true)

pub returns-then-not-branch-clause-answer : goal.returns-then-not-branch-clause-answer
returns-then-not-branch-clause-answer c =
    let pl = c.args.pl.now in
    let site : Site = site_of pl in
    let a : Record = c.args.a.now in
    let b : Record = c.args.b.now in
    let kinds : Bool = is_unless a.kind && is_unless b.kind in
    let alike : Bool = same_form b.p (not_form a.p) && (same_form a.q Bottom && same_form b.q Bottom) in
    other_shapes site kinds alike Kind.Constant a.p Bottom (a.under ++ b.under) 0 (constant_of site a b)
    (constant-is site a b) (sym c.both_keep.ensures ∙ c.if-not-both_keep.false)
    (sym c.in_ok-are_contrary.ensures ∙ c.if-not-branch.true)

pub are_contrary-requires : goal.are_contrary-requires
are_contrary-requires c =
    (usable c.args.pl.now.slots.now c.args.pl.now.params.now c.args.a.now.p c.requires.a.p).light

pub returns-clause-answer : goal.returns-clause-answer
returns-clause-answer c =
    let pl = c.args.pl.now in
    let site : Site = site_of pl in
    let a : Record = c.args.a.now in
    let b : Record = c.args.b.now in
    let kinds : Bool = is_unless a.kind && is_unless b.kind in
    let alike : Bool = same_form b.p (not_form a.p) && (same_form a.q Bottom && same_form b.q Bottom) in
    derived_given site kinds alike Kind.Constant a.p Bottom (a.under ++ b.under) 0 (constant_of site a b)
    (constant-is site a b) (sym c.both_keep.ensures ∙ c.if-not-both_keep.false)
    (sym c.in_ok-are_contrary.ensures ∙ c.if-not-branch.false) c.in_ok-p.p c.in_ok-q.q
    (c.as_slice.result.now ++ c.as_slice-2.result.now) 0
    c.in_ok-p.ensures c.in_ok-q.ensures
    (ap (λ u. u ++ c.as_slice-2.result.now) c.as_slice.ensures ∙ ap (λ u. a.under ++ u) c.as_slice-2.ensures)
    refl c.within.result c.within.ensures

pub returns-clause-sound : goal.returns-clause-sound
returns-clause-sound c one two =
    let pl = c.args.pl.now in
    let site : Site = site_of pl in
    let a : Record = c.args.a.now in
    let b : Record = c.args.b.now in
    answer_stands pl c.within.result (constant_of site a b)
    (constant_sound site (site_good pl c.requires.place) a b (premise_good pl a c.requires.a one)
    (premise_good pl b c.requires.b two)) (returns-clause-answer c)
