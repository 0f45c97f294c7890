use Rattle.std.proofs.Common.{◌≡◌, ◌+◌, ◌++◌, List, Bool, ◌&&◌, refl, sym, ap, ◌∙◌, subst, arith}
use Rattle.case_tables.specs.declared.kind_table.Kind.{Kind}
use Rattle.core_terms.specs.Folding.{or_form, not_form}
use Rattle.core_terms.specs.Trees.{same_form}
use Rattle.core_terms.specs.declared.programs.CSlot.{CSlot}
use Rattle.core_terms.specs.declared.trees.Range.{Range}
use Rattle.core_terms.specs.declared.trees.CForm.{out-CForm}
use Rattle.core_terms.specs.declared.trees.CForm.TheVariants.{Bottom}
use Rattle.fair_rounds.specs.declared.records.Record.{Record}
use Rattle.safety_rules.specs.from_rules_table.Table.{Site, is_unless, is_invariant}
use Rattle.safety_rules.specs.from_rules_table.Further.{is_leadsto, ends_on, first_side, detects_of}
use Rattle.safety_rules.proofs.lemmas_from_rules_table.RowEquations.{detects-is}
use Rattle.safety_rules.proofs.lemmas_from_rules_table.FurtherSound.{detects_sound}
use Rattle.safety_rules.specs.Answers.{site_of}
use Rattle.safety_rules.specs.Usable.{NamesExist}
use Rattle.safety_rules.proofs.UsableLaws.{usable, fits_max, fits_exist, exist_or}
use Rattle.safety_rules.proofs.SoundLaws.{site_good, premise_good, answer_stands}
use Rattle.derived_rules.proofs.SideLaws.{side_usable}
use Rattle.derived_rules.proofs.WithinLaws.{other_kinds, other_shapes, derived_given}
use Rattle.derived_rules.proofs.pairs.detects_rule.Goals as goal

pub returns-then-not-always_and_leads-clause-answer : goal.returns-then-not-always_and_leads-clause-answer
returns-then-not-always_and_leads-clause-answer c =
    let pl = c.args.pl.now in
    let site : Site = site_of pl in
    let a : Record = c.args.a.now in
    let b : Record = c.args.b.now in
    let kinds : Bool = is_invariant a.kind && is_leadsto b.kind in
    let alike : Bool = same_form a.p (or_form (not_form b.q) b.p) in
    other_kinds site kinds alike Kind.Detects b.q b.p (a.under ++ b.under) b.bound (detects_of site a b)
    (detects-is site a b) (sym c.always_and_leads.ensures ∙ c.if-not-always_and_leads.true)

pub returns-then-not-branch-clause-answer : goal.returns-then-not-branch-clause-answer
returns-then-not-branch-clause-answer c =
    let pl = c.args.pl.now in
    let site : Site = site_of pl in
    let a : Record = c.args.a.now in
    let b : Record = c.args.b.now in
    let kinds : Bool = is_invariant a.kind && is_leadsto b.kind in
    let alike : Bool = same_form a.p (or_form (not_form b.q) b.p) in
    other_shapes site kinds alike Kind.Detects b.q b.p (a.under ++ b.under) b.bound (detects_of site a b)
    (detects-is site a b) (sym c.always_and_leads.ensures ∙ c.if-not-always_and_leads.false)
    (sym c.in_ok-is_implication.ensures ∙ c.if-not-branch.true)

pub is_implication-requires : goal.is_implication-requires
is_implication-requires c =
    fits_max c.args.pl.now.slots.now c.args.pl.now.params.now c.args.b.now.q c.args.b.now.p c.requires.b.q
    c.requires.b.p

pub returns-clause-answer : goal.returns-clause-answer
returns-clause-answer c =
    let pl = c.args.pl.now in
    let site : Site = site_of pl in
    let a : Record = c.args.a.now in
    let b : Record = c.args.b.now in
    let kinds : Bool = is_invariant a.kind && is_leadsto b.kind in
    let alike : Bool = same_form a.p (or_form (not_form b.q) b.p) in
    derived_given site kinds alike Kind.Detects b.q b.p (a.under ++ b.under) b.bound (detects_of site a b)
    (detects-is site a b) (sym c.always_and_leads.ensures ∙ c.if-not-always_and_leads.false)
    (sym c.in_ok-is_implication.ensures ∙ c.if-not-branch.false) c.in_ok-p.p c.in_ok-q.q
    (c.as_slice.result.now ++ c.as_slice-2.result.now) c.from.result
    c.in_ok-p.ensures c.in_ok-q.ensures
    (ap (λ u. u ++ c.as_slice-2.result.now) c.as_slice.ensures ∙ ap (λ u. a.under ++ u) c.as_slice-2.ensures)
    c.from.ensures c.within.result c.within.ensures

pub returns-clause-sound : goal.returns-clause-sound
returns-clause-sound c one two =
    let pl = c.args.pl.now in
    let site : Site = site_of pl in
    let a : Record = c.args.a.now in
    let b : Record = c.args.b.now in
    answer_stands pl c.within.result (detects_of site a b)
    (detects_sound site (site_good pl c.requires.place) a b (premise_good pl a c.requires.a one)
    (premise_good pl b c.requires.b two)) (returns-clause-answer c)
