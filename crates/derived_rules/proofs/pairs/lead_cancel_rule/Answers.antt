use Rattle.std.proofs.Common.{◌≡◌, ◌+◌, ◌++◌, List, Bool, ◌&&◌, refl, sym, ap, ◌∙◌, subst, arith}
use Rattle.case_tables.specs.declared.kind_table.Kind.{Kind}
use Rattle.core_terms.specs.Folding.{or_form, not_form}
use Rattle.core_terms.specs.Trees.{same_form}
use Rattle.core_terms.specs.declared.programs.CSlot.{CSlot}
use Rattle.core_terms.specs.declared.trees.Range.{Range}
use Rattle.core_terms.specs.declared.trees.CForm.{out-CForm}
use Rattle.core_terms.specs.declared.trees.CForm.TheVariants.{Bottom}
use Rattle.fair_rounds.specs.declared.records.Record.{Record}
use Rattle.safety_rules.specs.from_rules_table.Table.{Site, is_unless, is_invariant}
use Rattle.safety_rules.specs.from_rules_table.Further.{is_leadsto, ends_on, first_side, lead_cancel_of}
use Rattle.safety_rules.proofs.lemmas_from_rules_table.RowEquations.{lead_cancel-is}
use Rattle.safety_rules.proofs.lemmas_from_rules_table.FurtherSound.{lead_cancel_sound}
use Rattle.safety_rules.specs.Answers.{site_of}
use Rattle.safety_rules.specs.Usable.{NamesExist}
use Rattle.safety_rules.proofs.UsableLaws.{usable, fits_max, fits_exist, exist_or}
use Rattle.safety_rules.proofs.SoundLaws.{site_good, premise_good, answer_stands}
use Rattle.derived_rules.proofs.SideLaws.{side_usable}
use Rattle.derived_rules.proofs.WithinLaws.{other_kinds, other_shapes, derived_given}
use Rattle.derived_rules.proofs.pairs.lead_cancel_rule.Goals as goal

pub returns-then-not-both_lead-clause-answer : goal.returns-then-not-both_lead-clause-answer
returns-then-not-both_lead-clause-answer c =
    let pl = c.args.pl.now in
    let site : Site = site_of pl in
    let a : Record = c.args.a.now in
    let b : Record = c.args.b.now in
    let kinds : Bool = is_leadsto a.kind && is_leadsto b.kind in
    let alike : Bool = ends_on (out-CForm a.q) b.p in
    other_kinds site kinds alike Kind.Leadsto a.p (or_form (first_side (out-CForm a.q)) b.q) (a.under ++ b.under)
    (a.bound + b.bound) (lead_cancel_of site a b)
    (lead_cancel-is site a b) (sym c.both_lead.ensures ∙ c.if-not-both_lead.true)

pub returns-then-not-ends_on-clause-answer : goal.returns-then-not-ends_on-clause-answer
returns-then-not-ends_on-clause-answer c =
    let pl = c.args.pl.now in
    let site : Site = site_of pl in
    let a : Record = c.args.a.now in
    let b : Record = c.args.b.now in
    let kinds : Bool = is_leadsto a.kind && is_leadsto b.kind in
    let alike : Bool = ends_on (out-CForm a.q) b.p in
    other_shapes site kinds alike Kind.Leadsto a.p (or_form (first_side (out-CForm a.q)) b.q) (a.under ++ b.under)
    (a.bound + b.bound) (lead_cancel_of site a b)
    (lead_cancel-is site a b) (sym c.both_lead.ensures ∙ c.if-not-both_lead.false)
    (sym c.ends_on.ensures ∙ c.if-not-ends_on.true)

pub side_or-requires : goal.side_or-requires
side_or-requires c =
    let one = (side_usable c.args.pl.now.slots.now c.args.pl.now.params.now c.args.a.now.q c.requires.a.q).light in
    let two = (usable c.args.pl.now.slots.now c.args.pl.now.params.now c.args.b.now.q c.requires.b.q).light in
    omega (arith, one, two)

pub within-requires-clause-q : goal.within-requires-clause-q
within-requires-clause-q c =
    let slots : List CSlot = c.args.pl.now.slots.now in
    let params : List Range = c.args.pl.now.params.now in
    let a : Record = c.args.a.now in
    let b : Record = c.args.b.now in
    subst (λ f. NamesExist slots params f) (sym c.in_ok-q.ensures)
    (exist_or slots params (first_side (out-CForm a.q)) b.q (side_usable slots params a.q c.requires.a.q).names
    (fits_exist slots params b.q c.requires.b.q))

pub returns-clause-answer : goal.returns-clause-answer
returns-clause-answer c =
    let pl = c.args.pl.now in
    let site : Site = site_of pl in
    let a : Record = c.args.a.now in
    let b : Record = c.args.b.now in
    let kinds : Bool = is_leadsto a.kind && is_leadsto b.kind in
    let alike : Bool = ends_on (out-CForm a.q) b.p in
    derived_given site kinds alike Kind.Leadsto a.p (or_form (first_side (out-CForm a.q)) b.q) (a.under ++ b.under)
    (a.bound + b.bound) (lead_cancel_of site a b)
    (lead_cancel-is site a b) (sym c.both_lead.ensures ∙ c.if-not-both_lead.false)
    (sym c.ends_on.ensures ∙ c.if-not-ends_on.false) c.in_ok-p.p c.in_ok-q.q
    (c.as_slice.result.now ++ c.as_slice-2.result.now) (c.from.result + c.from-2.result)
    c.in_ok-p.ensures c.in_ok-q.ensures
    (ap (λ u. u ++ c.as_slice-2.result.now) c.as_slice.ensures ∙ ap (λ u. a.under ++ u) c.as_slice-2.ensures)
    (ap (λ n. n + c.from-2.result) c.from.ensures ∙ ap (λ n. a.bound + n) c.from-2.ensures) c.within.result
    c.within.ensures

pub returns-clause-sound : goal.returns-clause-sound
returns-clause-sound c one two =
    let pl = c.args.pl.now in
    let site : Site = site_of pl in
    let a : Record = c.args.a.now in
    let b : Record = c.args.b.now in
    answer_stands pl c.within.result (lead_cancel_of site a b)
    (lead_cancel_sound site (site_good pl c.requires.place) a b (premise_good pl a c.requires.a one)
    (premise_good pl b c.requires.b two)) (returns-clause-answer c)
