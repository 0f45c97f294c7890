use Rattle.std.proofs.Common.{◌≡◌, ℕ, max, ◌++◌, List, Bool, ◌&&◌, refl, sym, ap, ◌∙◌, subst}
use Rattle.case_tables.specs.declared.kind_table.Kind.{Kind}
use Rattle.core_terms.specs.Folding.{and_form, or_form}
use Rattle.core_terms.specs.Trees.{same_form}
use Rattle.core_terms.specs.declared.programs.CSlot.{CSlot}
use Rattle.core_terms.specs.declared.trees.CForm.{CForm}
use Rattle.core_terms.specs.declared.trees.Range.{Range}
use Rattle.fair_rounds.specs.declared.records.Record.{Record}
use Rattle.safety_rules.specs.from_rules_table.Table.{Site, is_unless}
use Rattle.safety_rules.specs.from_rules_table.Further.{is_leadsto, complete_of}
use Rattle.safety_rules.proofs.lemmas_from_rules_table.RowEquations.{complete-is}
use Rattle.safety_rules.proofs.lemmas_from_rules_table.FurtherSound.{complete_sound}
use Rattle.safety_rules.specs.Answers.{site_of}
use Rattle.safety_rules.specs.Usable.{NamesExist}
use Rattle.safety_rules.proofs.UsableLaws.{usable, fits_max, fits_exist, exist_and, exist_or}
use Rattle.safety_rules.proofs.SoundLaws.{site_good, premise_good, answer_stands}
use Rattle.derived_rules.proofs.WithinLaws.{other_kinds, other_shapes, derived_given}
use Rattle.derived_rules.proofs.completing.complete_rule.Goals as goal

pub returns-then-not-have_kinds-clause-answer : goal.returns-then-not-have_kinds-clause-answer
returns-then-not-have_kinds-clause-answer c =
    let pl = c.args.pl.now in
    let site : Site = site_of pl in
    let a : Record = c.args.a.now in
    let b : Record = c.args.b.now in
    let d : Record = c.args.c.now in
    let f : Record = c.args.d.now in
    let kinds : Bool = (is_leadsto a.kind && is_unless b.kind) && (is_leadsto d.kind && is_unless f.kind) in
    let alike : Bool = same_form b.q f.q && (same_form a.q (or_form b.p b.q) && same_form d.q (or_form f.p f.q)) in
    let p : CForm = and_form a.p d.p in
    let q : CForm = or_form (and_form b.p f.p) b.q in
    let more : List CForm = (a.under ++ b.under) ++ (d.under ++ f.under) in
    let bound : ℕ = max a.bound d.bound in
    other_kinds site kinds alike Kind.Leadsto p q more bound (complete_of site a b d f) (complete-is site a b d f)
    (sym c.have_kinds.ensures ∙ c.if-not-have_kinds.true)

pub are_ends_kept-requires-clause-b : goal.are_ends_kept-requires-clause-b
are_ends_kept-requires-clause-b c =
    fits_max c.args.pl.now.slots.now c.args.pl.now.params.now c.args.b.now.p c.args.b.now.q c.requires.b.p
    c.requires.b.q

pub are_ends_kept-requires-clause-d : goal.are_ends_kept-requires-clause-d
are_ends_kept-requires-clause-d c =
    fits_max c.args.pl.now.slots.now c.args.pl.now.params.now c.args.d.now.p c.args.d.now.q c.requires.d.p
    c.requires.d.q

pub returns-then-not-branch-clause-answer : goal.returns-then-not-branch-clause-answer
returns-then-not-branch-clause-answer c =
    let pl = c.args.pl.now in
    let site : Site = site_of pl in
    let a : Record = c.args.a.now in
    let b : Record = c.args.b.now in
    let d : Record = c.args.c.now in
    let f : Record = c.args.d.now in
    let kinds : Bool = (is_leadsto a.kind && is_unless b.kind) && (is_leadsto d.kind && is_unless f.kind) in
    let alike : Bool = same_form b.q f.q && (same_form a.q (or_form b.p b.q) && same_form d.q (or_form f.p f.q)) in
    let p : CForm = and_form a.p d.p in
    let q : CForm = or_form (and_form b.p f.p) b.q in
    let more : List CForm = (a.under ++ b.under) ++ (d.under ++ f.under) in
    let bound : ℕ = max a.bound d.bound in
    other_shapes site kinds alike Kind.Leadsto p q more bound (complete_of site a b d f) (complete-is site a b d f)
    (sym c.have_kinds.ensures ∙ c.if-not-have_kinds.false) (sym c.in_ok-are_ends_kept.ensures ∙ c.if-not-branch.true)

pub both-requires : goal.both-requires
both-requires c =
    fits_max c.args.pl.now.slots.now c.args.pl.now.params.now c.args.a.now.p c.args.c.now.p c.requires.a.p
    c.requires.c.p

pub kept_or_ended-requires-clause-b : goal.kept_or_ended-requires-clause-b
kept_or_ended-requires-clause-b c =
    fits_max c.args.pl.now.slots.now c.args.pl.now.params.now c.args.b.now.p c.args.b.now.q c.requires.b.p
    c.requires.b.q

pub kept_or_ended-requires-clause-d : goal.kept_or_ended-requires-clause-d
kept_or_ended-requires-clause-d c =
    (usable c.args.pl.now.slots.now c.args.pl.now.params.now c.args.d.now.p c.requires.d.p).light

pub within-requires-clause-p : goal.within-requires-clause-p
within-requires-clause-p c =
    let slots : List CSlot = c.args.pl.now.slots.now in
    let params : List Range = c.args.pl.now.params.now in
    subst (λ g. NamesExist slots params g) (sym c.in_ok-p.ensures.tree)
    (exist_and slots params c.args.a.now.p c.args.c.now.p (fits_exist slots params c.args.a.now.p c.requires.a.p)
    (fits_exist slots params c.args.c.now.p c.requires.c.p))

pub within-requires-clause-q : goal.within-requires-clause-q
within-requires-clause-q c =
    let slots : List CSlot = c.args.pl.now.slots.now in
    let params : List Range = c.args.pl.now.params.now in
    let b : Record = c.args.b.now in
    let f : Record = c.args.d.now in
    subst (λ g. NamesExist slots params g) (sym c.in_ok-q.ensures)
    (exist_or slots params (and_form b.p f.p) b.q
    (exist_and slots params b.p f.p (fits_exist slots params b.p c.requires.b.p)
    (fits_exist slots params f.p c.requires.d.p)) (fits_exist slots params b.q c.requires.b.q))

pub returns-clause-answer : goal.returns-clause-answer
returns-clause-answer c =
    let pl = c.args.pl.now in
    let site : Site = site_of pl in
    let a : Record = c.args.a.now in
    let b : Record = c.args.b.now in
    let d : Record = c.args.c.now in
    let f : Record = c.args.d.now in
    let kinds : Bool = (is_leadsto a.kind && is_unless b.kind) && (is_leadsto d.kind && is_unless f.kind) in
    let alike : Bool = same_form b.q f.q && (same_form a.q (or_form b.p b.q) && same_form d.q (or_form f.p f.q)) in
    let p : CForm = and_form a.p d.p in
    let q : CForm = or_form (and_form b.p f.p) b.q in
    let more : List CForm = (a.under ++ b.under) ++ (d.under ++ f.under) in
    let bound : ℕ = max a.bound d.bound in
    derived_given site kinds alike Kind.Leadsto p q more bound (complete_of site a b d f) (complete-is site a b d f)
    (sym c.have_kinds.ensures ∙ c.if-not-have_kinds.false) (sym c.in_ok-are_ends_kept.ensures ∙ c.if-not-branch.false)
    c.in_ok-p.p c.in_ok-q.q (c.as_slice.result.now ++ c.as_slice-2.result.now) c.from.result c.in_ok-p.ensures.tree
    c.in_ok-q.ensures
    (ap (λ u. u ++ c.as_slice-2.result.now) (c.as_slice.ensures ∙ c.in_ok-first.ensures)
    ∙ ap (λ u. (a.under ++ b.under) ++ u) (c.as_slice-2.ensures ∙ c.in_ok-second.ensures))
    (c.from.ensures ∙ c.greater.ensures) c.within.result c.within.ensures

pub returns-clause-sound : goal.returns-clause-sound
returns-clause-sound c one two three four =
    let pl = c.args.pl.now in
    let site : Site = site_of pl in
    let a : Record = c.args.a.now in
    let b : Record = c.args.b.now in
    let d : Record = c.args.c.now in
    let f : Record = c.args.d.now in
    answer_stands pl c.within.result (complete_of site a b d f)
    (complete_sound site (site_good pl c.requires.place) a b d f (premise_good pl a c.requires.a one)
    (premise_good pl b c.requires.b two) (premise_good pl d c.requires.c three)
    (premise_good pl f c.requires.d four)) (returns-clause-answer c)
