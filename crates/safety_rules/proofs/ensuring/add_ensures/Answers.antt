use Rattle.std.proofs.Common.{◌≡◌, ◌++◌, List, Result, Ok, Err, IsErrAnd, map}
use Rattle.core_terms.specs.declared.trees.CForm.{CForm}
use Rattle.core_terms.specs.declared.documents.Helper.{Helper}
use Rattle.obligations.specs.declared.branches.Obligation.{Obligation}
use Rattle.rules_table.specs.Table.{Site, unless_forms, meant_forms, helped_form, instances_of, helper_forms}
use Rattle.safety_rules.specs.declared.places.RuleError.{RuleError}
use Rattle.safety_rules.specs.Answers.{site_of}
use Rattle.safety_rules.specs.Goals.{Added}
use Rattle.safety_rules.proofs.AnswerLaws.{first_part_fails, second_part_added}
use Rattle.safety_rules.proofs.ErrorLaws.{handed_on}
use Rattle.safety_rules.proofs.ensuring.add_ensures.Goals as goal

module _ (site : Site) (p q : CForm) (h : Helper) where
  abbrev helped_forms : List CForm
  helped_forms = map (helped_form site p q h) (instances_of site h)

  abbrev all_forms : List CForm
  all_forms = unless_forms site p q ++ helper_forms site p q h

  -- those of the unless, then others
  then_helper : {T : Type 0} (done : Unit {0}) (answer : Result T RuleError) (old mid new : List Obligation) →
      Added (Ok done) old mid site.slots site.params (unless_forms site p q) →
      Added answer mid new site.slots site.params (helper_forms site p q h) →
      Added answer old new site.slots site.params all_forms
  then_helper done answer old mid new =
      second_part_added site.slots site.params done answer old mid new (unless_forms site p q) (helper_forms site p q h)

  -- all of them, part by part
  each_added : {T : Type 0} (done more : Unit {0}) (answer : Result T RuleError) (old mid later new : List Obligation) →
      Added (Ok done) old mid site.slots site.params (unless_forms site p q) →
      Added (Ok more) mid later site.slots site.params (meant_forms site h) →
      Added answer later new site.slots site.params helped_forms → Added answer old new site.slots site.params all_forms
  each_added done more answer old mid later new one two three =
      then_helper done answer old mid new one
      (second_part_added site.slots site.params more answer mid later new (meant_forms site h) helped_forms two three)

  -- what is handed on of an error
  handed : (r : Result (Unit {0}) RuleError) (e : RuleError) (old new : List Obligation) → IsErrAnd r (λ x. x ≡ e) →
      Added {T = Unit {0}} (Err e) old new site.slots site.params all_forms →
      Added r old new site.slots site.params all_forms
  handed r e old new is added =
      handed_on (λ x. Added x old new site.slots site.params all_forms) r e is added

pub returns-in_err-add_unless : goal.returns-in_err-add_unless
returns-in_err-add_unless c =
    let site : Site = site_of c.args.pl.now in
    let e = c.in_err-add_unless.field-0.0 in
    handed site c.args.p.now c.args.q.now c.args.h.now c.from_residual.result e c.args.goals.now c.add_unless.new.goals
    c.from_residual.ensures.1
    (first_part_fails site.slots site.params (Unit {0}) (Unit {0}) e c.args.goals.now c.add_unless.new.goals
    (unless_forms site c.args.p.now c.args.q.now) (helper_forms site c.args.p.now c.args.q.now c.args.h.now)
    c.in_err-add_unless.ensures)

pub returns-in_err-add_meant : goal.returns-in_err-add_meant
returns-in_err-add_meant c =
    let site : Site = site_of c.args.pl.now in
    let e = c.in_err-add_meant.field-0.0 in
    handed site c.args.p.now c.args.q.now c.args.h.now c.from_residual-in_err-add_meant.result e c.args.goals.now
    c.add_meant.new.goals c.from_residual-in_err-add_meant.ensures.1
    (then_helper site c.args.p.now c.args.q.now c.args.h.now {T = Unit {0}} c.in_ok-add_unless.field-0 (Err e)
    c.args.goals.now c.add_unless.new.goals c.add_meant.new.goals c.in_ok-add_unless.ensures
    (first_part_fails site.slots site.params (Unit {0}) (Unit {0}) e c.add_unless.new.goals c.add_meant.new.goals
    (meant_forms site c.args.h.now) (helped_forms site c.args.p.now c.args.q.now c.args.h.now)
    c.in_err-add_meant.ensures))

pub returns : goal.returns
returns c =
    each_added (site_of c.args.pl.now) c.args.p.now c.args.q.now c.args.h.now {T = Unit {0}} c.in_ok-add_unless.field-0
    c.in_ok-add_meant.field-0 c.add_helped.result c.args.goals.now c.add_unless.new.goals c.add_meant.new.goals
    c.add_helped.new.goals c.in_ok-add_unless.ensures c.in_ok-add_meant.ensures c.add_helped.ensures
