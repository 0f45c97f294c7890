use Rattle.std.proofs.Common.{ℕ, ◌≤◌, ◌^◌, nat_le, Ok, Err, List, map, refl, sym, ap, subst, ◌∙◌}
use Rattle.case_tables.specs.declared.code_table.Code.{Code}
use Rattle.core_terms.specs.Weights.{plain_weight}
use Rattle.core_terms.specs.declared.programs.CSlot.{CSlot}
use Rattle.core_terms.specs.declared.trees.CForm.{CForm}
use Rattle.core_terms.specs.declared.trees.Range.{Range}
use Rattle.rules_table.specs.Forms.{any_of}
use Rattle.rules_table.specs.Numbers.{form_for, numbers_of}
use Rattle.rules_table.specs.Table.{needs}
use Rattle.rules_table.specs.Terms.{node, leads_any}
use Rattle.safety_rules.specs.Answers.{site_of}
use Rattle.safety_rules.proofs.ErrorLaws.{handed_on}
use Rattle.safety_rules.proofs.UsableLaws.{fits_exist}
use Rattle.meaning_executions.specs.Counting.{range_size}
use Rattle.safety_rules.proofs.lemmas_from_wp_substitution.LightLaws.{form_light}
use Rattle.leadsto_rules.specs.Disjunctions.{GivesAny}
use Rattle.leadsto_rules.specs.Leading.{TermGives}
use Rattle.leadsto_rules.proofs.NodeLaws.{claim_fits, node_gives, bound_is, large_fails}
use Rattle.leadsto_rules.proofs.RangeLaws.{instance_exists, any_exists}
use Rattle.leadsto_rules.proofs.ranging.any_led.Goals as goal

pub any_number-requires-clause-light : goal.any_number-requires-clause-light
any_number-requires-clause-light c =
    subst (λ f. plain_weight f ≤ 2 ^ 62) (sym c.get.ensures)
    (form_light c.args.pl.now.slots.now c.args.ranges.now c.args.t.p c.requires.t.p)

pub node-requires : goal.node-requires
node-requires c =
    let slots : List CSlot = c.args.pl.now.slots.now in
    let ranges : List Range = c.args.ranges.now in
    let p : CForm = c.args.t.p in
    let range : Range = c.args.range in
    claim_fits slots ranges
    (c.in_ok-whole.ensures ∙ ap (λ f. any_of (map (λ z. form_for ranges c.args.name z f) (numbers_of range)))
    c.get.ensures) refl refl refl
    (any_exists slots ranges (λ z. form_for ranges c.args.name z p)
    (λ z. instance_exists slots ranges c.args.name z p (fits_exist slots ranges p c.requires.t.p)) range.lo
    (range_size (range.lo, range.hi)))
    (fits_exist slots ranges c.args.t.q c.requires.t.q) c.requires.t.under c.requires.t.forms

pub returns-in_err-whole-clause-answer : goal.returns-in_err-whole-clause-answer
returns-in_err-whole-clause-answer c =
    let site = site_of c.args.pl.now in
    let ranges : List Range = c.args.ranges.now in
    let led = leads_any ranges c.args.name c.args.range c.args.t in
    let e = c.in_err-whole.field-0.0 in
    handed_on (λ r. TermGives r (node site ranges led)) c.from_residual-in_err-whole.result e
    c.from_residual-in_err-whole.ensures.1
    (large_fails site ranges led c.in_ok-rounds.rounds e
    (subst (λ (n : ℕ). TermGives (Ok c.in_ok-rounds.rounds) (needs (nat_le n (2 ^ 63)) Code.BoundTooLarge (Ok n)))
    c.from.ensures c.in_ok-rounds.ensures)
    (subst (λ f. GivesAny (Err e) (any_of (map (λ z. form_for ranges c.args.name z f) (numbers_of c.args.range))))
    c.get.ensures c.in_err-whole.ensures))

pub returns-clause-answer : goal.returns-clause-answer
returns-clause-answer c =
    let site = site_of c.args.pl.now in
    let ranges : List Range = c.args.ranges.now in
    node_gives site ranges c.node.result
    (c.in_ok-whole.ensures ∙ ap (λ f. any_of (map (λ z. form_for ranges c.args.name z f) (numbers_of c.args.range)))
    c.get.ensures) refl (c.from-2.ensures ∙ bound_is _ _ _ _ c.in_ok-rounds.ensures ∙ c.from.ensures) refl refl
    c.node.ensures.answer
