use Rattle.std.proofs.Common.{◌++◌, length, subst, sym}
use Rattle.core_terms.specs.declared.documents.CRule.{CRule}
use Rattle.safety_rules.specs.from_rules_table.Walk as walk
use Rattle.safety_rules.specs.Answers.{site_of, RuleAnswers}
use Rattle.core_terms.specs.Conditions.{RuleWellScoped, is_below, rule_ranges}
use Rattle.rules_steps.specs.Starts.{seen_with}
use Rattle.rules_steps.proofs.ruling.applied.Goals as goal

pub returns-in-Pair : goal.returns-in-Pair
returns-in-Pair c =
    subst (λ (rule : CRule). RuleAnswers c.by_pair.result c.args.pl.now.slots.now
    (walk.applied (seen_with c.args.around.now.version c.args.pl.now.slots.now c.args.around.now.programs.now)
    (site_of c.args.pl.now) c.args.step.now c.args.book.now rule))
    (sym c.in-Pair.is) c.by_pair.ensures

pub ensures_rule-requires-clause-helper : goal.ensures_rule-requires-clause-helper
ensures_rule-requires-clause-helper c =
    subst (λ (rule : CRule). RuleWellScoped c.args.pl.now.slots.now (c.args.pl.now.params.now ++ rule_ranges rule)
    (is_below (length c.args.pl.now.params.now)) (length c.args.pl.now.params.now) rule) c.in-TextWith.is
    c.requires.rule

pub returns-in-Union : goal.returns-in-Union
returns-in-Union c =
    subst (λ (rule : CRule). RuleAnswers c.by_union.result c.args.pl.now.slots.now
    (walk.applied (seen_with c.args.around.now.version c.args.pl.now.slots.now c.args.around.now.programs.now)
    (site_of c.args.pl.now) c.args.step.now c.args.book.now rule))
    (sym c.in-Union.is) c.by_union.ensures

pub returns-in-Complete : goal.returns-in-Complete
returns-in-Complete c =
    subst (λ (rule : CRule). RuleAnswers c.by_complete.result c.args.pl.now.slots.now
    (walk.applied (seen_with c.args.around.now.version c.args.pl.now.slots.now c.args.around.now.programs.now)
    (site_of c.args.pl.now) c.args.step.now c.args.book.now rule))
    (sym c.in-Complete.is) c.by_complete.ensures
