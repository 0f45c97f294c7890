use Rattle.std.proofs.Common.{List, None, sym, subst}
use Rattle.case_tables.specs.declared.kind_table.Kind.{Kind}
use Rattle.core_terms.specs.declared.programs.CSlot.{CSlot}
use Rattle.core_terms.specs.declared.trees.Range.{Range}
use Rattle.fair_rounds.specs.declared.records.Record.{Record}
use Rattle.rules_table.specs.Table.{record_of, concluded}
use Rattle.rules_table.specs.declared.led.Led.{Led}
use Rattle.safety_rules.specs.Answers.{site_of, RuleAnswers}
use Rattle.leadsto_rules.specs.Deriving.{narrowed_row}
use Rattle.leadsto_rules.proofs.DeriveLaws.{narrowed_is}
use Rattle.leadsto_rules.proofs.derivation.derived.Goals as goal

pub returns : goal.returns
returns c =
    let slots : List CSlot = c.args.pl.now.slots.now in
    let ranges : List Range = c.args.ranges.now in
    let params : List Range = c.args.pl.now.params.now in
    let led : Led = c.args.led.now in
    let made : Record = record_of (record (site_of c.args.pl.now) { params = ranges }) Kind.Leadsto led.p led.q
    led.under None in
    subst (λ row. RuleAnswers c.narrowed.result slots row) (sym (narrowed_is slots ranges params led.bound made
    led.forms))
    (subst (λ ps. RuleAnswers c.narrowed.result slots
    (narrowed_row ps led.bound (concluded slots ranges made led.forms))) c.in_ok-params.ensures
    (c.narrowed.ensures slots (concluded slots ranges made led.forms) c.concluded_wide-answer.ensures))
