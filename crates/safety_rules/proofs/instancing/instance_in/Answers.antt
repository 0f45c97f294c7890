use Rattle.std.proofs.Common.{◌≡◌, ◌&&◌, not, Bool, List, Ok, ap, sym, ◌∙◌}
use Rattle.std.specs.List.{list_any}
use Rattle.case_tables.specs.declared.code_table.Code.{Code}
use Rattle.core_terms.specs.declared.trees.Range.{Range}
use Rattle.core_terms.specs.declared.documents.Arg.{Arg}
use Rattle.core_terms.specs.Replacing.{form_at}
use Rattle.fair_rounds.specs.declared.records.Record.{Record}
use Rattle.rules_table.specs.Limits.{fits}
use Rattle.rules_table.specs.Table.{Site, needs, is_slot, are_arguments, record_with, instance_of}
use Rattle.rules_table.proofs.CalcSound.{instance_sound}
use Rattle.rules_table.proofs.RowEquations.{instance-is}
use Rattle.safety_rules.specs.Answers.{site_of}
use Rattle.safety_rules.specs.Instances.{StandsIn}
use Rattle.safety_rules.proofs.AnswerLaws.{needs_met, needs_not}
use Rattle.safety_rules.proofs.InstanceLaws.{can_put, may_put, record_refused, record_given, record_stands}
use Rattle.safety_rules.proofs.instancing.instance_in.Goals as goal

arguments_are : (ranges params all : List Range) (args : List Arg) (b v : Bool) → all ≡ params →
    b ≡ are_arguments ranges all args → b ≡ v → are_arguments ranges params args ≡ v
arguments_are ranges params all args b v same is e =
    ap (λ ps. are_arguments ranges ps args) (sym same) ∙ (sym is ∙ e)

pub returns-then-has_variable-clause-answer : goal.returns-then-has_variable-clause-answer
returns-then-has_variable-clause-answer c =
    let site : Site = site_of c.args.pl.now in
    let ranges : List Range = c.args.ranges.now in
    let a : Record = c.args.a.now in
    let args : List Arg = c.args.args.now in
    record_refused Code.ParamEscapes (instance_of site ranges a args)
    (instance-is site ranges a args
    ∙ needs_not (not (list_any is_slot args)) Code.ParamEscapes _
    (ap not (sym c.has_variable.ensures ∙ c.if-has_variable.true)))

pub returns-then-not-are_arguments-clause-answer : goal.returns-then-not-are_arguments-clause-answer
returns-then-not-are_arguments-clause-answer c =
    let site : Site = site_of c.args.pl.now in
    let ranges : List Range = c.args.ranges.now in
    let a : Record = c.args.a.now in
    let args : List Arg = c.args.args.now in
    record_refused Code.BadArgument (instance_of site ranges a args)
    (instance-is site ranges a args
    ∙ needs_met (not (list_any is_slot args)) Code.ParamEscapes _
    (ap not (sym c.has_variable.ensures ∙ c.if-has_variable.false))
    ∙ needs_not (are_arguments ranges a.params args) Code.BadArgument _
    (arguments_are ranges a.params c.as_slice.result.now args _ _ c.as_slice.ensures c.are_arguments.ensures
    c.if-not-are_arguments.true))

pub with_arguments-requires-clause-p : goal.with_arguments-requires-clause-p
with_arguments-requires-clause-p c =
    let a : Record = c.args.a.now in
    can_put c.args.pl.now.slots.now c.args.ranges.now a.params c.args.args.now a.p c.requires.ranges
    c.requires.record.params c.requires.record.p
    (arguments_are c.args.ranges.now a.params c.as_slice.result.now c.args.args.now _ _ c.as_slice.ensures
    c.are_arguments.ensures c.if-not-are_arguments.false)

pub with_arguments-requires-clause-q : goal.with_arguments-requires-clause-q
with_arguments-requires-clause-q c =
    let a : Record = c.args.a.now in
    can_put c.args.pl.now.slots.now c.args.ranges.now a.params c.args.args.now a.q c.requires.ranges
    c.requires.record.params c.requires.record.q
    (arguments_are c.args.ranges.now a.params c.as_slice.result.now c.args.args.now _ _ c.as_slice.ensures
    c.are_arguments.ensures c.if-not-are_arguments.false)

pub with_arguments-requires-clause-helper : goal.with_arguments-requires-clause-helper
with_arguments-requires-clause-helper c =
    let a : Record = c.args.a.now in
    may_put c.args.ranges.now a.params c.args.args.now a.helper c.requires.ranges
    (arguments_are c.args.ranges.now a.params c.as_slice.result.now c.args.args.now _ _ c.as_slice.ensures
    c.are_arguments.ensures c.if-not-are_arguments.false) c.requires.record.helper

pub returns-clause-answer : goal.returns-clause-answer
returns-clause-answer c =
    let site : Site = site_of c.args.pl.now in
    let ranges : List Range = c.args.ranges.now in
    let a : Record = c.args.a.now in
    let args : List Arg = c.args.args.now in
    record_given c.with_arguments.result (instance_of site ranges a args)
    (needs (fits site.slots ranges (form_at args a.p) && fits site.slots ranges (form_at args a.q))
    Code.FormulaTooLarge (Ok (record_with site a args)))
    (instance-is site ranges a args
    ∙ needs_met (not (list_any is_slot args)) Code.ParamEscapes _
    (ap not (sym c.has_variable.ensures ∙ c.if-has_variable.false))
    ∙ needs_met (are_arguments ranges a.params args) Code.BadArgument _
    (arguments_are ranges a.params c.as_slice.result.now args _ _ c.as_slice.ensures c.are_arguments.ensures
    c.if-not-are_arguments.false))
    c.with_arguments.ensures

pub returns-clause-sound : goal.returns-clause-sound
returns-clause-sound c stands =
    let site : Site = site_of c.args.pl.now in
    let ranges : List Range = c.args.ranges.now in
    record_stands (StandsIn c.args.pl.now ranges) c.with_arguments.result
    (instance_of site ranges c.args.a.now c.args.args.now)
    (λ r e n inside. instance_sound site ranges c.args.a.now c.args.args.now r stands e n inside)
    (returns-clause-answer c)
