use Rattle.std.proofs.Common.{◌+◌, List, drop, subst}
use Rattle.names_rules.specs.declared.named.NameFault.{NameFault}
use Rattle.names_rules.specs.Answers.{Stops}
use Rattle.expand_documents.specs.Faults.{heading_fault}
use Rattle.unity_syntax.specs.declared.document.Part.{Part}
use Rattle.names_rules.specs.Scope.{entries}
use Rattle.expand_rules.specs.Forming.{Scope}
use Rattle.expand_documents.specs.AlwaysNames.{definition_scope}
use Rattle.expand_declarations.proofs.LayoutLaws.{drop_item}
use Rattle.quantified_assign.proofs.HeadingLaws.{HeadingsAhead, headings_more, headings_stop}
use Rattle.quantified_assign.proofs.headings.add_headings.Goals as goal

pub returns-in-Err-Fault : goal.returns-in-Err-Fault
returns-in-Err-Fault c =
    let now : Scope = definition_scope (entries c.args.variables.now) (entries c.args.values.now)
    (entries c.loop-i.always) in
    let old : Scope = definition_scope (entries c.args.variables.now) (entries c.args.values.now)
    (entries c.args.always.now) in
    let p : Part = c.index-parts-i.result in
    let rest : List Part = drop (c.loop-i.i + 1) c.args.parts.now in
    rw (c.in-Err-Fault.code-is, c.in-Err-Fault.at-is)
    (headings_stop now old c.loop-i.i p rest c.args.parts.now c.in-Err-Fault.code c.in-Err-Fault.at c.loop-i-test.true
    (subst (λ (ps : List Part). HeadingsAhead now c.loop-i.i ps old c.args.parts.now)
    (drop_item c.args.parts.now c.loop-i.i p c.loop-i-test.true c.index-parts-i.is) c.loop-i.invariant)
    (subst (λ (e : NameFault). Stops e (heading_fault now p)) c.in-Err-Fault.field-0-is c.in-Err-Fault.ensures))

pub loop-i-preserved : goal.loop-i-preserved
loop-i-preserved c =
    let now : Scope = definition_scope (entries c.args.variables.now) (entries c.args.values.now)
    (entries c.loop-i.always) in
    let old : Scope = definition_scope (entries c.args.variables.now) (entries c.args.values.now)
    (entries c.args.always.now) in
    let p : Part = c.index-parts-i.result in
    let rest : List Part = drop (c.loop-i.i + 1) c.args.parts.now in
    headings_more now old (entries c.add_heading.new.always) c.loop-i.i p rest c.args.parts.now
    (subst (λ (ps : List Part). HeadingsAhead now c.loop-i.i ps old c.args.parts.now)
    (drop_item c.args.parts.now c.loop-i.i p c.loop-i-test.true c.index-parts-i.is) c.loop-i.invariant)
    c.in-Ok.ensures
