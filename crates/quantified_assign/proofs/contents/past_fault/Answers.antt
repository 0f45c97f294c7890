use Rattle.std.proofs.Common.{Some, Option, drop, sym, ap, ◌∙◌}
use Rattle.case_tables.specs.declared.code_table.Code.{Code}
use Rattle.unity_syntax.specs.declared.name.Name.{Name}
use Rattle.names_rules.specs.Reading.{Fault, earlier}
use Rattle.expand_documents.specs.Faults.{slots_fault}
use Rattle.expand_declarations.proofs.LayoutLaws.{drop_item, parts_before_are_few, parts_before_are_near}
use Rattle.quantified_assign.proofs.contents.past_fault.Goals as goal

pub check_laid-requires-clause-near : goal.check_laid-requires-clause-near
check_laid-requires-clause-near c = parts_before_are_near c.args.place c.args.parts.now c.requires.near

pub check_laid-requires-clause-few : goal.check_laid-requires-clause-few
check_laid-requires-clause-few c = (parts_before_are_few c.args.place c.args.parts.now c.requires.past).few

pub returns-in-Ok : goal.returns-in-Ok
returns-in-Ok c =
    ap (λ (f : Option Fault). earlier f (slots_fault (drop c.args.place c.args.parts.now))) c.in-Ok.ensures
    ∙ ap slots_fault (drop_item c.args.parts.now c.args.place c.index-parts-place.result c.requires.within
    c.index-parts-place.is)
    ∙ ap (λ (n : Name). Some (record { code = Code.TooLarge; at = n.at })) (sym c.part_name.ensures)
