use Rattle.expand_declarations.proofs.LayoutLaws.{parts_before_are_few, parts_before_are_near}
use Rattle.expand_declarations.proofs.laws.parts_before.Goals as goal

pub returns-clause-few : goal.returns-clause-few
returns-clause-few c = parts_before_are_few

pub returns-clause-near : goal.returns-clause-near
returns-clause-near c = parts_before_are_near
