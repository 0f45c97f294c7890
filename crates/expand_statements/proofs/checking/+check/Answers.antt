use Rattle.std.proofs.Common.{[], map, sym, subst, Option}
use Rattle.unity_syntax.specs.declared.statement.Item.{Item}
use Rattle.names_rules.specs.Answers.{Demands}
use Rattle.names_rules.specs.Reading.{Fault}
use Rattle.expand_rules.specs.Lists.{item_fault, first_fault}
use Rattle.expand_statements.specs.declared.chains.Chain.{Chain}
use Rattle.expand_statements.specs.Standing.{standing_in}
use Rattle.expand_statements.specs.Visiting.{scope_among}
use Rattle.expand_statements.proofs.ItemLaws.{fault-Statement, fault-parts}
use Rattle.expand_statements.proofs.FaultLaws.{demands_second}
use Rattle.expand_statements.proofs.checking.+check.Goals as goal

pub check_item-returns-in-Statement-clause-fault : goal.check_item-returns-in-Statement-clause-fault
check_item-returns-in-Statement-clause-fault t c =
    let s = scope_among c.args.known.now [] in
    let bs = standing_in c.args.chain.now in
    let q = c.in-Statement in
    subst (λ (x : Item). Demands c.check_statement.result (item_fault s x bs)) (sym q.is)
    (subst (λ (f : Option Fault). Demands c.check_statement.result f)
    (sym (fault-Statement s q.at q.label q.assign bs))
    c.check_statement.ensures)

pub check_all-returns-clause-fault : goal.check_all-returns-clause-fault
check_all-returns-clause-fault t c =
    let s = scope_among c.args.known.now [] in
    let bs = standing_in c.args.chain.now in
    let x = c.args.items.now in
    subst (λ (f : Option Fault). Demands c.check_further.result f) (sym (fault-parts s x bs))
    (demands_second c.check_further.result (item_fault s x.first bs)
    (first_fault (map (λ i. item_fault s i bs) x.rest))
    c.in_ok-check_item.ensures.fault
    (subst (λ (k : Chain). Demands c.check_further.result
    (first_fault (map (λ i. item_fault s i (standing_in k)) x.rest)))
    c.in_ok-check_item.ensures.chain c.check_further.ensures.fault))
