use Rattle.std.proofs.Common.{[], List, sym, subst, ap, ◌∙◌, Option}
use Rattle.std.proofs.lemmas.Result.{err_from_is_err_and}
use Rattle.unity_syntax.specs.declared.name.Name.{Name}
use Rattle.meaning_documents.specs.Names.{Bindings}
use Rattle.names_rules.specs.Answers.{Demands, Stops}
use Rattle.names_rules.specs.Reading.{Fault}
use Rattle.expand_rules.specs.declared.effects.Effect.{Effect}
use Rattle.expand_rules.specs.Assigning.{among, effect_of}
use Rattle.expand_statements.specs.Standing.{names_of}
use Rattle.expand_statements.specs.Visiting.{scope_among}
use Rattle.expand_statements.proofs.VisitLaws.{texts}
use Rattle.expand_statements.proofs.FaultLaws.{fault_standing}
use Rattle.expand_statements.proofs.checking.check_statement.Goals as goal
use denote.Bor.{Bor}

pub returns-in_err-flaws : goal.returns-in_err-flaws
returns-in_err-flaws c =
    let made : Bindings → Effect = λ b. effect_of c.args.a.now (among (scope_among c.args.known.now []) b) in
    let p = err_from_is_err_and c.from_residual-in_err-flaws.result c.from_residual-in_err-flaws.ensures.1 in
    rw (p.1, p.2) (subst (λ (f : Option Fault). Stops c.in_err-flaws.field-0.0 f)
    (fault_standing made c.args.label.now (names_of c.args.chain.now) (texts c.as_slice-2.result.now)
    c.args.chain.now.ranges
    c.as_slice.result.now c.as_slice-3.result.now (ap (λ (ns : List (Bor Name)). texts ns) c.as_slice-2.ensures)
    c.as_slice.ensures
    (c.as_slice-3.ensures ∙ c.in_ok-list.ensures)) c.in_err-flaws.ensures)

pub returns : goal.returns
returns c =
    let made : Bindings → Effect = λ b. effect_of c.args.a.now (among (scope_among c.args.known.now []) b) in
    subst (λ (f : Option Fault). Demands c.check.result f)
    (sym c.in_ok-flaws.ensures ∙ fault_standing made c.args.label.now (names_of c.args.chain.now)
    (texts c.as_slice-2.result.now) c.args.chain.now.ranges
    c.as_slice.result.now c.as_slice-3.result.now (ap (λ (ns : List (Bor Name)). texts ns) c.as_slice-2.ensures)
    c.as_slice.ensures
    (c.as_slice-3.ensures ∙ c.in_ok-list.ensures)) c.check.ensures
