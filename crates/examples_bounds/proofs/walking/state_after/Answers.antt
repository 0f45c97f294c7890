use Rattle.std.proofs.Common.{◌≡◌, ℤ, [], List, true, false, Err, ap, ◌∙◌}
use Rattle.core_terms.specs.Values.{form_value}
use Rattle.core_terms.proofs.PartLaws.{value-Top}
use Rattle.examples_bounds.proofs.walking.state_after.Goals as goal

pub returns-in-Err-NotInitial : goal.returns-in-Err-NotInitial
returns-in-Err-NotInitial c =
    let state : List ℤ = c.args.state.now in
    let refused : form_value state [] c.args.claim.now.program.now.initially ≡ false =
    c.in-Err-NotInitial.ensures.not_initial.0 (ap Err c.in-Err-NotInitial.field-0-is) in
    let met : form_value state [] c.args.claim.now.program.now.initially ≡ true =
    ap (form_value state []) c.requires.claim.any_start ∙ value-Top state [] in
    cc (refused, met)
