use Rattle.std.proofs.Common.{◌≡◌, ◌++◌, codes, ap, ◌∙◌, rules, to_z, of_z}
use Rattle.std.specs.Int.{w64}
use Rattle.meaning_states.specs.Division.{divisor}
use Rattle.schedule_replay.proofs.BufferLaws.{put_then, put_same}
use Rattle.solver_scripts.specs.Naming.{symbols}
use Rattle.solver_scripts.specs.Terms.{pair_text, int_text, bool_text, negation}
use Rattle.solver_scripts.specs.Forms.{constant, int_term, bool_term}
use Rattle.solver_scripts.proofs.TreeTexts.{const_is, slot_is, param_is, sum_is, difference_is, product_is}
use Rattle.solver_scripts.proofs.TreeTexts.{quotient_is, remainder_is, choice_is, top_is, bottom_is, least_is}
use Rattle.solver_scripts.proofs.TreeTexts.{zero_is, not_is, and_is, or_is}
use Rattle.solver_scripts.proofs.forms.+putting.Goals as goal

pub put_term-returns-in-Const : goal.put_term-returns-in-Const
put_term-returns-in-Const g t c =
    let z : to_z w64 (of_z w64 c.in-Const.number) ≡ c.in-Const.number = search rules in
    put_same (ap (λ x. int_text (constant x)) z ∙ const_is (symbols c.args.names.now) c.args.t.now _ c.in-Const.is)
    c.put_constant.ensures

pub put_term-returns-in-Slot : goal.put_term-returns-in-Slot
put_term-returns-in-Slot g t c =
    put_same (slot_is (symbols c.args.names.now) c.args.t.now _ c.in-Slot.is) c.put_symbol.ensures

pub put_term-returns-in-Param : goal.put_term-returns-in-Param
put_term-returns-in-Param g t c =
    put_same (param_is (symbols c.args.names.now) c.args.t.now _ c.in-Param.is) c.put_symbol-in-Param.ensures

pub put_term-returns-in-Add : goal.put_term-returns-in-Add
put_term-returns-in-Add g t c =
    put_same (sum_is (symbols c.args.names.now) c.args.t.now _ _ c.in-Add.is)
    (put_then c.put.ensures c.put_pair.ensures)

pub put_term-returns-in-Sub : goal.put_term-returns-in-Sub
put_term-returns-in-Sub g t c =
    put_same (difference_is (symbols c.args.names.now) c.args.t.now _ _ c.in-Sub.is)
    (put_then c.put-in-Sub.ensures c.put_pair-in-Sub.ensures)

pub put_term-returns-in-Scale : goal.put_term-returns-in-Scale
put_term-returns-in-Scale g t c =
    let N = symbols c.args.names.now in
    let z : to_z w64 (of_z w64 c.in-Scale.factor) ≡ c.in-Scale.factor = search rules in
    put_same (ap (λ x. codes "(* " ++ pair_text (int_text (constant x)) (int_text (int_term N c.get.result.now))) z
    ∙ ap (λ x. codes "(* " ++ pair_text (int_text (constant c.in-Scale.factor)) (int_text (int_term N x))) c.get.ensures
    ∙ product_is N c.args.t.now _ _ c.in-Scale.is)
    (put_then c.put-in-Scale.ensures (put_then (put_then (put_then c.put_constant-in-Scale.ensures
    c.put-in-Scale-2.ensures) c.put_term.ensures) c.put-in-Scale-3.ensures))

pub put_term-returns-in-Div : goal.put_term-returns-in-Div
put_term-returns-in-Div g t c =
    let N = symbols c.args.names.now in
    let z : to_z w64 (of_z w64 c.in-Div.number) ≡ c.in-Div.number = search rules in
    put_same (ap (λ x. codes "(div " ++ pair_text (int_text (int_term N c.in-Div.a)) (int_text (constant (divisor x)))) z
    ∙ quotient_is N c.args.t.now _ _ c.in-Div.is)
    (put_then c.put-in-Div.ensures c.put_divided.ensures)

pub put_term-returns-in-Mod : goal.put_term-returns-in-Mod
put_term-returns-in-Mod g t c =
    let N = symbols c.args.names.now in
    let z : to_z w64 (of_z w64 c.in-Mod.number) ≡ c.in-Mod.number = search rules in
    put_same (ap (λ x. codes "(mod " ++ pair_text (int_text (int_term N c.in-Mod.a)) (int_text (constant (divisor x)))) z
    ∙ remainder_is N c.args.t.now _ _ c.in-Mod.is)
    (put_then c.put-in-Mod.ensures c.put_divided-in-Mod.ensures)

pub put_term-returns-in-Ite : goal.put_term-returns-in-Ite
put_term-returns-in-Ite g t c =
    let N = symbols c.args.names.now in
    put_same (ap (λ f. codes "(ite " ++ bool_text (bool_term N f) ++ codes " "
    ++ pair_text (int_text (int_term N c.in-Ite.a)) (int_text (int_term N c.in-Ite.b))) c.get-in-Ite.ensures
    ∙ choice_is N c.args.t.now _ _ _ c.in-Ite.is)
    (put_then (put_then (put_then c.put-in-Ite.ensures c.put_form.ensures) c.put-in-Ite-2.ensures)
    c.put_pair-in-Ite.ensures)

pub put_pair-returns : goal.put_pair-returns
put_pair-returns g t c =
    let N = symbols c.args.names.now in
    put_same (ap (λ x. pair_text (int_text (int_term N x)) (int_text (int_term N c.get-2.result.now))) c.get.ensures
    ∙ ap (λ x. pair_text (int_text (int_term N c.args.a.now)) (int_text (int_term N x))) c.get-2.ensures)
    (put_then (put_then (put_then c.put_term.ensures c.put.ensures) c.put_term-2.ensures) c.put-2.ensures)

pub put_divided-returns : goal.put_divided-returns
put_divided-returns g t c =
    let N = symbols c.args.names.now in
    let z : to_z w64 (of_z w64 c.args.number) ≡ c.args.number = search rules in
    put_same (ap (λ x. pair_text (int_text (int_term N x)) (int_text (constant (divisor (to_z w64 (of_z w64 c.args.number))))))
    c.get.ensures
    ∙ ap (λ x. pair_text (int_text (int_term N c.args.a.now)) (int_text (constant (divisor x)))) z)
    (put_then (put_then (put_then c.put_term.ensures c.put.ensures) c.put_divisor.ensures) c.put-2.ensures)

pub put_form-returns-in-Top : goal.put_form-returns-in-Top
put_form-returns-in-Top g t c =
    put_same (top_is (symbols c.args.names.now) c.args.f.now c.in-Top.is) c.put.ensures

pub put_form-returns-in-Bottom : goal.put_form-returns-in-Bottom
put_form-returns-in-Bottom g t c =
    put_same (bottom_is (symbols c.args.names.now) c.args.f.now c.in-Bottom.is) c.put-in-Bottom.ensures

pub put_form-returns-in-AtLeast : goal.put_form-returns-in-AtLeast
put_form-returns-in-AtLeast g t c =
    put_same (least_is (symbols c.args.names.now) c.args.f.now _ c.in-AtLeast.is)
    (put_then (put_then c.put-in-AtLeast.ensures c.put_term.ensures) c.put-in-AtLeast-2.ensures)

pub put_form-returns-in-Zero : goal.put_form-returns-in-Zero
put_form-returns-in-Zero g t c =
    put_same (zero_is (symbols c.args.names.now) c.args.f.now _ c.in-Zero.is)
    (put_then (put_then c.put-in-Zero.ensures c.put_term-in-Zero.ensures) c.put-in-Zero-2.ensures)

pub put_form-returns-in-Not : goal.put_form-returns-in-Not
put_form-returns-in-Not g t c =
    let N = symbols c.args.names.now in
    put_same (ap (λ f. bool_text (negation (bool_term N f))) c.get.ensures
    ∙ not_is N c.args.f.now _ c.in-Not.is)
    c.put_negation.ensures

pub put_form-returns-in-And : goal.put_form-returns-in-And
put_form-returns-in-And g t c =
    put_same (and_is (symbols c.args.names.now) c.args.f.now _ _ c.in-And.is)
    (put_then c.put-in-And.ensures c.put_forms.ensures)

pub put_form-returns-in-Or : goal.put_form-returns-in-Or
put_form-returns-in-Or g t c =
    put_same (or_is (symbols c.args.names.now) c.args.f.now _ _ c.in-Or.is)
    (put_then c.put-in-Or.ensures c.put_forms-in-Or.ensures)

pub put_negation-returns : goal.put_negation-returns
put_negation-returns g t c = put_then (put_then c.put.ensures c.put_form.ensures) c.put-2.ensures

pub put_forms-returns : goal.put_forms-returns
put_forms-returns g t c =
    let N = symbols c.args.names.now in
    put_same (ap (λ x. pair_text (bool_text (bool_term N x)) (bool_text (bool_term N c.get-2.result.now))) c.get.ensures
    ∙ ap (λ x. pair_text (bool_text (bool_term N c.args.g.now)) (bool_text (bool_term N x))) c.get-2.ensures)
    (put_then (put_then (put_then c.put_form.ensures c.put.ensures) c.put_form-2.ensures) c.put-2.ensures)
