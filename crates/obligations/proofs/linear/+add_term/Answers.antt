use Rattle.std.proofs.Common.{◌≡◌, ◌∙◌, ap, sym, subst, ◌+◌, ◌*◌, ◌^◌, ◌≤◌, ◌<◌, ℤ, ◌+ℤ◌, ◌*ℤ◌, List, true, false, length}
use Rattle.std.proofs.Common.{arith, neg_ℤ}
use Rattle.std.specs.Int.RustNames.{unsigned_abs}
use Rattle.core_terms.specs.declared.trees.CTerm.{CTerm}
use Rattle.core_terms.specs.declared.trees.CTerm.TheVariants.{Add, Sub, Scale}
use Rattle.obligations.specs.declared.branches.Line.{Line}
use Rattle.obligations.specs.declared.branches.Variable.{Variable}
use Rattle.obligations.specs.LinearForms.{add_at, line_plus, linear, place_of}
use Rattle.obligations.specs.Load.{norm, term_load}
use Rattle.obligations.proofs.LineLaws.{length-add_at}
use Rattle.obligations.proofs.LoadLaws.{add-Const, add-Slot, add-Param, add-Add, add-Sub, add-Scale, add-Ite, add-Div}
use Rattle.obligations.proofs.LoadLaws.{add-Mod}
use Rattle.obligations.proofs.LoadLaws.{add-nothing, room-Add, room-Sub, room-Scale, trip-small}
use Rattle.obligations.proofs.TreeSizes.{size-Add, size-Sub, size-Scale}
use Rattle.obligations.proofs.linear.+add_term.Goals as goal

-- a factor that is passed as a value comes back as it is

same-sum : (vs : List Variable) (t : CTerm) (old new : Line) {y z : ℤ} → y ≡ z →
    new ≡ line_plus y old (linear vs t) → new ≡ line_plus z old (linear vs t)
same-sum vs t old new e h = subst (λ x. new ≡ line_plus x old (linear vs t)) e h

same-size : {y z : ℤ} → y ≡ z → unsigned_abs z ≤ 2 ^ 126 → unsigned_abs y ≤ 2 ^ 126
same-size e h = subst (λ x. unsigned_abs x ≤ 2 ^ 126) (sym e) h

same-room : (sum : Line) (t : CTerm) {y z : ℤ} → y ≡ z → norm sum + unsigned_abs z * (term_load t).own ≤ 2 ^ 126 →
    norm sum + unsigned_abs y * (term_load t).own ≤ 2 ^ 126
same-room sum t e h = subst (λ x. norm sum + unsigned_abs x * (term_load t).own ≤ 2 ^ 126) (sym e) h

pub add_term-requires-in-Add : goal.add_term-requires-in-Add
add_term-requires-in-Add t c =
    let e = c.in-Add.is ∙ ap (λ u. Add u c.in-Add.b) (sym c.get.ensures)
    ∙ ap (λ u. Add c.get.result.now u) (sym c.get-in-Add.ensures) in
    let trip = trip-small c.args.factor c.requires.factor in
    let one = same-sum c.args.vs.now c.get.result.now c.args.sum.now c.add_term.new.sum trip c.add_term.ensures.sum in
    let room = room-Add c.args.vs.now c.args.factor c.get.result.now c.get-in-Add.result.now c.args.t.now
    c.args.sum.now c.add_term.new.sum _ e one c.requires.room in
    let smaller = (size-Add c.get.result.now c.get-in-Add.result.now c.args.t.now e).1 in (
      omega (arith, smaller, c.decreases),
      (
        c.requires.order,
        (
          c.add_term.ensures.size,
          (
            same-size trip c.requires.factor,
            same-room c.add_term.new.sum c.get-in-Add.result.now trip room,
          ),
        ),
      ),
    )

pub add_term-requires-in-Sub-2 : goal.add_term-requires-in-Sub-2
add_term-requires-in-Sub-2 t c =
    let e = c.in-Sub.is ∙ ap (λ u. Sub u c.in-Sub.b) (sym c.get-in-Sub.ensures)
    ∙ ap (λ u. Sub c.get-in-Sub.result.now u) (sym c.get-in-Sub-2.ensures) in
    let own = trip-small c.args.factor c.requires.factor in
    let size = subst (λ n. n ≤ 2 ^ 126) (sym (c.opposite.ensures.size ∙ ap unsigned_abs own)) c.requires.factor in
    let trip = trip-small c.opposite.result size in
    let one = same-sum c.args.vs.now c.get-in-Sub.result.now c.args.sum.now c.add_term-in-Sub.new.sum own
    c.add_term-in-Sub.ensures.sum in
    let room = room-Sub c.args.vs.now c.args.factor c.opposite.result c.get-in-Sub.result.now
    c.get-in-Sub-2.result.now c.args.t.now c.args.sum.now c.add_term-in-Sub.new.sum _ e
    (c.opposite.ensures.value ∙ ap neg_ℤ own) one c.requires.room in
    let smaller = (size-Sub c.get-in-Sub.result.now c.get-in-Sub-2.result.now c.args.t.now e).1 in (
      omega (arith, smaller, c.decreases),
      (
        c.requires.order,
        (
          c.add_term-in-Sub.ensures.size,
          (
            same-size trip size,
            same-room c.add_term-in-Sub.new.sum c.get-in-Sub-2.result.now trip room,
          ),
        ),
      ),
    )

pub add_term-requires-in-Some : goal.add_term-requires-in-Some
add_term-requires-in-Some t c =
    let e = c.in-Scale.is ∙ ap (λ u. Scale c.in-Scale.k u) (sym c.get-in-Some.ensures) in
    let own = trip-small c.args.factor c.requires.factor in
    let size = c.in-Some.ensures.small in
    let trip = trip-small c.in-Some.product size in
    let room = room-Scale c.args.factor c.in-Scale.k c.in-Some.product c.get-in-Some.result.now c.args.t.now
    c.args.sum.now _ e (c.in-Some.ensures.value ∙ ap (λ z. c.in-Scale.k *ℤ z) own) c.requires.room in
    let smaller = size-Scale c.in-Scale.k c.get-in-Some.result.now c.args.t.now e in (
      omega (arith, smaller, c.decreases),
      (
        c.requires.order,
        (
          c.requires.size,
          (
            same-size trip size,
            same-room c.args.sum.now c.get-in-Some.result.now trip room,
          ),
        ),
      ),
    )

pub returns-in-Const-clause-sum : goal.returns-in-Const-clause-sum
returns-in-Const-clause-sum t c =
    add-Const c.args.vs.now c.args.factor c.in-Const.c c.args.sum.now c.add_constant.new.sum
    c.add_constant.ensures.factors
    (c.add_constant.ensures.constant
    ∙ ap (λ z. c.args.sum.now.constant +ℤ z *ℤ c.in-Const.c) (trip-small c.args.factor c.requires.factor))
    ∙ ap (λ u. line_plus c.args.factor c.args.sum.now (linear c.args.vs.now u)) (sym c.in-Const.is)

pub returns-in-Slot-clause-sum : goal.returns-in-Slot-clause-sum
returns-in-Slot-clause-sum t c =
    add-Slot c.args.vs.now c.args.factor c.args.sum.now c.add_variable.new.sum c.in-Slot.n c.requires.size
    (c.add_variable.ensures.factors
    ∙ ap (add_at c.args.sum.now.factors (place_of c.args.vs.now false c.in-Slot.n))
    (trip-small c.args.factor c.requires.factor)) c.add_variable.ensures.constant
    ∙ ap (λ u. line_plus c.args.factor c.args.sum.now (linear c.args.vs.now u)) (sym c.in-Slot.is)

pub returns-in-Param-clause-sum : goal.returns-in-Param-clause-sum
returns-in-Param-clause-sum t c =
    add-Param c.args.vs.now c.args.factor c.args.sum.now c.add_variable-in-Param.new.sum c.in-Param.n
    c.requires.size
    (c.add_variable-in-Param.ensures.factors
    ∙ ap (add_at c.args.sum.now.factors (place_of c.args.vs.now true c.in-Param.n))
    (trip-small c.args.factor c.requires.factor)) c.add_variable-in-Param.ensures.constant
    ∙ ap (λ u. line_plus c.args.factor c.args.sum.now (linear c.args.vs.now u)) (sym c.in-Param.is)

pub returns-in-Add-clause-sum : goal.returns-in-Add-clause-sum
returns-in-Add-clause-sum t c =
    let e = c.in-Add.is ∙ ap (λ u. Add u c.in-Add.b) (sym c.get.ensures)
    ∙ ap (λ u. Add c.get.result.now u) (sym c.get-in-Add.ensures) in
    let trip = trip-small c.args.factor c.requires.factor in
    let one = same-sum c.args.vs.now c.get.result.now c.args.sum.now c.add_term.new.sum trip c.add_term.ensures.sum in
    let all = same-sum c.args.vs.now c.get-in-Add.result.now c.add_term.new.sum c.add_term-in-Add.new.sum trip
    c.add_term-in-Add.ensures.sum in
    add-Add c.args.vs.now c.args.factor c.args.sum.now c.add_term.new.sum c.add_term-in-Add.new.sum c.get.result.now
    c.get-in-Add.result.now c.requires.size one all
    ∙ ap (λ u. line_plus c.args.factor c.args.sum.now (linear c.args.vs.now u)) (sym e)

pub returns-in-Sub-clause-sum : goal.returns-in-Sub-clause-sum
returns-in-Sub-clause-sum t c =
    let e = c.in-Sub.is ∙ ap (λ u. Sub u c.in-Sub.b) (sym c.get-in-Sub.ensures)
    ∙ ap (λ u. Sub c.get-in-Sub.result.now u) (sym c.get-in-Sub-2.ensures) in
    let own = trip-small c.args.factor c.requires.factor in
    let size = subst (λ n. n ≤ 2 ^ 126) (sym (c.opposite.ensures.size ∙ ap unsigned_abs own)) c.requires.factor in
    let trip = trip-small c.opposite.result size in
    let one = same-sum c.args.vs.now c.get-in-Sub.result.now c.args.sum.now c.add_term-in-Sub.new.sum own
    c.add_term-in-Sub.ensures.sum in
    add-Sub c.args.vs.now c.args.factor _ c.args.sum.now c.add_term-in-Sub.new.sum c.add_term-in-Sub-2.new.sum
    c.get-in-Sub.result.now c.get-in-Sub-2.result.now c.requires.size
    (trip ∙ c.opposite.ensures.value ∙ ap neg_ℤ own) one c.add_term-in-Sub-2.ensures.sum
    ∙ ap (λ u. line_plus c.args.factor c.args.sum.now (linear c.args.vs.now u)) (sym e)

pub returns-in-Some-clause-sum : goal.returns-in-Some-clause-sum
returns-in-Some-clause-sum t c =
    let e = c.in-Scale.is ∙ ap (λ u. Scale c.in-Scale.k u) (sym c.get-in-Some.ensures) in
    let trip = trip-small c.in-Some.product c.in-Some.ensures.small in
    add-Scale c.args.vs.now c.args.factor c.in-Scale.k _ c.args.sum.now c.add_term-in-Some.new.sum
    c.get-in-Some.result.now c.requires.size
    (trip ∙ c.in-Some.ensures.value
    ∙ ap (λ z. c.in-Scale.k *ℤ z) (trip-small c.args.factor c.requires.factor)) c.add_term-in-Some.ensures.sum
    ∙ ap (λ u. line_plus c.args.factor c.args.sum.now (linear c.args.vs.now u)) (sym e)

pub returns-in_default-clause-sum : goal.returns-in_default-clause-sum
returns-in_default-clause-sum t c =
    add-nothing c.args.vs.now c.args.factor c.in-Scale.k c.in-Scale.a c.args.t.now c.args.sum.now c.in-Scale.is
    c.requires.size
    (subst (λ z. 2 ^ 126 < unsigned_abs (c.in-Scale.k *ℤ z)) (trip-small c.args.factor c.requires.factor)
    c.in_default.ensures.value) c.requires.room

pub returns-in-Div-clause-sum : goal.returns-in-Div-clause-sum
returns-in-Div-clause-sum t c =
    add-Div c.args.vs.now c.args.factor c.args.sum.now c.in-Div.field-0 c.in-Div.field-1
    ∙ ap (λ u. line_plus c.args.factor c.args.sum.now (linear c.args.vs.now u)) (sym c.in-Div.is)

pub returns-in-Mod-clause-sum : goal.returns-in-Mod-clause-sum
returns-in-Mod-clause-sum t c =
    add-Mod c.args.vs.now c.args.factor c.args.sum.now c.in-Mod.field-0 c.in-Mod.field-1
    ∙ ap (λ u. line_plus c.args.factor c.args.sum.now (linear c.args.vs.now u)) (sym c.in-Mod.is)

pub returns-in-Ite-clause-sum : goal.returns-in-Ite-clause-sum
returns-in-Ite-clause-sum t c =
    add-Ite c.args.vs.now c.args.factor c.args.sum.now c.in-Ite.field-0 c.in-Ite.field-1 c.in-Ite.field-2
    ∙ ap (λ u. line_plus c.args.factor c.args.sum.now (linear c.args.vs.now u)) (sym c.in-Ite.is)

pub returns-in-Slot-clause-size : goal.returns-in-Slot-clause-size
returns-in-Slot-clause-size t c =
    ap length c.add_variable.ensures.factors ∙ length-add_at c.args.sum.now.factors _ _ ∙ c.requires.size

pub returns-in-Param-clause-size : goal.returns-in-Param-clause-size
returns-in-Param-clause-size t c =
    ap length c.add_variable-in-Param.ensures.factors ∙ length-add_at c.args.sum.now.factors _ _ ∙ c.requires.size
