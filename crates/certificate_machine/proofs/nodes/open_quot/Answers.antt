use Rattle.std.proofs.Common.{◌∙◌, ap, cond, sym, refl, Ok, arith, ◌∷◌, [], ◌-◌, ◌^◌, reverse}
use Rattle.obligations.specs.Load.{is_light}
use Rattle.obligations.specs.Quotients.{with_quotient, without_quotient}
use Rattle.obligations.specs.Scopes.{next_param}
use Rattle.obligations.proofs.ScopeLaws.{room-number}
use Rattle.certificate_rules.specs.Refutation.{allowing}
use Rattle.certificate_machine.specs.Machines.{behind, rest_of}
use Rattle.certificate_machine.proofs.MachineLaws.{quot-goes, quot-stops, light-bound, get-all, without-light}
use Rattle.certificate_machine.proofs.MachineLaws.{pushed-light}
use Rattle.certificate_machine.proofs.QuotLaws.{replaced-light, quotient-light}
use Rattle.certificate_machine.proofs.ScopedLaws.{machine-room}
use Rattle.certificate_machine.proofs.nodes.open_quot.Goals as goal

pub overflow_cast-next : goal.overflow_cast-next
overflow_cast-next c =
    let m = c.args.machine.now in
    let room = c.requires.scoped.room in let low = c.requires.levels in
    let few = room-number c.args.vs.now c.as_slice.result.now m.branch.added 4096 c.requires.own
    (c.as_slice.ensures ∙ c.requires.scoped.variables) (omega (arith, room, low)) (omega arith) in
    let next = c.next_param-next.ensures in
    omega (arith, few, next)

pub returns-in_default-clause-err : goal.returns-in_default-clause-err
returns-in_default-clause-err c =
    let m = c.args.machine.now in
    quot-stops m.variables m.levels (rest_of c.args.vs.now m) m.branch c.args.k _ _ c.remove-form.result
    (grind arith) c.remove-form.ensures.item (c.next_param-next.ensures ∙ ap next_param c.as_slice.ensures)
    (ap (without_quotient c.next_param-next.result) (sym c.get.ensures) ∙ sym c.in_ok-replaced.ensures
    ∙ c.in_default.is)

pub add_quotient-requires-clause-room : goal.add_quotient-requires-clause-room
add_quotient-requires-clause-room c =
    machine-room c.args.vs.now c.args.machine.now c.requires.own c.requires.scoped c.requires.levels

pub add_quotient-requires-clause-load : goal.add_quotient-requires-clause-load
add_quotient-requires-clause-load c =
    let light = light-bound (2 ^ 63) c.remove-form.result (get-all (is_light (2 ^ 63))
    c.args.machine.now.branch.waiting _ c.remove-form.result c.remove-form.ensures.item c.requires.light.waiting) in
    let taken = ap (without_quotient c.next_param-next.result) (sym c.get.ensures) ∙ sym c.in_ok-replaced.ensures
    ∙ c.in-Some.is in
    let below = (replaced-light _ c.remove-form.result c.in-Some.replaced (2 ^ 63) taken light).of in
    omega (arith, below)

pub add_quotient-requires-clause-light : goal.add_quotient-requires-clause-light
add_quotient-requires-clause-light c =
    let light = light-bound (2 ^ 63) c.remove-form.result (get-all (is_light (2 ^ 63))
    c.args.machine.now.branch.waiting _ c.remove-form.result c.remove-form.ensures.item c.requires.light.waiting) in
    let taken = ap (without_quotient c.next_param-next.result) (sym c.get.ensures) ∙ sym c.in_ok-replaced.ensures
    ∙ c.in-Some.is in
    let below = (replaced-light _ c.remove-form.result c.in-Some.replaced (2 ^ 63) taken light).rest in
    omega (arith, below)

pub returns-clause-ok : goal.returns-clause-ok
returns-clause-ok c =
    let vs = c.args.vs.now in
    let old = c.args.machine.now in
    let form = c.remove-form.result in
    let b = old.branch in
    let us = old.variables in
    let taken = ap (without_quotient c.next_param-next.result) (sym c.get.ensures) ∙ sym c.in_ok-replaced.ensures
    ∙ c.in-Some.is in
    let now = c.in_ok-add_quotient.ensures.branch
    ∙ ap (λ w. with_quotient us c.in-Some.replaced (record { facts = b.facts; waiting = w; added = b.added }))
    c.remove-form.ensures.rest in
    let g = quot-goes vs us old.levels b c.add_quotient.new.branch c.args.k _ c.len-facts.result c.len-waits.result
    b.added _ old.frames c.push.new.self form c.in-Some.replaced
    (grind arith) c.remove-form.ensures.item (grind arith) c.requires.levels c.requires.fits (grind arith)
    (grind arith) refl c.requires.scoped.room (c.next_param-next.ensures ∙ ap next_param c.as_slice.ensures) taken
    c.in_ok-push.ensures.ok now in (
      g.0
          ∙ ap (λ d. Ok (cond d [] (allowing (old.levels - 1) c.add_quotient.new.branch
          ∷ behind vs (reverse c.push.new.self) c.add_quotient.new.branch))) (sym c.requires.going),
      g.1,
    )

pub returns-clause-light : goal.returns-clause-light
returns-clause-light c =
    let waits = c.args.machine.now.branch.waiting in
    let lit = get-all (is_light (2 ^ 63)) waits _ c.remove-form.result c.remove-form.ensures.item
    c.requires.light.waiting in
    let taken = ap (without_quotient c.next_param-next.result) (sym c.get.ensures) ∙ sym c.in_ok-replaced.ensures
    ∙ c.in-Some.is in
    record {
      waiting = quotient-light c.args.machine.now.variables c.in-Some.replaced _ c.add_quotient.new.branch
          c.in_ok-add_quotient.ensures.branch
          (replaced-light _ c.remove-form.result c.in-Some.replaced (2 ^ 63) taken
          (light-bound (2 ^ 63) c.remove-form.result lit)).rest
          (without-light _ waits c.remove-form.new.self c.remove-form.ensures.rest c.requires.light.waiting);
      taken = pushed-light c.args.machine.now.frames c.push.new.self _ c.in_ok-push.ensures.ok c.requires.light.taken
          lit;
    }
