use Rattle.std.proofs.Common.{◌∙◌, ap, cond, sym, refl, Ok, arith, ◌∷◌, [], ◌-◌, ◌^◌, reverse}
use Rattle.obligations.specs.Load.{is_light}
use Rattle.obligations.specs.Quotients.{is_either}
use Rattle.obligations.specs.Settling.{settled, sides}
use Rattle.certificate_rules.specs.Refutation.{allowing}
use Rattle.certificate_machine.specs.Machines.{behind}
use Rattle.certificate_machine.proofs.MachineLaws.{case-goes, light-bound, get-all, without-light}
use Rattle.certificate_machine.proofs.MachineLaws.{pushed-light}
use Rattle.certificate_machine.proofs.ScopedLaws.{machine-variables}
use Rattle.certificate_machine.proofs.nodes.open_case.Goals as goal

pub settle_side-requires-clause-variables : goal.settle_side-requires-clause-variables
settle_side-requires-clause-variables c =
    machine-variables c.args.vs.now _ c.args.machine.now c.requires.own c.requires.scoped c.as_slice.ensures

pub settle_side-requires-clause-light : goal.settle_side-requires-clause-light
settle_side-requires-clause-light c =
    light-bound (2 ^ 63) c.get-2.result.now
    (ap (is_light (2 ^ 63)) c.get-2.ensures
    ∙ get-all (is_light (2 ^ 63)) c.args.machine.now.branch.waiting _ c.remove-form.result c.remove-form.ensures.item
    c.requires.light.waiting)

pub returns-clause-ok : goal.returns-clause-ok
returns-clause-ok c =
    let vs = c.args.vs.now in
    let old = c.args.machine.now in
    let form = c.remove-form.result in
    let b = old.branch in
    let us = old.variables in
    let now = c.in_ok-settle_side.ensures.branch
    ∙ ap (λ x. settled x (sides c.get-2.result.now).0 (record {
      facts = b.facts;
      waiting = c.remove-form.new.self;
      added = b.added;
    })) c.as_slice.ensures
    ∙ ap (λ f. settled us (sides f).0 (record {
      facts = b.facts;
      waiting = c.remove-form.new.self;
      added = b.added;
    })) c.get-2.ensures
    ∙ ap (λ w. settled us (sides form).0 (record { facts = b.facts; waiting = w; added = b.added }))
    c.remove-form.ensures.rest in
    let is = ap is_either (sym c.get.ensures) ∙ sym c.is_either.ensures ∙ c.if-not-is_either.false in
    let room = c.requires.scoped.room in
    let g = case-goes vs us old.levels b c.settle_side.new.branch c.args.k _ c.len-facts.result c.len-waits.result
    b.added old.frames c.push.new.self form
    (grind arith) c.remove-form.ensures.item (grind arith) is c.requires.levels c.requires.fits (grind arith)
    (grind arith) refl room c.requires.scoped.variables c.in_ok-push.ensures.ok now in (
      g.0
          ∙ ap (λ d. Ok (cond d [] (allowing (old.levels - 1) c.settle_side.new.branch
          ∷ behind vs (reverse c.push.new.self) c.settle_side.new.branch))) (sym c.requires.going),
      g.1,
    )

pub returns-clause-light : goal.returns-clause-light
returns-clause-light c = record {
  waiting = c.in_ok-settle_side.ensures.light (without-light _ c.args.machine.now.branch.waiting c.remove-form.new.self
      c.remove-form.ensures.rest c.requires.light.waiting);
  taken = pushed-light c.args.machine.now.frames c.push.new.self _ c.in_ok-push.ensures.ok c.requires.light.taken
      (get-all (is_light (2 ^ 63)) c.args.machine.now.branch.waiting _ c.remove-form.result c.remove-form.ensures.item
      c.requires.light.waiting);
}
