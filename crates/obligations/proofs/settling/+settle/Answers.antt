use Rattle.std.proofs.Common.{◌∙◌, ap, sym, arith, ◌^◌}
use Rattle.std.proofs.lemmas.Result.{on_ok_weaker}
use Rattle.core_terms.specs.declared.trees.CForm.TheVariants.{And, Or}
use Rattle.obligations.specs.Settling.{settled, refused}
use Rattle.obligations.proofs.NeedLaws.{least-load, below-load, zero-load}
use Rattle.obligations.proofs.TableLaws.{settled-Bottom, refused-Top, settled-AtLeast, refused-AtLeast, settled-Zero}
use Rattle.obligations.proofs.TableLaws.{refused-Zero, settles-And, refuses-Or, settled-Or, refused-And}
use Rattle.obligations.proofs.settling.+settle.Goals as goal

pub settle_onto-settle_term-requires-clause-load : goal.settle_onto-settle_term-requires-clause-load
settle_onto-settle_term-requires-clause-load t c =
    let h = least-load c.in-AtLeast.t c.args.f.now (2 ^ 66) c.in-AtLeast.is c.requires.light in
    omega (arith, h)

pub settle_onto-settle_term-requires-in-Zero-clause-load : goal.settle_onto-settle_term-requires-in-Zero-clause-load
settle_onto-settle_term-requires-in-Zero-clause-load t c =
    let h = zero-load c.in-Zero.t c.args.f.now (2 ^ 66) c.in-Zero.is c.requires.light in
    omega (arith, h)

pub settle_onto-returns-in-Bottom : goal.settle_onto-returns-in-Bottom
settle_onto-returns-in-Bottom t c =
    on_ok_weaker c.add_false.result
    (λ e. e ∙ sym (settled-Bottom c.args.vs.now c.args.branch.now)
    ∙ ap (λ f. settled c.args.vs.now f c.args.branch.now) (sym c.in-Bottom.is))
    c.add_false.ensures

pub settle_onto-returns-in-AtLeast : goal.settle_onto-returns-in-AtLeast
settle_onto-returns-in-AtLeast t c =
    on_ok_weaker c.settle_term.result
    (λ e. e ∙ sym (settled-AtLeast c.args.vs.now c.in-AtLeast.t c.args.branch.now)
    ∙ ap (λ f. settled c.args.vs.now f c.args.branch.now) (sym c.in-AtLeast.is))
    c.settle_term.ensures

pub settle_onto-returns-in-Zero : goal.settle_onto-returns-in-Zero
settle_onto-returns-in-Zero t c =
    on_ok_weaker c.settle_term-in-Zero.result
    (λ e. e ∙ sym (settled-Zero c.args.vs.now c.in-Zero.t c.args.branch.now)
    ∙ ap (λ f. settled c.args.vs.now f c.args.branch.now) (sym c.in-Zero.is))
    c.settle_term-in-Zero.ensures

pub settle_onto-returns-in_ok-settle_onto-in-And : goal.settle_onto-returns-in_ok-settle_onto-in-And
settle_onto-returns-in_ok-settle_onto-in-And t c =
    on_ok_weaker c.settle_onto-in-And.result
    (λ e. settles-And c.args.vs.now c.get-in-And.result.now c.get-in-And-2.result.now c.args.branch.now
    c.settle_onto.new.branch c.settle_onto-in-And.new.branch c.in_ok-settle_onto-in-And.ensures e
    ∙ ap (λ f. settled c.args.vs.now f c.args.branch.now)
    (ap (λ g. And g c.get-in-And-2.result.now) c.get-in-And.ensures ∙ ap (λ h. And c.in-And.g h) c.get-in-And-2.ensures
    ∙ sym c.in-And.is))
    c.settle_onto-in-And.ensures

pub settle_onto-returns-in-Or : goal.settle_onto-returns-in-Or
settle_onto-returns-in-Or t c =
    on_ok_weaker c.wait_or.result
    (λ e. e ∙ sym (settled-Or c.args.vs.now c.in-Or.g c.in-Or.h c.args.branch.now)
    ∙ ap (λ f. settled c.args.vs.now f c.args.branch.now) (sym c.in-Or.is))
    c.wait_or.ensures

pub refuse_onto-refuse_least-requires-clause-load : goal.refuse_onto-refuse_least-requires-clause-load
refuse_onto-refuse_least-requires-clause-load t c =
    let h = below-load c.in-AtLeast.t c.args.f.now (2 ^ 66) c.in-AtLeast.is c.requires.light in
    omega (arith, h)

pub refuse_onto-returns-in-Top : goal.refuse_onto-returns-in-Top
refuse_onto-returns-in-Top t c =
    on_ok_weaker c.add_false.result
    (λ e. e ∙ sym (refused-Top c.args.vs.now c.args.branch.now)
    ∙ ap (λ f. refused c.args.vs.now f c.args.branch.now) (sym c.in-Top.is))
    c.add_false.ensures

pub refuse_onto-returns-in-AtLeast : goal.refuse_onto-returns-in-AtLeast
refuse_onto-returns-in-AtLeast t c =
    on_ok_weaker c.refuse_least.result
    (λ e. e ∙ sym (refused-AtLeast c.args.vs.now c.in-AtLeast.t c.args.branch.now)
    ∙ ap (λ f. refused c.args.vs.now f c.args.branch.now) (sym c.in-AtLeast.is))
    c.refuse_least.ensures

pub refuse_onto-returns-in-Zero : goal.refuse_onto-returns-in-Zero
refuse_onto-returns-in-Zero t c =
    on_ok_weaker c.refuse_zero.result
    (λ e. e ∙ sym (refused-Zero c.args.vs.now c.in-Zero.t c.args.branch.now)
    ∙ ap (λ f. refused c.args.vs.now f c.args.branch.now) (sym c.in-Zero.is))
    c.refuse_zero.ensures

pub refuse_onto-returns-in-And : goal.refuse_onto-returns-in-And
refuse_onto-returns-in-And t c =
    on_ok_weaker c.wait_nots.result
    (λ e. e ∙ sym (refused-And c.args.vs.now c.in-And.g c.in-And.h c.args.branch.now)
    ∙ ap (λ f. refused c.args.vs.now f c.args.branch.now) (sym c.in-And.is))
    c.wait_nots.ensures

pub refuse_onto-returns-in_ok-refuse_onto-in-Or : goal.refuse_onto-returns-in_ok-refuse_onto-in-Or
refuse_onto-returns-in_ok-refuse_onto-in-Or t c =
    on_ok_weaker c.refuse_onto-in-Or.result
    (λ e. refuses-Or c.args.vs.now c.get-in-Or.result.now c.get-in-Or-2.result.now c.args.branch.now
    c.refuse_onto.new.branch c.refuse_onto-in-Or.new.branch c.in_ok-refuse_onto-in-Or.ensures e
    ∙ ap (λ f. refused c.args.vs.now f c.args.branch.now)
    (ap (λ g. Or g c.get-in-Or-2.result.now) c.get-in-Or.ensures ∙ ap (λ h. Or c.in-Or.g h) c.get-in-Or-2.ensures
    ∙ sym c.in-Or.is))
    c.refuse_onto-in-Or.ensures
