use Rattle.std.proofs.Common.{◌^◌, refl}
use Rattle.core_terms.specs.declared.trees.CTerm.TheVariants.{Ite}
use Rattle.core_terms.specs.declared.trees.CForm.TheVariants.{And, Or}
use Rattle.obligations.proofs.ShapeLaws.{and-leaves, or-leaves, sum-leaves, difference-leaves, choice-leaves}
use Rattle.obligations.proofs.shapes.+leaves.Goals as goal

pub and_leaves-returns-clause-yes : goal.and_leaves-returns-clause-yes
and_leaves-returns-clause-yes t c =
    and-leaves (2 ^ 127) (And c.args.g.now c.args.h.now) c.args.g.now c.args.h.now c.get.result.now c.get-2.result.now
    c.form_leaves-first.result.0 c.form_leaves-second.result.0 c.times.result refl c.get.ensures c.get-2.ensures
    c.form_leaves-first.ensures.yes c.form_leaves-second.ensures.yes c.times.ensures

pub choice_leaves-returns : goal.choice_leaves-returns
choice_leaves-returns t c =
    choice-leaves (2 ^ 127) (Ite c.args.c.now c.args.a.now c.args.b.now) c.args.a.now c.args.b.now
    c.get-2.result.now c.get-3.result.now c.args.c.now c.get.result.now
    c.form_leaves-when.result.0 c.form_leaves-when.result.1 c.term_leaves.result c.term_leaves-2.result
    c.times-yes.result c.times-no.result c.add.result refl c.get.ensures c.get-2.ensures c.get-3.ensures
    c.form_leaves-when.ensures.yes c.form_leaves-when.ensures.no c.term_leaves.ensures c.term_leaves-2.ensures
    c.times-yes.ensures c.times-no.ensures c.add.ensures

pub or_leaves-returns-clause-no : goal.or_leaves-returns-clause-no
or_leaves-returns-clause-no t c =
    or-leaves (2 ^ 127) (Or c.args.g.now c.args.h.now) c.args.g.now c.args.h.now c.get.result.now c.get-2.result.now
    c.form_leaves-first.result.1 c.form_leaves-second.result.1 c.times.result refl c.get.ensures c.get-2.ensures
    c.form_leaves-first.ensures.no c.form_leaves-second.ensures.no c.times.ensures

pub term_leaves-returns-in-Add : goal.term_leaves-returns-in-Add
term_leaves-returns-in-Add t c =
    sum-leaves (2 ^ 127) c.args.t.now c.in-Add.a c.in-Add.b c.get.result.now c.get-in-Add.result.now
    c.term_leaves.result c.term_leaves-in-Add.result c.times.result c.in-Add.is c.get.ensures c.get-in-Add.ensures
    c.term_leaves.ensures c.term_leaves-in-Add.ensures c.times.ensures

pub term_leaves-returns-in-Sub : goal.term_leaves-returns-in-Sub
term_leaves-returns-in-Sub t c =
    difference-leaves (2 ^ 127) c.args.t.now c.in-Sub.a c.in-Sub.b c.get-in-Sub.result.now c.get-in-Sub-2.result.now
    c.term_leaves-in-Sub.result c.term_leaves-in-Sub-2.result c.times-in-Sub.result c.in-Sub.is
    c.get-in-Sub.ensures c.get-in-Sub-2.ensures c.term_leaves-in-Sub.ensures c.term_leaves-in-Sub-2.ensures
    c.times-in-Sub.ensures
