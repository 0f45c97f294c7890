use Rattle.obligations.proofs.OccurrenceLaws.{const-marks, add-marks, sub-marks, ite-marks, top-marks, bottom-marks}
use Rattle.obligations.proofs.OccurrenceLaws.{and-marks, or-marks}
use Rattle.obligations.proofs.occurrence.+marks.Goals as goal

pub mark_form-returns-in-Top : goal.mark_form-returns-in-Top
mark_form-returns-in-Top t c = top-marks c.args.param c.args.f.now c.args.marks.now c.in-Top.is

pub mark_form-returns-in-Bottom : goal.mark_form-returns-in-Bottom
mark_form-returns-in-Bottom t c = bottom-marks c.args.param c.args.f.now c.args.marks.now c.in-Bottom.is

pub mark_form-returns-in-And : goal.mark_form-returns-in-And
mark_form-returns-in-And t c =
    and-marks c.args.param c.args.f.now c.in-And.g c.in-And.h c.get-in-And.result.now c.get-in-And-2.result.now
    c.args.marks.now c.mark_form-in-And.new.marks c.mark_form-in-And-2.new.marks c.in-And.is
    c.get-in-And.ensures c.get-in-And-2.ensures c.mark_form-in-And.ensures c.mark_form-in-And-2.ensures

pub mark_form-returns-in-Or : goal.mark_form-returns-in-Or
mark_form-returns-in-Or t c =
    or-marks c.args.param c.args.f.now c.in-Or.g c.in-Or.h c.get-in-Or.result.now c.get-in-Or-2.result.now
    c.args.marks.now c.mark_form-in-Or.new.marks c.mark_form-in-Or-2.new.marks c.in-Or.is
    c.get-in-Or.ensures c.get-in-Or-2.ensures c.mark_form-in-Or.ensures c.mark_form-in-Or-2.ensures

pub mark_term-returns-in-Const : goal.mark_term-returns-in-Const
mark_term-returns-in-Const t c = const-marks c.args.param c.args.t.now c.in-Const.field-0 c.args.marks.now c.in-Const.is

pub mark_term-returns-in-Add : goal.mark_term-returns-in-Add
mark_term-returns-in-Add t c =
    add-marks c.args.param c.args.t.now c.in-Add.a c.in-Add.b c.get.result.now c.get-in-Add.result.now
    c.args.marks.now c.mark_term.new.marks c.mark_term-in-Add.new.marks c.in-Add.is
    c.get.ensures c.get-in-Add.ensures c.mark_term.ensures c.mark_term-in-Add.ensures

pub mark_term-returns-in-Sub : goal.mark_term-returns-in-Sub
mark_term-returns-in-Sub t c =
    sub-marks c.args.param c.args.t.now c.in-Sub.a c.in-Sub.b c.get-in-Sub.result.now c.get-in-Sub-2.result.now
    c.args.marks.now c.mark_term-in-Sub.new.marks c.mark_term-in-Sub-2.new.marks c.in-Sub.is
    c.get-in-Sub.ensures c.get-in-Sub-2.ensures c.mark_term-in-Sub.ensures c.mark_term-in-Sub-2.ensures

pub mark_term-returns-in-Ite : goal.mark_term-returns-in-Ite
mark_term-returns-in-Ite t c =
    ite-marks c.args.param c.args.t.now c.in-Ite.a c.in-Ite.b c.get-in-Ite-2.result.now c.get-in-Ite-3.result.now
    c.in-Ite.c c.get-in-Ite.result.now c.args.marks.now c.mark_form.new.marks c.mark_term-in-Ite.new.marks
    c.mark_term-in-Ite-2.new.marks c.in-Ite.is c.get-in-Ite.ensures c.get-in-Ite-2.ensures
    c.get-in-Ite-3.ensures c.mark_form.ensures c.mark_term-in-Ite.ensures c.mark_term-in-Ite-2.ensures
