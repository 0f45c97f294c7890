use Rattle.std.proofs.Common.{arith, subst}
use Rattle.wp_substitution.specs.Memos.{IsFormPart, IsTermPart, IsPart}
use Rattle.wp_substitution.proofs.MemoLaws.{remembers_grown, form_known_stays, term_known_stays}
use Rattle.wp_substitution.proofs.settling.settle.Goals as goal

pub form_turn-requires-clause-part : goal.form_turn-requires-clause-part
form_turn-requires-clause-part c =
    subst (IsPart c.args.pool.now c.args.memo.now.mark) c.in-Form.is c.requires.part

pub put_form_turn-requires-clause-place : goal.put_form_turn-requires-clause-place
put_form_turn-requires-clause-place c =
    let part : IsFormPart c.args.pool.now c.args.memo.now.mark c.in-Form.id.place =
    subst (IsPart c.args.pool.now c.args.memo.now.mark) c.in-Form.is c.requires.part in
    omega (arith, part.place, c.requires.known.fits.forms)

pub set_form-requires-clause-known : goal.set_form-requires-clause-known
set_form-requires-clause-known c =
    remembers_grown c.args.chains.now c.args.pool.now c.put_form_turn.new.pool c.args.memo.now c.requires.known
    c.put_form_turn.ensures.kept c.put_form_turn.ensures.marks

pub set_form-requires-clause-place : goal.set_form-requires-clause-place
set_form-requires-clause-place c =
    let part : IsFormPart c.args.pool.now c.args.memo.now.mark c.in-Form.id.place =
    subst (IsPart c.args.pool.now c.args.memo.now.mark) c.in-Form.is c.requires.part in
    part.place

pub set_form-requires-clause-form : goal.set_form-requires-clause-form
set_form-requires-clause-form c =
    let part : IsFormPart c.args.pool.now c.args.memo.now.mark c.in-Form.id.place =
    subst (IsPart c.args.pool.now c.args.memo.now.mark) c.in-Form.is c.requires.part in
    form_known_stays c.args.chains.now c.args.pool.now c.put_form_turn.new.pool c.in-Form.id.place
    c.in_ok-form-in-Ok.form
    c.put_form_turn.ensures.kept (omega (arith, part.place, c.requires.known.fits.forms))
    c.in_ok-form-in-Ok.ensures.known

pub returns-in_err-form-in-Ok-clause-known : goal.returns-in_err-form-in-Ok-clause-known
returns-in_err-form-in-Ok-clause-known c =
    remembers_grown c.args.chains.now c.args.pool.now c.put_form_turn.new.pool c.args.memo.now c.requires.known
    c.put_form_turn.ensures.kept c.put_form_turn.ensures.marks

pub term_turn-requires-clause-part : goal.term_turn-requires-clause-part
term_turn-requires-clause-part c =
    subst (IsPart c.args.pool.now c.args.memo.now.mark) c.in-Term.is c.requires.part

pub put_term_turn-requires-clause-place : goal.put_term_turn-requires-clause-place
put_term_turn-requires-clause-place c =
    let part : IsTermPart c.args.pool.now c.args.memo.now.mark c.in-Term.id.place =
    subst (IsPart c.args.pool.now c.args.memo.now.mark) c.in-Term.is c.requires.part in
    omega (arith, part.place, c.requires.known.fits.terms)

pub set_term-requires-clause-known : goal.set_term-requires-clause-known
set_term-requires-clause-known c =
    remembers_grown c.args.chains.now c.args.pool.now c.put_term_turn.new.pool c.args.memo.now c.requires.known
    c.put_term_turn.ensures.kept c.put_term_turn.ensures.marks

pub set_term-requires-clause-place : goal.set_term-requires-clause-place
set_term-requires-clause-place c =
    let part : IsTermPart c.args.pool.now c.args.memo.now.mark c.in-Term.id.place =
    subst (IsPart c.args.pool.now c.args.memo.now.mark) c.in-Term.is c.requires.part in
    part.place

pub set_term-requires-clause-term : goal.set_term-requires-clause-term
set_term-requires-clause-term c =
    let part : IsTermPart c.args.pool.now c.args.memo.now.mark c.in-Term.id.place =
    subst (IsPart c.args.pool.now c.args.memo.now.mark) c.in-Term.is c.requires.part in
    term_known_stays c.args.chains.now c.args.pool.now c.put_term_turn.new.pool c.in-Term.id.place
    c.in_ok-term-in-Ok-term_turn.term
    c.put_term_turn.ensures.kept (omega (arith, part.place, c.requires.known.fits.terms))
    c.in_ok-term-in-Ok-term_turn.ensures.known

pub returns-in_err-term-in-Ok-term_turn-clause-known : goal.returns-in_err-term-in-Ok-term_turn-clause-known
returns-in_err-term-in-Ok-term_turn-clause-known c =
    remembers_grown c.args.chains.now c.args.pool.now c.put_term_turn.new.pool c.args.memo.now c.requires.known
    c.put_term_turn.ensures.kept c.put_term_turn.ensures.marks
