use Rattle.std.proofs.Common.{sym, subst, arith}
use Rattle.core_terms.proofs.PoolLaws.{grows_self, grows_twice}
use Rattle.wp_substitution.specs.Memos.{IsFormPart, IsPart}
use Rattle.wp_substitution.proofs.MemoLaws.{form_part_stays, form_known_was, none_taken}
use Rattle.wp_substitution.proofs.settling.form_settled.Goals as goal

pub loop-init : goal.loop-init
loop-init c = record {
  known = c.requires.known;
  part = c.requires.part;
  todo = none_taken (IsPart c.args.pool.now c.args.memo.now.mark) c.new-todo.result c.new-todo.ensures;
  kept = grows_self c.args.pool.now;
  marks = λ m fits. fits;
}

pub loop-preserved : goal.loop-preserved
loop-preserved c = record {
  known = c.go_on.ensures.known;
  part = subst (λ m. IsFormPart c.go_on.new.pool m c.args.id.place) (sym c.go_on.ensures.mark)
      (form_part_stays c.loop.pool c.go_on.new.pool c.loop.memo.mark c.args.id.place c.loop.invariant.known.fits
      c.go_on.ensures.kept c.loop.invariant.part);
  todo = c.in_ok-go_on-in-Err.ensures.todo;
  kept = grows_twice c.args.pool.now c.loop.pool c.go_on.new.pool c.loop.invariant.kept c.go_on.ensures.kept;
  marks = λ m fits. c.go_on.ensures.marks m (c.loop.invariant.marks m fits);
}

pub returns-in-Ok-clause-known : goal.returns-in-Ok-clause-known
returns-in-Ok-clause-known c =
    form_known_was c.args.chains.now c.args.pool.now c.loop.pool c.args.id.place c.in-Ok.known c.loop.invariant.kept
    (omega (arith, c.requires.part.place, c.requires.known.fits.forms)) c.in-Ok.ensures.known

pub returns-in_err-go_on-in-Err-clause-kept : goal.returns-in_err-go_on-in-Err-clause-kept
returns-in_err-go_on-in-Err-clause-kept c =
    grows_twice c.args.pool.now c.loop.pool c.go_on.new.pool c.loop.invariant.kept c.go_on.ensures.kept

pub returns-in_err-go_on-in-Err-clause-marks : goal.returns-in_err-go_on-in-Err-clause-marks
returns-in_err-go_on-in-Err-clause-marks c = λ m fits. c.go_on.ensures.marks m (c.loop.invariant.marks m fits)
