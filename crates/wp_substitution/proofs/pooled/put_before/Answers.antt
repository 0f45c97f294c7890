use Rattle.std.proofs.lemmas.Option.{slice_get_within}
use Rattle.core_terms.proofs.PoolLaws.{grows_twice}
use Rattle.core_terms.specs.Pools.{form_or}
use Rattle.wp_substitution.specs.Preconditions.{form_after}
use Rattle.wp_substitution.proofs.MemoLaws.{known_kept}
use Rattle.wp_substitution.proofs.pooled.put_before.Goals as goal

pub returns-in_err-id-clause-kept : goal.returns-in_err-id-clause-kept
returns-in_err-id-clause-kept c =
    grows_twice c.args.pool.now c.put_after.new.pool c.put_form.new.self c.put_after.ensures.kept
    c.put_form.ensures.kept

pub returns-in_err-id-clause-marks : goal.returns-in_err-id-clause-marks
returns-in_err-id-clause-marks c = λ m fits. c.put_form.ensures.marks m (c.put_after.ensures.marks m fits)

pub put_both-requires-clause-first : goal.put_both-requires-clause-first
put_both-requires-clause-first c =
    slice_get_within c.put_form.new.self.forms c.in_ok-id.id.place c.args.defined.now c.in_ok-id.ensures.tree

pub put_both-requires-clause-second : goal.put_both-requires-clause-second
put_both-requires-clause-second c =
    let f = form_after c.args.writes.now (form_or c.args.pool.now.forms c.args.q.place) in
    let i = c.in_ok-after.after.id.place in
    slice_get_within c.put_form.new.self.forms i f (c.put_form.ensures.kept.forms i f c.in_ok-after.ensures.known.tree)

pub returns-clause-tree : goal.returns-clause-tree
returns-clause-tree c =
    let f = form_after c.args.writes.now (form_or c.args.pool.now.forms c.args.q.place) in
    c.put_both.ensures.tree c.args.defined.now f (record { tree = c.in_ok-id.ensures.tree; truth = c.requires.truth })
    (known_kept c.put_after.new.pool c.put_form.new.self f c.in_ok-after.after c.put_form.ensures.kept
    c.in_ok-after.ensures.known)

pub returns-clause-kept : goal.returns-clause-kept
returns-clause-kept c =
    grows_twice c.args.pool.now c.put_after.new.pool c.put_both.new.pool c.put_after.ensures.kept
    (grows_twice c.put_after.new.pool c.put_form.new.self c.put_both.new.pool c.put_form.ensures.kept
    c.put_both.ensures.kept)

pub returns-clause-marks : goal.returns-clause-marks
returns-clause-marks c =
    λ m fits. c.put_both.ensures.marks m (c.put_form.ensures.marks m (c.put_after.ensures.marks m fits))
