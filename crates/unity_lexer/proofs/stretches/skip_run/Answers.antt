use Rattle.std.proofs.Common.{refl, ◌∙◌, arith}
use Rattle.unity_lexer.proofs.Taking.{run_turn, stretch_fits, shown_fits, shown_inside}
use Rattle.unity_lexer.proofs.stretches.skip_run.Goals as goal

pub skip-requires-clause-holds : goal.skip-requires-clause-holds
skip-requires-clause-holds g c =
    let fits = stretch_fits c.args.run c.run_ahead.new.w c.in_ok-size.size c.in_ok-size.ensures.size in
    let shown = shown_fits c.run_ahead.new.w in
    omega arith

pub skip-requires-clause-in_limit : goal.skip-requires-clause-in_limit
skip-requires-clause-in_limit g c =
    let fits = stretch_fits c.args.run c.run_ahead.new.w c.in_ok-size.size c.in_ok-size.ensures.size in
    let shown = shown_inside c.run_ahead.new.w in
    omega arith

pub stretches-preserved : goal.stretches-preserved
stretches-preserved g c = record {
  so_far = run_turn c.args.run c.args.w.now c.stretches.w c.run_ahead.new.w c.skip.new.self
      (g.S.Source.left c.args.src.now) (g.S.Source.left c.stretches.src) (g.S.Source.left c.run_ahead.new.src)
      c.in_ok-size.size c.stretches.invariant.so_far c.run_ahead.ensures.read c.in_ok-size.ensures.size
      c.skip.ensures.dropped;
  same = c.in_ok-size.ensures.cause.same refl ∙ c.stretches.invariant.same;
}
