use Rattle.std.proofs.Common.{refl, ◌∙◌}
use Rattle.unity_lexer.proofs.Taking.{kept_none, kept_read, kept_turn, stretch_fits}
use Rattle.unity_lexer.proofs.stretches.keep_run.Goals as goal

pub stretches-init : goal.stretches-init
stretches-init g c = record {
  so_far = kept_none c.args.run c.args.w.now (g.S.Source.left c.args.src.now) c.args.kept.now.items;
  same = refl;
}

pub returns-then-size-eq0-clause-kept : goal.returns-then-size-eq0-clause-kept
returns-then-size-eq0-clause-kept g c =
    kept_read c.args.run c.args.w.now c.stretches.w c.run_ahead.new.w (g.S.Source.left c.args.src.now)
    (g.S.Source.left c.stretches.src) (g.S.Source.left c.run_ahead.new.src) c.args.kept.now.items
    c.stretches.kept.items c.stretches.invariant.so_far c.run_ahead.ensures.read

pub keep-requires : goal.keep-requires
keep-requires g c = stretch_fits c.args.run c.run_ahead.new.w c.in_ok-size.size c.in_ok-size.ensures.size

pub stretches-preserved : goal.stretches-preserved
stretches-preserved g c = record {
  so_far = kept_turn c.args.run c.args.w.now c.stretches.w c.run_ahead.new.w c.keep.new.w
      (g.S.Source.left c.args.src.now) (g.S.Source.left c.stretches.src) (g.S.Source.left c.run_ahead.new.src)
      c.in_ok-size.size c.args.kept.now.items c.stretches.kept.items c.keep.new.kept.items
      c.stretches.invariant.so_far c.run_ahead.ensures.read c.in_ok-size.ensures.size c.in_ok-keep.ensures.dropped
      c.in_ok-keep.ensures.kept;
  same = c.in_ok-size.ensures.cause.same refl ∙ c.stretches.invariant.same;
}
