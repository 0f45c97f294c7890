use Rattle.std.proofs.Common.{refl, sym, ◌∙◌}
use Rattle.event_checker.proofs.StepLaws.{going-on, finishes, idle-passes, pairs-go}
use Rattle.event_checker.proofs.BeginLaws.{on-ok, counted, over-passes, stop-passes}
use Rattle.event_checker.proofs.reading.step_over.Goals as goal

pub returns-then-not-has_pairs : goal.returns-then-not-has_pairs
returns-then-not-has_pairs c = λ root ns e h s.
    idle-passes c.args.vs.now root c.args.reading.now ns e (sym c.has_pairs.ensures ∙ c.if-not-has_pairs.true) s

pub finish_open-finished-requires : goal.finish_open-finished-requires
finish_open-finished-requires c =
    let ready = c.requires.ready in
    let on = pairs-go c.args.reading.now.state (sym c.has_pairs.ensures ∙ c.if-not-has_pairs.false) in
    let g = going-on c.args.vs.now ready.0 c.args.reading.now ready.1 on ready.2 in record {
      own = c.requires.own;
      scoped = g.at.scoped;
      fits = g.at.fit;
      going = g.at.going;
      light = g.at.light;
      finishes = finishes c.args.vs.now ready.0 c.args.reading.now ready.1 g;
    }

pub returns-in-Ok : goal.returns-in-Ok
returns-in-Ok c =
    let on = pairs-go c.args.reading.now.state (sym c.has_pairs.ensures ∙ c.if-not-has_pairs.false) in
    on-ok c.count.result (λ k root ns e h s.
    over-passes c.args.vs.now root c.args.reading.now ns e _ c.count.new.reading h c.in-Ok.ensures.ok
    c.in-Ok.ensures.light c.in-Ok.ensures.scoped k s on)
    (counted c.count.result _ c.count.new.reading c.count.ensures.machine c.count.ensures.node c.count.ensures.state)

pub returns-in-Err : goal.returns-in-Err
returns-in-Err c =
    let on = pairs-go c.args.reading.now.state (sym c.has_pairs.ensures ∙ c.if-not-has_pairs.false) in
    on-ok c.stopped.result (λ q root ns e h s.
    stop-passes c.args.vs.now root c.args.reading.now ns e _ c.stopped.new.reading c.in-Err.stop h c.in-Err.ensures.err
    refl q s on) c.stopped.ensures
