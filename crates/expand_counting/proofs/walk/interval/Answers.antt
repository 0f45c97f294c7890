use Rattle.std.proofs.Common.{subst, sym, ap, ◌∙◌}
use Rattle.expand_counting.specs.Nests.{end_number}
use Rattle.expand_counting.specs.Conditions.{Spans, interval_of}
use Rattle.expand_counting.proofs.NarrowLaws.{spans_interval}
use Rattle.expand_counting.proofs.walk.interval.Goals as goal

pub returns : goal.returns
returns c =
    let vs = c.args.values.now in
    let r = c.args.range.now in
    subst (λ i. Spans vs r i) (sym (c.interval_of.ensures ∙ ap (λ x. interval_of x c.ends.result.high)
    c.ends.ensures.low ∙ ap (λ x. interval_of (end_number vs r.low) x) c.ends.ensures.high)) (spans_interval vs r)
