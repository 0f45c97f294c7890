use Rattle.std.proofs.Common.{◌≡◌, ℤ, pos, ◌+ℤ◌, ◌-ℤ◌, List, [], ◌∷◌, ◌++◌, ◌<◌, subst, ap, ◌∙◌}
use Rattle.std.specs.List.{flat_map}
use Rattle.expand_counting.specs.Nests.{natural, between, instances}
use Rattle.expand_counting.proofs.ListLaws.{list_next}
use Rattle.expand_counting.proofs.walk.+list.Goals as goal

pub push_each-loop-i-preserved : goal.push_each-loop-i-preserved
push_each-loop-i-preserved t c =
    let vs = c.args.values.now in
    let f : ℤ → List (List ℤ) = λ z. instances c.args.inner.now (vs ++ z ∷ []) in
    let low = c.args.interval.now.low in
    let high = c.args.interval.now.high in
    let n = natural (high +ℤ pos 1 -ℤ low) in
    let b : c.loop-i.i < n = subst (λ m. c.loop-i.i < m) c.how_many-i-end.ensures c.loop-i-test.true in (
      c.in_ok-push_at.ensures.values ∙ c.loop-i.invariant.0,
      list_next f low c.loop-i.i n c.loop-i.list c.push_at.new.list
          (c.args.list.now ++ flat_map f (between low high)) b
          c.loop-i.invariant.1
          (c.in_ok-push_at.ensures.list ∙ ap (λ (us : List ℤ). c.loop-i.list ++ instances c.args.inner.now
          (us ++ (low +ℤ pos c.loop-i.i) ∷ [])) c.loop-i.invariant.0),
    )
