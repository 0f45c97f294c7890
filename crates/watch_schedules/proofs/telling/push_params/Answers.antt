use Rattle.std.proofs.Common.{◌≡◌, ℕ, suc, ◌+◌, List, [], ◌∷◌, ◌++◌, drop, slice_get, sym, ap, ◌∙◌, append_assoc, arith}
use Rattle.std.proofs.Common.{refl}
use Rattle.watch_schedules.specs.Telling.{line_of, param_lines}
use Rattle.watch_schedules.proofs.ParamLaws.{lines_at, lines_end}
use Rattle.watch_schedules.proofs.telling.push_params.Goals as goal

next : (k : ℕ) → k + 1 ≡ suc k
next k = omega arith

no_more : (xs : List ℕ) → xs ≡ xs ++ []
no_more [] = refl
no_more (x ∷ xs) = ap (λ ys. x ∷ ys) (no_more xs)

pub loop-place-preserved : goal.loop-place-preserved
loop-place-preserved c =
    let words : List (List ℕ) = c.args.words.now in
    let names : List ℕ = c.args.names.now in
    let zs = c.args.values.now in
    let k : ℕ = c.loop-place.place in
    let line : List ℕ = line_of words (slice_get names k) (slice_get zs k) in
    let rest : List ℕ = param_lines words (drop (suc k) names) (drop (suc k) zs) in
    ap (λ (n : ℕ). c.push_at.new.text.items ++ param_lines words (drop n names) (drop n zs)) (next k)
    ∙ ap (λ (t : List ℕ). t ++ rest) c.in_ok-push_at.ensures
    ∙ append_assoc c.loop-place.text.items line rest
    ∙ ap (λ (t : List ℕ). c.loop-place.text.items ++ t) (sym (lines_at words k names zs))
    ∙ c.loop-place.invariant

pub returns : goal.returns
returns c =
    no_more c.loop-place.text.items
    ∙ ap (λ (t : List ℕ). c.loop-place.text.items ++ t)
    (sym (lines_end c.args.words.now c.loop-place.place c.args.names.now c.args.values.now
    c.loop-place-test.false))
    ∙ c.loop-place.invariant
