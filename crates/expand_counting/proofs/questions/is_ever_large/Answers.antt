use Rattle.std.proofs.Common.{List, ℤ, [], ◌∷◌, ap, ◌∙◌}
use Rattle.std.specs.List.{list_any}
use Rattle.expand_counting.specs.Nests.{instances}
use Rattle.expand_counting.specs.Conditions.{all_hold}
use Rattle.expand_counting.proofs.QuestionLaws.{large_first, large_second}
use Rattle.expand_counting.proofs.questions.is_ever_large.Goals as goal

pub returns-then-branch : goal.returns-then-branch
returns-then-branch c =
    let xs : List (List ℤ) = instances c.args.outer.now [] in
    large_first c.args.end.now xs c.in_ok-is_ever.field-0
    (c.in_ok-is_ever.ensures ∙ ap (λ x. list_any (λ vs. all_hold vs (x ∷ [])) xs) c.above_limit.ensures)
    c.if-branch.true

pub returns-in_ok-is_ever-2 : goal.returns-in_ok-is_ever-2
returns-in_ok-is_ever-2 c =
    let xs : List (List ℤ) = instances c.args.outer.now [] in
    large_second c.args.end.now xs c.in_ok-is_ever.field-0 c.in_ok-is_ever-2.field-0
    (c.in_ok-is_ever.ensures ∙ ap (λ x. list_any (λ vs. all_hold vs (x ∷ [])) xs) c.above_limit.ensures)
    c.if-branch.false
    (c.in_ok-is_ever-2.ensures ∙ ap (λ x. list_any (λ vs. all_hold vs (x ∷ [])) xs) c.below_limit.ensures)
